-- The event erase keeps the invariant, and so does the body of its completion. The setup is the log's own.
use Prim.Native.Nat.{ℕ, ◌+◌, ◌*◌, ◌-◌, ◌≤◌, ◌<◌}
use mathlib.Core.Path.{◌≡◌, refl, sym, ap, ◌∙◌, subst}
use mathlib.Core.Bool.{Bool, true, false}
use mathlib.Core.List.{List}
use mathlib.Core.Logic.{inl, inr}
use mathlib.Core.Option.{Option, none, some}
use native.Mathlib.Omega.{arith}
use native.Mathlib.Nat.{add-mod_right}
use native.Mathlib.Decide.{ℕ_discrete}
use borrow.Author.Tests.{leb-true, leb-false, not-false}
use Rattle.page.specs.Id.{slot_of, page_of}
use Rattle.page.proofs.Kit.{Facts, facts, pages_lt}
use Rattle.engine_state.specs.Answer.{erase_page}
use Rattle.engine_state.specs.Log.{Setup, State, Idle, Erase, Log}
use Rattle.engine_state.specs.Check.{state_fits}
use Rattle.engine_call.specs.Outcome.{Done, Lent, Word, ok, busy, fail, state_after, moved}
use Rattle.engine_call.specs.Call as calls
use Rattle.engine_call.specs.Call.{erase_ended}
use Rattle.engine_call.specs.Gate.{unless_free}
use Rattle.engine_call.proofs.Checks.{through, same_state}
use Rattle.engine_erase.specs.Erase.{last_erased, reset, read_after, erases_next, erase_failed, erase_runs}
use Rattle.engine_laws.proofs.Calls.{by_pick, by_call}
use Rattle.engine_laws.proofs.CallKeeps.{call_keeps}
use Rattle.bench_flash.specs.Flash.{Operation, no_operation, erasing, under_way, Left, new, after_end}
use Rattle.bench_flash.specs.Event.{call}
use Rattle.bench.specs.World.{World, lent_by, unended, delivered, step_on}
use Rattle.bench.specs.Book.{Page, Book, in_book, with_slot, asked, recorded}
use Rattle.bench.proofs.Invariant.{SomeEntry, Has, Live, Books, Oldest, Under, UnderIn, idle, erase, Running, Inv, After}
use Rattle.bench.proofs.BookSteps.{Elsewhere, has_left, books_same, books_none, books_ended, buffered_zero}
use Rattle.bench.proofs.Appends.{oldest_of_lem, some_length}
use Rattle.bench.proofs.Quiet.{no_start, under_nothing, idle_rests, refused_inv}
use Rattle.bench.proofs.WrittenKeeps.{Ends, lent_then, left_inv}

-- an erase of the page o that is asked for is under way, or the driver refused it, and the log is Idle
asked_under : {g : Setup} {page hold : List ℕ} {kept : ℕ} (b : Book) (t o : ℕ) → t ≡ slot_of g.n o → {op : Operation} → op ≡ no_operation → (word : Word)
    → Under g page hold kept (asked b (some (g.first + t - g.first))) o (state_after word Erase) (under_way op (erase_page (g.first + t)) word g.first)
asked_under {g} {page} {hold} {kept} b t o e n ok =
    let s : g.first + t - g.first ≡ slot_of g.n o = omega arith ∙ e in
    subst (λ (q : ℕ). Under g page hold kept (asked b (some (g.first + t - g.first))) o Erase (erasing q)) (sym s) (erase s)
asked_under b t o e n busy = subst (Under _ _ _ _ _ o Idle) (sym n) idle
asked_under b t o e n fail = subst (Under _ _ _ _ _ o Idle) (sym n) idle

module _ {x : World} {b : Book} (bk : Books x.log.setup x.volume b) (r : Running x.log.setup x b) where
  abbrev g : Setup
  g = x.log.setup

  abbrev p : ℕ
  p = g.p

  abbrev n : ℕ
  n = g.n

  abbrev k : ℕ
  k = b.open_page.number

  abbrev o : ℕ
  o = r.oldest.page

  f : Facts g.w p n
  f = facts bk.sizes

  -- the event erase keeps the invariant
  pub erase_step : (word : Word) → After g b (call (calls.erase word)) (step_on g x (call (calls.erase word)))
  unfolding recorded
  erase_step word =
      by_call (λ (d : Done). state_fits d.outcome.log ≡ true → After g b (call (calls.erase word)) (delivered g.first x unended d word))
      x.log (lent_by x) (λ a fits. refused_inv bk r word a) (calls.erase word)
      (λ h pass fits. let t = through (unless_free x.log) pass in
      let free = under_nothing (idle_rests (same_state x.log.state Idle (not-false _ t.0))) r.under in
      record {
        books = books_same bk b.waiting _;
        powered = record {
          setup = refl;
          hold_length = r.hold_length;
          fits = fits;
          buffer = r.buffer;
          oldest = r.oldest;
          under = asked_under b (slot_of n (page_of p x.log.oldest)) o (ap (slot_of n) (oldest_of_lem bk.sizes r.oldest)) free word;
        };
      })
      (call_keeps x.log (lent_by x) (calls.erase word) r.fits)

  -- an erase is under way: the oldest page's
  module _ (e : b.erase_slot ≡ slot_of n o) (left : Left) where
    abbrev op : Operation
    op = erasing (slot_of n o)

    under : UnderIn g x b o Erase op
    under = erase e

    -- its completion keeps the invariant, by what the call gives
    abbrev Keeps : Bool → Word → Done → Type 0
    Keeps good word d = Ends x b op (erase_ended good word) left d

    -- what the call is lent
    abbrev lent : Bool → Word → Lent
    lent good word = lent_then x op (erase_ended good word) left

    -- a failed erase
    failed_erase : (word : Word) → Keeps false word (erase_failed x.log (lent false word))
    unfolding recorded
    failed_erase word clear fits =
        let live : (m : ℕ) → Has g (in_book b.slots b.erase_slot none) m → Live g b.open_page o m =
        λ m h. r.oldest.live m (has_left g b.slots b.erase_slot m h).0 in
        rw (no_start no_operation word g.first) (left_inv bk r x.log.kept fits b.erase_slot none live left (books_ended bk under left))

    -- the slots without the page
    abbrev slots : ℕ → Option Page
    slots = in_book b.slots b.erase_slot none

    -- the volume without it
    abbrev volume : List ℕ
    volume = after_end p op x.page new x.volume

    erased_books : Books g volume (with_slot b b.erase_slot none)
    erased_books = books_ended bk under new

    -- a page that is left, in another slot than the oldest
    page_left : (m : ℕ) → Has g slots m → Elsewhere g b.slots (slot_of n o) m
    page_left m h = subst (λ (s : ℕ). Elsewhere g b.slots s m) e (has_left g b.slots b.erase_slot m h)

    -- where the last page was erased, no page is left
    none_left : x.log.append ≤ x.log.oldest + p → (m : ℕ) → Has g slots m → ⊥
    none_left last m h = go (page_left m h) (r.oldest.live m (page_left m h).0) (ℕ_discrete m o)
      where
        near : k < o + 2
        near = pages_lt k (o + 2) p {x = k * p} (omega arith) (omega (arith, last, r.oldest.first, r.buffer.appends, f.page))

        short : SomeEntry b.open_page → k < o + 1
        short s =
            pages_lt k (o + 1) p {x = k * p} (omega arith)
            (omega (arith, last, r.oldest.first, r.buffer.appends, some_length g.w b.open_page.entries (omega (arith, f.word)) s))

        go : Elsewhere g b.slots (slot_of n o) m → Live g b.open_page o m → Dec (m ≡ o) → ⊥
        go (i, d) l (yes q) = d (ap (slot_of n) q)
        go (i, d) (inl l) (no c) =
            let q : m ≡ k = omega (arith, l, c, near, (bk.near m i).0) in
            let s : k < o + 1 = short (bk.open_some (subst (Has g b.slots) q i)) in
            omega (arith, l, c, q, s)
        go (i, d) (inr l) (no c) =
            let s : k < o + 1 = short l.1 in
            let q : k ≡ o = omega (arith, s, r.oldest.near.0) in
            d (sym (add-mod_right m n) ∙ ap (slot_of n) (l.0 ∙ q))

    -- the last page is erased: the log is as after a restart on no header
    reset_ends : x.log.append ≤ x.log.oldest + p → (word : Word) → Keeps true word (reset x.log (lent true word))
    unfolding recorded
    reset_ends last word clear fits =
        rw (no_start no_operation word g.first) (record {
          books = books_none g (with_slot b b.erase_slot none) bk.sizes bk.first erased_books.whole erased_books.slots (none_left last);
          powered = record {
            setup = refl;
            hold_length = r.hold_length;
            fits = fits;
            buffer = buffered_zero g bk.sizes;
            oldest = record { page = 0; first = omega arith; near = (omega arith, omega arith); live = λ m h. absurd (none_left last m h) };
            under = idle;
          };
        })

    -- O's page is the next one
    next_oldest : x.log.oldest + p < x.log.append → Oldest g (x.log.oldest + p) slots b.open_page
    next_oldest more =
        let q : o + 1 < k + 1 =
        pages_lt (o + 1) (k + 1) p {x = x.log.oldest + p} (omega (arith, r.oldest.first)) (omega (arith, more, r.buffer.appends, bk.open_fits)) in
        record {
          page = o + 1;
          first = omega (arith, r.oldest.first);
          near = (omega (arith, q), omega (arith, r.oldest.near.1));
          live = λ m h. go m (page_left m h) (r.oldest.live m (page_left m h).0) (ℕ_discrete m o);
        }
      where
        go : (m : ℕ) → Elsewhere g b.slots (slot_of n o) m → Live g b.open_page o m → Dec (m ≡ o) → Live g b.open_page (o + 1) m
        go m (i, d) l (yes c) = absurd (d (ap (slot_of n) c))
        go m (i, d) (inl l) (no c) = inl (omega (arith, l, c))
        go m (i, d) (inr l) (no c) = inr l

    -- the erase goes on to the next page
    module _ (more : x.log.oldest + p < x.log.append) where
      abbrev next_log : State → ℕ → Log
      next_log state at = moved x.log state (x.log.oldest + p) at x.log.append x.log.kept

      -- the book with the erase of a slot asked for
      abbrev next_book : ℕ → Book
      next_book s = asked (with_slot b b.erase_slot none) (some s)

      next_inv : (state : State) (at s : ℕ) (next : Operation) → state_fits (next_log state at) ≡ true
          → UnderIn g x (next_book s) (next_oldest more).page state next
          → Inv g (record { power = true; log = next_log state at; page = x.page; hold = x.hold; volume = volume; operation = next }) (next_book s)
      next_inv state at s next fits u = record {
        books = books_same erased_books b.waiting s;
        powered = record { setup = refl; hold_length = r.hold_length; fits = fits; buffer = r.buffer; oldest = next_oldest more; under = u };
      }

      -- its slot
      next_slot : slot_of n (page_of p (x.log.oldest + p)) ≡ slot_of n (next_oldest more).page
      next_slot = ap (slot_of n) (oldest_of_lem bk.sizes (next_oldest more))

      -- whatever the driver's word
      next_ends : (word : Word) → Keeps true word (erases_next x.log (lent true word) word)
      unfolding recorded
      next_ends ok clear fits = next_inv Erase x.log.read _ _ fits (asked_under (with_slot b b.erase_slot none) _ _ next_slot refl ok)
      next_ends busy clear fits = next_inv Idle (read_after busy x.log.read x.log.oldest) _ _ fits idle
      next_ends fail clear fits = next_inv Idle (read_after fail x.log.read x.log.oldest) _ _ fits idle

    -- an erase that ends
    pub erase_ends : (good : Bool) (word : Word) → Keeps good word (erase_runs x.log (lent good word) good word)
    unfolding erase_runs
    erase_ends true word =
        by_pick (Keeps true word) (last_erased x.log) (λ t. reset_ends (leb-true _ _ t) word) (λ t. next_ends (leb-false _ _ t) word)
    erase_ends false word = failed_erase word
