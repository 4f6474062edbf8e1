-- A flush: where it leaves O, and what it keeps with the power on. The setup is the log's own.
use Prim.Native.Nat.{ℕ, ◌+◌, ◌*◌, ◌-◌, ◌/◌, ◌≤◌, ◌<◌}
use mathlib.Core.Path.{◌≡◌, refl, sym, ap, ◌∙◌, subst}
use mathlib.Core.Bool.{true}
use mathlib.Core.List.{List}
use mathlib.Core.Logic.{inl, inr}
use mathlib.Core.Option.{Option}
use native.Mathlib.Omega.{arith}
use native.Mathlib.Decide.{ℕ_discrete, dec_lt}
use lib.ListN.{length}
use borrow.Author.Tests.{eq-eqb, ne_eqb}
use Rattle.page.specs.Id.{slot_of}
use Rattle.page.specs.Overwritten.{overwritten}
use Rattle.page.proofs.Kit.{Facts, facts, overwritten_lap, overwritten_none}
use Rattle.engine_state.specs.Log.{Setup, State, Idle}
use Rattle.engine_state.specs.Check.{state_fits}
use Rattle.engine_state.proofs.Checks.{state_fits_lem}
use Rattle.engine_call.specs.Outcome.{Done, lend, Word, ok, state_after}
use Rattle.engine_write.specs.Flush.{last_page, overwritten_page, moved_oldest, flush}
use Rattle.bench_flash.specs.Flash.{writing, under_way}
use Rattle.bench.specs.World.{World, unended, delivered}
use Rattle.bench.specs.Book.{Page, Book}
use Rattle.bench.proofs.Invariant.{SomeEntry, Live, Books, Oldest, Writes, Under, Running, Inv}
use Rattle.bench.proofs.BookSteps.{allowed_first, buffered_whole, books_same}
use Rattle.bench.proofs.Appends.{oldest_of_lem, last_open, flushed_whole}
use Rattle.bench.proofs.Quiet.{under_nothing, under_rests, idle_rests}

-- the page of O, with room for the open page k
pub record Room (g : Setup) (oldest : ℕ) (slots : ℕ → Option Page) (k : Page) : Type 0 where
  pub kept : Oldest g oldest slots k
  pub room : k.number < kept.page + g.n

module _ {x : World} {b : Book} (bk : Books x.log.setup x.volume b) (r : Running x.log.setup x b) where
  abbrev g : Setup
  g = x.log.setup

  abbrev p : ℕ
  p = g.p

  abbrev n : ℕ
  n = g.n

  abbrev k : ℕ
  k = b.open_page.number

  abbrev o : ℕ
  o = r.oldest.page

  -- the page that the flush overwrites, and O after it
  abbrev overwrites : ℕ
  overwrites = overwritten_page x.log

  abbrev oldest : ℕ
  oldest = moved_oldest p overwrites x.log.oldest

  f : Facts g.w p n
  f = facts bk.sizes

  -- it is the one that the open page overwrites
  overwrites_is : overwrites ≡ overwritten g.w p (n * p) k
  unfolding overwritten_page
  overwrites_is = ap (overwritten g.w p (n * p)) (last_open bk r.buffer)

  -- O's page is o
  here : x.log.oldest / p ≡ o
  here = oldest_of_lem bk.sizes r.oldest

  -- O stays where its page is another
  stays : (o ≡ overwrites → ⊥) → k < o + n → Room g oldest b.slots b.open_page
  unfolding moved_oldest
  stays d room =
      let same : oldest ≡ x.log.oldest = rw (ne_eqb (x.log.oldest / p) overwrites (λ (e : x.log.oldest / p ≡ overwrites). d (sym here ∙ e))) in
      record { kept = record { page = o; first = same ∙ r.oldest.first; near = r.oldest.near; live = r.oldest.live }; room = room }

  -- O moves by a page where its page is overwritten
  moves : SomeEntry b.open_page → o + n ≡ k → o ≡ overwrites → Room g oldest b.slots b.open_page
  unfolding moved_oldest
  moves some_entry lap e =
      let next : oldest ≡ x.log.oldest + p = rw (eq-eqb (x.log.oldest / p) overwrites (here ∙ e)) in
      record {
        kept = record {
          page = o + 1;
          first = next ∙ omega (arith, r.oldest.first);
          near = (omega (arith, f.count), omega arith);
          live = λ m h. alive m (r.oldest.live m h) (ℕ_discrete m o);
        };
        room = omega arith;
      }
    where
      alive : (m : ℕ) → Live g b.open_page o m → Dec (m ≡ o) → Live g b.open_page (o + 1) m
      alive m (inr h) d = inr h
      alive m (inl h) (yes z) = inr (omega (arith, lap), some_entry)
      alive m (inl h) (no z) = inl (omega (arith, h, z))

  -- O after the flush
  pub flushed_oldest : SomeEntry b.open_page → Room g oldest b.slots b.open_page
  flushed_oldest some_entry = first_lap (dec_lt k n)
    where
      on_lap : overwrites ≡ k - n → n ≤ k → Dec (o + n ≡ k) → Room g oldest b.slots b.open_page
      on_lap e h (yes l) = moves some_entry l (omega (arith, e))
      on_lap e h (no d) = stays (λ (z : o ≡ overwrites). d (omega (arith, e, h, z))) (omega (arith, r.oldest.near.1, d))

      first_lap : Dec (k < n) → Room g oldest b.slots b.open_page
      first_lap (yes h) =
          let s = state_fits_lem x.log r.fits in
          stays (λ (z : o ≡ overwrites). overwritten_none bk.sizes k h x.log.oldest (omega (arith, s.ordered, s.limited)) (here ∙ z ∙ overwrites_is))
          (omega arith)
      first_lap (no h) = on_lap (overwrites_is ∙ overwritten_lap bk.sizes k (allowed_first bk) (omega (arith, h))) (omega (arith, h)) (ℕ_discrete (o + n) k)

  -- a flush in a state, with another kept length and hold buffer, of an open page that has an entry
  module _ (s : State) (kept : ℕ) (hold : List ℕ) (long : length hold ≡ p) (some_entry : SomeEntry b.open_page) where
    abbrev flushed : Word → Done
    flushed word = flush x.log (lend x.volume x.page hold) s kept word

    -- O's page after it
    abbrev later : ℕ
    later = (flushed_oldest some_entry).kept.page

    -- the book with other data waiting
    abbrev waiting_book : List ℕ → Book
    waiting_book e = record { slots = b.slots; open_page = b.open_page; waiting = e; erase_slot = b.erase_slot }

    -- what it keeps, but for what is under way
    flush_inv : (word : Word) (e : List ℕ) → state_fits (flushed word).outcome.log ≡ true
        → Under g (flushed word).page hold kept (waiting_book e) later (state_after word s)
        (under_way x.operation (flushed word).outcome.request word g.first)
        → Inv g (delivered g.first x unended (flushed word) word).world (waiting_book e)
    unfolding flush
    flush_inv word e fits under = record {
      books = books_same bk e b.erase_slot;
      powered = record {
        setup = refl;
        hold_length = long;
        fits = fits;
        buffer = buffered_whole (flushed_whole bk r.buffer) bk.open_fits r.buffer.appends;
        oldest = (flushed_oldest some_entry).kept;
        under = under;
      };
    }

    -- the driver accepts: the open page is being written
    pub flush_accepted : (e : List ℕ) → state_fits (flushed ok).outcome.log ≡ true
        → (Writes g (flushed ok).page b.open_page later → Under g (flushed ok).page hold kept (waiting_book e) later s (writing (slot_of n k)))
        → Inv g (delivered g.first x unended (flushed ok) ok).world (waiting_book e)
    unfolding flush
    flush_accepted e fits under =
        let slot : g.first + slot_of n (last_page x.log) - g.first ≡ slot_of n k = omega arith ∙ ap (slot_of n) (last_open bk r.buffer) in
        flush_inv ok e fits
        (subst (λ (t : ℕ). Under g (flushed ok).page hold kept (waiting_book e) later s (writing t)) (sym slot)
        (under (record { room = (flushed_oldest some_entry).room; some_entry = some_entry; bytes = flushed_whole bk r.buffer })))

    -- it refuses: the log is Idle, and nothing is under way
    pub flush_refused : (word : Word) → state_after word s ≡ Idle → under_way x.operation (flushed word).outcome.request word g.first ≡ x.operation
        → x.log.state ≡ Idle → state_fits (flushed word).outcome.log ≡ true → Inv g (delivered g.first x unended (flushed word) word).world b
    flush_refused word idle same i fits =
        flush_inv word b.waiting fits (under_rests (idle_rests idle) (same ∙ under_nothing (idle_rests i) r.under))
