-- An operation that ends: its completion by the call's body, and what holds after it, with the next page opened or not. The setup is the log's own.
use Prim.Native.Nat.{ℕ, ◌+◌, ◌≤◌}
use mathlib.Core.Path.{◌≡◌, refl, sym, ap, ◌∙◌, subst}
use mathlib.Core.Bool.{true, false}
use mathlib.Core.List.{List, []}
use mathlib.Core.Logic.{◌⊎◌, inl, inr}
use mathlib.Core.Option.{Option, none, some}
use native.Mathlib.Omega.{arith}
use native.Mathlib.Nat.{add-mod_right}
use Rattle.page.specs.Id.{slot_of}
use Rattle.page.proofs.Kit.{facts}
use Rattle.engine_state.specs.Log.{Setup, State, Idle}
use Rattle.engine_state.specs.Check.{state_fits}
use Rattle.engine_state.specs.Open.{opened_id, opened_page}
use Rattle.engine_call.specs.Outcome.{Done, Lent, moved}
use Rattle.engine_call.specs.Call.{Completion, ends_well, completion_word}
use Rattle.engine_laws.specs.Call.{complete, unless_due}
use Rattle.engine_laws.proofs.Calls.{end_of, complete_is}
use Rattle.engine_laws.proofs.CallKeeps.{complete_keeps}
use Rattle.bench_flash.specs.Flash.{Operation, no_operation, Left, old, blank, new, left_after, in_slot, after_end}
use Rattle.bench_flash.specs.Event.{completion}
use Rattle.bench.specs.World.{World, lent_by, ended_by, Step, delivered}
use Rattle.bench.specs.Book.{Page, Book, slot_left, with_open, empty_page, allowed, in_book, entry_of}
use Rattle.bench.specs.Promise.{Clear}
use Rattle.bench.proofs.Invariant.{Has, Live, Books, Buffered, Oldest, Writes, UnderIn, idle, Running, Inv, After}
use Rattle.bench.proofs.BookSteps.{Elsewhere, slot_same, has_left, has_put, buffered_opened, books_new, books_next, books_ended}
use Rattle.bench.proofs.Appends.{append_round}
use Rattle.bench.proofs.Gates.{gate_passes, check_passes, runs}

-- the world in which the operation op has ended
abbrev pub ended_world : World → Operation → Left → World
ended_world x op left = record {
  power = true;
  log = x.log;
  page = x.page;
  hold = x.hold;
  volume = after_end x.log.setup.p op x.page left x.volume;
  operation = no_operation;
}

-- the step of its completion, by what the call gave
abbrev pub ended_step : World → Operation → Completion → Left → Done → Step
ended_step x op c left d =
    let l : Left = left_after (ends_well c) left in
    delivered x.log.setup.first (ended_world x op l) (ended_by op l) d (completion_word c)

-- it keeps the invariant
abbrev pub Ends : World → Book → Operation → Completion → Left → Done → Type 0
Ends x b op c left d =
    Clear (entry_of b (completion c left) (ended_step x op c left d).told) → state_fits d.outcome.log ≡ true
    → After x.log.setup b (completion c left) (ended_step x op c left d)

-- what its call is lent
abbrev pub lent_then : World → Operation → Completion → Left → Lent
lent_then x op c left = lent_by (ended_world x op (left_after (ends_well c) left))

module _ {x : World} {b : Book} (bk : Books x.log.setup x.volume b) (r : Running x.log.setup x b) where
  abbrev g : Setup
  g = x.log.setup

  abbrev k : ℕ
  k = b.open_page.number

  -- a completion that is due passes its checks
  pub due_ends : {s : State} {op : Operation} → UnderIn g x b r.oldest.page s op → (c : Completion) (left : Left) → (unless_due x.log c).test ≡ false
      → Ends x b op c left (end_of x.log (lent_then x op c left) c)
      → Clear (entry_of b (completion c left) (ended_step x op c left (complete x.log (lent_then x op c left) c)).told)
      → After g b (completion c left) (ended_step x op c left (complete x.log (lent_then x op c left) c))
  due_ends {s} {op} u c left t ends clear =
      let y : Lent = lent_then x op c left in
      let body : Done = end_of x.log y c in
      let pass = gate_passes (books_ended bk u (left_after (ends_well c) left)) r in
      let is : complete x.log y c ≡ body = complete_is x.log y c ∙ check_passes x.log y (unless_due x.log c) [] body t ∙ runs x.log y body pass in
      subst (Ends x b op c left) (sym is) ends clear (complete_keeps x.log y c r.fits)

  -- the log is idle again with the volume as it was left, and nothing else moved but what is kept
  abbrev pub rested : List ℕ → ℕ → World
  rested volume kept = record {
    power = true;
    log = moved x.log Idle x.log.oldest x.log.read x.log.append kept;
    page = x.page;
    hold = x.hold;
    volume = volume;
    operation = no_operation;
  }

  -- the book with other slots
  abbrev with_slots : (ℕ → Option Page) → Book
  with_slots slots = record { slots = slots; open_page = b.open_page; waiting = b.waiting; erase_slot = b.erase_slot }

  module _ {volume : List ℕ} (kept : ℕ) (fits : state_fits (rested volume kept).log ≡ true) where
    rest_inv : (slots : ℕ → Option Page) → Books g volume (with_slots slots) → ((m : ℕ) → Has g slots m → Live g b.open_page r.oldest.page m)
        → Inv g (rested volume kept) (with_slots slots)
    rest_inv slots bk' live = record {
      books = bk';
      powered = record {
        setup = refl;
        hold_length = r.hold_length;
        fits = fits;
        buffer = r.buffer;
        oldest = record { page = r.oldest.page; first = r.oldest.first; near = r.oldest.near; live = live };
        under = idle;
      };
    }

    -- by what the operation left in its slot
    pub left_inv : (s : ℕ) (y : Option Page) → ((m : ℕ) → Has g (in_book b.slots s y) m → Live g b.open_page r.oldest.page m) → (left : Left)
        → Books g volume (slot_left b s y left) → Inv g (rested volume kept) (slot_left b s y left)
    left_inv s y live old bk' = rest_inv b.slots bk' r.oldest.live
    left_inv s y live blank bk' = rest_inv (in_book b.slots s none) bk' (λ m h. r.oldest.live m (has_left g b.slots s m h).0)
    left_inv s y live new bk' = rest_inv (in_book b.slots s y) bk' live

  -- a write is under way
  module _ (wr : Writes g x.page b.open_page r.oldest.page) where
    abbrev slot : ℕ
    slot = slot_of g.n k

    -- the slots with the page written
    abbrev written : ℕ → Option Page
    written = in_book b.slots slot (some b.open_page)

    -- every page is the one written, or lies in another slot, less than N before the next
    written_near : (m : ℕ) → Has g written m → (r.oldest.page ≤ m) × (k + 1 ≤ m + g.n)
    written_near m h = go (has_put g b.slots slot m b.open_page h)
      where
        by_live : (slot_of g.n m ≡ slot → ⊥) → Live g b.open_page r.oldest.page m → (r.oldest.page ≤ m) × (k + 1 ≤ m + g.n)
        by_live d (inl l) = (l, omega (arith, l, wr.room))
        by_live d (inr (e, q)) = absurd (d (sym (add-mod_right m g.n) ∙ ap (slot_of g.n) e))

        go : (m ≡ k) ⊎ Elsewhere g b.slots slot m → (r.oldest.page ≤ m) × (k + 1 ≤ m + g.n)
        go (inl e) = (omega (arith, e, r.oldest.near.0), omega (arith, e, (facts bk.sizes).count))
        go (inr (i, d)) = by_live d (r.oldest.live m i)

    -- so it is live
    pub written_live : (m : ℕ) → Has g written m → Live g b.open_page r.oldest.page m
    written_live m h = inl (written_near m h).0

    -- the next page, opened
    pub opened_books : allowed g (k + 1) ≡ true → Books g (in_slot g.p slot x.page x.volume) (with_open (with_slots written) (empty_page (k + 1)))
    opened_books may =
        books_next (books_new bk wr.some_entry x.page wr.bytes) may
        (record { page = b.open_page; there = slot_same b.slots slot (some b.open_page); number = refl }) (λ m h. (written_near m h).1)

    pub opened_buffer : Buffered g (opened_page g x.log.append x.page) (opened_id g x.log.append) (empty_page (k + 1))
    opened_buffer =
        buffered_opened g bk.sizes x.log.append (k + 1) (append_round bk r.buffer wr.some_entry) x.page r.buffer.page_length_lem

    pub opened_oldest : Oldest g x.log.oldest written (empty_page (k + 1))
    opened_oldest = record {
      page = r.oldest.page;
      first = r.oldest.first;
      near = (omega (arith, r.oldest.near.0), omega (arith, wr.room));
      live = λ m h. inl (written_near m h).0;
    }
