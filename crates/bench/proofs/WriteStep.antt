-- A write that ends: the body of its completion keeps the invariant. The setup is the log's own.
use Prim.Native.Nat.{ℕ, ◌+◌, ◌%◌, ◌<◌}
use mathlib.Core.Path.{◌≡◌, refl, sym, ap, ◌∙◌, subst}
use mathlib.Core.Bool.{Bool, true, false, ◌&&◌}
use mathlib.Core.List.{List, []}
use mathlib.Core.Option.{some}
use native.Mathlib.Omega.{arith}
use native.Mathlib.Decide.{dec_lt}
use lib.ListN.{take}
use lib.Dec.{eqb}
use borrow.Author.Tests.{eq-eqb, ne_eqb}
use Rattle.page.specs.Pick.{pick}
use Rattle.page.specs.Id.{slot_of, offset_of}
use Rattle.page.specs.Layout.{page_length, Good}
use Rattle.page.specs.Answered.{FAIL}
use Rattle.page.proofs.Kit.{Facts, facts, rest_of}
use Rattle.engine_state.specs.Answer.{OK, CANCEL}
use Rattle.engine_state.specs.Log.{Setup, State, Idle, Append, Sync, is}
use Rattle.engine_state.specs.Open.{opened_id}
use Rattle.engine_call.specs.Outcome.{Done, Lent, moved}
use Rattle.engine_state.specs.Check.{state_fits}
use Rattle.engine_call.specs.Call.{write_ended}
use Rattle.engine_write.specs.Store.{store}
use Rattle.engine_write.specs.WriteComplete.{opens_next, opened, opened_in, not_stored, sync_done_of, append_written, sync_written, write_runs}
use Rattle.bench_flash.specs.Flash.{Operation, writing, Left, new, after_end}
use Rattle.bench.specs.World.{World, wrote}
use Rattle.bench.specs.Book.{Book, allowed, fills, left_in, recorded}
use Rattle.bench.proofs.Invariant.{Books, Writes, Waits, idle, sync, Running, Inv}
use Rattle.bench.proofs.BookSteps.{books_ended, books_join}
use Rattle.bench.proofs.Appends.{longer, next_first, offset_open, offset_empty, may_next, stored_buffer, joined_oldest}
use Rattle.bench.proofs.WrittenKeeps.{Ends, lent_then, rested, left_inv, written_live, opened_books, opened_buffer, opened_oldest}

module _ {x : World} {b : Book} (bk : Books x.log.setup x.volume b) (r : Running x.log.setup x b)
    (wr : Writes x.log.setup x.page b.open_page r.oldest.page) where
  abbrev g : Setup
  g = x.log.setup

  abbrev k : ℕ
  k = b.open_page.number

  -- the open page's write
  abbrev op : Operation
  op = writing (slot_of g.n k)

  -- what the completion's call is lent
  abbrev lent : Bool → Left → Lent
  lent good left = lent_then x op (write_ended good) left

  -- its completion keeps the invariant, by what the call gives
  abbrev Keeps : Bool → Left → Done → Type 0
  Keeps good left d = Ends x b op (write_ended good) left d

  -- the log is idle with the page that is open
  rests : (left : Left) (kept : ℕ) → state_fits (moved x.log Idle x.log.oldest x.log.read x.log.append kept) ≡ true
      → Inv g (rested bk r (after_end g.p op x.page left x.volume) kept) (left_in g.n b (wrote left))
  rests left kept fits =
      left_inv bk r kept fits (slot_of g.n k) (some b.open_page) (written_live bk r wr) left
      (books_ended {hold = x.hold} {kept = kept} bk (sync wr) left)

  -- a failed write of an append
  failed_append : (left : Left) → Keeps false left (not_stored x.log (lent false left) FAIL)
  unfolding recorded
  failed_append left clear fits = rests left 0 fits

  -- a failed write of a sync
  failed_sync : (left : Left) → Keeps false left (sync_done_of x.log (lent false left) FAIL)
  unfolding recorded
  failed_sync left clear fits = rests left x.log.kept fits

  -- an entry that waits is stored in the next page
  stored_ends : (left : Left) → Waits g x.log.kept x.hold b
      → Keeps true left (store (opened x.log) (opened_in x.log (lent true left)) b.waiting)
  unfolding store recorded
  stored_ends left wa clear fits =
      let e : List ℕ = b.waiting in
      let bk' = opened_books bk r wr wa.next in
      let u = opened_buffer bk r wr in
      let offset : opened_id g x.log.append % g.p ≡ g.w = offset_empty bk' u refl in
      let good : Good g.w g.p e = record { not_empty = wa.some_byte; fits = wa.fits; not_zero = clear.0; not_pad = clear.1 } in
      rw wa.next (record {
        books = books_join bk' e good (omega (arith, longer g.w [] e, wa.fits));
        powered = record {
          setup = refl;
          hold_length = r.hold_length;
          fits = fits;
          buffer = stored_buffer bk' u e (omega (arith, offset, facts bk.sizes)) (omega (arith, offset, wa.fits));
          oldest = joined_oldest (opened_oldest bk r wr) e;
          under = idle;
        };
      })

  -- a good write of an append
  done_append : (left : Left) → Waits g x.log.kept x.hold b → Keeps true left (append_written x.log (lent true left))
  unfolding append_written
  done_append left wa =
      let opens : opens_next x.log ≡ true = may_next bk r.buffer wr.some_entry ∙ wa.next in
      let held : take x.log.kept x.hold ≡ b.waiting = ap (λ (n : ℕ). take n x.hold) wa.kept_length ∙ wa.held in
      subst (λ (t : Bool). Keeps true left (pick t (stored (take x.log.kept x.hold)) (not_stored x.log (lent true left) CANCEL))) (sym opens)
      (subst (λ (e : List ℕ). Keeps true left (stored e)) (sym held) (stored_ends left wa))
    where
      stored : List ℕ → Done
      stored e = store (opened x.log) (opened_in x.log (lent true left)) e

  -- A is at a page's start exactly if the open page is full
  full_offset : eqb (offset_of g.p x.log.append) 0 ≡ fills g b.open_page
  full_offset = go (dec_lt (page_length g.w b.open_page.entries) g.p)
    where
      f : Facts g.w g.p g.n
      f = facts bk.sizes

      go : Dec (page_length g.w b.open_page.entries < g.p) → eqb (offset_of g.p x.log.append) 0 ≡ fills g b.open_page
      go (yes h) =
          ne_eqb _ _ (λ (z : x.log.append % g.p ≡ 0). omega (arith, offset_open bk r.buffer h, f.word, z))
          ∙ sym (ne_eqb _ _ (λ (z : page_length g.w b.open_page.entries ≡ g.p). omega (arith, h, z)))
      go (no h) =
          let full : page_length g.w b.open_page.entries ≡ g.p = omega (arith, bk.open_fits, h) in
          eq-eqb _ _ (rest_of (k + 1) f.page (omega (arith, next_first bk r.buffer (omega (arith, h))))) ∙ sym (eq-eqb _ _ full)

  -- a good write of a sync: the log opens the next page where the book does
  done_sync : (left : Left) → Keeps true left (sync_written x.log (lent true left))
  unfolding sync_written recorded
  done_sync left =
      subst (λ (t : Bool). Synced (t && opens_next x.log)) (sym full_offset)
      (subst (λ (t : Bool). Synced (fills g b.open_page && t)) (sym (may_next bk r.buffer wr.some_entry))
      (go (fills g b.open_page) refl (allowed g (k + 1)) refl))
    where
      Synced : Bool → Type 0
      Synced t =
          Keeps true left (pick t (sync_done_of (opened x.log) (opened_in x.log (lent true left)) OK) (sync_done_of x.log (lent true left) OK))

      go : (c : Bool) → fills g b.open_page ≡ c → (d : Bool) → allowed g (k + 1) ≡ d → Synced (c && d)
      go true full true may clear fits =
          rw (full, may) (record {
            books = opened_books bk r wr may;
            powered = record {
              setup = refl;
              hold_length = r.hold_length;
              fits = fits;
              buffer = opened_buffer bk r wr;
              oldest = opened_oldest bk r wr;
              under = idle;
            };
          })
      go true full false may clear fits = rw (full, may) (rests new x.log.kept fits)
      go false full d may clear fits = rw full (rests new x.log.kept fits)

  -- the call's body, by the state
  abbrev runs_in : Bool → Left → State → Done
  runs_in good left s =
      pick (is s Append) (pick good (append_written x.log (lent good left)) (not_stored x.log (lent good left) FAIL))
      (pick good (sync_written x.log (lent good left)) (sync_done_of x.log (lent good left) FAIL))

  in_state_lem : {s : State} → x.log.state ≡ s → (good : Bool) (left : Left) → Keeps good left (runs_in good left s)
      → Keeps good left (write_runs x.log (lent good left) good)
  unfolding write_runs
  in_state_lem i good left keeps = subst (λ (t : State). Keeps good left (runs_in good left t)) (sym i) keeps

  -- an append's write that ends
  pub append_ends : x.log.state ≡ Append → Waits g x.log.kept x.hold b → (good : Bool) (left : Left)
      → Keeps good left (write_runs x.log (lent good left) good)
  append_ends i wa true left = in_state_lem i true left (done_append left wa)
  append_ends i wa false left = in_state_lem i false left (failed_append left)

  -- a sync's write that ends
  pub sync_ends : x.log.state ≡ Sync → (good : Bool) (left : Left) → Keeps good left (write_runs x.log (lent good left) good)
  sync_ends i true left = in_state_lem i true left (done_sync left)
  sync_ends i false left = in_state_lem i false left (failed_sync left)
