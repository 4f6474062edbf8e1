-- The event append keeps the invariant. The setup is the log's own.
use Prim.Native.Nat.{ℕ, ◌+◌, ◌%◌, ◌<◌}
use mathlib.Core.Path.{◌≡◌, refl, sym, ap, ◌∙◌, subst}
use mathlib.Core.Bool.{true, false}
use mathlib.Core.List.{List}
use mathlib.Core.Logic.{◌⊎◌, inl, inr}
use mathlib.Core.Option.{Option, none, some}
use native.Mathlib.Omega.{arith}
use lib.ListN.{length, take}
use lib.Dec.{eqb}
use lib.Seq.{length-take-le}
use borrow.Author.Tests.{ne_eqb}
use Rattle.page.specs.Bytes.{overwrite}
use Rattle.page.specs.Layout.{Good}
use Rattle.page.proofs.Kit.{facts}
use Rattle.page.proofs.Overwrites.{length_overwrite, overwrite_same}
use Rattle.engine_state.specs.Answer.{OK}
use Rattle.engine_state.specs.Log.{Setup, Append}
use Rattle.engine_state.specs.Check.{state_fits}
use Rattle.engine_call.specs.Outcome.{Done, Word, ok, busy, fail, first_of, ◌or_else◌, unless}
use Rattle.engine_call.specs.Call as calls
use Rattle.engine_call.specs.Gate.{gate}
use Rattle.engine_call.proofs.Checks.{or_none, NotOK, not_ok, not_ok_else}
use Rattle.engine_call.proofs.Gates.{not_ok_gate}
use Rattle.engine_write.specs.Flush.{flush}
use Rattle.engine_write.specs.Store.{store}
use Rattle.engine_write.specs.Append.{fits_page, holding, append_checks, append_runs}
use Rattle.engine_write.proofs.AppendLaws.{Accepted, accepted, fits_page_lem}
use Rattle.engine_laws.proofs.Calls.{by_pick}
use Rattle.engine_laws.proofs.CallKeeps.{call_keeps}
use Rattle.engine_laws.proofs.Openable.{append_may, unfit_page}
use Rattle.bench_flash.specs.Event.{Event, call}
use Rattle.bench.specs.World.{World, lent_by, unended, Step, delivered, step_on}
use Rattle.bench.specs.Book.{Book, entry_of, recorded}
use Rattle.bench.specs.Promise.{Clear}
use Rattle.bench.proofs.Invariant.{SomeEntry, Books, append, Running, After}
use Rattle.bench.proofs.BookSteps.{books_join}
use Rattle.bench.proofs.Quiet.{at_idle, idle_rests, under_nothing, under_rests, no_start, refused_inv}
use Rattle.bench.proofs.Appends.{stored_room, stored_buffer, joined_oldest, offset_empty, may_next}
use Rattle.bench.proofs.Flushes.{flush_accepted, flush_refused}

module _ {x : World} {b : Book} (bk : Books x.log.setup x.volume b) (r : Running x.log.setup x b) (bytes : List ℕ) (n : ℕ) where
  abbrev g : Setup
  g = x.log.setup

  abbrev e : List ℕ
  e = take n bytes

  -- the hold buffer with the data
  abbrev held : List ℕ
  held = overwrite x.hold 0 e

  abbrev appends : Word → Event
  appends word = call (calls.append bytes n word)

  -- the step, by what the call gave
  abbrev gave : Word → Done → Step
  gave word d = delivered g.first x unended d word

  abbrev Kept : Word → Done → Type 0
  Kept word d = Clear (entry_of b (appends word) (gave word d).told) → state_fits d.outcome.log ≡ true → After g b (appends word) (gave word d)

  -- it passed its checks
  module _ (pass : first_of (append_checks x.log (length bytes) n) ≡ none) where
    -- what its checks have told
    ac : Accepted x.log (length bytes) n
    ac = accepted x.log (length bytes) n pass

    -- the data is as long as said
    long : length e ≡ n
    long = length-take-le n bytes ac.inside

    -- it fits in the page
    stored_keeps : (word : Word) → fits_page x.log (length e) ≡ true → Kept word (store x.log (lent_by x) e)
    unfolding store recorded
    stored_keeps word t clear fits =
        let room = fits_page_lem x.log (length e) t in
        let good : Good g.w g.p e =
        record { not_empty = omega (arith, long, ac.some_bytes); fits = omega (arith, long, ac.size); not_zero = clear.0; not_pad = clear.1 } in
        rw (no_start x.operation word g.first) (record {
          books = books_join bk e good (stored_room bk r.buffer e room.0 room.1);
          powered = record {
            setup = refl;
            hold_length = r.hold_length;
            fits = fits;
            buffer = stored_buffer bk r.buffer e room.0 room.1;
            oldest = joined_oldest r.oldest e;
            under = under_rests at_idle (under_nothing (idle_rests ac.idle) r.under);
          };
        })

    -- it doesn't: the open page has an entry
    full_some : fits_page x.log (length e) ≡ false → SomeEntry b.open_page
    full_some u nil = go (unfit_page x.log (length e) u) (offset_empty bk r.buffer nil)
      where
        go : (x.log.append % g.p ≡ 0) ⊎ (g.p < x.log.append % g.p + (length e + g.w)) → x.log.append % g.p ≡ g.w → ⊥
        go (inl z) at = omega (arith, facts bk.sizes)
        go (inr z) at = omega (arith, ac.size, long)

    -- the data waits in the hold buffer
    held_length : length held ≡ g.p
    held_length = length_overwrite x.hold 0 e (omega (arith, long, ac.size, r.hold_length)) ∙ r.hold_length

    -- a flush, by the driver's word
    flush_keeps : (word : Word) → fits_page x.log (length e) ≡ false → Kept word (flush x.log (holding (lent_by x) e) Append (length e) word)
    unfolding flush recorded
    flush_keeps ok u clear fits =
        flush_accepted bk r Append (length e) held held_length (full_some u) e fits
        (λ writes. append writes (record {
          kept_length = refl;
          some_byte = omega (arith, long, ac.some_bytes);
          fits = omega (arith, long, ac.size);
          held = overwrite_same x.hold 0 e (omega (arith, long, ac.size, r.hold_length));
          next = sym (may_next bk r.buffer (full_some u))
              ∙ append_may x.log (length bytes) n bk.sizes pass (sym (ap (fits_page x.log) long) ∙ u);
        }))
    flush_keeps busy u clear fits = flush_refused bk r Append (length e) held held_length (full_some u) busy refl refl ac.idle fits
    flush_keeps fail u clear fits = flush_refused bk r Append (length e) held held_length (full_some u) fail refl refl ac.idle fits

    -- by whether the entry fits
    runs_keep : (word : Word) → Kept word (append_runs x.log (lent_by x) e word)
    unfolding append_runs
    runs_keep word = by_pick (Kept word) (fits_page x.log (length e)) (stored_keeps word) (flush_keeps word)

  -- the event append keeps the invariant
  pub append_step : (word : Word) → Clear (entry_of b (appends word) (step_on g x (appends word)).told) → After g b (appends word) (step_on g x (appends word))
  unfolding recorded
  append_step word clear = go checks refl clear (call_keeps x.log (lent_by x) (calls.append bytes n word) r.fits)
    where
      checks : Option ℕ
      checks = gate x.log (lent_by x) or_else first_of (append_checks x.log (length bytes) n)

      not_okay : NotOK checks
      not_okay = not_ok_else (gate x.log (lent_by x)) _ (not_ok_gate x.log _ _ _) (not_ok (append_checks x.log (length bytes) n) refl)

      go : (c : Option ℕ) → checks ≡ c → Kept word (unless c x.log (lent_by x) (append_runs x.log (lent_by x) e word))
      go none h clear fits = runs_keep (or_none (gate x.log (lent_by x)) _ h).1 word clear fits
      go (some a) h clear fits =
          let other : eqb a OK ≡ false = ne_eqb a OK (subst NotOK h not_okay) in
          rw other (refused_inv bk r word a)
