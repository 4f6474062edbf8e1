-- The state after an erase's completion satisfies STATE if the state before did.
use Prim.Native.Nat.{◌+◌, ◌%◌, ◌≤◌, ◌<◌}
use mathlib.Core.Path.{◌≡◌, refl, ◌∙◌}
use mathlib.Core.Bool.{Bool}
use mathlib.Core.Logic.{inr}
use native.Mathlib.Nat.{mod-eq_of_lt, add-mod_right}
use native.Mathlib.Omega.{arith}
use borrow.Author.Tests.{leb-false}
use Rattle.page.specs.Sizes.{ceiling}
use Rattle.page.proofs.Kit.{facts}
use Rattle.engine_state.specs.Log.{Idle, Erase, Log}
use Rattle.engine_state.specs.Check.{Sized, kept_fits}
use Rattle.engine_state.proofs.Checks.{StateFits}
use Rattle.engine_call.specs.Outcome.{Lent, Word, ok, busy, fail, state_after}
use Rattle.engine_erase.specs.Erase.{last_erased, reset, read_after, erases_next, erase_runs}
use Rattle.engine_laws.proofs.Calls.{by_pick}
use Rattle.engine_laws.proofs.StateKit.{LeavesState, OldestFits, moved_fits, state_set, kept_after}

-- the state after an erase's completion satisfies STATE
pub erase_fits : (l : Log) → Sized l.setup → StateFits l → (x : Lent) (good : Bool) (word : Word) → StateFits (erase_runs l x good word).outcome.log
unfolding erase_runs kept_fits
erase_fits l z s x good word =
    by_pick LeavesState good (λ g. by_pick LeavesState (last_erased l) (λ e. last) (λ e. next (later (leb-false _ _ e)) word)) (λ g. state_set s Idle refl)
  where
    last : LeavesState (reset l x)
    last =
        let f = facts z in
        let small : l.setup.w % l.setup.p ≡ l.setup.w = mod-eq_of_lt (omega arith) in
        record {
          headed = omega arith;
          ordered = omega arith;
          limited = omega arith;
          first = small;
          read_limited = omega arith;
          offset = inr (omega arith);
          kept_most = s.kept_most;
          kept_some = refl;
        }

    later : l.oldest + l.setup.p < l.append → OldestFits l (l.oldest + l.setup.p)
    later b = record { headed = omega (arith, s.headed); ordered = omega arith; first = add-mod_right l.oldest l.setup.p ∙ s.first }

    read_fits : (word : Word) → read_after word l.read l.oldest ≤ ceiling l.setup.w
    read_fits ok = s.read_limited
    read_fits busy = omega (arith, s)
    read_fits fail = omega (arith, s)

    next : OldestFits l (l.oldest + l.setup.p) → (word : Word) → LeavesState (erases_next l x word)
    next o word =
        moved_fits s (state_after word Erase) o (read_after word l.read l.oldest) l.kept (read_fits word) s.kept_most (kept_after word Erase l.kept refl)
