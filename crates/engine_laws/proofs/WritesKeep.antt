-- The state after append's body and a write's completion satisfies STATE if the state before did.
use Prim.Native.Nat.{ℕ, ◌+◌, ◌*◌, ◌-◌, ◌/◌, ◌%◌, ◌≤◌}
use mathlib.Core.Path.{◌≡◌, refl}
use mathlib.Core.Bool.{Bool, true, ◌&&◌}
use mathlib.Core.List.{List}
use mathlib.Core.Option.{none}
use native.Mathlib.Omega.{arith}
use lib.ListN.{length, take}
use lib.Seq.{length-take-le}
use lib.Dec.{eqb}
use borrow.Author.Tests.{lt-ltb}
use Rattle.page.specs.Sizes.{ceiling}
use Rattle.page.proofs.Kit.{facts, both, parts, rest_of, rounded}
use Rattle.engine_state.specs.Log.{Idle, Append, Log, is}
use Rattle.engine_state.specs.Check.{Sized, kept_fits}
use Rattle.engine_state.proofs.Checks.{StateFits, offset_in}
use Rattle.engine_state.proofs.Opens.{may_open_lem}
use Rattle.engine_call.specs.Outcome.{Lent, Word, first_of, moved}
use Rattle.engine_write.specs.Store.{store}
use Rattle.engine_write.specs.Append.{fits_page, holding, append_checks, append_runs}
use Rattle.engine_write.proofs.AppendLaws.{accepted, fits_page_lem}
use Rattle.engine_write.specs.WriteComplete.{opens_next, opened, opened_in, append_written, sync_written, write_runs}
use Rattle.engine_laws.proofs.Calls.{by_pick}
use Rattle.engine_laws.proofs.StateKit.{LeavesState, moved_fits, oldest_kept, flush_fits, state_set, store_fits}

-- the state after an append that passed its checks satisfies STATE
pub append_fits : (l : Log) → Sized l.setup → StateFits l → (x : Lent) (bytes : List ℕ) (n : ℕ) (word : Word)
    → first_of (append_checks l (length bytes) n) ≡ none → StateFits (append_runs l x (take n bytes) word).outcome.log
unfolding append_runs kept_fits
append_fits l z s x bytes n word p =
    let a = accepted l (length bytes) n p in
    let e = length-take-le n bytes a.inside in
    by_pick LeavesState (fits_page l (length (take n bytes)))
    (λ h. let i = fits_page_lem l _ h in store_fits l z s x (take n bytes) i.0 (omega (arith, facts z, parts l.append (facts z).page)) (omega arith))
    (λ h. flush_fits l z s (holding x (take n bytes)) Append (length (take n bytes)) word (omega arith)
    (lt-ltb 0 (length (take n bytes)) (omega (arith, a.some_bytes))))

-- a log whose next page is opened satisfies STATE
opened_fits : (l : Log) → Sized l.setup → StateFits l → opens_next l ≡ true → StateFits (opened l)
opened_fits l z s h =
    let f = facts z in
    let p : ℕ = l.setup.p in
    let k : ℕ = (l.append + (p - 1)) / p in
    let m = may_open_lem l.setup l.append h in
    let u = rounded l.append f.page in
    let top : k * p + p ≤ ceiling l.setup.w = f.ceiling_page k m.below in
    record {
      headed = s.headed;
      ordered = omega (arith, s.ordered);
      limited = omega arith;
      first = s.first;
      read_limited = s.read_limited;
      offset = offset_in k l.setup.w f.page (omega arith) (omega arith) refl;
      kept_most = s.kept_most;
      kept_some = s.kept_some;
    }

-- the state after a write's completion satisfies STATE
pub write_fits : (l : Log) → Sized l.setup → StateFits l → (x : Lent) (good : Bool) → l.kept ≤ length x.hold
    → StateFits (write_runs l x good).outcome.log
unfolding write_runs append_written sync_written kept_fits
write_fits l z s x good k =
    by_pick LeavesState (is l.state Append)
    (λ a. by_pick LeavesState good (λ g. by_pick LeavesState (opens_next l) stored (λ o. not_stored_lem)) (λ g. not_stored_lem))
    (λ a. by_pick LeavesState good (λ g. by_pick LeavesState (eqb (l.append % l.setup.p) 0 && opens_next l)
    (λ e. state_set (opened_fits l z s (both (eqb (l.append % l.setup.p) 0) (opens_next l) e).1) Idle refl) (λ e. state_set s Idle refl))
    (λ g. state_set s Idle refl))
  where
    not_stored_lem : StateFits (moved l Idle l.oldest l.read l.append 0)
    not_stored_lem = moved_fits s Idle (oldest_kept s) l.read 0 s.read_limited (omega arith) refl

    stored : opens_next l ≡ true → LeavesState (store (opened l) (opened_in l x) (take l.kept x.hold))
    stored h =
        let long = length-take-le l.kept x.hold k in
        let offset : (opened l).append % l.setup.p ≡ l.setup.w = rest_of ((l.append + (l.setup.p - 1)) / l.setup.p) (omega (arith, facts z)) refl in
        store_fits (opened l) z (opened_fits l z s h) (opened_in l x) (take l.kept x.hold)
        (omega (arith, facts z)) (omega (arith, facts z, s.kept_most)) (omega (arith, s.kept_most))
