-- The state after the bodies of read and seek satisfies STATE if the state before did.
use Prim.Native.Nat.{ℕ, ◌+◌, ◌*◌, ◌/◌, ◌≤◌}
use mathlib.Core.Path.{◌≡◌, refl}
use mathlib.Core.Option.{none}
use native.Mathlib.Omega.{arith}
use lib.Dec.{leb}
use borrow.Author.Tests.{leb-true, not-false}
use Rattle.page.specs.Sizes.{ceiling}
use Rattle.page.proofs.Kit.{facts, both, parts}
use Rattle.page_lookup.proofs.Lengths.{lengthy}
use Rattle.engine_state.specs.Log.{Read, Seek, Log}
use Rattle.engine_state.specs.Check.{Sized, kept_fits}
use Rattle.engine_state.proofs.Checks.{StateFits}
use Rattle.engine_call.specs.Outcome.{Lent, Done, first_of}
use Rattle.engine_call.proofs.Checks.{through}
use Rattle.engine_read.specs.Read.{read_runs}
use Rattle.engine_read.specs.Seek.{seek_checks, seek_runs}
use Rattle.page_lookup.proofs.Places.{next_at}
use Rattle.engine_laws.proofs.ReadRows.{Reads, beyond, unset, at_end, bad_header, entry_too_long, good, read_runs_lem}
use Rattle.engine_laws.proofs.StateKit.{LeavesState, moved_fits, oldest_kept}

-- the state after a read satisfies STATE
pub read_fits : (l : Log) → Sized l.setup → StateFits l → (x : Lent) (n : ℕ) → StateFits (read_runs l x n).outcome.log
unfolding kept_fits
read_fits l z s x n = go (read_runs_lem l x n)
  where
    go : {d : Done} → Reads l x n d → LeavesState d
    go (beyond b) = moved_fits s l.state (oldest_kept s) l.oldest l.kept (omega (arith, s.ordered, s.limited)) s.kept_most s.kept_some
    go (unset b e) = s
    go (at_end k e) = s
    go (bad_header k id e i) = s
    go (entry_too_long k id size e i b) = s
    go (good k id size e i b) =
        let f = facts z in
        let p : ℕ = l.setup.p in
        let d = parts id f.page in
        let t = lengthy l.setup.w p l.append x.volume x.page id i in
        let below = (next_at l.setup.w p l.append x.volume x.page l.read e).below in
        let top : id / p * p + p ≤ ceiling l.setup.w = f.ceiling_page (id / p) (omega (arith, s.limited)) in
        moved_fits s Read (oldest_kept s) (id + l.setup.w + size) size (omega arith) t.most refl

-- the state after a seek that through its checks satisfies STATE
pub seek_fits : (l : Log) → StateFits l → (x : Lent) (id : ℕ) → first_of (seek_checks l id) ≡ none → StateFits (seek_runs l x id).outcome.log
unfolding kept_fits
seek_fits l s x id e =
    let inside = both (leb l.oldest id) (leb id l.append) (not-false _ (through (seek_checks l id) e).1.0) in
    moved_fits s Seek (oldest_kept s) id l.kept (omega (arith, s.limited, leb-true id l.append inside.1)) s.kept_most refl
