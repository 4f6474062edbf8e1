-- From a restart on any volume, however the calls go: STATE holds, a log in Append is one whose next page may be opened, and no completion reports CANCEL.
use mathlib.Core.Path.{◌≡◌, refl, sym, ap, ◌∙◌}
use mathlib.Core.Bool.{Bool, true, false}
use mathlib.Core.Option.{Option, none, some}
use lib.ListN.{length, take}
use borrow.Author.Tests.{not-false}
use Rattle.page.specs.Header.{Extent}
use Rattle.engine_state.specs.Log.{Setup, Append, Log}
use Rattle.engine_state.specs.Check.{shape_fits, state_fits}
use Rattle.engine_state.specs.Open.{may_open}
use Rattle.engine_call.specs.Outcome.{Lent}
use Rattle.engine_call.specs.Call.{Completion}
use Rattle.engine_write.specs.Store.{store}
use Rattle.engine_write.specs.WriteComplete.{opened, opened_in, append_written}
use Rattle.engine_restart.specs.Restart.{Restarted, started, refused, RestartDone, started_from, headers, restart}
use Rattle.engine_restart.proofs.RestartState.{restart_fits}
use Rattle.engine_laws.specs.Call.{complete}
use Rattle.engine_laws.specs.Reached.{Reached, restarts, calls, completes}
use Rattle.engine_laws.proofs.Calls.{by_pick}
use Rattle.engine_laws.proofs.CallKeeps.{call_keeps, complete_keeps}
use Rattle.engine_laws.proofs.Leaves.{stuck, cancels, call_leaves, complete_leaves}

-- STATE holds
pub reached_fits : {l : Log} → Reached l → state_fits l ≡ true
reached_fits (restarts s read_client append_client x e) = restart_fits s read_client append_client x e
reached_fits (calls {l} x c r) = call_keeps l x c (reached_fits r)
reached_fits (completes {l} x c r) = complete_keeps l x c (reached_fits r)

-- a restart leaves Idle
abbrev stuck_after : Restarted → Bool
stuck_after (started l) = stuck l
stuck_after (refused a) = false

restart_open : (s : Setup) (read_client append_client : Bool) (x : Lent) → stuck_after (restart s read_client append_client x).answer ≡ false
unfolding restart
restart_open s read_client append_client x =
    by_pick (λ (d : RestartDone). stuck_after d.answer ≡ false) (shape_fits s (length x.volume) (length x.page) (length x.hold))
    (λ e. go (headers s x.volume)) (λ e. refl)
  where
    go : (h : Option Extent) → stuck_after (started_from s read_client append_client x h).answer ≡ false
    go none = refl
    go (some ids) = refl

not_stuck : {l : Log} → Reached l → stuck l ≡ false
not_stuck (restarts s read_client append_client x e) = sym (ap stuck_after e) ∙ restart_open s read_client append_client x
not_stuck (calls {l} x c r) = (call_leaves l x c).opens (not_stuck r)
not_stuck (completes {l} x c r) = (complete_leaves l x c).opens (not_stuck r)

-- a log in Append is one whose next page may be opened
pub reached_open : {l : Log} → Reached l → l.state ≡ Append → may_open l.setup l.append ≡ true
reached_open {l} r e = not-false (may_open l.setup l.append) (rw e at (not_stuck r))

-- so a write that went well in Append opens the next page and stores
pub reached_stored : {l : Log} → Reached l → l.state ≡ Append → (x : Lent) → append_written l x ≡ store (opened l) (opened_in l x) (take l.kept x.hold)
unfolding append_written
reached_stored r e x = rw (reached_open r e)

-- and no completion reports CANCEL
pub reached_never : {l : Log} → Reached l → (x : Lent) (c : Completion) → cancels (complete l x c).outcome.report ≡ false
reached_never {l} r x c = (complete_leaves l x c).never (not_stuck r)
