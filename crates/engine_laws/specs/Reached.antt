-- The logs that a restart on any volume and any calls after it lead to.
use Rattle.std.specs.Prelude.{◌≡◌, Bool}
use Rattle.engine_state.specs.Log.{Setup, Log}
use Rattle.engine_call.specs.Outcome.{Lent}
use Rattle.engine_call.specs.Call.{Call, Completion}
use Rattle.engine_restart.specs.Restart.{started, restart}
use Rattle.engine_laws.specs.Call.{call, complete}

-- a restart that isn't refused, and any calls and completions after it, whatever they are lent and the driver says
pub data Reached : Log → Type 0 where
  restarts : {l : Log} (s : Setup) (read_client append_client : Bool) (x : Lent) → (restart s read_client append_client x).answer ≡ started l → Reached l
  calls : {l : Log} (x : Lent) (c : Call) → Reached l → Reached (call l x c).outcome.log
  completes : {l : Log} (x : Lent) (c : Completion) → Reached l → Reached (complete l x c).outcome.log
