-- The logs that blocks hold, and the blocks that a restart and any calls after it lead to. w is the width of a word.
use Rattle.std.specs.Prelude.{ℕ, ◌≡◌, Bool, true, List}
use Rattle.std.proofs.Math.Option.{some}
use Rattle.engine_state.specs.Answer.{OK}
use Rattle.engine_state.specs.Log.{Setup, Log}
use Rattle.engine_state.specs.Check.{sizes_fit, state_fits}
use Rattle.engine_call.specs.Outcome.{Lent}
use Rattle.engine_call.specs.Call.{Call, Completion}
use Rattle.engine_restart.specs.Restart.{started, restart}
use Rattle.engine_laws.specs.Reached.{Reached}
use Rattle.punelovash_block.specs.Block.{loaded, setup_from}
use Rattle.punelovash_block.specs.Call.{call_block, complete_block, restart_block}

-- a block holds a log, with sizes and a state that are not refused
pub record Holds (w : ℕ) (block : List ℕ) (l : Log) : Type 0 where
  pub loads : loaded w block ≡ some l
  pub sizes : sizes_fit l.setup ≡ true
  pub state : state_fits l ≡ true

-- a block holds the log that a restart starts
pub record HoldsStarted (block : List ℕ) (s : Setup) (read_client append_client : Bool) (x : Lent) : Type 0 where
  pub log : Log
  pub starts : (restart s read_client append_client x).answer ≡ started log
  pub holds : Holds s.w block log

-- a restart that answers OK, and any calls and completions after it, whatever they are lent and the driver says
pub data ReachedBlock (w : ℕ) : List ℕ → Type 0 where
  restarts : (block : List ℕ) (p n first : ℕ) (circular read_client append_client : Bool) (x : Lent)
      → (restart_block w block (setup_from w p n first circular) read_client append_client x).answer ≡ OK
      → ReachedBlock w (restart_block w block (setup_from w p n first circular) read_client append_client x).block
  calls : (block : List ℕ) (x : Lent) (c : Call) → ReachedBlock w block → ReachedBlock w (call_block w block x c).block
  completes : (block : List ℕ) (x : Lent) (c : Completion) → ReachedBlock w block → ReachedBlock w (complete_block w block x c).block

-- a block that holds a log which a restart and calls lead to
pub record HoldsReached (w : ℕ) (block : List ℕ) : Type 0 where
  pub log : Log
  pub holds : Holds w block log
  pub reached : Reached log
