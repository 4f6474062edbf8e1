-- `bench_run::entries::read_out` meets its contract.
use Rattle.std.proofs.Common.{◌-◌, length}
use Rattle.engine_state.specs.Log.{log_of}
use Rattle.engine_call.specs.Outcome.{lend}
use Rattle.bench_run.proofs.OutLaw.{ReadSofar}
use Rattle.bench_run.proofs.entries.read_out.Given as goal

abbrev pub invariant-loop-entry : goal.invariant-loop-entry
invariant-loop-entry l = ReadSofar (lend l.volume l.page l.hold) (log_of l.initial.current) (length l.initial.out) l.out (log_of l.current) l.count l.used

abbrev pub decreases-loop-entry : goal.decreases-loop-entry
decreases-loop-entry l = length l.initial.out - l.used
