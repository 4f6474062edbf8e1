-- `bench_run::run::run_list` meets its contract.
use Rattle.std.proofs.Common.{length}
use Rattle.engine_state.specs.Log.{setup_of}
use Rattle.engine_call.specs.Outcome.{lend}
use Rattle.bench_step.specs.Step.{world_of}
use Rattle.bench_run.proofs.Running.{Upto}
use Rattle.bench_run.proofs.run.run_list.Given as goal

abbrev pub invariant-loop-size : goal.invariant-loop-size
invariant-loop-size l = Upto (setup_of l.setup) l.list (lend l.initial.volume l.initial.page l.initial.hold) (length l.initial.out)
    (world_of l.world l.page l.hold l.volume) l.out l.rest

abbrev pub decreases-loop-size : goal.decreases-loop-size
decreases-loop-size l = length l.rest
