-- `bench_run::run::run_list` meets its contract.
use borrow.Author.Rules.{part_to_end}
use Rattle.engine_state.specs.Log.{setup_of}
use Rattle.bench_step.specs.Step.{step_of}
use Rattle.bench_run.proofs.Lists.{Whole, size_none, size_found}
use Rattle.bench_run.proofs.Running.{upto_starts, upto_goes, upto_ends}
use Rattle.bench_run.proofs.run.run_list.Goals as goal
use Rattle.bench_run.proofs.run.run_list.Goals.{In-Some}

pub loop-size-init : goal.loop-size-init
loop-size-init c = upto_starts _ (c.begin-world.ensures _ _ _)

-- the event at the front is whole
found : (c : In-Some) → Whole c.loop-size.rest.now c.in-Some.size
found c = size_found _ _ c.in-Some.ensures

pub loop-size-preserved : goal.loop-size-preserved
loop-size-preserved c =
    let kept = c.step-done.auto in
    let after = c.step-done.new in
    upto_goes c.loop-size.invariant (step_of (setup_of c.args.setup) c.step-done.result after.page after.hold after.volume) _
    (found (goal.at.loop-size-preserved c).In-Some) (c.event-event.ensures _ _) c.step-done.ensures.0 (part_to_end c.loop-size.rest.now c.in-Some.size)
    kept.volume kept.page kept.hold kept.out

pub returns : goal.returns
returns c = upto_ends c.loop-size.invariant (size_none _ c.in_default.ensures)
