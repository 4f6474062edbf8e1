-- `bench_step::world::Bench::cut` meets its contract.
use Rattle.std.proofs.Common.{ℕ, List, sym, ◌∙◌}
use Rattle.std.proofs.lemmas.Bool.{not-true, not-false}
use Rattle.engine_state.specs.Log.{setup_of}
use Rattle.bench_flash.specs.Flash.{left_of}
use Rattle.bench_flash.specs.Event.{cut}
use Rattle.bench.specs.World.{World}
use Rattle.bench_step.specs.Step.{world_of}
use Rattle.bench_step.proofs.Steps.{on, off}
use Rattle.bench_step.proofs.world.Bench.cut.Goals as goal
use Rattle.bench_step.proofs.world.Bench.cut.Goals.{Start}

abbrev world : Start → List ℕ → World
world s hold = world_of s.args.self.world s.args.page.now hold s.args.volume.now

pub returns-then-not-self : goal.returns-then-not-self
returns-then-not-self c hold =
    let s = (goal.at.returns-then-not-self c).Start in
    let g = setup_of c.args.self.setup in
    c.undelivered.ensures g _ hold _ ∙ sym (off g (world s hold) (cut (left_of c.args.left)) (not-true _ c.if-not-self.true))

pub returns : goal.returns
returns c hold =
    let s = (goal.at.returns c).Start in
    let g = setup_of c.args.self.setup in
    c.end.ensures hold ∙ sym (on g (world s hold) (cut (left_of c.args.left)) (not-false _ c.if-not-self.false))
