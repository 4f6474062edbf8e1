-- `bench_run::run::find` meets its contract.
use Rattle.std.proofs.Common.{◌≡◌, ℕ, true, List, length, replicate, ap, sym, ◌∙◌, subst}
use Rattle.page.specs.Sizes.{Width}
use Rattle.engine_state.specs.Log.{Setup, setup_of}
use Rattle.engine_state.specs.Check.{shape_fits}
use Rattle.engine_state.proofs.Checks.{shape_fits_lem}
use Rattle.bench_flash.specs.Flash.{left_of}
use Rattle.bench_flash.specs.Event.{Event, restart}
use Rattle.bench.specs.World.{World, Step, step}
use Rattle.bench_step.specs.Step.{world_of, step_of, in_place}
use Rattle.bench_step.proofs.Steps.{cut_first}
use Rattle.bench_run.proofs.Again.{again_answers, ran_again}
use Rattle.bench_run.proofs.run.find.Goals as goal
use Rattle.bench_run.proofs.run.find.Goals.{After-cut-off, After-restart-done, Start}

abbrev setup : Start → Setup
setup s = setup_of s.args.bench.setup

abbrev world : Start → World
world s = world_of s.args.bench.world s.args.page.now s.args.hold.now s.args.volume.now

-- the restart, after the cut
abbrev again : Start → Event
again s = restart (in_place (left_of s.args.left) true s.args.append_client (world s))

abbrev start : After-restart-done → Start
start c = (goal.at.After-restart-done c).Start

abbrev volume : After-restart-done → List ℕ
volume c = (goal.at.After-restart-done c).After-cut-off.cut-off.new.volume

abbrev after : After-restart-done → Step
after c = let s = start c in step_of (setup s) c.restart-done.result c.restart-done.new.page s.args.hold.now (volume c)

-- they are one step
stepped : (c : After-restart-done) → let s = start c in after c ≡ step (setup s) (world s) (again s)
stepped c =
    let s = start c in
    let k = (goal.at.After-restart-done c).After-cut-off.cut-off in
    cut_first (setup s) (world s) (in_place (left_of s.args.left) true s.args.append_client (world s))
    (step_of (setup s) k.result s.args.page.now s.args.hold.now k.new.volume)
    (k.ensures s.args.hold.now) (c.restart-done.ensures (left_of s.args.left))

-- the log that it makes has the setup, since SHAPE lets the buffers through
same_setup : (c : After-restart-done) → let s = start c in (after c).world.log.setup ≡ setup s
same_setup c =
    let s = start c in
    let kept = ap (λ (d : Step). length d.world.volume) (sym (stepped c)) ∙ (goal.at.After-restart-done c).After-cut-off.cut-off.auto.volume in
    let fit : shape_fits (setup s) (length (step (setup s) (world s) (again s)).world.volume) (length (world s).page) (length (world s).hold) ≡ true =
    rw kept s.requires in
    ap (λ (d : Step). d.world.log.setup) (stepped c) ∙ (again_answers (setup s) s.args.append_client (left_of s.args.left) (world s) fit).setup

pub read_out-requires : goal.read_out-requires
read_out-requires c =
    let after_restart = (goal.at.read_out-requires c).After-restart-done in
    let s = start after_restart in
    let width = (shape_fits_lem (setup s) _ _ _ s.requires).sizes.page.width in
    let zeros = c.fill.ensures.after (λ y e. e) in
    (subst (λ (g : Setup). Width g.w) (sym (same_setup after_restart)) width, zeros ∙ ap (λ n. replicate n 0) (sym c.fill.ensures.len))

pub returns : goal.returns
returns c book begun long =
    let after_restart = (goal.at.returns c).After-restart-done in
    ran_again (after after_restart).world (ap (λ (d : Step). d.world) (stepped after_restart)) (c.fill.ensures.len ∙ sym long) c.read_out.ensures
