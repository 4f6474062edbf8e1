-- `bench_step::world::Bench::completed` meets its contract.
use Rattle.std.proofs.Common.{◌≡◌, Bool, true, false, sym, ap, ◌∙◌}
use Rattle.std.proofs.lemmas.Bool.{not-true, not-false}
use Rattle.engine_state.specs.Log.{Setup, setup_of}
use Rattle.engine_call.specs.Call.{Completion}
use Rattle.bench_flash.specs.Flash.{left_of, left_after}
use Rattle.bench_flash.specs.Event as events
use Rattle.bench_flash.specs.Event.{completion_of}
use Rattle.bench.specs.World.{World, Step, ends, completion_step, step}
use Rattle.bench_step.specs.Step.{world_of, step_of}
use Rattle.bench_step.proofs.Steps.{on, off, comes_due}
use Rattle.bench_step.proofs.world.Bench.completed.Goals as goal
use Rattle.bench_step.proofs.world.Bench.completed.Goals.{Else-is_ended_by, Else-not-world, Start}

abbrev setup : Start → Setup
setup s = setup_of s.args.self.setup

abbrev world : Start → World
world s = world_of s.args.self.world s.args.page.now s.args.hold.now s.args.volume.now

abbrev completion : Start → Completion
completion s = completion_of s.args.completion

abbrev event : Start → events.Event
event s = events.completion (completion s) (left_of s.args.left)

-- where the call started
abbrev start : Else-not-world → Start
start c = (goal.at.Else-not-world c).Start

-- the power is on: it is a step of the completion
powered : (c : Else-not-world) {s : Step} → s ≡ completion_step (setup (start c)) (world (start c)) (completion (start c)) (left_of (start c).args.left)
    → s ≡ step (setup (start c)) (world (start c)) (event (start c))
powered c e = e ∙ sym (on (setup (start c)) (world (start c)) (event (start c)) (not-false _ c.if-not-world.false))

-- the completion is not of the operation under way
other : (c : Else-is_ended_by) → let s = start (goal.at.Else-is_ended_by c).Else-not-world in ends (completion s) (world s).operation ≡ false
other c = sym c.is_ended_by.ensures ∙ c.if-is_ended_by.false

pub returns-then-not-world : goal.returns-then-not-world
returns-then-not-world c =
    let s = (goal.at.returns-then-not-world c).Start in
    c.undelivered.ensures (setup s) _ _ _ ∙ sym (off (setup s) (world s) (event s) (not-true _ c.if-not-world.true))

pub returns-then-is_ended_by : goal.returns-then-is_ended_by
returns-then-is_ended_by c =
    let on = (goal.at.returns-then-is_ended_by c).Else-not-world in
    let s = start on in
    let a = s.args in
    let over : Step = step_of (setup s) c.end-over.result a.page.now a.hold.now c.end-over.new.volume in
    let due : ends (completion s) (world s).operation ≡ true = sym c.is_ended_by.ensures ∙ c.if-is_ended_by.true in
    let well = c.after.ensures ∙ ap (λ (t : Bool). left_after t (left_of a.left)) c.is_good.ensures in
    powered on
    (comes_due (setup s) (world s) (completion s) (left_of a.left) (left_of c.after.result) over (not-false _ c.if-not-world.false) due well
    (c.end-over.ensures _) c.complete.ensures)

pub returns-then-not-is_stray : goal.returns-then-not-is_stray
returns-then-not-is_stray c =
    let on = (goal.at.returns-then-not-is_stray c).Else-not-world in
    let else_ends = (goal.at.returns-then-not-is_stray c).Else-is_ended_by in
    let no = sym c.is_stray.ensures ∙ c.if-not-is_stray.true in
    powered on (rw (other else_ends, no) (c.undelivered-then-not-is_stray.ensures (setup (start on)) _ _ _))

pub returns : goal.returns
returns c =
    let on = (goal.at.returns c).Else-not-world in
    let yes = sym c.is_stray.ensures ∙ c.if-not-is_stray.false in
    powered on (rw (other (goal.at.returns c).Else-is_ended_by, yes) c.complete-2.ensures)
