-- `bench_step::world::Bench::called` meets its contract.
use Rattle.std.proofs.Common.{◌≡◌, true, false, length, sym, ◌∙◌}
use Rattle.std.proofs.lemmas.Bool.{not-true, not-false}
use Rattle.engine_state.specs.Log.{Setup, setup_of}
use Rattle.bench_flash.specs.Event as events
use Rattle.bench_flash.specs.Event.{call_of}
use Rattle.bench.specs.World.{World}
use Rattle.bench_step.specs.Step.{world_of}
use Rattle.bench_step.proofs.Steps.{on, off}
use Rattle.bench_step.proofs.world.Bench.called.Goals as goal
use Rattle.bench_step.proofs.world.Bench.called.Goals.{Start}

abbrev setup : Start → Setup
setup s = setup_of s.args.self.setup

abbrev world : Start → World
world s = world_of s.args.self.world s.args.page.now s.args.hold.now s.args.volume.now

abbrev event : Start → events.Event
event s = events.call (call_of s.args.call s.args.bytes.now (length s.args.out.now))

pub returns-then-not-self : goal.returns-then-not-self
returns-then-not-self c =
    let s = (goal.at.returns-then-not-self c).Start in
    let power : c.args.self.world.power ≡ false = not-true _ c.if-not-self.true in
    (c.undelivered.ensures (setup s) _ _ _ ∙ sym (off (setup s) (world s) (event s) power), rw power)

pub returns : goal.returns
returns c =
    let s = (goal.at.returns c).Start in
    let a = c.args in
    let power : a.self.world.power ≡ true = not-false _ c.if-not-self.false in
    let given = c.call-given.ensures in
    let told = c.delivered.ensures a.page.now a.hold.now a.volume.now _ _ in
    (rw (on (setup s) (world s) (event s) power, sym given.0, sym (c.word.ensures a.bytes.now (length a.out.now))) told, rw power given.1)
