-- `bench_step::world::Bench::restart_with` meets its contract.
use Rattle.std.proofs.Common.{◌≡◌, Bool, true, false, length, ◌∙◌}
use Rattle.engine_state.specs.Log.{Setup, setup_of}
use Rattle.engine_state.specs.Check.{shape_fits}
use Rattle.engine_restart.specs.Restart as recovery
use Rattle.bench_flash.specs.Event as events
use Rattle.bench_flash.specs.Event.{Restart, restart_of}
use Rattle.bench.specs.World.{World, Step, step}
use Rattle.bench_step.specs.Step.{world_of, step_of, restarts_after}
use Rattle.bench_step.proofs.Steps.{cut_first, starts_anew, unlike, alike}
use Rattle.bench_step.proofs.world.Bench.restart_with.Goals as goal
use Rattle.bench_step.proofs.world.Bench.restart_with.Goals.{After-cut-off, Start}
use Rattle.bench_step.proofs.world.Bench.restart_with.Goals.{then-restart-page-via-then-restart-page, then-restart-page-via-else-restart-page+then-bytes-page}

abbrev setup : Start → Setup
setup s = setup_of s.args.self.setup

abbrev world : Start → World
world s = world_of s.args.self.world s.args.page.now s.args.hold.now s.args.volume.now

abbrev restart : Start → Restart
restart s = restart_of s.args.restart s.args.bytes.now

-- where the call started, and the cut
abbrev start : After-cut-off → Start
start c = (goal.at.After-cut-off c).Start

abbrev over : After-cut-off → Step
over c = let s = start c in step_of (setup s) c.cut-off.result s.args.page.now s.args.hold.now c.cut-off.new.volume

-- a restart after it
restarted : (c : After-cut-off) {s : Step} → s ≡ restarts_after (setup (start c)) (over c) (restart (start c))
    → s ≡ step (setup (start c)) (world (start c)) (events.restart (restart (start c)))
restarted c = let s = start c in cut_first (setup s) (world s) (restart s) (over c) (c.cut-off.ensures s.args.hold.now)

-- whether SHAPE lets the new buffers through
abbrev Shaped : After-cut-off → Bool → Type 0
Shaped c t =
    let r = restart (start c) in
    shape_fits (setup (start c)) (length (over c).world.volume) (length r.page) (length r.hold) ≡ t

-- it let the old buffers through
fits : (c : After-cut-off) → shape_fits (setup (start c)) (length (over c).world.volume) (length (over c).world.page) (length (over c).world.hold) ≡ true
fits c = rw c.cut-off.auto.volume (start c).requires

pub returns-then-restart-page : goal.returns-then-restart-page
unfolding recovery.restart
returns-then-restart-page c =
    let after_cut = (goal.at.returns-then-restart-page c).After-cut-off in
    let s = start after_cut in
    let other = unlike (setup s) _ _ _ s.args.restart.size s.args.bytes.now (fits after_cut) in
    let shaped : Shaped after_cut false = elim c.then-restart-page.branch [
      | then-restart-page-via-then-restart-page w ↦ other (λ p b. w.if-restart-page.true p)
      | then-restart-page-via-else-restart-page+then-bytes-page w ↦ other (λ p b. w.if-bytes-page.true b)
    ] in
    restarted after_cut (rw shaped (c.refused.ensures (setup s) _ _ _))

pub returns : goal.returns
returns c =
    let after_cut = (goal.at.returns c).After-cut-off in
    let s = start after_cut in
    let a = s.args in
    let shaped = alike (setup s) _ _ _ a.restart.size a.bytes.now (fits after_cut) c.if-restart-page.false c.if-bytes-page.false in
    restarted after_cut
    (starts_anew (setup s) (over after_cut).world (over after_cut).told (restart s) shaped
    (c.copy_from_slice.ensures.after ∙ c.split_at.ensures.front) (c.copy_from_slice-2.ensures.after ∙ c.split_at.ensures.back)
    (c.restart.ensures (restart s).left))
