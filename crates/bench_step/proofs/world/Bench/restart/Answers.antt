-- `bench_step::world::Bench::restart` meets its contract.
use Rattle.std.proofs.Common.{sym}
use Rattle.engine_state.specs.Log.{setup_of}
use Rattle.engine_call.specs.Outcome.{lend}
use Rattle.bench_step.proofs.Steps.{refused_keeps}
use Rattle.bench_step.proofs.world.Bench.restart.Goals as goal

pub returns-in-Ok : goal.returns-in-Ok
returns-in-Ok c left = rw (sym c.in-Ok.ensures) (c.told.ensures (setup_of c.args.self.setup) _ _ _)

pub returns-in-Err : goal.returns-in-Err
returns-in-Err c left =
    let a = c.args in
    let g = setup_of a.self.setup in
    let is = sym c.in-Err.ensures in
    rw (is, refused_keeps g a.clients.read a.clients.append (lend a.volume.now a.page.now a.hold.now) is) (c.refused.ensures g _ _ _)
