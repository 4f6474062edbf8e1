-- `bench_step::world::Bench::complete` meets its contract.
use Rattle.std.proofs.Common.{sym}
use Rattle.bench_step.proofs.world.Bench.complete.Goals as goal

pub returns : goal.returns
returns c =
    let a = c.args in
    rw (sym c.complete-given.ensures, sym c.word.ensures) (c.delivered.ensures a.page.now a.hold.now a.volume.now _ _)
