-- `bench_step::world::Bench::end` meets its contract.
use Rattle.engine_state.specs.Log.{setup_of}
use Rattle.bench_step.proofs.world.Bench.end.Goals as goal

pub returns-in_default : goal.returns-in_default
returns-in_default c hold = rw c.in_default.is (c.told.ensures (setup_of c.args.self.setup) _ hold _)

pub returns-in-Write : goal.returns-in-Write
returns-in-Write c hold =
    rw (c.in-Some.is, c.in-Write.is, c.end_write.ensures) (c.told-in-Write.ensures (setup_of c.args.self.setup) _ hold _)

pub returns-in-Erase : goal.returns-in-Erase
returns-in-Erase c hold =
    rw (c.in-Some.is, c.in-Erase.is, c.end_erase.ensures) (c.told-in-Erase.ensures (setup_of c.args.self.setup) _ hold _)
