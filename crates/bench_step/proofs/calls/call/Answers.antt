-- `bench_step::calls::call` meets its contract.
use Rattle.std.proofs.Common.{sym}
use Rattle.engine_call.specs.Outcome.{Lent, Lengths, lend}
use Rattle.bench_step.proofs.calls.call.Goals as goal
use Rattle.bench_step.proofs.calls.call.Goals.{After-of-lent}

abbrev lent : After-of-lent → Lent
lent c = lend c.args.volume.now c.args.page.now c.args.hold.now

-- what is lent has the lengths that are told
lengths : (c : After-of-lent) → let n = c.of-lent.result in Lengths (lent c) n.volume n.page n.hold
lengths c = let e = c.of-lent.ensures in (sym e.0, sym e.1, sym e.2)

pub returns-in-Seek : goal.returns-in-Seek
returns-in-Seek c =
    let told = (goal.at.returns-in-Seek c).After-of-lent in
    (rw c.in-Seek.is (c.seek.ensures (lent told) (lengths told)), rw c.in-Seek.is)

pub returns-in-Deferred : goal.returns-in-Deferred
returns-in-Deferred c =
    let told = (goal.at.returns-in-Deferred c).After-of-lent in
    (rw c.in-Deferred.is (c.handle_deferred_call.ensures (lent told) (lengths told)), rw c.in-Deferred.is)

pub returns-in-Erase : goal.returns-in-Erase
returns-in-Erase c =
    let told = (goal.at.returns-in-Erase c).After-of-lent in
    (rw c.in-Erase.is (c.erase.ensures (lent told) (lengths told)), rw c.in-Erase.is)
