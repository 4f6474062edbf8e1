-- `bench_run::entries::read_out` meets its contract.
use Rattle.std.proofs.Common.{arith, ◌∙◌}
use Rattle.bench_run.proofs.Compared.{same_fail}
use Rattle.bench_run.proofs.OutLaw.{sofar_goes, sofar_full, sofar_stops}
use Rattle.bench_run.proofs.entries.read_out.Goals as goal

pub loop-entry-preserved : goal.loop-entry-preserved
loop-entry-preserved c = sofar_goes c.loop-entry.invariant c.requires.0 c.in-Ok.ensures

pub overflow_add-used : goal.overflow_add-used
overflow_add-used c = let s = loop-entry-preserved c in omega (arith, s.fits, s.short)

pub overflow_add-used-in-Ok : goal.overflow_add-used-in-Ok
overflow_add-used-in-Ok c = let s = loop-entry-preserved c in omega (arith, s.fits, s.short)

pub returns-in-Err-NoRoom : goal.returns-in-Err-NoRoom
returns-in-Err-NoRoom c = sofar_full c.loop-entry.invariant (rw c.in-Err-NoRoom.field-0-is at c.in-Err-NoRoom.ensures)

pub returns-in-Err-Answered : goal.returns-in-Err-Answered
returns-in-Err-Answered c =
    sofar_stops c.loop-entry.invariant (c.eq-whole.ensures ∙ same_fail _) (rw c.in-Err-Answered.field-0-is at c.in-Err-Answered.ensures)
