-- `bench_flash::operation::Slot::blank` meets its contract.
use Rattle.std.proofs.Common.{sym, ◌∙◌}
use Rattle.bench_flash.proofs.Slots.{out_of_slot, blanks}
use Rattle.bench_flash.proofs.operation.Slot.blank.Goals as goal

pub returns-then-fits : goal.returns-then-fits
returns-then-fits c = blanks _ _ _ _ (sym c.fits.ensures ∙ c.if-fits.true) (c.fill.ensures.after (λ y e. e))

pub returns-else-fits : goal.returns-else-fits
returns-else-fits c = sym (out_of_slot _ _ _ _ (sym c.fits.ensures ∙ c.if-fits.false))
