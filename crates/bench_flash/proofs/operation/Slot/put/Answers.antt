-- `bench_flash::operation::Slot::put` meets its contract.
use Rattle.std.proofs.Common.{sym, ◌∙◌}
use Rattle.page.specs.Slots.{put_slot}
use Rattle.bench_flash.proofs.Slots.{in_slot_lem, out_of_slot, no_page}
use Rattle.bench_flash.proofs.operation.Slot.put.Goals as goal
use Rattle.bench_flash.proofs.operation.Slot.put.Goals.{else-fits-via-then-fits+else-page-self, else-fits-via-else-fits}

pub returns-then-page-self : goal.returns-then-page-self
unfolding put_slot
returns-then-page-self c =
    c.copy_in.ensures ∙ sym (in_slot_lem _ _ _ _ (sym c.fits.ensures ∙ c.if-fits.true) c.if-page-self.true)

pub returns-else-fits : goal.returns-else-fits
returns-else-fits c =
    elim c.else-fits.branch [
      | else-fits-via-then-fits+else-page-self w ↦ sym (no_page _ _ _ _ w.if-page-self.false)
      | else-fits-via-else-fits w ↦ sym (out_of_slot _ _ _ _ (sym c.fits.ensures ∙ w.if-fits.false))
    ]
