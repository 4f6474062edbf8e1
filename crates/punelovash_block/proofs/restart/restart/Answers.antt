-- `punelovash_block::restart::restart` meets its contract.
use Rattle.std.proofs.Common.{ap, ◌∙◌}
use Rattle.engine_call.specs.Outcome.{lend}
use Rattle.engine_restart.specs.Restart.{RestartDone}
use Rattle.punelovash_block.specs.Call.{ran}
use Rattle.punelovash_block.proofs.Blocks.{has_size, started_same}
use Rattle.punelovash_block.proofs.restart.restart.Goals as goal

pub returns-in-Ok : goal.returns-in-Ok
returns-in-Ok g c =
    let a = c.args in
    let page = c.restart.new.pagebuffer in
    let done = c.still.ensures (lend a.volume.now page a.hold.now) in
    let same = started_same _ _ _ _ (ap (λ (d : RestartDone). d.answer) c.in-Ok.ensures) in
    let size = has_size _ c.if-block-block_size.false c.block_size.ensures in
    rw (size, ← c.WIDTH.ensures, ← c.in-Ok.ensures, ← same.0, ← same.1, ← same.2, ← c.save_setup.ensures, c.WIDTH.ensures)
    (c.save.ensures page a.hold.now ∙ ap (ran g.W.Word.WIDTH _) done)
