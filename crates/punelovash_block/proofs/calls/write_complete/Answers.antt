-- `punelovash_block::calls::write_complete` meets its contract.
use Rattle.engine_call.specs.Call.{write_ended}
use Rattle.engine_call.specs.Outcome.{lend}
use Rattle.punelovash_block.specs.Block.{is_set}
use Rattle.punelovash_block.proofs.Blocks.{loaded_runs}
use Rattle.punelovash_block.proofs.Misfits.{refused_completes}
use Rattle.punelovash_block.proofs.calls.write_complete.Goals as goal

pub returns-in-Ok : goal.returns-in-Ok
returns-in-Ok g c = search (loaded_runs, c.in-Ok.ensures, c.save.ensures, c.write_complete-given.ensures)

pub returns-in-Err : goal.returns-in-Err
returns-in-Err g c =
    let a = c.args in
    let x = lend a.volume.now a.page.now a.hold.now in
    refused_completes _ _ x _ c.of.ensures c.in-Err.ensures c.refuse.ensures (write_ended (is_set a.good))
