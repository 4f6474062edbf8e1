-- `punelovash_block::calls::erase_complete` meets its contract.
use Rattle.engine_call.specs.Call.{erase_ended}
use Rattle.engine_call.specs.Outcome.{lend}
use Rattle.punelovash_block.specs.Block.{is_set, word_from}
use Rattle.punelovash_block.proofs.Blocks.{loaded_runs}
use Rattle.punelovash_block.proofs.Misfits.{refused_completes}
use Rattle.punelovash_block.proofs.calls.erase_complete.Goals as goal

pub returns-in-Ok : goal.returns-in-Ok
returns-in-Ok g c = rw (← c.word_from-said.ensures) (search (loaded_runs, c.in-Ok.ensures, c.save.ensures, c.erase_complete-given.ensures))

pub returns-in-Err : goal.returns-in-Err
returns-in-Err g c =
    let a = c.args in
    let x = lend a.volume.now a.page.now a.hold.now in
    refused_completes _ _ x _ c.of.ensures c.in-Err.ensures c.refuse.ensures (erase_ended (is_set a.good) (word_from a.word))
