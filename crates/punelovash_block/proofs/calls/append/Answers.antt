-- `punelovash_block::calls::append` meets its contract.
use Rattle.engine_call.specs.Call.{append}
use Rattle.engine_call.specs.Outcome.{lend}
use Rattle.punelovash_block.specs.Block.{word_from}
use Rattle.punelovash_block.proofs.Blocks.{loaded_runs}
use Rattle.punelovash_block.proofs.Misfits.{refused_calls}
use Rattle.punelovash_block.proofs.calls.append.Goals as goal

pub returns-in-Ok : goal.returns-in-Ok
returns-in-Ok g c = rw (← c.word_from-said.ensures) (search (loaded_runs, c.in-Ok.ensures, c.save.ensures, c.append-given.ensures))

pub returns-in-Err : goal.returns-in-Err
returns-in-Err g c =
    let a = c.args in
    let x = lend a.volume.now a.page.now a.hold.now in
    refused_calls _ _ x _ c.of.ensures c.in-Err.ensures c.refuse.ensures (append a.data.now a.length (word_from a.word))
