-- `punelovash_block::calls::sync` meets its contract.
use Rattle.engine_call.specs.Call.{sync}
use Rattle.engine_call.specs.Outcome.{lend}
use Rattle.punelovash_block.specs.Block.{word_from}
use Rattle.punelovash_block.proofs.Blocks.{loaded_runs}
use Rattle.punelovash_block.proofs.Misfits.{refused_calls}
use Rattle.punelovash_block.proofs.calls.sync.Goals as goal

pub returns-in-Ok : goal.returns-in-Ok
returns-in-Ok g c = rw (← c.word_from.ensures) (search (loaded_runs, c.in-Ok.ensures, c.save.ensures, c.sync-given.ensures))

pub returns-in-Err : goal.returns-in-Err
returns-in-Err g c =
    let a = c.args in
    let x = lend a.volume.now a.page.now a.hold.now in
    refused_calls _ _ x _ c.of.ensures c.in-Err.ensures c.refuse.ensures (sync (word_from a.word))
