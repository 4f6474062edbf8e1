-- `punelovash_block::calls::read` meets its contract.
use Rattle.std.proofs.Common.{length}
use Rattle.engine_call.specs.Call.{read}
use Rattle.engine_call.specs.Outcome.{lend}
use Rattle.punelovash_block.proofs.Blocks.{loaded_runs}
use Rattle.punelovash_block.proofs.Misfits.{refused_calls, refused_reads}
use Rattle.punelovash_block.proofs.calls.read.Goals as goal

pub returns-in-Ok : goal.returns-in-Ok
returns-in-Ok g c = (search (loaded_runs, c.in-Ok.ensures, c.save.ensures, c.read-given.ensures.0), rw c.in-Ok.ensures c.read-given.ensures.1)

pub returns-in-Err : goal.returns-in-Err
returns-in-Err g c =
    let a = c.args in
    let x = lend a.volume.now a.page.now a.page.now in (
      refused_calls _ _ x _ c.of.ensures c.in-Err.ensures c.refuse.ensures (read (length a.buffer.now) a.length),
      refused_reads _ _ x _ c.of.ensures c.in-Err.ensures a.buffer.now a.length,
    )
