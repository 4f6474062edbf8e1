-- `punelovash_block::block::refuse_shape` meets its contract.
use Rattle.std.proofs.Common.{sym}
use Rattle.engine_state.specs.Answer.{SHAPE}
use Rattle.engine_call.specs.Outcome.{still}
use Rattle.punelovash_block.proofs.Blocks.{loaded_runs}
use Rattle.punelovash_block.proofs.block.refuse_shape.Goals as goal

pub returns-in-Some : goal.returns-in-Some
returns-in-Some g c x m = loaded_runs _ _ x (λ l. still l x SHAPE) _ (sym c.in-Some.ensures) c.save.ensures (c.still.ensures x)
