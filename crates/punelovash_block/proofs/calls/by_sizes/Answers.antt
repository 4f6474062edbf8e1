-- `punelovash_block::calls::by_sizes` meets its contract.
use Rattle.std.proofs.Common.{sym, subst}
use Rattle.engine_state.specs.Log.{Setup}
use Rattle.punelovash_block.specs.Call.{AsIfLent}
use Rattle.punelovash_block.proofs.Blocks.{loaded_runs}
use Rattle.punelovash_block.proofs.calls.by_sizes.Goals as goal

pub returns-in-Some : goal.returns-in-Some
returns-in-Some g c x e run f =
    let n = c.as_if_lent-lent.ensures x (subst (λ (s : Setup). AsIfLent s x) (sym c.setup_at.ensures.0) e) in
    loaded_runs _ _ x run _ (sym c.in-Some.ensures) c.save.ensures (f _ _ _ n c.call.ensures)
