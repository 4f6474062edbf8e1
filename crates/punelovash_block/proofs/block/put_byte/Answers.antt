-- `punelovash_block::block::put_byte` meets its contract.
use mathlib.Core.List.{[], ◌∷◌}
use Rattle.page.proofs.Overwrites.{stores_overwrite}
use Rattle.punelovash_block.proofs.block.put_byte.Goals as goal

pub returns : goal.returns
returns c = stores_overwrite c.args.block.now c.args.at (c.args.byte ∷ []) c.requires
