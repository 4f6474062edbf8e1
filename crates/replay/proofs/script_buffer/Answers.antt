-- `replay::script_buffer` is as long as it says.
use Rattle.std.proofs.Common.{ℕ, sym}
use Rattle.std.proofs.lemmas.List.{length-replicate}
use Rattle.replay.proofs.script_buffer.Goals as goal

pub returns : goal.returns
returns c = sym (length-replicate {A = ℕ} 4194305 0)
