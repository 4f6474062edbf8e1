-- `tool_script::parse::walk` meets its contract.
use Rattle.std.proofs.Common.{◌≤◌, length, take, arith}
use Rattle.std.proofs.lemmas.Grind.{common_steps}
use Rattle.tool_script.proofs.parse.walk.Goals as goal

pub returns : goal.returns
returns g c h =
    let bound : length (take c.bytes.new.buffer.len c.bytes.new.buffer.bytes) ≤ 4096 = rw (← c.as_slice.ensures) (omega arith) in
    (bound, grind (arith, common_steps, h, c.in_ok-bytes.ensures.values))
