-- `tool_script::trace::put_digits` writes from the left: the digits of the bytes that were passed stand in front.
use Rattle.std.proofs.Common.{◌≡◌, ◌*◌, take}
use Rattle.std.specs.List.{flat_map}
use Rattle.tool_script.specs.Words.{hex_digits}
use Rattle.tool_script.proofs.trace.put_digits.Given as goal

abbrev pub invariant-loop-at : goal.invariant-loop-at
invariant-loop-at l = take (2 * l.at) l.out ≡ flat_map hex_digits (take l.at l.bytes)
