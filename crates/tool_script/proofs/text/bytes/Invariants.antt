-- `tool_script::text::bytes` reads the digits from the left: those that were passed are the digits of the bytes that stand in front.
use Rattle.std.proofs.Common.{◌≡◌, ◌*◌, take}
use Rattle.std.specs.List.{flat_map}
use Rattle.tool_script.specs.Words.{hex_digits}
use Rattle.tool_script.proofs.text.bytes.Given as goal

abbrev pub invariant-loop-at : goal.invariant-loop-at
invariant-loop-at l = take (2 * l.at) l.word ≡ flat_map hex_digits (take l.at l.out)
