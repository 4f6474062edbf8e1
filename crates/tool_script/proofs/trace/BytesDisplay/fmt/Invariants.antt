-- `tool_script::trace::Bytes` prints a block at a time: what is written and the digits of the bytes that are left are those of all.
use Rattle.std.proofs.Common.{◌≡◌, ℕ, List, ◌++◌}
use Rattle.std.specs.Fmt.{HasWritten, IsPlainFormatter}
use Rattle.std.specs.List.{flat_map}
use Rattle.std.specs.Slice.Iter.{chunks_rest, chunks_size}
use Rattle.tool_script.specs.Words.{hex_digits}
use Rattle.tool_script.proofs.trace.BytesDisplay.fmt.Given as goal

abbrev pub invariant-loop-bytes : goal.invariant-loop-bytes
invariant-loop-bytes g l =
    (goal.iterator-loop-bytes g).can_next l.bytes-iterator
    × (goal.iterator-loop-bytes g).is_finite l.bytes-iterator
    × (chunks_size l.bytes-iterator ≡ 64)
    × (IsPlainFormatter l.initial.f → (done : List ℕ) × HasWritten g.W.Write.write_str_gives l.initial.f done l.f
    × (done ++ flat_map hex_digits (chunks_rest l.bytes-iterator) ≡ flat_map hex_digits l.fn.self.0.now))
