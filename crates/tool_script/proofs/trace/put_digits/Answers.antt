-- `tool_script::trace::put_digits` writes the digits of one byte more.
use Rattle.std.proofs.Common.{arith, refl}
use Rattle.tool_script.proofs.Digits.{two_written, digits_more}
use Rattle.tool_script.proofs.trace.put_digits.Goals as goal

pub loop-at-preserved : goal.loop-at-preserved
loop-at-preserved c =
    rw (two_written c.loop-at.out c.loop-at.at _ _ (omega arith), digits_more c.args.bytes.now c.loop-at.at c.loop-at-test.true)
    (rw (c.loop-at.invariant, c.hex_digit.ensures, c.hex_digit-in-loop-at.ensures) refl)
