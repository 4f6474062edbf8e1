-- `tool_print::print::Row` prints the numbers from the left: those that were passed are written.
use Rattle.std.proofs.Common.{take, Ok}
use Rattle.std.specs.Fmt.{DisplaysOnOk}
use Rattle.tool_print.specs.Row.{row_text}
use Rattle.tool_print.proofs.print.RowDisplay.fmt.Given as goal

abbrev pub invariant-loop-n : goal.invariant-loop-n
invariant-loop-n g l =
    DisplaysOnOk g.W.Write.write_str_gives l.initial.f (Ok tt) (row_text g.T.Display.output (take l.n-index l.n-items)) l.f
