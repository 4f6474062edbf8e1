-- `tool_print::board::Board::ceiling` lies above the last page's size, whatever the width.
use Rattle.std.proofs.Common.{arith}
use Rattle.page.proofs.Kit.{wide}
use Rattle.tool_print.proofs.board.Board.ceiling.Goals as goal

pub returns-clause-least : goal.returns-clause-least
returns-clause-least c = omega (arith, c.ceiling.ensures, wide c.args.self.width.fits)
