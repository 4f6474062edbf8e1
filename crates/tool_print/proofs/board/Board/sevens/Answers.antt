-- `tool_print::board::Board::sevens` writes the first n of 64 sevens, which are n sevens.
use Rattle.std.proofs.Common.{◌∙◌, ap, refl}
use Rattle.std.proofs.lemmas.List.{take-replicate}
use Rattle.page.specs.Bytes.{overwrite}
use Rattle.page.specs.Layout.{encode}
use Rattle.tool_print.proofs.board.Board.sevens.Goals as goal

pub returns-then-self-n-clause-fits : goal.returns-then-self-n-clause-fits
returns-then-self-n-clause-fits c h _ =
    let a = c.args in
    (refl, c.write_entry.ensures ∙ ap (λ b. overwrite a.page.now a.at (encode a.self.width.bytes b)) (take-replicate a.n 64 7 h))
