-- `tool_print::print::Row` prints the numbers from the left.
use Rattle.std.proofs.Common.{◌∙◌, ◌++◌, [], ◌∷◌, ap, sym, take, Ok}
use Rattle.std.proofs.Output.{displays_on_IsOk_append}
use Rattle.std.proofs.lemmas.List.{take_more}
use Rattle.tool_print.proofs.Rows.{row_more}
use Rattle.tool_print.proofs.print.RowDisplay.fmt.Goals as goal

pub loop-n-preserved : goal.loop-n-preserved
loop-n-preserved g c =
    let items = c.args.self.now.0.now in
    let passed = take c.loop-n.n-index items in
    let n = c.n-item.result in
    let more = take_more items c.loop-n.n-index n c.loop-n-test.true ∙ ap (λ m. passed ++ m ∷ []) (sym c.n-item.is) in
    rw (more, row_more g.T.Display.output passed n)
    (displays_on_IsOk_append _ _ _ _ (Ok tt) (Ok tt) _ _ (λ ok. ok) c.loop-n.invariant c.in_ok-write.ensures.writes)
