-- `tool_script::words::Words::next`: the first word is given, and the others are left.
use Rattle.std.proofs.Common.{sym, ◌∙◌, ap, arith, length}
use Rattle.tool_script.proofs.FirstWord.{without_space, with_space}
use Rattle.tool_script.specs.Words.{words_left}
use Rattle.tool_script.proofs.words.WordsIterator.next.Goals as goal

pub returns-in_default-clause-steps : goal.returns-in_default-clause-steps
returns-in_default-clause-steps c =
    ap words_left c.in_ok-text.was ∙ without_space _ (sym c.space.ensures ∙ c.in_default.is)

pub returns-in_default-clause-goes : goal.returns-in_default-clause-goes
returns-in_default-clause-goes c =
    let e = ap length (returns-in_default-clause-steps c) in
    record { on = λ f. (tt, tt, omega (arith, e)); keeps = tt; rests = λ f. tt }

pub returns-clause-steps : goal.returns-clause-steps
returns-clause-steps c =
    ap words_left c.in_ok-text.was ∙ with_space _ _ (sym c.space.ensures ∙ c.in-Some.is)

pub returns-clause-goes : goal.returns-clause-goes
returns-clause-goes c =
    let e = ap length (returns-clause-steps c) in
    record { on = λ f. (tt, tt, omega (arith, e)); keeps = tt; rests = λ f. tt }
