-- `tool_script::trace::Trace::line`: what the value displays goes to an empty buffer, and a line feed after it.
use Rattle.std.proofs.Common.{◌≡◌, ◌∙◌, ◌++◌, ◌∷◌, [], ap, ℕ, List, Some, Result, Ok, Err, IfOk}
use Rattle.std.proofs.lemmas.Fmt.{contents_after_writes}
use Rattle.tool_script.proofs.trace.Trace.line.Goals as goal

-- what holds anyway holds where the outcome is good
if_ok : {T E : Type 0} {P : T → Type 0} (r : Result T E) → ((x : T) → P x) → IfOk r P
if_ok (Ok x) h = h x
if_ok (Err e) h = tt

pub returns : goal.returns
returns g c =
    let all : (text : List ℕ) → g.D.Display.output c.args.line ≡ Some text → c.writeln.new.self.bytes ≡ text ++ 10 ∷ []
    = λ text e. contents_after_writes _ (λ b. b.bytes) (λ w bs v h. h) c.clear.new.self _ c.writeln.new.self
    (rw e at c.in_ok-writeln.ensures.writes)
    ∙ ap (λ (s : List ℕ). s ++ (text ++ 10 ∷ [])) c.clear.ensures in
    if_ok _ (λ done. all)
