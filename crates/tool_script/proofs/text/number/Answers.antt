-- `tool_script::text::number`: digits are text, so that what is no text is no number.
use Rattle.std.proofs.Common.{◌≡◌, None, Ok, Err, Result, MatchResult, sym, ◌∙◌}
use Rattle.std.proofs.lemmas.Fmt.{IsAscii-from_digits}
use Rattle.std.proofs.lemmas.Str.{IsUtf8-from_ascii}
use Rattle.std.specs.Result.{result_ok}
use Rattle.tool_script.proofs.text.number.Goals as goal

-- what holds of an error, where there is one
at_error : {T E : Type 0} (P : Type 0) (Q : T → Type 0) (R : E → Type 0) (r : Result T E) → MatchResult r Q (λ e. P × R e) → result_ok r ≡ None → P
at_error P Q R (Ok x) h e = cc
at_error P Q R (Err x) h e = h.0

pub returns-in_err-ok-in_default-2 : goal.returns-in_err-ok-in_default-2
returns-in_err-ok-in_default-2 c =
    let none = sym c.ok.ensures.value ∙ c.in_err-ok-in_default-2.was in
    rw c.from_residual.ensures (λ h. at_error _ _ _ c.from_utf8.result c.from_utf8.ensures.cases none (IsUtf8-from_ascii _ (IsAscii-from_digits _ h.1.1)))
