-- Laws of rows: the text of one number more.
use Rattle.std.proofs.Common.{◌≡◌, ℕ, List, [], ◌∷◌, ◌++◌, Option, Some, None, sym, ap, ◌∙◌, refl, append-nil, codes}
use Rattle.std.proofs.Output.{then_text_assoc}
use Rattle.std.specs.Fmt.{option_append}
use Rattle.tool_print.specs.Row.{row_text}

nothing_after : (o : Option (List ℕ)) → option_append o (Some []) ≡ o
nothing_after None = refl
nothing_after (Some a) = ap Some (append-nil a)

nothing_before : (o : Option (List ℕ)) → option_append (Some []) o ≡ o
nothing_before None = refl
nothing_before (Some a) = refl

pub row_more : {T : Type 0} (number : T → Option (List ℕ)) (ns : List T) (n : T)
    → row_text number (ns ++ n ∷ []) ≡ option_append (row_text number ns) (option_append (Some (codes " ")) (number n))
row_more number [] n = ap (option_append (Some (codes " "))) (nothing_after (number n)) ∙ sym (nothing_before _)
row_more number (m ∷ ns) n =
    ap (λ o. option_append (Some (codes " ")) (option_append (number m) o)) (row_more number ns n)
    ∙ ap (option_append (Some (codes " "))) (sym (then_text_assoc (number m) (row_text number ns) _))
    ∙ sym (then_text_assoc (Some (codes " ")) (option_append (number m) (row_text number ns)) _)
