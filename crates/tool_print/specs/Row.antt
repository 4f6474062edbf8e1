-- What a row prints.
use Rattle.std.specs.Prelude.{List, [], ◌∷◌, ℕ, Option, Some, codes}
use Rattle.std.specs.Fmt.{◌++?◌}

-- a space and the number, for each number
abbrev pub row_text : {T : Type 0} → (T → Option (List ℕ)) → List T → Option (List ℕ)
row_text number [] = Some []
row_text number (n ∷ ns) = Some (codes " ") ++? number n ++? row_text number ns
