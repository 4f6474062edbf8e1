-- The first word of a text, by its first space.
use Rattle.std.proofs.Common.{ℕ, List, [], ◌∷◌, not, nat_eq, Some, None, length, take, drop, ◌≡◌, ◌+◌, ◌-◌, ◌<◌, ◌≤◌, arith, refl}
use Rattle.std.specs.List.{prefix_len, position}
use Rattle.std.proofs.lemmas.Grind.{common_steps}
use Rattle.std.proofs.lemmas.List.{take_rest}
use Rattle.tool_script.specs.Words.{words_of}

-- how many bytes stand before the first space
abbrev first_len : List ℕ → ℕ
first_len text = prefix_len (λ c. not (nat_eq c 32)) text

one_word : (text : List ℕ) → length text ≤ first_len text → words_of text ≡ text ∷ []
one_word [] h = refl
one_word (c ∷ cs) h = grind (arith, common_steps, one_word cs)

first_word : (text : List ℕ) → first_len text < length text → words_of text ≡ take (first_len text) text ∷ words_of (drop (first_len text + 1) text)
first_word [] h = grind arith
first_word (c ∷ cs) h = grind (arith, common_steps, first_word cs)

-- a text without a space is one word
pub without_space : (text : List ℕ) → position (λ c. nat_eq c 32) text ≡ None → words_of text ≡ text ∷ []
without_space text h = grind (arith, common_steps, one_word text)

-- what stands before the first space is the first word, and the words of what stands after it are the others
pub with_space : (text : List ℕ) (k : ℕ) → position (λ c. nat_eq c 32) text ≡ Some k →
    words_of text ≡ take k text ∷ words_of (take (length text - (k + 1)) (drop (k + 1) text))
with_space text k h = rw (take_rest text (k + 1)) (grind (arith, common_steps, first_word text))
