-- The words of a line, between which one space stands each.
use Rattle.std.specs.Prelude.{ℕ, List, [], ◌∷◌, false, cond, nat_eq, Option, None, Some, length, ◌≡◌, ◌<◌, ◌≤◌, ◌^◌, ◌*◌, ◌/◌, ◌%◌, ◌⊎◌, codes}
use Rattle.std.specs.Fmt.{digit_glyph}
use Rattle.std.specs.List.{flat_map}
use Rattle.std.specs.Borrow.{Bor}
use Rattle.std.specs.Str.Parse.{IsNumeral, digits_value}

-- a byte goes to the first word
abbrev pub lengthened : ℕ → List (List ℕ) → List (List ℕ)
lengthened c [] = (c ∷ []) ∷ []
lengthened c (w ∷ ws) = (c ∷ w) ∷ ws

-- the words of a text: one more than it has spaces
abbrev pub words_of : List ℕ → List (List ℕ)
words_of [] = [] ∷ []
words_of (c ∷ cs) = cond (nat_eq c 32) ([] ∷ words_of cs) (lengthened c (words_of cs))

-- the words of the text that is left, if any
abbrev pub words_left : Option (Bor (List ℕ)) → List (List ℕ)
words_left None = []
words_left (Some text) = words_of text.now

-- word is the first of the words that were left, and the others are left
abbrev pub IsTaken : List ℕ → Option (Bor (List ℕ)) → Option (Bor (List ℕ)) → Type 0
IsTaken word old new = words_left old ≡ word ∷ words_left new

-- 1 to 20 decimal digits, below 2^64
abbrev pub IsNumber : List ℕ → Type 0
IsNumber word = (length word ≤ 20) × IsNumeral 10 word × (digits_value 10 word < 2 ^ 64)

-- how many bytes BYTES say: `-` is none, and else two digits stand for each
abbrev pub IsBytes : List ℕ → ℕ → Type 0
IsBytes word n = ((word ≡ codes "-") × (n ≡ 0)) ⊎ ((0 < n) × (length word ≡ 2 * n))

-- a lower-case hexadecimal digit
abbrev pub hex_digit : ℕ → ℕ
hex_digit d = digit_glyph false d

-- the two digits of a byte
abbrev pub hex_digits : ℕ → List ℕ
hex_digits byte = hex_digit (byte / 16) ∷ hex_digit (byte % 16) ∷ []

-- BYTES: "two lower-case hexadecimal digits for each byte, or `-` for no bytes"
abbrev pub bytes_word : List ℕ → List ℕ
bytes_word [] = codes "-"
bytes_word (b ∷ bs) = flat_map hex_digits (b ∷ bs)
