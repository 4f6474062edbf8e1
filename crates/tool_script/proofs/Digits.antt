-- The digits of bytes.
use Rattle.std.proofs.Common.{◌≡◌, ◌≢◌, ℕ, suc, zero, List, [], ◌∷◌, ◌++◌, ◌+◌, ◌*◌, ◌<◌, length, take, slice_index, slice_set, codes}
use Rattle.std.proofs.Common.{refl, ap, ◌∙◌, sym, arith, append_assoc}
use Rattle.std.proofs.lemmas.List.{length-set, take_more, take_more_set, flat_map_more}
use Rattle.std.proofs.lemmas.Grind.{common_steps}
use Rattle.std.specs.List.{flat_map}
use Rattle.tool_script.specs.Words.{hex_digits, bytes_word}

-- two digits for each byte
length_digits : (bytes : List ℕ) → length (flat_map hex_digits bytes) ≡ 2 * length bytes
length_digits [] = refl
length_digits (b ∷ bs) = let e = length_digits bs in omega (arith, e)

-- a word that is not `-` has two digits for each byte, and one byte at least
pub two_for_each : (word bytes : List ℕ) → word ≢ codes "-" → word ≡ bytes_word bytes
    → (0 < length bytes) × (length word ≡ 2 * length bytes) × (word ≡ flat_map hex_digits bytes)
two_for_each word [] h e = absurd (h e)
two_for_each word (b ∷ bs) h e = (omega arith, ap length e ∙ length_digits (b ∷ bs), e)

-- the digits of a byte stand in its place
pub digits_at : (bytes : List ℕ) (at : ℕ) → at < length bytes
    → slice_index (flat_map hex_digits bytes) (2 * at) ∷ slice_index (flat_map hex_digits bytes) (2 * at + 1) ∷ [] ≡ hex_digits (slice_index bytes at)
digits_at [] at h = grind arith
digits_at (b ∷ bs) zero h = refl
digits_at (b ∷ bs) (suc at) h = grind (arith, common_steps, digits_at bs at)

-- two digits more are written
pub two_written : (out : List ℕ) (at x y : ℕ) → 2 * at + 1 < length out
    → take (2 * (at + 1)) (slice_set (slice_set out (2 * at) x) (2 * at + 1) y) ≡ take (2 * at) out ++ (x ∷ y ∷ [])
two_written out at x y h =
    let two : 2 * (at + 1) ≡ 2 * at + 1 + 1 = omega arith in
    let l = length-set out (2 * at) x in
    rw (two, take_more_set (slice_set out (2 * at) x) (2 * at + 1) y (omega (arith, l)), take_more_set out (2 * at) x (omega arith))
    (append_assoc (take (2 * at) out) (x ∷ []) (y ∷ []))

-- the digits of one byte more
pub digits_more : (bytes : List ℕ) (at : ℕ) → at < length bytes
    → flat_map hex_digits (take (at + 1) bytes) ≡ flat_map hex_digits (take at bytes) ++ hex_digits (slice_index bytes at)
digits_more bytes at h = rw (take_more bytes at 0 h) (sym (flat_map_more hex_digits [] (take at bytes) (slice_index bytes at)))
