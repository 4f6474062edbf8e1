-- Laws of what an operation leaves in its slot.
use Rattle.std.proofs.Common.{◌≡◌, ℕ, ◌+◌, ◌*◌, ◌-◌, ◌≤◌, Bool, true, false, ◌&&◌, List, ◌++◌, length, take, drop, replicate, refl, sym, ap, ◌∙◌, arith}
use Rattle.std.proofs.Common.{append_assoc, eq-eqb}
use borrow.Author.Tests.{leb-true, ne_eqb}
use borrow.Rule.Slice.PartMut.{put_mid, mid_of, mid_len, Post-is}
use lib.ListN.{length-replicate}
use Rattle.page.specs.Pick.{pick}
use Rattle.page.specs.Bytes.{pad_byte, overwrite}
use Rattle.page.specs.Slots.{put_slot}
use Rattle.bench_flash.specs.Flash.{slot_fits, in_slot, blank_page}

-- a slot of the volume takes P bytes
pub in_slot_lem : (p s : ℕ) (b volume : List ℕ) → slot_fits p s (length volume) ≡ true → length b ≡ p → in_slot p s b volume ≡ put_slot p s b volume
unfolding in_slot
in_slot_lem p s b volume f e = rw (f, eq-eqb (length b) p e)

-- a slot that the volume hasn't changes nothing
pub out_of_slot : (p s : ℕ) (b volume : List ℕ) → slot_fits p s (length volume) ≡ false → in_slot p s b volume ≡ volume
unfolding in_slot
out_of_slot p s b volume f = rw f

-- nor do bytes that are no page
pub no_page : (p s : ℕ) (b volume : List ℕ) → (length b ≡ p → ⊥) → in_slot p s b volume ≡ volume
unfolding in_slot
no_page p s b volume d = rw (ne_eqb (length b) p d) (neither (slot_fits p s (length volume)))
  where
    neither : (t : Bool) → pick (t && false) (put_slot p s b volume) volume ≡ volume
    neither true = refl
    neither false = refl

-- all 0xFF is a page
pub length_blank : (p : ℕ) → length (blank_page p) ≡ p
length_blank p = length-replicate p pad_byte

-- a part of the bytes that comes back changed
pub part_back : (bytes b : List ℕ) (a e : ℕ) → a ≤ e → length b ≡ e - a → put_mid a (e - a) bytes b ≡ overwrite bytes a b
unfolding overwrite
part_back bytes b a e h l =
    let end : a + length b ≡ e = omega arith in
    ap (λ (z : List ℕ). take a bytes ++ (b ++ z)) (Post-is a e bytes h ∙ ap (λ (n : ℕ). drop n bytes) (sym end))
    ∙ sym (append_assoc (take a bytes) b (drop (a + length b) bytes))

-- a slot filled with 0xFF
pub blanks : (p s : ℕ) (volume b : List ℕ) → slot_fits p s (length volume) ≡ true
    → b ≡ replicate (length (mid_of (s * p) (s * p + p - s * p) volume)) pad_byte
    → put_mid (s * p) (s * p + p - s * p) volume b ≡ in_slot p s (blank_page p) volume
unfolding put_slot
blanks p s volume b f e =
    let fits : s * p + p ≤ length volume = leb-true (s * p + p) (length volume) f in
    let long : length (mid_of (s * p) (s * p + p - s * p) volume) ≡ s * p + p - s * p = mid_len (s * p) (s * p + p) volume fits in
    let size : s * p + p - s * p ≡ p = omega arith in
    let all : b ≡ blank_page p = e ∙ ap (λ (n : ℕ). replicate n pad_byte) (long ∙ size) in
    part_back volume b (s * p) (s * p + p) (omega arith) (ap (λ (z : List ℕ). length z) all ∙ length_blank p ∙ sym size)
    ∙ ap (overwrite volume (s * p)) all
    ∙ sym (in_slot_lem p s (blank_page p) volume f (length_blank p))
