-- A list of events as bytes: the first event, how many bytes it takes up, and those that come after it.
use Rattle.std.proofs.Common.{◌≡◌, ℕ, zero, suc, ◌+◌, ◌≤◌, Bool, true, false, List, [], ◌∷◌, length, drop, Some, None, refl, ap, ◌∙◌, arith}
use Rattle.std.proofs.Common.{leb-true}
use Rattle.page.specs.Pick.{pick}
use Rattle.page.specs.Word.{word_at}
use Rattle.bench_run.specs.Encoded.{event_size, holds_event, event_at, decode}

size_some : (s : List ℕ) → 14 ≤ event_size s
unfolding event_size
size_some s = omega arith

complete_fits : (s : List ℕ) → holds_event s ≡ true → event_size s ≤ length s
unfolding holds_event
complete_fits s e = leb-true _ _ e

decode_skip : (room n : ℕ) (s : List ℕ) → decode room n s ≡ decode room 0 (drop n s)
unfolding decode
decode_skip room zero s = refl
decode_skip room (suc n) [] = refl
decode_skip room (suc n) (b ∷ s) = decode_skip room n s

-- the events of bytes, by the first
pub decode_first : (room : ℕ) (s : List ℕ) → holds_event s ≡ true → decode room 0 s ≡ event_at room s ∷ decode room 0 (drop (event_size s) s)
unfolding decode event_size
decode_first room [] e = absurd (omega (arith, complete_fits [] e, size_some []))
decode_first room (b ∷ s) e =
    let n = 13 + word_at 4 (b ∷ s) 10 in
    let size : suc n ≡ event_size (b ∷ s) = omega arith in
    rw e (ap (λ l. event_at room (b ∷ s) ∷ l) (decode_skip room n s ∙ ap (λ m. decode room 0 (drop m (b ∷ s))) size))

pub decode_none : (room : ℕ) (s : List ℕ) → holds_event s ≡ false → decode room 0 s ≡ []
unfolding decode
decode_none room [] e = refl
decode_none room (b ∷ s) e = rw e

-- what `event_size` says: no event is whole, or one is
pub size_none : (s : List ℕ) → None ≡ pick (holds_event s) (Some (event_size s)) None → holds_event s ≡ false
size_none s e = go (holds_event s) refl
  where
    go : (t : Bool) → holds_event s ≡ t → holds_event s ≡ false
    go false q = q
    go true q = let f : None ≡ Some (event_size s) = e ∙ ap (λ t. pick t (Some (event_size s)) None) q in cc

pub record Whole (s : List ℕ) (r : ℕ) : Type 0 where
  pub all : holds_event s ≡ true
  pub is : r ≡ event_size s
  pub head : 14 ≤ r
  pub fits : r ≤ length s

pub size_found : (s : List ℕ) (r : ℕ) → Some r ≡ pick (holds_event s) (Some (event_size s)) None → Whole s r
size_found s r e = go (holds_event s) refl
  where
    go : (t : Bool) → holds_event s ≡ t → Whole s r
    go true q =
        let f : Some r ≡ Some (event_size s) = e ∙ ap (λ t. pick t (Some (event_size s)) None) q in
        let is : r ≡ event_size s = cc in
        record { all = q; is = is; head = omega (arith, size_some s); fits = omega (arith, complete_fits s q) }
    go false q = let f : Some r ≡ None = e ∙ ap (λ t. pick t (Some (event_size s)) None) q in absurd cc
