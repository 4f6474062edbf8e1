-- An append that doesn't fit in its page is one whose next page may be opened.
use Prim.Native.Nat.{ℕ, ◌+◌, ◌*◌, ◌-◌, ◌/◌, ◌%◌, ◌≤◌, ◌<◌}
use mathlib.Core.Path.{◌≡◌, refl}
use mathlib.Core.Bool.{Bool, true, false, not, ◌&&◌, ◌||◌}
use mathlib.Core.Logic.{◌⊎◌, inl, inr}
use mathlib.Core.Option.{none}
use native.Mathlib.Omega.{arith}
use native.Mathlib.Nat.{mul-le-mul_right}
use lib.Dec.{ltb, leb, eqb}
use borrow.Author.Tests.{ltb-false, leb-false, eqb-true, le-ltb, lt-leb}
use Rattle.page.specs.Sizes.{ceiling}
use Rattle.page.specs.Id.{round_up}
use Rattle.page.proofs.Kit.{facts, parts, pages_lt}
use Rattle.engine_state.specs.Log.{Setup, Log}
use Rattle.engine_state.specs.Check.{Sized}
use Rattle.engine_state.specs.Open.{may_open}
use Rattle.engine_call.specs.Outcome.{first_of}
use Rattle.engine_write.specs.Append.{fits_page, append_checks}
use Rattle.engine_write.proofs.AppendLaws.{accepted}

-- a page below the ceiling that, in a plain log, lies in the volume may be opened
opens_may : (g : Setup) (a : ℕ) → round_up g.p a < ceiling g.w → (g.circular ≡ true) ⊎ (a + g.p ≤ g.n * g.p) → may_open g a ≡ true
unfolding may_open
opens_may g a h r = rw (lt-leb (ceiling g.w) (round_up g.p a) h) (go g.circular r)
  where
    go : (c : Bool) → (c ≡ true) ⊎ (a + g.p ≤ g.n * g.p) → not ((not c && ltb (g.n * g.p) (a + g.p)) || false) ≡ true
    go true r = refl
    go false (inl e) = let z : ◌≡◌ {A = ℕ} 0 1 = cc in absurd (omega arith)
    go false (inr e) = rw (le-ltb (g.n * g.p) (a + g.p) e)

-- an entry that doesn't fit in the page: there is none, or the entry is past its end
pub unfit_page : (l : Log) (n : ℕ) → fits_page l n ≡ false → (l.append % l.setup.p ≡ 0) ⊎ (l.setup.p < l.append % l.setup.p + (n + l.setup.w))
unfolding fits_page
unfit_page l n e = go (eqb (l.append % l.setup.p) 0) refl (leb (n + l.setup.w) (l.setup.p - l.append % l.setup.p)) refl e
  where
    go : (b : Bool) → eqb (l.append % l.setup.p) 0 ≡ b → (c : Bool) → leb (n + l.setup.w) (l.setup.p - l.append % l.setup.p) ≡ c
        → (not b && c) ≡ false → (l.append % l.setup.p ≡ 0) ⊎ (l.setup.p < l.append % l.setup.p + (n + l.setup.w))
    go true x c y q = inl (eqb-true _ _ x)
    go false x true y q = let z : ◌≡◌ {A = ℕ} 0 1 = cc in absurd (omega arith)
    go false x false y q = inr (omega (arith, leb-false (n + l.setup.w) (l.setup.p - l.append % l.setup.p) y))

-- where an entry that doesn't fit in the page at a ends in the volume, so does a page from a on
page_inside : (n a k w : ℕ) {p : ℕ} → 0 < p → 0 < k → (a % p ≡ 0) ⊎ (p < a % p + (k + w)) → a + k + w ≤ n * p → a + p ≤ n * p
page_inside n a k w {p} h s (inl e) i =
    let d = parts a h in
    let z : a / p < n = pages_lt (a / p) n p {x = a} (omega arith) (omega arith) in
    omega (arith, mul-le-mul_right {m = a / p + 1} {n = n} p (omega arith))
page_inside n a k w {p} h s (inr e) i =
    let d = parts a h in
    let z : a / p + 1 < n = pages_lt (a / p + 1) n p {x = a / p * p + p} (omega arith) (omega arith) in
    omega (arith, mul-le-mul_right {m = a / p + 2} {n = n} p (omega arith))

-- an append that passes its checks and doesn't fit in the page is one whose next page may be opened
pub append_may : (l : Log) (room n : ℕ) → Sized l.setup → first_of (append_checks l room n) ≡ none → fits_page l n ≡ false
    → may_open l.setup l.append ≡ true
append_may l room n z e u =
    let f = facts z in
    let a = accepted l room n e in
    let below : leb (ceiling l.setup.w) (round_up l.setup.p l.append) ≡ false = rw u at a.below in
    opens_may l.setup l.append (leb-false _ _ below) (go l.setup.circular f.page a.some_bytes a.in_volume)
  where
    go : (b : Bool) → 0 < l.setup.p → 0 < n → (not b && ltb (l.setup.n * l.setup.p) (l.append + n + l.setup.w)) ≡ false
        → (b ≡ true) ⊎ (l.append + l.setup.p ≤ l.setup.n * l.setup.p)
    go true h s i = inl refl
    go false h s i = inr (page_inside l.setup.n l.append n l.setup.w h s (unfit_page l n u) (ltb-false _ _ i))
