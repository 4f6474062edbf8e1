-- The gate passes wherever the invariant holds; what a call is by its checks.
use Prim.Native.Nat.{ℕ, ◌*◌, ◌≤◌}
use mathlib.Core.Path.{◌≡◌, refl, sym, subst}
use mathlib.Core.Bool.{true, false}
use mathlib.Core.List.{List, [], ◌∷◌}
use mathlib.Core.Option.{Option, none, some}
use lib.ListN.{length}
use borrow.Author.Tests.{le-leb, eq-eqb}
use Rattle.page.specs.Pick.{pick}
use Rattle.engine_state.specs.Log.{Setup, Log}
use Rattle.engine_state.specs.Check.{Sized, sizes_fit, shape_fits, state_fits}
use Rattle.engine_state.proofs.Checks.{fits_width}
use Rattle.engine_call.specs.Outcome.{Lent, Done, lend, Stop, first_of, ◌or_else◌, still, unless}
use Rattle.engine_call.specs.Gate.{gate_by, gate, called}
use Rattle.bench.specs.World.{World}
use Rattle.bench.specs.Book.{Book}
use Rattle.bench.proofs.Invariant.{Books, Running}

-- sizes that fit pass the test of them
fits_sizes : (g : Setup) → Sized g → g.first ≤ 16_777_215 → sizes_fit g ≡ true
unfolding sizes_fit
fits_sizes g z h =
    let a = le-leb _ _ z.page.least in
    let b = le-leb _ _ z.page.most in
    let c = eq-eqb _ _ z.page.divides in
    let d = le-leb _ _ z.least in
    let e = le-leb _ _ z.most in
    rw (fits_width z.page.width, a, b, c, d, e) (le-leb _ _ h)

-- so do a volume and buffers
pub fits_shape : (g : Setup) (volume page hold : ℕ) → Sized g → g.first ≤ 16_777_215
    → volume ≡ g.n * g.p → page ≡ g.p → hold ≡ g.p → shape_fits g volume page hold ≡ true
unfolding shape_fits
fits_shape g volume page hold z h v p q = rw (fits_sizes g z h, eq-eqb _ _ v, eq-eqb _ _ p) (eq-eqb _ _ q)

-- the gate passes a shape and a state that fit
pub fits_gate : (l : Log) (x : Lent) → shape_fits l.setup (length x.volume) (length x.page) (length x.hold) ≡ true → state_fits l ≡ true
    → gate l x ≡ none
unfolding gate_by first_of
fits_gate l x s t = rw (s, t)

-- with the power on the gate passes, whatever an operation that has ended left in the volume
pub gate_passes : {g : Setup} {volume : List ℕ} {x : World} {b b' : Book} → Books g volume b' → Running g x b
    → gate x.log (lend volume x.page x.hold) ≡ none
gate_passes {g} {volume} {x} bk r =
    fits_gate x.log (lend volume x.page x.hold)
    (subst (λ (h : Setup). shape_fits h (length volume) (length x.page) (length x.hold) ≡ true) (sym r.setup)
    (fits_shape g _ _ _ bk.sizes bk.first bk.whole r.buffer.page_length_lem r.hold_length))
    r.fits

-- what a call does that only answers
pub record Still (l : Log) (x : Lent) (d : Done) : Type 0 where
  pub answer : ℕ
  pub is : d ≡ still l x answer

-- a call with a check before others
module _ (l : Log) (x : Lent) (c : Stop) (cs : List Stop) (body : Done) where
  -- whose test holds only answers
  pub check_stops : c.test ≡ true → Still l x (called l x (c ∷ cs) body)
  unfolding first_of
  check_stops t = go (gate l x)
    where
      go : (q : Option ℕ) → Still l x (unless (q or_else pick c.test (some c.answer) (first_of cs)) l x body)
      go none = record { answer = c.answer; is = rw t }
      go (some a) = record { answer = a; is = refl }

  -- whose test fails is the call without it
  pub check_passes : c.test ≡ false → called l x (c ∷ cs) body ≡ called l x cs body
  unfolding first_of
  check_passes t = rw t

-- a call with no check left that passes the gate is its body
pub runs : (l : Log) (x : Lent) (body : Done) → gate l x ≡ none → called l x [] body ≡ body
unfolding first_of
runs l x body h = rw h
