-- What the rows of the answer table have in common: checks in their order, each with its number.
use Prim.Native.Nat.{ℕ}
use mathlib.Core.Path.{◌≡◌, refl, sym, ap, subst, ◌∙◌}
use mathlib.Core.Bool.{Bool, true, false, not, ◌&&◌, ◌||◌, false≢true, and-true, and-false, or-true, or-false}
use mathlib.Core.List.{List, [], ◌∷◌}
use mathlib.Core.Logic.{◌⊎◌, inl, inr}
use mathlib.Core.Option.{Option, none, some}
use lib.ListN.{length}
use lib.Dec.{eqb}
use borrow.Author.Tests.{eqb-true, eq-eqb}
use Rattle.page.specs.Pick.{pick}
use Rattle.page.proofs.Kit.{both}
use Rattle.engine_state.specs.Answer.{SHAPE, STATE}
use Rattle.engine_state.specs.Log.{Idle, Log, is}
use Rattle.engine_state.specs.Check.{shape_fits, state_fits}
use Rattle.engine_call.specs.Outcome.{Lent, Done, Stop, stop_if, first_of, ◌or_else◌, still, unless}
use Rattle.engine_call.specs.Gate.{gate_by, called}

-- whether checks refuse with a number, and whether they pass
abbrev gives : Option ℕ → ℕ → Bool
gives none a = false
gives (some b) a = eqb b a

abbrev pub lets_through : Option ℕ → Bool
lets_through none = true
lets_through (some b) = false

-- where checks refuse with a number, by their tests; and whether one of them has it
abbrev pub when : List Stop → ℕ → Bool
when [] a = false
when (c ∷ cs) a = pick (eqb c.answer a) (when cs a || c.test) (when cs a && not c.test)

abbrev pub has : List Stop → ℕ → Bool
has [] a = false
has (c ∷ cs) a = pick (eqb c.answer a) true (has cs a)

-- what `when` computes to where one check has the number: its test holds, after others that fail
abbrev pub after_failing : List Bool → Bool → Bool
after_failing [] t = t
after_failing (s ∷ ss) t = after_failing ss t && not s

-- checks refuse with a number exactly where their tests say
gives_when : (cs : List Stop) (a : ℕ) → gives (first_of cs) a ≡ when cs a
unfolding first_of
gives_when [] a = refl
gives_when (c ∷ cs) a = go c.test (eqb c.answer a) (when cs a) refl (gives_when cs a)
  where
    go : (t own w : Bool) → eqb c.answer a ≡ own → gives (first_of cs) a ≡ w
        → gives (pick t (some c.answer) (first_of cs)) a ≡ pick own (w || t) (w && not t)
    go true true w i g = i ∙ sym (or-true w)
    go true false w i g = i ∙ sym (and-false w)
    go false true w i g = g ∙ sym (or-false w)
    go false false w i g = g ∙ sym (and-true w)

absent : (cs : List Stop) (a : ℕ) → has cs a ≡ false → when cs a ≡ false
absent [] a h = refl
absent (c ∷ cs) a h = go (eqb c.answer a) h (λ i. absent cs a i)
  where
    go : (own : Bool) → pick own true (has cs a) ≡ false → (has cs a ≡ false → when cs a ≡ false)
        → pick own (when cs a || c.test) (when cs a && not c.test) ≡ false
    go true h f = absurd (false≢true (sym h))
    go false h f = rw (f h)

-- where a body after checks gives a number, of those that it may answer
abbrev pub among : List ℕ → ℕ → Bool
among [] a = false
among (b ∷ bs) a = pick (eqb b a) true (among bs a)

abbrev pub given_by : List Stop → List ℕ → Done → ℕ → Bool
given_by cs bs body a = among bs a && (lets_through (first_of cs) && eqb body.outcome.answer a)

-- a row of a call that gives d: where it is refused with a, leaving everything as before; where its body gives a; and it answers a nowhere else
pub record Row (l : Log) (x : Lent) (d body : Done) (a : ℕ) (refused given : Bool) : Type 0 where
  pub refuses : refused ≡ true → d ≡ still l x a
  pub runs : given ≡ true → (d ≡ body) × (body.outcome.answer ≡ a)
  pub only : d.outcome.answer ≡ a → (refused ≡ true) ⊎ (given ≡ true)

-- the tests of SHAPE, STATE and BUSY
abbrev pub no_shape : Log → Lent → Bool
no_shape l x = not (shape_fits l.setup (length x.volume) (length x.page) (length x.hold))

abbrev pub no_state : Log → Bool
no_state l = not (state_fits l)

abbrev pub not_idle : Log → Bool
not_idle l = not (is l.state Idle)

-- the gate's checks, then the call's own
abbrev pub all_checks : Log → Lent → List Stop → List Stop
all_checks l x cs = stop_if (no_shape l x) SHAPE ∷ stop_if (no_state l) STATE ∷ cs

module _ (l : Log) (x : Lent) (cs : List Stop) (body : Done) {d : Done} (h : d ≡ called l x cs body) where
  abbrev checks : List Stop
  checks = all_checks l x cs

  -- a call by what its checks say
  pub by_check : {k : Option ℕ} → first_of checks ≡ k → d ≡ unless k l x body
  unfolding gate_by first_of
  by_check e = h ∙ ap (λ (k : Option ℕ). unless k l x body) (go (no_shape l x) (no_state l) ∙ e)
    where
      go : (s t : Bool) → (pick s (some SHAPE) (pick t (some STATE) none) or_else first_of cs) ≡ pick s (some SHAPE) (pick t (some STATE) (first_of cs))
      go true t = refl
      go false true = refl
      go false false = refl

  answers_as : {k : Option ℕ} → first_of checks ≡ k → d.outcome.answer ≡ (unless k l x body).outcome.answer
  answers_as e = ap (λ (d : Done). d.outcome.answer) (by_check e)

  -- a number that no check has is the body's
  pub from_body : (a : ℕ) → has checks a ≡ false → d.outcome.answer ≡ a → first_of checks ≡ none
  from_body a m q = go (first_of checks) refl
    where
      go : (k : Option ℕ) → first_of checks ≡ k → first_of checks ≡ none
      go none f = f
      go (some b) f =
          absurd (false≢true (sym (absent checks a m) ∙ sym (gives_when checks a) ∙ ap (λ (k : Option ℕ). gives k a) f ∙ eq-eqb b a (sym (answers_as f) ∙ q)))

  module _ (bs : List ℕ) (i : among bs body.outcome.answer ≡ true) where
    -- every row of a call whose body answers one of bs
    pub row : (a : ℕ) → Row l x d body a (when checks a) (given_by checks bs body a)
    row a = subst (λ (w : Bool). Row l x d body a w (given_by checks bs body a)) (gives_when checks a) (go (first_of checks) refl)
      where
        go : (k : Option ℕ) → first_of checks ≡ k → Row l x d body a (gives k a) (among bs a && (lets_through k && eqb body.outcome.answer a))
        go none f = record {
          refuses = λ w. absurd (false≢true w);
          runs = λ g. (by_check f, eqb-true _ _ (both (among bs a) _ g).1);
          only = λ q. let e : body.outcome.answer ≡ a = sym (answers_as f) ∙ q in inr (rw (sym (ap (among bs) e) ∙ i, eq-eqb _ _ e));
        }
        go (some b) f = record {
          refuses = λ w. by_check (f ∙ ap some (eqb-true b a w));
          runs = λ g. absurd (false≢true (both (among bs a) _ g).1);
          only = λ q. inl (eq-eqb b a (sym (answers_as f) ∙ q));
        }

    -- no number but those of its rows is its answer
    pub others : (a : ℕ) → has checks a ≡ false → among bs a ≡ false → d.outcome.answer ≡ a → ⊥
    others a m j q = false≢true (sym j ∙ ap (among bs) (sym q ∙ answers_as (from_body a m q)) ∙ i)
