-- What the code's comparison of answers says: two answers are the same where their numbers are.
use Rattle.std.proofs.Common.{◌≡◌, true, false, not, eqb, refl, sym, ◌∙◌}
use Rattle.std.proofs.lemmas.Bool.{not-true, not-false, eqb-true, eqb-false}
use denote.Enum.Bare.{sameb}
use Rattle.page.specs.Answered.{FAIL}
use Rattle.engine_state.specs.Answer.{OK, number}
use Rattle.engine_state.specs.contracts.answer.Answer.{the_type}
use Rattle.engine_state.specs.declared.answer.Answer.{Answer}
use Rattle.engine_state.specs.declared.answer.Answer.TheVariants as a

same_ok : (x : Answer) → sameb the_type x a.OK ≡ eqb (number x) OK
same_ok a.OK = refl
same_ok a.FAIL = refl
same_ok a.BUSY = refl
same_ok a.RESERVE = refl
same_ok a.INVAL = refl
same_ok a.SIZE = refl
same_ok a.CANCEL = refl
same_ok a.SHAPE = refl
same_ok a.STATE = refl
same_ok a.STRAY = refl
same_ok a.LIMIT = refl

pub is_ok : (x : Answer) → not (sameb the_type x a.OK) ≡ false → number x ≡ OK
is_ok x e = eqb-true (number x) OK (sym (same_ok x) ∙ not-false _ e)

pub is_not_ok : (x : Answer) → not (sameb the_type x a.OK) ≡ true → number x ≡ OK → ⊥
is_not_ok x e = eqb-false (number x) OK (sym (same_ok x) ∙ not-true _ e)

pub same_fail : (x : Answer) → sameb the_type x a.FAIL ≡ eqb (number x) FAIL
same_fail a.OK = refl
same_fail a.FAIL = refl
same_fail a.BUSY = refl
same_fail a.RESERVE = refl
same_fail a.INVAL = refl
same_fail a.SIZE = refl
same_fail a.CANCEL = refl
same_fail a.SHAPE = refl
same_fail a.STATE = refl
same_fail a.STRAY = refl
same_fail a.LIMIT = refl
