-- What the calls share of keeping STATE: a flush, an entry stored, another state.
use Prim.Native.Nat.{ℕ, ◌+◌, ◌*◌, ◌-◌, ◌/◌, ◌%◌, ◌≤◌, ◌<◌}
use mathlib.Core.Path.{◌≡◌, refl, ◌∙◌}
use mathlib.Core.Bool.{true}
use mathlib.Core.List.{List}
use mathlib.Core.Logic.{◌⊎◌, inl, inr}
use native.Mathlib.Decide.{dec_lt}
use native.Mathlib.Omega.{arith}
use native.Mathlib.Nat.{add-mod_right, mul-le-mul_right}
use lib.ListN.{length}
use lib.Dec.{eqb}
use borrow.Author.Tests.{eqb-true}
use Rattle.page.specs.Sizes.{ceiling}
use Rattle.page.specs.Overwritten.{overwritten}
use Rattle.page.proofs.Kit.{facts, parts, page_mono, pages_lt, overwritten_lap, overwritten_none}
use Rattle.engine_state.specs.Log.{State, Log}
use Rattle.engine_state.specs.Check.{Sized, kept_fits}
use Rattle.engine_state.proofs.Checks.{StateFits, offset_in}
use Rattle.engine_call.specs.Outcome.{Lent, Done, Word, ok, busy, fail, state_after, moved, in_state}
use Rattle.engine_write.specs.Flush.{overwritten_page, moved_read, moved_oldest, flush}
use Rattle.engine_write.specs.Store.{store}
use Rattle.engine_laws.proofs.Calls.{by_pick}

-- what a body leaves satisfies STATE
abbrev pub LeavesState : Done → Type 0
LeavesState d = StateFits d.outcome.log

-- A lies past the header of the page of byte A - 1
past_last : (a : ℕ) {p w : ℕ} → 0 < p → w ≤ p → 0 < a → (a % p ≡ 0) ⊎ (w ≤ a % p) → (a - 1) / p * p + w ≤ a
past_last a {p} {w} h l s (inl e) =
    let d = parts a h in
    let b = parts (a - 1) h in
    omega (arith, mul-le-mul_right p (pages_lt ((a - 1) / p) (a / p) p {x = a - 1} (omega arith) (omega arith)))
past_last a {p} {w} h l s (inr e) = omega (arith, parts a h, mul-le-mul_right p (page_mono {x = a - 1} {y = a} h (omega arith)))

-- where the overwritten page holds an ID up to the ceiling, the next page's first entry stands up to A
overwritten_below : (l : Log) → Sized l.setup → StateFits l → (x : ℕ) → x ≤ ceiling l.setup.w → x / l.setup.p ≡ overwritten_page l
    → x / l.setup.p * l.setup.p + l.setup.p + l.setup.w ≤ l.append
unfolding overwritten_page
overwritten_below l z s x c e = go (dec_lt q l.setup.n)
  where
    p : ℕ
    p = l.setup.p

    q : ℕ
    q = (l.append - 1) / l.setup.p

    go : Dec (q < l.setup.n) → x / p * p + p + l.setup.w ≤ l.append
    go (yes b) = absurd (overwritten_none z q b x c e)
    go (no b) =
        let f = facts z in
        let d = parts (l.append - 1) f.page in
        let lap : overwritten l.setup.w p (l.setup.n * p) q ≡ q - l.setup.n = overwritten_lap z q (omega arith) (omega (arith, s.limited)) in
        let next : (x / p + 1) * p ≤ q * p = mul-le-mul_right p (omega arith) in
        omega (arith, past_last l.append {p = p} {w = l.setup.w} f.page (omega arith) (omega (arith, s)) s.offset)

-- an O that STATE lets through
pub record OldestFits (l : Log) (o : ℕ) : Type 0 where
  pub headed : l.setup.w ≤ o
  pub ordered : o ≤ l.append
  pub first : o % l.setup.p ≡ l.setup.w

-- a log with another state, O, R and kept length satisfies STATE, if they fit
pub moved_fits : {l : Log} → StateFits l → (state : State) {oldest : ℕ} → OldestFits l oldest → (read kept : ℕ) → read ≤ ceiling l.setup.w
    → kept ≤ l.setup.p - 2 * l.setup.w → kept_fits state kept ≡ true → StateFits (moved l state oldest read l.append kept)
moved_fits s state o read kept r m k =
    record {
      headed = o.headed;
      ordered = o.ordered;
      limited = s.limited;
      first = o.first;
      read_limited = r;
      offset = s.offset;
      kept_most = m;
      kept_some = k;
    }

pub oldest_kept : {l : Log} → StateFits l → OldestFits l l.oldest
oldest_kept s = record { headed = s.headed; ordered = s.ordered; first = s.first }

pub state_set : {l : Log} → StateFits l → (state : State) → kept_fits state l.kept ≡ true → StateFits (in_state l state)
state_set {l} s state k = moved_fits s state (oldest_kept s) l.read l.kept s.read_limited s.kept_most k

-- a flush leaves O at a page's first entry, up to A
oldest_moves : (l : Log) → Sized l.setup → StateFits l → OldestFits l (moved_oldest l.setup.p (overwritten_page l) l.oldest)
unfolding moved_oldest
oldest_moves l z s = by_pick (OldestFits l) (eqb (l.oldest / l.setup.p) (overwritten_page l)) there (λ e. oldest_kept s)
  where
    there : eqb (l.oldest / l.setup.p) (overwritten_page l) ≡ true → OldestFits l (l.oldest + l.setup.p)
    there e =
        let d = parts l.oldest (facts z).page in
        record {
          headed = omega (arith, s.headed);
          ordered = omega (arith, s.first, overwritten_below l z s l.oldest (omega (arith, s)) (eqb-true _ _ e));
          first = add-mod_right l.oldest l.setup.p ∙ s.first;
        }

-- and R up to the ceiling
read_moves : (l : Log) → Sized l.setup → StateFits l → moved_read l.setup.w l.setup.p (overwritten_page l) l.read ≤ ceiling l.setup.w
unfolding moved_read
read_moves l z s =
    by_pick (λ (r : ℕ). r ≤ ceiling l.setup.w) (eqb (l.read / l.setup.p) (overwritten_page l))
    (λ e. omega (arith, s.limited, facts z, parts l.read (facts z).page, overwritten_below l z s l.read s.read_limited (eqb-true _ _ e)))
    (λ e. s.read_limited)

-- a driver's refusal leaves Idle, in which any kept length fits
pub kept_after : (word : Word) (state : State) (kept : ℕ) → kept_fits state kept ≡ true → kept_fits (state_after word state) kept ≡ true
unfolding kept_fits
kept_after ok state kept h = h
kept_after busy state kept h = refl
kept_after fail state kept h = refl

-- the state after a flush satisfies STATE
pub flush_fits : (l : Log) → Sized l.setup → StateFits l → (x : Lent) (state : State) (kept : ℕ) (word : Word)
    → kept ≤ l.setup.p - 2 * l.setup.w → kept_fits state kept ≡ true → StateFits (flush l x state kept word).outcome.log
unfolding flush
flush_fits l z s x state kept word m k =
    moved_fits s (state_after word state) (oldest_moves l z s) _ kept (read_moves l z s) m (kept_after word state kept k)

-- the state after an entry is stored satisfies STATE
pub store_fits : (l : Log) → Sized l.setup → StateFits l → (x : Lent) (e : List ℕ) → 0 < l.append % l.setup.p
    → l.append % l.setup.p + l.setup.w + length e ≤ l.setup.p → length e ≤ l.setup.p - 2 * l.setup.w → StateFits (store l x e).outcome.log
unfolding store kept_fits
store_fits l z s x e h i m =
    let p : ℕ = l.setup.p in
    let f = facts z in
    let d = parts l.append f.page in
    let top : l.append / p * p + p ≤ ceiling l.setup.w = f.ceiling_page (l.append / p) (omega (arith, s.limited)) in
    record {
      headed = s.headed;
      ordered = omega (arith, s.ordered);
      limited = omega arith;
      first = s.first;
      read_limited = s.read_limited;
      offset = offset_in (l.append / p) (l.append % p + length e + l.setup.w) f.page (omega arith) (omega arith) (omega arith);
      kept_most = m;
      kept_some = refl;
    }
