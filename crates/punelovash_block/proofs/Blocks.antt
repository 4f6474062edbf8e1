-- Laws of the numbers in a block, and of what is loaded from it.
use Rattle.std.proofs.Common.{◌≡◌, ℕ, ◌+◌, ◌≤◌, ◌<◌, Bool, true, false, List, length, get_or, eqb, ltb, Result, Ok, Err, Some, None}
use Rattle.std.proofs.Common.{refl, sym, ap, subst, ◌∙◌, arith, eqb-true, eq-eqb, ne_eqb}
use Rattle.std.specs.Result.{result_ok}
use Rattle.std.proofs.Math.Option.{Option, none, some, none-ne-some, some-injective}
use Rattle.page.specs.Pick.{pick}
use Rattle.page.specs.Header.{Extent}
use Rattle.engine_state.specs.Answer.{SHAPE}
use Rattle.engine_state.specs.Check.{shape_fits}
use Rattle.engine_restart.specs.Restart.{started, refused, at_rest, recovered, started_from, headers, restart}
use Rattle.engine_state.specs.Log.{State, Idle, Read, Seek, Append, Sync, Erase, state_number, Numbers, state_of, Setup, Log}
use Rattle.engine_state.specs.declared.state.State as state
use Rattle.engine_state.specs.declared.state.UnknownState.{UnknownState}
use Rattle.engine_call.specs.Outcome.{Outcome, Lent, Done}
use Rattle.punelovash_block.specs.Block.{block_size, flags_at, state_at, state_from, log_at, loaded}
use Rattle.punelovash_block.specs.Call.{block_done, ran, run_loaded}

-- a state's number is at most 5, and gives the state
pub state_back : (s : State) → (state_number s ≤ 5) × (state_from (state_number s) ≡ s)
state_back Idle = (omega arith, refl)
state_back Read = (omega arith, refl)
state_back Seek = (omega arith, refl)
state_back Append = (omega arith, refl)
state_back Sync = (omega arith, refl)
state_back Erase = (omega arith, refl)

-- a number that a state has, and one that none has
pub some_state : (n : ℕ) (r : Result state.State UnknownState) {s : state.State} → Numbers n r → result_ok r ≡ Some s → (n ≤ 5) × (state_of s ≡ state_from n)
some_state n (Ok t) {s} h e =
    let same : t ≡ s = cc in
    let b = state_back (state_of t) in
    (rw h at b.0, subst (λ (k : state.State). state_of k ≡ state_from n) same (sym (rw h at b.1)))
some_state n (Err u) h e = absurd (cc)

pub no_state : (n : ℕ) (r : Result state.State UnknownState) → Numbers n r → result_ok r ≡ None → 5 < n
no_state n (Ok t) h e = absurd (cc)
no_state n (Err u) h e = h.1

-- tests that a log was let through by
pub test_passed : (t : Bool) (x : Option Log) {l : Log} → pick t x none ≡ some l → (t ≡ true) × (x ≡ some l)
test_passed true x e = (refl, e)
test_passed false x {l} e = absurd (none-ne-some l e)

pub refuses_not : (t : Bool) (x : Option Log) {l : Log} → pick t none x ≡ some l → (t ≡ false) × (x ≡ some l)
refuses_not true x {l} e = absurd (none-ne-some l e)
refuses_not false x e = (refl, e)

-- a block that holds a log has its size, and the log the block's sizes
pub loaded_tests : (w : ℕ) (block : List ℕ) {l : Log} → loaded w block ≡ some l → (length block ≡ block_size w) × (ltb 7 (get_or block flags_at 0) ≡ false)
    × (log_at w block ≡ l)
unfolding loaded
loaded_tests w block {l} e =
    let a = test_passed (eqb (length block) (block_size w)) _ e in
    let b = refuses_not (ltb 7 (get_or block flags_at 0)) _ a.1 in
    let c = refuses_not (ltb 5 (get_or block state_at 0)) _ b.1 in
    (eqb-true _ _ a.0, b.0, some-injective (log_at w block) l c.1)

-- the log that a restart starts has the setup and the clients that it is given
pub started_same : (s : Setup) (reads appends : Bool) (x : Lent) {l : Log} → started l ≡ (restart s reads appends x).answer
    → (l.setup ≡ s) × (l.read_client ≡ reads) × (l.append_client ≡ appends)
unfolding restart
started_same s reads appends x {l} e = go (shape_fits s (length x.volume) (length x.page) (length x.hold)) (headers s x.volume) e
  where
    go : (b : Bool) (h : Option Extent) → started l ≡ (pick b (started_from s reads appends x h) (record { answer = refused SHAPE; page = x.page })).answer
        → (l.setup ≡ s) × (l.read_client ≡ reads) × (l.append_client ≡ appends)
    go true none e =
        let same : l ≡ at_rest s reads appends s.w s.w = cc in
        (ap (λ (k : Log). k.setup) same, ap (λ (k : Log). k.read_client) same, ap (λ (k : Log). k.append_client) same)
    go true (some ids) e =
        let same : l ≡ at_rest s reads appends (ids.least + s.w) (recovered s ids.greatest x.volume x.page).append = cc in
        (ap (λ (k : Log). k.setup) same, ap (λ (k : Log). k.read_client) same, ap (λ (k : Log). k.append_client) same)
    go false h e = absurd (cc)

-- a block's length by the test of it
pub has_size : (w : ℕ) {n size : ℕ} → n ≡ size → size ≡ block_size w → eqb n (block_size w) ≡ true
has_size w e s = eq-eqb _ _ (e ∙ s)

pub other_size : (w : ℕ) {n size : ℕ} → (n ≡ size → ⊥) → size ≡ block_size w → eqb n (block_size w) ≡ false
other_size w d s = ne_eqb _ _ (λ e. d (e ∙ sym s))

-- what tells a block that holds a log from one that holds none
pub ruleset block_tests = (has_size, other_size, some_state, no_state)

-- a block that holds a log has its size
pub loaded_size : (w : ℕ) (block : List ℕ) {l : Log} → loaded w block ≡ some l → length block ≡ block_size w
loaded_size w block e = (loaded_tests w block e).0

-- what every call and every completion comes to, on a block that holds a log
pub loaded_runs : (w : ℕ) (block : List ℕ) (x : Lent) (run : Log → Done) {l : Log} (o : Outcome) {a : ℕ} {after page hold : List ℕ} → loaded w block ≡ some l
    → ((page hold : List ℕ) → block_done a after page hold ≡ ran w block (record { outcome = o; page = page; hold = hold }))
    → record { outcome = o; page = page; hold = hold } ≡ run l → block_done a after page hold ≡ run_loaded w block x run (loaded w block)
loaded_runs w block x run o {page = page} {hold = hold} e s d = rw e (s page hold ∙ ap (ran w block) d)
