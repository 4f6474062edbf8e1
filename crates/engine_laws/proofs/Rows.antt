-- The answer table: for each call and each of its numbers, where it answers the number, and what it then leaves.
use Prim.Native.Nat.{ℕ, ◌+◌, ◌*◌}
use mathlib.Core.Path.{◌≡◌, refl}
use mathlib.Core.Bool.{Bool, true, false, not, ◌&&◌, ◌||◌}
use mathlib.Core.List.{List, [], ◌∷◌}
use lib.ListN.{length, take}
use lib.Dec.{eqb, ltb, leb}
use Rattle.page.specs.Answered.{FAIL}
use Rattle.engine_state.specs.Answer.{OK, BUSY, RESERVE, INVAL, SIZE, CANCEL, SHAPE, STATE, STRAY, LIMIT}
use Rattle.engine_state.specs.Log.{Log}
use Rattle.engine_call.specs.Outcome.{Lent, Done, Word, ok, busy, fail, word_number, Stop}
use Rattle.engine_call.specs.Call.{Call, append, sync, read, seek, deferred, erase, Completion, write_ended, erase_ended}
use Rattle.engine_call.specs.Gate.{unless_deferred}
use Rattle.engine_write.specs.Flush.{flush}
use Rattle.engine_write.specs.Store.{store}
use Rattle.engine_write.specs.Append.{fits_page, no_room, at_limit, append_runs}
use Rattle.engine_write.specs.Sync.{synced}
use Rattle.engine_laws.specs.Call.{call, complete, unless_due}
use Rattle.engine_laws.proofs.Calls.{checks_of, body_of, end_of, call_is, complete_is, by_pick}
use Rattle.engine_laws.proofs.Leaves.{end_ok}
use Rattle.engine_laws.proofs.RowKit.{when, has, after_failing, among, given_by, Row, no_shape, no_state, not_idle, all_checks, row, others}
use Rattle.engine_laws.proofs.ReadRows.{read_runs_lem, reads_among}

-- the numbers that a body may answer: "the driver's word (OK, BUSY, FAIL)"
abbrev words : List ℕ
words = OK ∷ BUSY ∷ FAIL ∷ []

abbrev pub answers_of : Call → List ℕ
answers_of (append bytes n word) = words
answers_of (sync word) = words
answers_of (read room n) = OK ∷ FAIL ∷ SIZE ∷ CANCEL ∷ RESERVE ∷ []
answers_of (seek id) = OK ∷ []
answers_of deferred = OK ∷ []
answers_of (erase word) = words

word_among : (word : Word) → among words (word_number word) ≡ true
word_among ok = refl
word_among busy = refl
word_among fail = refl

module _ (l : Log) (x : Lent) where
  body_among : (c : Call) → among (answers_of c) (body_of l x c).outcome.answer ≡ true
  unfolding append_runs store flush
  body_among (append bytes n word) =
      by_pick (λ (d : Done). among words d.outcome.answer ≡ true) (fits_page l (length (take n bytes))) (λ h. refl) (λ h. word_among word)
  body_among (sync word) = word_among word
  body_among (read room n) = reads_among l x n (read_runs_lem l x n)
  body_among (seek id) = refl
  body_among deferred = refl
  body_among (erase word) = word_among word

  -- every row of every call, with where its body gives a number; and no other number is its answer
  abbrev pub checks : Call → List Stop
  checks c = all_checks l x (checks_of l c)

  abbrev pub call_gives : Call → ℕ → Bool
  call_gives c = given_by (checks c) (answers_of c) (body_of l x c)

  abbrev pub CallRow : Call → ℕ → Bool → Bool → Type 0
  CallRow c = Row l x (call l x c) (body_of l x c)

  pub call_row : (c : Call) (a : ℕ) → CallRow c a (when (checks c) a) (call_gives c a)
  call_row c = row l x (checks_of l c) (body_of l x c) (call_is l x c) (answers_of c) (body_among c)

  pub call_others : (c : Call) (a : ℕ) → has (checks c) a ≡ false → among (answers_of c) a ≡ false → (call l x c).outcome.answer ≡ a → ⊥
  call_others c = others l x (checks_of l c) (body_of l x c) (call_is l x c) (answers_of c) (body_among c)

  -- the same of completions
  abbrev pub end_checks : Completion → List Stop
  end_checks c = all_checks l x (unless_due l c ∷ [])

  abbrev pub end_gives : Completion → ℕ → Bool
  end_gives c = given_by (end_checks c) (OK ∷ []) (end_of l x c)

  pub complete_row : (c : Completion) (a : ℕ) → Row l x (complete l x c) (end_of l x c) a (when (end_checks c) a) (end_gives c a)
  complete_row c = row l x (unless_due l c ∷ []) (end_of l x c) (complete_is l x c) (OK ∷ []) (rw (end_ok l x c))

  pub complete_others : (c : Completion) (a : ℕ) → has (end_checks c) a ≡ false → eqb OK a ≡ false → (complete l x c).outcome.answer ≡ a → ⊥
  complete_others c a m j = others l x (unless_due l c ∷ []) (end_of l x c) (complete_is l x c) (OK ∷ []) (rw (end_ok l x c)) a m (rw j)

  -- "SHAPE 20: sizes above; volume not L bytes; page or hold buffer not P bytes", and then
  -- "STATE 21: not: 4 ≤ O ≤ A ≤ C, O mod P = 4, R ≤ C, A mod P = 0 or ≥ 4, kept length ≤ P − 8 and above 0 in Append"
  abbrev pub GateRows : Done → Done → Type 0
  GateRows d body = Row l x d body SHAPE (no_shape l x) false × Row l x d body STATE (after_failing (no_shape l x ∷ []) (no_state l)) false

  -- past the gate, tests that fail and one that holds
  abbrev pub past_gate : List Bool → Bool → Bool
  past_gate ss t = after_failing (no_shape l x ∷ no_state l ∷ ss) t

  -- a completion or deferred call, which isn't due where a test holds; `given`: where its body answers OK
  pub record DueRows (d body : Done) (test given : Bool) : Type 0 where
    pub gate : GateRows d body
    -- "STRAY 22: completion or deferred call not due (write: Append, Sync; erase: Erase; deferred: Read, Seek, Idle)"
    pub stray : Row l x d body STRAY (past_gate [] test) false
    -- "A restart, completion or deferred call that isn't refused answers OK"
    pub ok : Row l x d body OK false given

  pub complete_rows : (c : Completion) → DueRows (complete l x c) (end_of l x c) (unless_due l c).test (end_gives c OK)
  complete_rows (write_ended good) = let r = complete_row (write_ended good) in record { gate = (r SHAPE, r STATE); stray = r STRAY; ok = r OK }
  complete_rows (erase_ended good word) = let r = complete_row (erase_ended good word) in record { gate = (r SHAPE, r STATE); stray = r STRAY; ok = r OK }

  pub deferred_rows : DueRows (call l x deferred) (body_of l x deferred) (unless_deferred l).test (call_gives deferred OK)
  deferred_rows = let r = call_row deferred in record { gate = (r SHAPE, r STATE); stray = r STRAY; ok = r OK }

  -- append's tests: "length 0 or beyond the buffer"; "length + 8 > P"
  abbrev pub bad_length : List ℕ → ℕ → Bool
  bad_length bytes n = eqb n 0 || ltb (length bytes) n

  abbrev pub too_long : ℕ → Bool
  too_long n = ltb l.setup.p (n + 2 * l.setup.w)

  pub record AppendRows (bytes : List ℕ) (n : ℕ) (c : Call) : Type 0 where
    pub gate : GateRows (call l x c) (body_of l x c)
    -- "BUSY 2: state not Idle; or the driver's word"
    pub busy : CallRow c BUSY (past_gate [] (not_idle l)) (call_gives c BUSY)
    -- "INVAL (length 0 or beyond the buffer)"
    pub inval : CallRow c INVAL (past_gate (not_idle l ∷ []) (bad_length bytes n)) false
    -- "SIZE (length + 8 > P)"
    pub size : CallRow c SIZE (past_gate (not_idle l ∷ bad_length bytes n ∷ []) (too_long n)) false
    -- "FAIL (not circular, A + length + 4 > L)"; or the driver's word
    pub fail : CallRow c FAIL (past_gate (not_idle l ∷ bad_length bytes n ∷ too_long n ∷ []) (no_room l n)) (call_gives c FAIL)
    -- "LIMIT (a new page is needed at C)"
    pub limit : CallRow c LIMIT (past_gate (not_idle l ∷ bad_length bytes n ∷ too_long n ∷ no_room l n ∷ []) (at_limit l n)) false
    -- "RESERVE 5: client not set"
    pub reserve : CallRow c RESERVE (past_gate (not_idle l ∷ bad_length bytes n ∷ too_long n ∷ no_room l n ∷ at_limit l n ∷ []) (not l.append_client)) false
    -- stored within the call, or the driver's word
    pub ok : CallRow c OK false (call_gives c OK)

  pub append_rows : (bytes : List ℕ) (n : ℕ) (word : Word) → AppendRows bytes n (append bytes n word)
  append_rows bytes n word =
      let r = call_row (append bytes n word) in
      record { gate = (r SHAPE, r STATE); busy = r BUSY; inval = r INVAL; size = r SIZE; fail = r FAIL; limit = r LIMIT; reserve = r RESERVE; ok = r OK }

  pub record SyncRows (c : Call) : Type 0 where
    pub gate : GateRows (call l x c) (body_of l x c)
    -- "A mod P = 4 answers OK, even when busy, with no report"; or the driver's word
    pub ok : CallRow c OK (past_gate [] (synced l)) (call_gives c OK)
    -- "then BUSY"; or the driver's word
    pub busy : CallRow c BUSY (past_gate (synced l ∷ []) (not_idle l)) (call_gives c BUSY)
    -- "RESERVE"
    pub reserve : CallRow c RESERVE (past_gate (synced l ∷ not_idle l ∷ []) (not l.append_client)) false
    -- the driver's word
    pub fail : CallRow c FAIL false (call_gives c FAIL)

  pub sync_rows : (word : Word) → SyncRows (sync word)
  sync_rows word = let r = call_row (sync word) in record { gate = (r SHAPE, r STATE); ok = r OK; busy = r BUSY; reserve = r RESERVE; fail = r FAIL }

  pub record ReadRows (room n : ℕ) (c : Call) : Type 0 where
    pub gate : GateRows (call l x c) (body_of l x c)
    -- "BUSY"
    pub busy : CallRow c BUSY (past_gate [] (not_idle l)) false
    -- "INVAL (buffer shorter than length)"
    pub inval : CallRow c INVAL (past_gate (not_idle l ∷ []) (ltb room n)) false
    -- "CANCEL .., RESERVE", "FAIL 1: .. end of log, bad entry header", "SIZE 7: entry too long for .. read length", an entry: where, says `read_runs_lem`
    pub cancel : CallRow c CANCEL false (call_gives c CANCEL)
    pub reserve : CallRow c RESERVE false (call_gives c RESERVE)
    pub fail : CallRow c FAIL false (call_gives c FAIL)
    pub size : CallRow c SIZE false (call_gives c SIZE)
    pub ok : CallRow c OK false (call_gives c OK)

  pub read_rows : (room n : ℕ) → ReadRows room n (read room n)
  read_rows room n =
      let r = call_row (read room n) in
      record { gate = (r SHAPE, r STATE); busy = r BUSY; inval = r INVAL; cancel = r CANCEL; reserve = r RESERVE; fail = r FAIL; size = r SIZE; ok = r OK }

  pub record SeekRows (id : ℕ) (c : Call) : Type 0 where
    pub gate : GateRows (call l x c) (body_of l x c)
    -- "BUSY"
    pub busy : CallRow c BUSY (past_gate [] (not_idle l)) false
    -- "INVAL unless O ≤ ID ≤ A"
    pub inval : CallRow c INVAL (past_gate (not_idle l ∷ []) (not (leb l.oldest id && leb id l.append))) false
    -- "RESERVE"
    pub reserve : CallRow c RESERVE (past_gate (not_idle l ∷ not (leb l.oldest id && leb id l.append) ∷ []) (not l.read_client)) false
    pub ok : CallRow c OK false (call_gives c OK)

  pub seek_rows : (id : ℕ) → SeekRows id (seek id)
  seek_rows id = let r = call_row (seek id) in record { gate = (r SHAPE, r STATE); busy = r BUSY; inval = r INVAL; reserve = r RESERVE; ok = r OK }

  pub record EraseRows (c : Call) : Type 0 where
    pub gate : GateRows (call l x c) (body_of l x c)
    -- "BUSY"; or the driver's word, which leaves all as before too (`erase_turned_down`)
    pub busy : CallRow c BUSY (past_gate [] (not_idle l)) (call_gives c BUSY)
    -- "RESERVE"
    pub reserve : CallRow c RESERVE (past_gate (not_idle l ∷ []) (not l.append_client)) false
    -- the driver's word, likewise
    pub fail : CallRow c FAIL false (call_gives c FAIL)
    pub ok : CallRow c OK false (call_gives c OK)

  pub erase_rows : (word : Word) → EraseRows (erase word)
  erase_rows word = let r = call_row (erase word) in record { gate = (r SHAPE, r STATE); busy = r BUSY; reserve = r RESERVE; fail = r FAIL; ok = r OK }
