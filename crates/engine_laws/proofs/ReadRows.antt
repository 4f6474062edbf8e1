-- What a read that passed its checks does.
use Prim.Native.Nat.{ℕ, ◌+◌, ◌*◌, ◌-◌, ◌%◌, ◌≤◌, ◌<◌}
use mathlib.Core.Path.{◌≡◌, refl, sym, ap, ◌∙◌}
use mathlib.Core.Bool.{Bool, true, false, not}
use mathlib.Core.List.{List, [], ◌∷◌}
use mathlib.Core.Option.{none, some}
use native.Mathlib.Omega.{arith}
use lib.ListN.{length}
use lib.Dec.{ltb, leb, eqb}
use borrow.Author.Tests.{ltb-true, ltb-false, ne_eqb, le-ltb}
use Rattle.page.specs.Pick.{pick}
use Rattle.page.specs.Answered.{Answered, gives, refuses, FAIL}
use Rattle.page_lookup.specs.Held.{place, next_entry, held_word, entry_length}
use Rattle.engine_state.specs.Answer.{OK, RESERVE, SIZE, CANCEL}
use Rattle.engine_state.specs.Log.{Log}
use Rattle.engine_call.specs.Outcome.{Lent, Done, first_of, still, unless}
use Rattle.engine_read.specs.Read.{Found, entry, found_length, found_at, found, read_done_of, copied, canceled, read_checks, read_runs, read, read_buffer}
use Rattle.engine_laws.proofs.Calls.{by_pick}
use Rattle.engine_laws.proofs.RowKit.{among, all_checks, by_check, from_body}

-- the place of the entry that a read looks at, and the length in the header there
abbrev pub next_place : Log → Lent → Answered
next_place l x = next_entry l.setup.w l.setup.p l.append x.volume x.page l.read

abbrev pub length_there : Log → Lent → ℕ → Answered
length_there l x id = entry_length l.setup.w l.setup.p l.append x.volume x.page id

-- a read that looks for an entry: "R > A" doesn't hold, and the client is set
abbrev Looks : Log → Type 0
Looks l = (ltb l.append l.read ≡ false) × (not l.read_client ≡ false)

-- what a read that passed its checks does: "CANCEL (R > A; R becomes O)", "RESERVE", "end of log", "bad entry header", "entry too long for .. read length",
-- or it reads an entry
pub data Reads (l : Log) (x : Lent) (n : ℕ) : Done → Type 0 where
  beyond : ltb l.append l.read ≡ true → Reads l x n (canceled l x)
  unset : ltb l.append l.read ≡ false → not l.read_client ≡ true → Reads l x n (still l x RESERVE)
  at_end : Looks l → next_place l x ≡ refuses FAIL → Reads l x n (still l x FAIL)
  bad_header : Looks l → (id : ℕ) → next_place l x ≡ gives id → length_there l x id ≡ refuses FAIL → Reads l x n (still l x FAIL)
  entry_too_long : Looks l → (id size : ℕ) → next_place l x ≡ gives id → length_there l x id ≡ gives size → n < size → Reads l x n (still l x SIZE)
  good : Looks l → (id size : ℕ) → next_place l x ≡ gives id → length_there l x id ≡ gives size → size ≤ n → Reads l x n (read_done_of l x (entry id size))

-- the lookup refuses by FAIL alone
data Looked : Answered → Type 0 where
  given : (n : ℕ) → Looked (gives n)
  fails : Looked (refuses FAIL)

or_fails : (b : Bool) {a : Answered} → Looked a → Looked (pick b (refuses FAIL) a)
or_fails true k = fails
or_fails false k = k

next_looked : (w p a : ℕ) (volume page : List ℕ) (r : ℕ) → Looked (next_entry w p a volume page r)
unfolding next_entry
next_looked w p a volume page r = or_fails (leb a (place w p a volume page r)) (given _)

length_looked : (w p a : ℕ) (volume page : List ℕ) (id : ℕ) → Looked (entry_length w p a volume page id)
unfolding entry_length
length_looked w p a volume page id =
    let n : ℕ = held_word w p a volume page id in
    or_fails (ltb p (id % p + w)) (or_fails (eqb n 0) (or_fails (ltb (p - 2 * w) n) (or_fails (ltb p (id % p + w + n)) (given n))))

module _ (l : Log) (x : Lent) (n : ℕ) where
  size_reads : Looks l → (id : ℕ) → next_place l x ≡ gives id → {a : Answered} → length_there l x id ≡ a → Looked a
      → Reads l x n (read_done_of l x (found_length n id a))
  size_reads k id e i fails = bad_header k id e i
  size_reads k id e i (given size) =
      by_pick (λ (f : Found). Reads l x n (read_done_of l x f)) (ltb n size)
      (λ b. entry_too_long k id size e i (ltb-true n size b)) (λ b. good k id size e i (ltb-false n size b))

  place_reads : Looks l → {a : Answered} → next_place l x ≡ a → Looked a → Reads l x n (read_done_of l x (found_at l x n a))
  place_reads k e fails = at_end k e
  place_reads k e (given id) = size_reads k id e refl (length_looked _ _ _ _ _ id)

  pub read_runs_lem : Reads l x n (read_runs l x n)
  unfolding read_runs first_of found
  read_runs_lem = by_pick (Reads l x n) (ltb l.append l.read) beyond (λ b. client b (not l.read_client) refl)
    where
      client : ltb l.append l.read ≡ false → (c : Bool) → not l.read_client ≡ c
          → Reads l x n (unless (pick c (some RESERVE) none) l x (read_done_of l x (found l x n)))
      client b true e = unset b e
      client b false e = place_reads (b, e) refl (next_looked _ _ _ _ _ _)

  pub reads_among : {d : Done} → Reads l x n d → among (OK ∷ FAIL ∷ SIZE ∷ CANCEL ∷ RESERVE ∷ []) d.outcome.answer ≡ true
  reads_among (beyond b) = refl
  reads_among (unset b e) = refl
  reads_among (at_end k e) = refl
  reads_among (bad_header k id e i) = refl
  reads_among (entry_too_long k id size e i b) = refl
  reads_among (good k id size e i b) = refl

-- a read that is answered OK: "copy to the buffer's front (its other bytes stay), R = the entry's end, state Read"
pub record ReadGives (l : Log) (x : Lent) (bytes : List ℕ) (n : ℕ) : Type 0 where
  pub passes : first_of (all_checks l x (read_checks l (length bytes) n)) ≡ none
  pub id : ℕ
  pub size : ℕ
  pub place : next_place l x ≡ gives id
  pub header : length_there l x id ≡ gives size
  pub fits : size ≤ n
  pub done : read l x (length bytes) n ≡ read_done_of l x (entry id size)
  pub buffer : read_buffer l x bytes n ≡ copied l x bytes (entry id size)

module _ (l : Log) (x : Lent) (bytes : List ℕ) (n : ℕ) where
  pub read_gives : (read l x (length bytes) n).outcome.answer ≡ OK → ReadGives l x bytes n
  unfolding read_buffer found
  read_gives q = go (read_runs_lem l x n) refl (ap (λ (d : Done). d.outcome.answer) (sym runs) ∙ q)
    where
      passes : first_of (all_checks l x (read_checks l (length bytes) n)) ≡ none
      passes = from_body l x (read_checks l (length bytes) n) (read_runs l x n) refl OK refl q

      runs : read l x (length bytes) n ≡ read_runs l x n
      runs = by_check l x (read_checks l (length bytes) n) (read_runs l x n) refl passes

      go : {d : Done} → Reads l x n d → d ≡ read_runs l x n → d.outcome.answer ≡ OK → ReadGives l x bytes n
      go (beyond b) d a = absurd (omega arith)
      go (unset b e) d a = absurd (omega arith)
      go (at_end k e) d a = absurd (omega arith)
      go (bad_header k id e i) d a = absurd (omega arith)
      go (entry_too_long k id size e i b) d a = absurd (omega arith)
      go (good k id size e i b) d a =
          record { passes = passes; id = id; size = size; place = e; header = i; fits = b; done = runs ∙ sym d; buffer = rw (q, e, i, le-ltb n size b) }

  -- any other leaves the client's buffer
  pub unread : ((read l x (length bytes) n).outcome.answer ≡ OK → ⊥) → read_buffer l x bytes n ≡ bytes
  unfolding read_buffer
  unread h = rw (ne_eqb _ OK h)
