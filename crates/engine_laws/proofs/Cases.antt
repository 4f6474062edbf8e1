-- Document 01's starred cases, by computation, in one joint proof: P = 32, N = 4, circular, fresh, unless said otherwise; and the same with words of 8 bytes,
-- P = 64. w is the width of a word.
use Prim.Native.Nat.{ℕ, ◌*◌}
use mathlib.Core.Path.{◌≡◌, refl}
use mathlib.Core.Bool.{Bool, true, false}
use mathlib.Core.List.{List, ◌++◌}
use lib.ListN.{replicate}
use Rattle.page.specs.Bytes.{filled}
use Rattle.page.specs.Answered.{FAIL}
use Rattle.page.specs.Overwritten.{overwritten}
use Rattle.engine_state.specs.Answer.{OK, SIZE, no_report, append_done, no_request, write_page}
use Rattle.engine_state.specs.Log.{Setup, State, Idle, Append, Sync, Log}
use Rattle.engine_state.specs.Check.{sizes_fit, shape_fits, kept_fits, state_fits}
use Rattle.engine_state.specs.Open.{may_open}
use Rattle.engine_restart.specs.Restart.{at_rest}
use Rattle.engine_restart.proofs.Cases as restart
use Rattle.engine_call.specs.Outcome.{Outcome, Lent, lend, ok, first_of, answered, moved}
use Rattle.engine_call.specs.Call.{Call, append, sync, write_ended}
use Rattle.engine_call.specs.Gate.{gate_by}
use Rattle.engine_write.specs.Flush.{overwritten_page, moved_read, moved_oldest, flush}
use Rattle.engine_write.specs.Store.{store}
use Rattle.engine_write.specs.Append.{fits_page, append_runs}
use Rattle.engine_write.specs.WriteComplete.{append_written, write_runs}
use Rattle.engine_laws.specs.Call.{call, complete}

-- four pages of eight words
abbrev setup : ℕ → Bool → Setup
setup w circular = record { w = w; p = 8 * w; n = 4; first = 0; circular = circular }

-- a log at rest with these O and A, and with this kept length; the log during the write that an append or a sync waits for
abbrev at : ℕ → Bool → ℕ → ℕ → ℕ → Log
at w circular o a kept = moved (at_rest (setup w circular) true true o a) Idle o o a kept

abbrev fresh : ℕ → Log
fresh w = at w true w w 0

abbrev writing : ℕ → State → ℕ → ℕ → ℕ → Log
writing w state o a kept = moved (fresh w) state o o a kept

-- an erased volume, a page buffer of sevens and a hold buffer
abbrev lent : ℕ → Lent
lent w = lend (replicate (32 * w) 255) (replicate (8 * w) 7) (replicate (8 * w) 0)

-- an append of n bytes, which the driver accepts, and the page that it leaves; a sync; a good write completion
abbrev bytes : ℕ → Call
bytes n = append (replicate n 7) n ok

abbrev appends : ℕ → Log → ℕ → Outcome
appends w l n = (call l (lent w) (bytes n)).outcome

abbrev leaves : ℕ → Log → ℕ → List ℕ
leaves w l n = (call l (lent w) (bytes n)).page

abbrev syncs : ℕ → Log → Outcome
syncs w l = (call l (lent w) (sync ok)).outcome

abbrev written : ℕ → Log → Outcome
written w l = (complete l (lent w) (write_ended true)).outcome

-- an append that is done in the call, and one that asks for a write
abbrev done : Log → ℕ → Outcome
done l n = record { log = l; answer = OK; report = append_done n false OK; request = no_request }

abbrev asks : Log → Outcome
asks l = record { log = l; answer = OK; report = no_report; request = write_page 0 }

pub record Cases : Type 0 where
  -- those that concern restart
  restarts : restart.Cases
  -- "append 24: A = 32; 25: SIZE."
  most : (appends 4 (fresh 4) 24 ≡ done (at 4 true 4 32 24) 24) × (appends 4 (fresh 4) 25 ≡ answered (fresh 4) SIZE)
  -- "5 then 15: A = 13, 32."
  two : (appends 4 (fresh 4) 5 ≡ done (at 4 true 4 13 5) 5) × (appends 4 (at 4 true 4 13 5) 15 ≡ done (at 4 true 4 32 15) 15)
  -- "Then 1: writes page 0, afterwards A = 41."
  full : (appends 4 (at 4 true 4 32 15) 1 ≡ asks (writing 4 Append 4 32 1)) × (written 4 (writing 4 Append 4 32 1) ≡ done (at 4 true 4 41 1) 1)
  -- "20 then 1: pads 4 bytes, then A = 41."
  twenty : (appends 4 (fresh 4) 20 ≡ done (at 4 true 4 28 20) 20) × (appends 4 (at 4 true 4 28 20) 1 ≡ asks (writing 4 Append 4 28 1))
  pads : (leaves 4 (at 4 true 4 28 20) 1 ≡ replicate 28 7 ++ replicate 4 255) × (written 4 (writing 4 Append 4 28 1) ≡ done (at 4 true 4 41 1) 1)
  -- "Sync at A = 28: overwritten page 134,217,724, nothing moves."
  sync : (overwritten_page (at 4 true 4 28 20) ≡ 134_217_724) × (syncs 4 (at 4 true 4 28 20) ≡ asks (writing 4 Sync 4 28 20))
  -- "Fresh sync: OK, no request." "Flush of page 4: O 4 becomes 36, R 4 becomes 36."
  lap : (syncs 4 (fresh 4) ≡ answered (fresh 4) OK) × (syncs 4 (at 4 true 4 145 0) ≡ asks (writing 4 Sync 36 145 0))
  -- "Plain log at A = 128: FAIL."
  plain : appends 4 (at 4 false 4 128 0) 1 ≡ answered (at 4 false 4 128 0) FAIL

-- the same with words of 8 bytes
pub record Cases8 : Type 0 where
  restarts : restart.Cases8
  most : (appends 8 (fresh 8) 48 ≡ done (at 8 true 8 64 48) 48) × (appends 8 (fresh 8) 49 ≡ answered (fresh 8) SIZE)
  two : (appends 8 (fresh 8) 9 ≡ done (at 8 true 8 25 9) 9) × (appends 8 (at 8 true 8 25 9) 31 ≡ done (at 8 true 8 64 31) 31)
  full : (appends 8 (at 8 true 8 64 31) 1 ≡ asks (writing 8 Append 8 64 1)) × (written 8 (writing 8 Append 8 64 1) ≡ done (at 8 true 8 81 1) 1)
  forty : (appends 8 (fresh 8) 40 ≡ done (at 8 true 8 56 40) 40) × (appends 8 (at 8 true 8 56 40) 1 ≡ asks (writing 8 Append 8 56 1))
  pads : (leaves 8 (at 8 true 8 56 40) 1 ≡ replicate 56 7 ++ replicate 8 255) × (written 8 (writing 8 Append 8 56 1) ≡ done (at 8 true 8 81 1) 1)
  sync : (overwritten_page (at 8 true 8 56 40) ≡ 288_230_376_151_711_740) × (syncs 8 (at 8 true 8 56 40) ≡ asks (writing 8 Sync 8 56 40))
  lap : (syncs 8 (fresh 8) ≡ answered (fresh 8) OK) × (syncs 8 (at 8 true 8 281 0) ≡ asks (writing 8 Sync 72 281 0))
  plain : appends 8 (at 8 false 8 256 0) 1 ≡ answered (at 8 false 8 256 0) FAIL

twice : {A B : Type 0} {a : A} {b : B} → (a ≡ a) × (b ≡ b)
twice = (refl, refl)

pub cases : Cases
unfolding gate_by first_of shape_fits sizes_fit state_fits kept_fits fits_page append_runs store flush overwritten_page overwritten moved_oldest
    moved_read filled
    write_runs append_written may_open
cases = record { restarts = restart.cases; most = twice; two = twice; full = twice; twenty = twice; pads = twice; sync = twice; lap = twice; plain = refl }

pub cases_8 : Cases8
unfolding gate_by first_of shape_fits sizes_fit state_fits kept_fits fits_page append_runs store flush overwritten_page overwritten moved_oldest
    moved_read filled
    write_runs append_written may_open
cases_8 = record { restarts = restart.cases_8; most = twice; two = twice; full = twice; forty = twice; pads = twice; sync = twice; lap = twice; plain = refl }
