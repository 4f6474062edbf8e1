-- Document 01's starred cases in one joint proof: those of the engine and of restart, and the two that need a cut.
-- P = 32, N = 4, circular, fresh; and the same with words of 8 bytes, P = 64. w is the width of a word.
use Prim.Native.Nat.{ℕ, ◌*◌}
use mathlib.Core.Path.{◌≡◌, refl}
use mathlib.Core.Bool.{true}
use mathlib.Core.List.{List, [], ◌∷◌}
use lib.ListN.{replicate}
use Rattle.page.specs.Word.{word_at}
use Rattle.page.specs.Bytes.{overwrite, filled}
use Rattle.page.specs.Slots.{slot_bytes, put_slot}
use Rattle.page.specs.Header.{header, valid_ids}
use Rattle.page.specs.Walk.{stops, hop, walk_from}
use Rattle.engine_state.specs.Log.{Setup, Log}
use Rattle.engine_state.specs.Check.{sizes_fit, shape_fits, kept_fits, state_fits}
use Rattle.engine_restart.specs.Restart.{at_rest, opens_after, recovered, restart}
use Rattle.engine_call.specs.Outcome.{ok, first_of}
use Rattle.engine_call.specs.Call.{append, sync}
use Rattle.engine_call.specs.Gate.{gate_by}
use Rattle.engine_write.specs.Flush.{flush}
use Rattle.engine_write.specs.Store.{store}
use Rattle.engine_write.specs.Append.{fits_page, append_runs}
use Rattle.engine_laws.proofs.Cases as engine
use Rattle.bench_flash.specs.Flash.{Left, blank, new, blank_page, in_slot}
use Rattle.bench_flash.specs.Event.{Event, call, cut}
use Rattle.bench_flash.specs.Event as event
use Rattle.bench.specs.World.{step}
use Rattle.bench.specs.Promise.{stepped_all, start}

-- four pages of eight words
abbrev setup : ℕ → Setup
setup w = record { w = w; p = 8 * w; n = 4; first = 0; circular = true }

-- a restart with fresh buffers
abbrev restarts : ℕ → Event
restarts w = event.restart (record { left = new; read_client = true; append_client = true; page = replicate (8 * w) 0; hold = replicate (8 * w) 0 })

-- an append of five words
abbrev appends : ℕ → Event
appends w = call (append (replicate (5 * w) 7) (5 * w) ok)

-- "append 20", "Sync at A = 28", and a cut that leaves this
abbrev events : ℕ → Left → List Event
events w left = restarts w ∷ appends w ∷ call (sync ok) ∷ cut left ∷ restarts w ∷ []

-- a log at rest with these O and A
abbrev rests : ℕ → ℕ → ℕ → Log
rests w o a = at_rest (setup w) true true o a

-- the log at the end of a list, from a volume of 0xFF everywhere
abbrev log_after : ℕ → List Event → Log
log_after w es = (stepped_all (setup w) (start (rests w 0 0) (blank_page (32 * w)) [] []) es).world.log

pub record Starred : Type 0 where
  -- those of the engine, and with them those of restart
  engine : engine.Cases
  -- before the cut: A = 28
  before : (log_after 4 (restarts 4 ∷ appends 4 ∷ [])).append ≡ 28
  -- "That sync cut blank: restart gives O = A = 4"
  cut_blank : log_after 4 (events 4 blank) ≡ rests 4 4 4
  -- "new: A = 28"
  cut_new : log_after 4 (events 4 new) ≡ rests 4 4 28

-- the same with words of 8 bytes
pub record Starred8 : Type 0 where
  engine : engine.Cases8
  before : (log_after 8 (restarts 8 ∷ appends 8 ∷ [])).append ≡ 56
  cut_blank : log_after 8 (events 8 blank) ≡ rests 8 8 8
  cut_new : log_after 8 (events 8 new) ≡ rests 8 8 56

-- all of them, by computation
pub starred : Starred
unfolding step restart recovered opens_after valid_ids header word_at slot_bytes walk_from hop stops shape_fits sizes_fit kept_fits state_fits
    first_of gate_by fits_page append_runs store overwrite filled flush in_slot put_slot
starred = record { engine = engine.cases; before = refl; cut_blank = refl; cut_new = refl }

pub starred_8 : Starred8
unfolding step restart recovered opens_after valid_ids header word_at slot_bytes walk_from hop stops shape_fits sizes_fit kept_fits state_fits
    first_of gate_by fits_page append_runs store overwrite filled flush in_slot put_slot
starred_8 = record { engine = engine.cases_8; before = refl; cut_blank = refl; cut_new = refl }
