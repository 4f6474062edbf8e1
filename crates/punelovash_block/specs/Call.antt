-- What a function on a block does, on the board with words of w bytes: the call runs on the log that the block holds, and the block takes what it gave.
use Rattle.std.specs.Prelude.{ℕ, ◌*◌, ◌≡◌, Bool, true, false, not, ◌&&◌, List, length, eqb, Result, Ok, Err}
use Rattle.std.proofs.Math.Option.{Option, none, some}
use Rattle.page.specs.Pick.{pick}
use Rattle.page.specs.Answered.{Answered, gives, refuses}
use Rattle.engine_state.specs.Answer.{OK, SHAPE, STATE}
use Rattle.engine_state.specs.Log.{Setup, Log, log_of}
use Rattle.engine_state.specs.Check.{shape_fits}
use Rattle.engine_call.specs.Outcome.{Lent, Lengths, Done, done_of, answered, still}
use Rattle.engine_call.specs.Call.{Call, Completion}
use Rattle.engine_restart.specs.Restart.{Restarted, started, refused, restart}
use Rattle.engine_restart.specs.Survey.{survey}
use Rattle.engine_read.specs.Read.{read_buffer}
use Rattle.engine_laws.specs.Call.{call, complete}
use Rattle.punelovash_block.specs.Block.{block_size, setup_at, loaded, saved, sized}
use Rattle.engine_state.specs.declared.state.Log as log
use Rattle.engine_state.specs.declared.fits.LentLengths as lengths
use Rattle.engine_call.specs.declared.outcome.Outcome as outcome
use Rattle.punelovash_block.specs.declared.block.NotLoaded.{NotLoaded}
use Rattle.punelovash_block.specs.declared.block.NotLoaded.TheVariants.{Misfit, NoLog}

-- the answer's number, and the block and the buffers after a call
pub record BlockDone : Type 0 where
  pub answer : ℕ
  pub block : List ℕ
  pub page : List ℕ
  pub hold : List ℕ

abbrev pub block_done : ℕ → List ℕ → List ℕ → List ℕ → BlockDone
block_done answer block page hold = record { answer = answer; block = block; page = page; hold = hold }

-- SHAPE looks at a block's sizes and at what is lent, where the block has the right length for sizes; by the lengths that are lent
unfoldable pub misfit_by : ℕ → List ℕ → ℕ → ℕ → ℕ → Bool
misfit_by w block volume page hold = eqb (length block) (block_size w) && not (shape_fits (setup_at w block) volume page hold)

abbrev pub misfit : ℕ → List ℕ → Lent → Bool
misfit w block x = misfit_by w block (length x.volume) (length x.page) (length x.hold)

-- a block that holds no log: SHAPE comes first, then STATE
unfoldable pub no_log : ℕ → List ℕ → Lent → ℕ
no_log w block x = pick (misfit w block x) SHAPE STATE

-- all as before but for the answer
abbrev pub unchanged : ℕ → List ℕ → Lent → BlockDone
unchanged answer block x = block_done answer block x.page x.hold

abbrev pub ran : ℕ → List ℕ → Done → BlockDone
ran w block d = block_done d.outcome.answer (saved w d.outcome block) d.page d.hold

-- any call and any completion, on the log that was loaded
abbrev pub run_loaded : ℕ → List ℕ → Lent → (Log → Done) → Option Log → BlockDone
run_loaded w block x run none = unchanged (no_log w block x) block x
run_loaded w block x run (some l) = ran w block (run l)

abbrev pub call_block : ℕ → List ℕ → Lent → Call → BlockDone
call_block w block x c = run_loaded w block x (λ l. call l x c) (loaded w block)

abbrev pub complete_block : ℕ → List ℕ → Lent → Completion → BlockDone
complete_block w block x c = run_loaded w block x (λ l. complete l x c) (loaded w block)

-- what is refused by SHAPE
abbrev pub shape_refused : ℕ → List ℕ → Lent → BlockDone
shape_refused w block x = run_loaded w block x (λ l. still l x SHAPE) (loaded w block)

-- what the code's look at a block and at what is lent says: it holds a log; SHAPE refuses it; or it holds no log, and SHAPE doesn't refuse it
abbrev pub LoadsLent : ℕ → List ℕ → ℕ → ℕ → ℕ → Result log.Log NotLoaded → Type 0
LoadsLent w block volume page hold (Ok l) = loaded w block ≡ some (log_of l)
LoadsLent w block volume page hold (Err Misfit) = misfit_by w block volume page hold ≡ true
LoadsLent w block volume page hold (Err NoLog) = (loaded w block ≡ none) × (misfit_by w block volume page hold ≡ false)

-- the client's buffer after a read
abbrev pub read_loaded : Lent → List ℕ → ℕ → Option Log → List ℕ
read_loaded x bytes n none = bytes
read_loaded x bytes n (some l) = read_buffer l x bytes n

abbrev pub read_block : ℕ → List ℕ → Lent → List ℕ → ℕ → List ℕ
read_block w block x bytes n = read_loaded x bytes n (loaded w block)

-- a call that reads no byte of the volume, the page buffer or the hold buffer is not lent them: it is as if the volume had L = N × P bytes and each buffer P
abbrev pub AsIfLent : Setup → Lent → Type 0
AsIfLent s x = Lengths x (s.n * s.p) s.p s.p

-- what such a call says of any log and of the lengths that it is told: the log's run
abbrev pub GivesRun : (log.Log → lengths.LentLengths → outcome.Outcome → Type 0) → Lent → (Log → Done) → Type 0
GivesRun says x run =
    (l : log.Log) (n : lengths.LentLengths) (o : outcome.Outcome) → Lengths x n.volume n.page n.hold → says l n o → done_of o x.page x.hold ≡ run (log_of l)

-- the answer and the block after such a call, on the log that was loaded
abbrev pub RunsBySizes : ℕ → List ℕ → (log.Log → lengths.LentLengths → outcome.Outcome → Type 0) → ℕ → List ℕ → Type 0
RunsBySizes w block says answer after =
    (x : Lent) → AsIfLent (setup_at w block) x → (run : Log → Done) → GivesRun says x run
    → block_done answer after x.page x.hold ≡ run_loaded w block x run (loaded w block)

-- a restart makes a block of the right length a log's; one of another length is refused by STATE
abbrev pub restart_saved : ℕ → List ℕ → Setup → Bool → Bool → Lent → List ℕ → Restarted → BlockDone
restart_saved w block s read_client append_client x page (refused a) = block_done a block page x.hold
restart_saved w block s read_client append_client x page (started l) =
    block_done OK (saved w (answered l OK) (sized s read_client append_client block)) page x.hold

abbrev pub restart_block : ℕ → List ℕ → Setup → Bool → Bool → Lent → BlockDone
restart_block w block s read_client append_client x =
    pick (eqb (length block) (block_size w))
    (restart_saved w block s read_client append_client x (restart s read_client append_client x).page (restart s read_client append_client x).answer)
    (unchanged STATE block x)

-- what the survey gives at the C interface: the answer's number, the count, and the slice
pub record VolumeSurveyed : Type 0 where
  pub answer : ℕ
  pub count : ℕ
  pub ids : List ℕ

abbrev pub volume_surveyed : ℕ → ℕ → List ℕ → VolumeSurveyed
volume_surveyed answer count ids = record { answer = answer; count = count; ids = ids }

-- the count is written where the answer is OK; else it stays
abbrev pub with_count : ℕ → List ℕ → Answered → VolumeSurveyed
with_count count ids (gives k) = volume_surveyed OK k ids
with_count count ids (refuses a) = volume_surveyed a count ids

abbrev pub survey_volume : Setup → List ℕ → List ℕ → ℕ → VolumeSurveyed
survey_volume s volume ids count = with_count count (survey s volume ids).ids (survey s volume ids).answer
