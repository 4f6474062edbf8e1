-- A run of a list that is lent as bytes, a further restart, and what is read then. g is the setup.
use Rattle.std.specs.Prelude.{ℕ, ◌+◌, ◌<◌, ◌≡◌, Bool, true, false, List, length, Result, Ok, Err}
use Rattle.std.proofs.Math.Option.{Option, none, some}
use Rattle.page.specs.Layout.{entries_length}
use Rattle.engine_state.specs.Log.{Setup, Log}
use Rattle.engine_state.specs.Check.{shape_fits}
use Rattle.engine_call.specs.Outcome.{Lent}
use Rattle.engine_restart.specs.Restart.{at_rest}
use Rattle.bench_flash.specs.Flash.{Left}
use Rattle.bench_flash.specs.Event.{Event, restart}
use Rattle.bench.specs.World.{World, lent_by}
use Rattle.bench.specs.Promise.{Bench, stepped, stepped_all, start, NoHeader, AllClear, book_oldest, book_append, book_entries}
use Rattle.bench_step.specs.Step.{in_place}
use Rattle.bench_run.specs.Encoded.{decode}
use Rattle.bench_run.specs.Entries.{ReadOut, fitting, laid}
use Rattle.engine_state.specs.declared.answer.Answer.{Answer}
use Rattle.bench_run.specs.declared.run.FoundLog as found

-- the log before the first restart is any; this one has the list's setup
abbrev pub unstarted : Setup → Log
unstarted g = at_rest g false false 0 0

-- where the list begins, its events, and the bench after them; `room` is the length of the buffer that reads get
abbrev pub at_first : Setup → Lent → Bench
at_first g x = start (unstarted g) x.volume x.page x.hold

abbrev pub listed : ℕ → List ℕ → List Event
listed room list = decode room 0 list

abbrev pub after : Setup → List Event → Lent → Bench
after g es x = stepped_all g (at_first g x) es

-- "a further restart", with the read client set and the buffers as they are
abbrev pub restart_again : Left → Bool → World → Event
restart_again left append_client x = restart (in_place left true append_client x)

abbrev pub again : Setup → Left → Bool → Bench → Bench
again g left append_client s = stepped g s (restart_again left append_client s.world)

-- what the code's answer says: O, A, how many entries were read, how many bytes they take up, and whether reading went to the first FAIL
pub record FoundLog : Type 0 where
  pub oldest : ℕ
  pub append : ℕ
  pub count : ℕ
  pub used : ℕ
  pub whole : Bool

abbrev pub found_log_of : found.FoundLog → FoundLog
found_log_of f = record { oldest = f.oldest.0; append = f.append.0; count = f.entries.count; used = f.entries.used; whole = f.entries.whole }

abbrev pub ran_of : Result found.FoundLog Answer → Option FoundLog
ran_of (Err a) = none
ran_of (Ok f) = some (found_log_of f)

-- demand 3, of this list: exactly the book's O, A and entries. Where reading went to the first FAIL they are all of the book's; where not, they are
-- the front of them, as many as there is room for, and `used` says how far
pub record MatchesBook (g : Setup) (s : Bench) (f : FoundLog) (room : ℕ) (out' : List ℕ) : Type 0 where
  pub oldest : f.oldest ≡ book_oldest g s.book
  pub append : f.append ≡ book_append g s.book
  pub count : f.count ≡ length (fitting g room (book_entries g s.book))
  pub used : f.used ≡ entries_length g.w (fitting g room (book_entries g s.book))
  pub entries : out' ≡ laid g.w room (fitting g room (book_entries g s.book))
  pub all : f.whole ≡ true → fitting g room (book_entries g s.book) ≡ book_entries g s.book
  pub front : f.whole ≡ false → room < f.used + (g.w + g.p)

-- a list that ran, to the bench s
pub record Ran (s : Bench) (f : FoundLog) (x' : Lent) (out out' : List ℕ) : Type 0 where
  pub lent : x' ≡ lent_by s.world
  pub oldest : f.oldest ≡ s.world.log.oldest
  pub append : f.append ≡ s.world.log.append
  pub read : ReadOut x' s.world.log f.count f.used f.whole out out'

-- sizes and buffers that SHAPE refuses run nothing; any others run the list, and the promise holds of it
pub data Runs (g : Setup) (es : List Event) (left : Left) (append_client : Bool) (x x' : Lent) (out out' : List ℕ) : Option FoundLog → Type 0 where
  list_refused : shape_fits g (length x.volume) (length x.page) (length x.hold) ≡ false → x' ≡ x → out' ≡ out
      → Runs g es left append_client x x' out out' none
  list_ran : {f : FoundLog} → shape_fits g (length x.volume) (length x.page) (length x.hold) ≡ true
      → Ran (again g left append_client (after g es x)) f x' out out'
      → (NoHeader g x.volume → AllClear g (at_first g x) es → MatchesBook g (again g left append_client (after g es x)) f (length out) out')
      → Runs g es left append_client x x' out out' (some f)
