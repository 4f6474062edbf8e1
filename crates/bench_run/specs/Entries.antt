-- Reading on from a log into a lent buffer, each entry with its length before it, while the buffer has room for a length and P bytes more.
use Rattle.std.specs.Prelude.{ℕ, ◌+◌, ◌-◌, ◌≤◌, ◌<◌, ◌≡◌, Bool, false, List, [], ◌∷◌, ◌++◌, length, take, replicate, ltb, eqb, Result, Ok, Err}
use Rattle.page.specs.Pick.{pick}
use Rattle.page.specs.Layout.{encode_all, entries_length}
use Rattle.page.specs.Answered.{FAIL}
use Rattle.engine_state.specs.Answer.{OK, number}
use Rattle.engine_state.specs.Log.{Setup, Log, log_of}
use Rattle.engine_call.specs.Outcome.{Lent, Done}
use Rattle.engine_read.specs.Read.{read, read_buffer}
use Rattle.engine_read.specs.Deferred.{deferred}
use Rattle.bench_run.specs.declared.entries.Entry.{Entry}
use Rattle.bench_run.specs.declared.entries.Stop.{Stop}
use Rattle.bench_run.specs.declared.entries.Stop.TheVariants as s

-- "length P with a buffer at least that long": a read into a buffer of `room` zeros, and the entry that it leaves there
abbrev pub reading : Lent → Log → ℕ → Done
reading x l room = read l x room l.setup.p

abbrev pub entry_read : Lent → Log → ℕ → List ℕ
entry_read x l room = take (reading x l room).outcome.log.kept (read_buffer l x (replicate room 0) l.setup.p)

-- "a deferred call after each"
abbrev pub afterwards : Lent → Log → Log
afterwards x l = (deferred l x).outcome.log

-- a length and a page have room
abbrev pub Roomy : Setup → ℕ → Type 0
Roomy s room = s.w + s.p ≤ room

-- the entries that are read from a log into `room` bytes, to the first answer that isn't OK, and whether that answer came and was FAIL
pub data ReadsOut (x : Lent) : Log → ℕ → List (List ℕ) → Bool → Type 0 where
  out_full : {l : Log} {room : ℕ} → room < l.setup.w + l.setup.p → ReadsOut x l room [] false
  out_ends : {l : Log} {room : ℕ} → Roomy l.setup room → ((reading x l (room - l.setup.w)).outcome.answer ≡ OK → ⊥)
      → ReadsOut x l room [] (eqb (reading x l (room - l.setup.w)).outcome.answer FAIL)
  out_goes : {l : Log} {room : ℕ} {es : List (List ℕ)} {whole : Bool} → Roomy l.setup room → (reading x l (room - l.setup.w)).outcome.answer ≡ OK
      → ReadsOut x (afterwards x (reading x l (room - l.setup.w)).outcome.log) (room - (l.setup.w + length (entry_read x l (room - l.setup.w)))) es whole
      → ReadsOut x l room (entry_read x l (room - l.setup.w) ∷ es) whole

-- the buffer then: the entries, each with its length before it, and zeros
abbrev pub laid : ℕ → ℕ → List (List ℕ) → List ℕ
laid w n es = encode_all w es ++ replicate (n - entries_length w es) 0

-- as many of a list's entries as are read into `room` bytes
abbrev pub fitting : Setup → ℕ → List (List ℕ) → List (List ℕ)
fitting s room [] = []
fitting s room (e ∷ es) = pick (ltb room (s.w + s.p)) [] (e ∷ fitting s (room - (s.w + length e)) es)

-- one read: an entry, with the log after it and its length; an answer that isn't OK; or no room
pub data Next : Type 0 where
  next_entry_read : Log → ℕ → Next
  next_ends : ℕ → Next
  next_full : Next

abbrev pub next_of : Result Entry Stop → Next
next_of (Ok e) = next_entry_read (log_of e.log) e.size
next_of (Err (s.Answered answer)) = next_ends (number answer)
next_of (Err s.NoRoom) = next_full

pub data NextRead (x : Lent) (l : Log) (out out' : List ℕ) : Next → Type 0 where
  no_room_left : length out < l.setup.w + l.setup.p → out' ≡ out → NextRead x l out out' next_full
  no_more : {a : ℕ} → Roomy l.setup (length out) → a ≡ (reading x l (length out - l.setup.w)).outcome.answer → (a ≡ OK → ⊥) → out' ≡ out
      → NextRead x l out out' (next_ends a)
  one_more : {next : Log} {size : ℕ} → Roomy l.setup (length out) → (reading x l (length out - l.setup.w)).outcome.answer ≡ OK
      → next ≡ afterwards x (reading x l (length out - l.setup.w)).outcome.log → size ≡ length (entry_read x l (length out - l.setup.w))
      → out' ≡ laid l.setup.w (length out) (entry_read x l (length out - l.setup.w) ∷ []) → NextRead x l out out' (next_entry_read next size)

-- what is read, how many entries and how many bytes, whether it went to the first FAIL, and the buffer then
pub record ReadOut (x : Lent) (l : Log) (count used : ℕ) (whole : Bool) (out out' : List ℕ) : Type 0 where
  pub entries : List (List ℕ)
  pub reads : ReadsOut x l (length out) entries whole
  pub number : count ≡ length entries
  pub total : used ≡ entries_length l.setup.w entries
  pub leaves : out' ≡ laid l.setup.w (length out) entries
