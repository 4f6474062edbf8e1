-- The searches and the reader, on a block: no byte of it changes. w is the width of the board's words; the page buffer stands in for the hold buffer,
-- which isn't lent.
use Rattle.std.specs.Prelude.{ℕ, List}
use Rattle.std.proofs.Math.Option.{Option, none, some}
use Rattle.engine_state.specs.Answer.{OK}
use Rattle.page.specs.Answered.{FAIL}
use Rattle.engine_state.specs.Log.{Log}
use Rattle.engine_call.specs.Outcome.{lend}
use Rattle.engine_marks.specs.Searched.{Searched, finds, refused, plain}
use Rattle.engine_marks.specs.Nearest.{nearest}
use Rattle.engine_marks.specs.Between.{Stamps, BetweenDone, between}
use Rattle.engine_marks.specs.Reader.{Next, ReaderStep, entry_is, at_end, not_read, reader_step}
use Rattle.punelovash_block.specs.Block.{loaded}
use Rattle.punelovash_block.specs.Call.{no_log}

-- what is said of the log that a block holds, or of a block that holds none
abbrev pub on_loaded : {A : Type 0} → A → (Log → A) → Option Log → A
on_loaded without on none = without
on_loaded without on (some l) = on l

-- the answer to a block that holds no log
abbrev pub no_log_searched : ℕ → List ℕ → List ℕ → List ℕ → Searched
no_log_searched w block volume page = refused (plain (no_log w block (lend volume page page)))

abbrev pub nearest_block : ℕ → List ℕ → List ℕ → List ℕ → ℕ → Searched
nearest_block w block volume page t = on_loaded (no_log_searched w block volume page) (λ l. nearest l volume page t) (loaded w block)

abbrev pub between_block : ℕ → List ℕ → List ℕ → List ℕ → Stamps → List ℕ → BetweenDone
between_block w block volume page r ids =
    on_loaded (record { answer = no_log_searched w block volume page; ids = ids }) (λ l. between l volume page r ids) (loaded w block)

abbrev pub next_block : ℕ → List ℕ → List ℕ → List ℕ → ℕ → ReaderStep
next_block w block volume page at =
    on_loaded (not_read (no_log w block (lend volume page page))) (λ l. reader_step l volume page at) (loaded w block)

-- what C is given: the answer's number, and a number, the ID or the count. A refusal at an entry gives its ID; with any other the number stays
pub record Value : Type 0 where
  pub answer : ℕ
  pub value : ℕ

abbrev pub value_done : ℕ → ℕ → Value
value_done answer value = record { answer = answer; value = value }

abbrev pub id_or : ℕ → Option ℕ → ℕ
id_or before none = before
id_or before (some id) = id

abbrev pub value_of : ℕ → Searched → Value
value_of before (finds n) = value_done OK n
value_of before (refused r) = value_done r.answer (id_or before r.id)

-- and of a step: an entry's ID, its length and the ID after it; where there is none they stay, and at the end the answer is FAIL
pub record NextDone : Type 0 where
  pub answer : ℕ
  pub next : Next

abbrev pub next_numbers : ℕ → ℕ → ℕ → Next
next_numbers id size after = record { id = id; size = size; after = after }

abbrev pub next_done : ℕ → ℕ → ℕ → ℕ → NextDone
next_done answer id size after = record { answer = answer; next = next_numbers id size after }

abbrev pub step_done : Next → ReaderStep → NextDone
step_done before (entry_is n) = record { answer = OK; next = n }
step_done before at_end = record { answer = FAIL; next = before }
step_done before (not_read answer) = record { answer = answer; next = before }
