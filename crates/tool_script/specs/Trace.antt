-- What the fields of a trace say.
use Rattle.std.specs.Prelude.{ℕ, List, [], ◌∷◌, ◌++◌, codes}
use Rattle.std.specs.Fmt.{decimal}
use Rattle.std.specs.Int.{from_bool}
use Rattle.engine_state.specs.Answer.{Report, no_report, append_done, sync_done, erase_done, read_done, seek_done}
use Rattle.engine_state.specs.Answer.{Request, no_request, write_page, erase_page}
use Rattle.engine_state.specs.Log.{Log}
use Rattle.engine_call.specs.Outcome.{Outcome}
use Rattle.tool_script.specs.Spelled.{state_text}

-- fields, between which one space stands each
abbrev pub spaced : List (List ℕ) → List ℕ
spaced [] = []
spaced (field ∷ []) = field
spaced (field ∷ next ∷ others) = field ++ 32 ∷ spaced (next ∷ others)

-- a report, or `-`: "LOST is 0 or 1", RESULT is an answer's number
abbrev pub report_text : Report → List ℕ
report_text no_report = codes "-"
report_text (append_done length lost result) = spaced (codes "append_done" ∷ decimal length ∷ decimal (from_bool lost) ∷ decimal result ∷ [])
report_text (sync_done result) = spaced (codes "sync_done" ∷ decimal result ∷ [])
report_text (erase_done result) = spaced (codes "erase_done" ∷ decimal result ∷ [])
report_text (read_done length result) = spaced (codes "read_done" ∷ decimal length ∷ decimal result ∷ [])
report_text (seek_done result) = spaced (codes "seek_done" ∷ decimal result ∷ [])

-- a request: "`-`, `write PAGE` or `erase PAGE`, with the flash page number"
abbrev pub request_text : Request → List ℕ
request_text no_request = codes "-"
request_text (write_page page) = spaced (codes "write" ∷ decimal page ∷ [])
request_text (erase_page page) = spaced (codes "erase" ∷ decimal page ∷ [])

-- "STATE O R A KEPT": "the state after the call, KEPT being the kept length"
abbrev pub log_text : Log → List ℕ
log_text l = spaced (state_text l.state ∷ decimal l.oldest ∷ decimal l.read ∷ decimal l.append ∷ decimal l.kept ∷ [])

-- "ANSWER REPORT REQUEST STATE O R A KEPT", of an outcome
abbrev pub outcome_text : Outcome → List ℕ
outcome_text o = spaced (decimal o.answer ∷ report_text o.report ∷ request_text o.request ∷ log_text o.log ∷ [])
