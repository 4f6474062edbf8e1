-- What the trace says of a call, and of a search.
use Rattle.std.specs.Prelude.{ℕ, List, [], ◌∷◌, Option, Some, None, codes}
use Rattle.std.specs.Fmt.{decimal}
use Rattle.std.proofs.Math.Option as m
use Rattle.engine_state.specs.Answer.{OK, number, report_of, request_of}
use Rattle.engine_state.specs.Log.{log_of}
use Rattle.engine_state.specs.declared.answer.Answer.{Answer}
use Rattle.engine_call.specs.Outcome.{Outcome}
use Rattle.engine_marks.specs.Searched.{Searched, finds, refused}
use Rattle.tool_script.specs.Words.{bytes_word}
use Rattle.tool_script.specs.Trace.{spaced, outcome_text}
use Rattle.replay.specs.declared.show.Shown.{Shown}

-- what a call that was delivered leaves
abbrev pub outcome_shown : Shown → Answer → Outcome
outcome_shown s answer = let told = s.step.told in
    record { log = log_of s.step.world.log; answer = number answer; report = report_of told.report; request = request_of told.request }

abbrev pub delivered_text : Shown → Option Answer → List ℕ
delivered_text s None = codes "not delivered"
delivered_text s (Some answer) = spaced (outcome_text (outcome_shown s answer) ∷ bytes_word s.page.now ∷ bytes_word s.hold.now ∷ [])

-- "ANSWER REPORT REQUEST STATE O R A KEPT PAGE HOLD", or "not delivered"
abbrev pub shown_text : Shown → List ℕ
shown_text s = delivered_text s s.step.told.answer

-- the ID of an entry, or `-`
abbrev pub id_text : m.Option ℕ → List ℕ
id_text m.none = codes "-"
id_text (m.some id) = decimal id

-- "ANSWER ID" and "ANSWER VALUE": "OK and the mark's ID", or "OK and the count"; "24 .. and the entry's ID; any other refusal and `-`"
abbrev pub searched_text : Searched → List ℕ
searched_text (finds n) = spaced (decimal OK ∷ decimal n ∷ [])
searched_text (refused r) = spaced (decimal r.answer ∷ id_text r.id ∷ [])
