-- An erase that the driver turns down at its start leaves the log as it was.
use mathlib.Core.Path.{◌≡◌, refl, sym, ap}
use mathlib.Core.Option.{none}
use borrow.Author.Tests.{not-false}
use Rattle.engine_state.specs.Answer.{no_report}
use Rattle.engine_state.specs.Log.{Idle, Log}
use Rattle.engine_call.specs.Outcome.{Lent, Done, Word, ok, busy, fail, word_number, first_of, in_state}
use Rattle.engine_call.specs.Call.{erase}
use Rattle.engine_call.specs.Gate.{gate, unless_free}
use Rattle.engine_call.proofs.Checks.{through, same_state}
use Rattle.engine_erase.specs.Erase.{erase_request}
use Rattle.engine_laws.specs.Call.{call}

module _ (l : Log) (x : Lent) where
  -- the driver's word and the request, with the whole log and every lent byte as before
  abbrev pub turned_down : Word → Done
  turned_down word = record {
    outcome = record { log = l; answer = word_number word; report = no_report; request = erase_request l l.oldest };
    page = x.page;
    hold = x.hold;
  }

  -- only an idle log passes the checks, and put into Idle it is the same log
  idle_same : first_of (unless_free l) ≡ none → in_state l Idle ≡ l
  idle_same p = let t = through (unless_free l) p in ap (in_state l) (sym (same_state l.state Idle (not-false _ t.0)))

  -- "A driver refusal at the start now puts the state back to Idle."
  pub erase_turned_down : (word : Word) → (word ≡ ok → ⊥) → gate l x ≡ none → first_of (unless_free l) ≡ none → call l x (erase word) ≡ turned_down word
  erase_turned_down ok refuses g p = absurd (refuses refl)
  erase_turned_down busy refuses g p = rw (g, p, idle_same p)
  erase_turned_down fail refuses g p = rw (g, p, idle_same p)
