-- The reader and the searches in a log that was just restarted: they go over the book's entries.
use Prim.Native.Nat.{ℕ}
use mathlib.Core.Path.{◌≡◌, refl, subst}
use mathlib.Core.List.{List}
use mathlib.Core.Option.{none, some}
use Rattle.engine_state.specs.Answer.{OK}
use Rattle.engine_state.specs.Log.{Setup, Log}
use Rattle.engine_marks.specs.Nearest as search
use Rattle.engine_marks.specs.Between as list
use Rattle.engine_marks.specs.Entries.{Entry, pages_gate}
use Rattle.engine_marks.specs.Reader.{StepsOn}
use Rattle.engine_marks.proofs.ReaderLaws.{steps_on}
use Rattle.bench_flash.specs.Event.{Event, Restart, restart}
use Rattle.bench.specs.World.{World, step}
use Rattle.bench.specs.Promise.{Bench, Finds, stepped, stepped_all, AllClear, NoHeader, start}
use Rattle.bench.specs.Searches.{Searches}
use Rattle.bench.proofs.Theorem.{further}
use Rattle.bench.proofs.Further.{search_gate_open}

-- past the gate they go over what the restart found
searched : {g : Setup} (s : Bench) → Finds g s → let x : World = s.world in
    pages_gate x.log x.volume x.page ≡ none → Searches g s
unfolding search.nearest list.between
searched {g} s f passes =
    let x : World = s.world in
    record {
      entries = f.placed_entries;
      reader = subst (λ (es : List Entry). StepsOn x.log x.volume x.page x.log.oldest es) f.placed_entries (steps_on x.log x.volume x.page passes x.log.oldest);
      nearest = λ t. rw (passes, f.placed_entries) refl;
      between = λ r ids. rw (passes, f.placed_entries) refl;
    }

-- in a log reached by a list that the restart promise covers, just restarted
pub searches : (g : Setup) (l : Log) (volume page hold : List ℕ) → NoHeader g volume → (es : List Event) → AllClear g (start l volume page hold) es
    → (r : Restart) → let s : Bench = stepped_all g (start l volume page hold) es in
    (step g s.world (restart r)).told.answer ≡ some OK → Searches g (stepped g s (restart r))
searches g l volume page hold none-valid es clear r ok =
    searched (stepped g (stepped_all g (start l volume page hold) es) (restart r)) (further g l volume page hold none-valid es clear r ok)
    (search_gate_open g l volume page hold none-valid es clear r ok)
