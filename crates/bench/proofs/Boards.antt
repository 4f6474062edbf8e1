-- Each board cites the theorems with the width of its words.
use Prim.Native.Nat.{ℕ}
use mathlib.Core.Path.{◌≡◌}
use mathlib.Core.Bool.{Bool}
use mathlib.Core.List.{List}
use mathlib.Core.Option.{some}
use Rattle.engine_state.specs.Answer.{OK}
use Rattle.engine_state.specs.Log.{Setup, Log}
use Rattle.bench_flash.specs.Event.{Event, Restart, restart}
use Rattle.bench.specs.World.{step}
use Rattle.bench.specs.Promise.{Bench, stepped, stepped_all, AllClear, NoHeader, AllPromised, start}
use Rattle.bench.specs.Searches.{Searches}
use Rattle.bench.proofs.Theorem.{promise}
use Rattle.bench.proofs.Searches.{searches}

-- what demand 3 says for words of w bytes
abbrev Board : ℕ → Type 0
Board w = (p n first : ℕ) (circular : Bool) → let g : Setup = record { w = w; p = p; n = n; first = first; circular = circular } in
    (l : Log) (volume page hold : List ℕ) → NoHeader g volume → (es : List Event) → AllClear g (start l volume page hold) es
    → AllPromised g (start l volume page hold) es

-- and what the reader and the searches find in a log just restarted
abbrev SearchBoard : ℕ → Type 0
SearchBoard w = (p n first : ℕ) (circular : Bool) → let g : Setup = record { w = w; p = p; n = n; first = first; circular = circular } in
    (l : Log) (volume page hold : List ℕ) → NoHeader g volume → (es : List Event) → AllClear g (start l volume page hold) es
    → (r : Restart) → let s : Bench = stepped_all g (start l volume page hold) es in
    (step g s.world (restart r)).told.answer ≡ some OK → Searches g (stepped g s (restart r))

pub board_4 : Board 4
board_4 p n first circular = promise (record { w = 4; p = p; n = n; first = first; circular = circular })

pub board_8 : Board 8
board_8 p n first circular = promise (record { w = 8; p = p; n = n; first = first; circular = circular })

pub search_board_4 : SearchBoard 4
search_board_4 p n first circular = searches (record { w = 4; p = p; n = n; first = first; circular = circular })

pub search_board_8 : SearchBoard 8
search_board_8 p n first circular = searches (record { w = 8; p = p; n = n; first = first; circular = circular })
