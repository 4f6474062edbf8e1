-- The getters, on a block: 0 where it holds no log. w is the width of the board's words.
use Rattle.std.specs.Prelude.{ℕ, List}
use Rattle.std.proofs.Math.Option.{Option, none, some}
use Rattle.page.specs.Answered.{Answered, gives, refuses}
use Rattle.engine_state.specs.Log.{Log}
use Rattle.engine_state.specs.Get.{capacity}
use Rattle.punelovash_block.specs.Block.{loaded}

abbrev pub or_zero : (Log → ℕ) → Option Log → ℕ
or_zero f none = 0
or_zero f (some l) = f l

abbrev pub oldest_of : ℕ → List ℕ → ℕ
oldest_of w block = or_zero (λ (l : Log). l.oldest) (loaded w block)

abbrev pub append_of : ℕ → List ℕ → ℕ
append_of w block = or_zero (λ (l : Log). l.append) (loaded w block)

abbrev pub read_of : ℕ → List ℕ → ℕ
read_of w block = or_zero (λ (l : Log). l.read) (loaded w block)

-- "`get_size` is L − 4N", "capacity is L − 8N"; 0 for sizes that SHAPE refuses
abbrev pub bytes_of : Answered → ℕ
bytes_of (gives n) = n
bytes_of (refuses a) = 0

abbrev pub size_of : ℕ → List ℕ → ℕ
size_of w block = or_zero (λ (l : Log). bytes_of (capacity l.setup)) (loaded w block)
