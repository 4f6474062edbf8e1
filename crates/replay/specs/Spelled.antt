-- The words of the first lines that stand for values.
use Rattle.std.specs.Prelude.{ℕ, List, codes, if◌then◌else◌}
use Rattle.replay.specs.declared.start.Mode as mode
use Rattle.replay.specs.declared.start.Mode.TheVariants as m
use Rattle.replay.specs.declared.start.Flag as flag

-- how a log goes on at its volume's end
abbrev pub mode_word : mode.Mode → List ℕ
mode_word m.Circular = codes "circular"
mode_word m.Plain = codes "plain"

-- whether a client is set
abbrev pub flag_word : flag.Flag → List ℕ
flag_word f = if f.0 then codes "1" else codes "0"
