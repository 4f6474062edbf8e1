-- The lines of a script after the first three, by their words.
use Rattle.std.specs.Prelude.{◌≡◌, ◌≢◌, ◌≤◌, ℕ, Bool, true, if◌then◌else◌, List, [], ◌∷◌, length, codes}
use Rattle.std.specs.Str.Parse.{digits_value}
use Rattle.bench_flash.specs.declared.event.Call.TheVariants as c
use Rattle.bench_flash.specs.declared.event.Completion.TheVariants as d
use Rattle.bench_flash.specs.declared.operation.Left.TheVariants as k
use Rattle.tool_script.specs.declared.parse.Line as line
use Rattle.tool_script.specs.declared.parse.Line.TheVariants as l
use Rattle.tool_script.specs.declared.parse.Other.TheVariants as o
use Rattle.tool_script.specs.declared.parse.End as end
use Rattle.tool_script.specs.declared.parse.End.TheVariants as e
use Rattle.tool_script.specs.Words.{IsNumber, bytes_word}
use Rattle.tool_script.specs.Spelled.{driver_word, left_word, state_word, end_word}

-- the word is the number n
abbrev pub Numeral : List ℕ → ℕ → Type 0
Numeral word n = IsNumber word × (n ≡ digits_value 10 word)

-- how an operation ended, well or badly
abbrev pub end_of : Bool → end.End
end_of good = if good then e.Well else e.Badly

-- these are the words of a line, with the bytes of the client's buffer
abbrev pub Spells : List (List ℕ) → line.Line → List ℕ → Type 0
Spells words (l.Call (c.Append length driver)) client =
    (n : List ℕ) × Numeral n length × (words ≡ codes "append" ∷ n ∷ bytes_word client ∷ driver_word driver ∷ [])
Spells words (l.Call (c.Read length)) client = (n : List ℕ) × Numeral n length × (words ≡ codes "read" ∷ n ∷ bytes_word client ∷ [])
Spells words (l.Call (c.Seek id)) client = (n : List ℕ) × Numeral n id.0 × (words ≡ codes "seek" ∷ n ∷ [])
Spells words (l.Call (c.Sync driver)) client = words ≡ codes "sync" ∷ driver_word driver ∷ []
Spells words (l.Call (c.Erase driver)) client = words ≡ codes "erase" ∷ driver_word driver ∷ []
Spells words (l.Call c.Deferred) client = words ≡ codes "deferred" ∷ []
-- `write_complete ok new` or `write_complete fail LEFT`
Spells words (l.Complete (d.Write good) left) client =
    (words ≡ codes "write_complete" ∷ end_word (end_of good) ∷ left_word left ∷ []) × (good ≡ true → left ≡ k.New)
-- `erase_complete ok blank WORD` or `erase_complete fail LEFT WORD`, where "LEFT is `old` or `blank`"
Spells words (l.Complete (d.Erase good driver) left) client =
    (words ≡ codes "erase_complete" ∷ end_word (end_of good) ∷ left_word left ∷ driver_word driver ∷ []) × (good ≡ true → left ≡ k.Blank) × (left ≢ k.New)
Spells words (l.Other (o.Cut left)) client = words ≡ codes "cut" ∷ left_word left ∷ []
Spells words (l.Other o.Get) client = words ≡ codes "get" ∷ []
Spells words (l.Other (o.Survey count)) client = (n : List ℕ) × Numeral n count × (count ≤ 4096) × (words ≡ codes "survey" ∷ n ∷ [])
Spells words (l.Other o.Volume) client = words ≡ codes "volume" ∷ []
Spells words (l.Other (o.Put put)) client =
    (o r a m : List ℕ) × Numeral o put.oldest.0 × Numeral r put.read.0 × Numeral a put.append.0 × Numeral m put.length
    × (words ≡ codes "state" ∷ state_word put.state ∷ o ∷ r ∷ a ∷ m ∷ [])
-- `walk BYTES`: "at most 4,096 bytes, any length"
Spells words (l.Other o.Walk) client = (length client ≤ 4096) × (words ≡ codes "walk" ∷ bytes_word client ∷ [])
-- `nearest STAMP`, and `between FIRST LAST COUNT`: "a slice of COUNT words (at most 4,096)"
Spells words (l.Other (o.Nearest stamp)) client = (n : List ℕ) × Numeral n stamp × (words ≡ codes "nearest" ∷ n ∷ [])
Spells words (l.Other (o.Between listing)) client =
    (f g n : List ℕ) × Numeral f listing.first × Numeral g listing.last × Numeral n listing.count × (listing.count ≤ 4096)
    × (words ≡ codes "between" ∷ f ∷ g ∷ n ∷ [])
