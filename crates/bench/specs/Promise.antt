-- Demand 3: what a restart finds after any list. g is the setup.
use Rattle.std.specs.Prelude.{ℕ, zero, suc, ◌+◌, ◌%◌, ◌≤◌, ◌<◌, ◌≡◌, true, List, [], ◌∷◌, ◌++◌, length, take, eqb}
use Rattle.std.proofs.Math.Option.{Option, none, some}
use Rattle.page.specs.Pick.{pick}
use Rattle.page.specs.Bytes.{pad_byte}
use Rattle.page.specs.Id.{slot_of, first_id}
use Rattle.page.specs.Layout.{page_length}
use Rattle.page.specs.Header.{header}
use Rattle.page.specs.Answered.{FAIL}
use Rattle.engine_state.specs.Answer.{OK, read_done}
use Rattle.engine_state.specs.Log.{Setup, Log}
use Rattle.engine_call.specs.Outcome.{Lent, Done}
use Rattle.engine_read.specs.Read.{read, read_buffer}
use Rattle.engine_read.specs.Deferred.{deferred}
use Rattle.engine_marks.specs.Entries.{Entry, log_entries, contents}
use Rattle.bench_flash.specs.Event.{Event, call, completion, cut, restart}
use Rattle.bench.specs.World.{World, lent_by, step, before}
use Rattle.bench.specs.Book.{Page, Book, pages, least, empty_book, entry_of, recorded}

-- "O = least × P + 4, with an empty book 4"
abbrev pub oldest_found : Setup → Option ℕ → ℕ
oldest_found g none = g.w
oldest_found g (some m) = first_id g.p m + g.w

abbrev pub book_oldest : Setup → Book → ℕ
book_oldest g b = oldest_found g (least (pages g.n b.slots))

-- "A = the then open page's number × P + 4 + the sum of (4 + length) over its list"
abbrev pub book_append : Setup → Book → ℕ
book_append g b = first_id g.p b.open_page.number + page_length g.w b.open_page.entries

-- the entries of a page from an ID on: "An entry's ID is that of its length word"
abbrev pub placed : ℕ → ℕ → List (List ℕ) → List Entry
placed w id [] = []
placed w id (e ∷ es) = record { id = id; bytes = e } ∷ placed w (id + w + length e) es

-- the entries of the page with a number, if the book has it
abbrev pub of_page : Setup → ℕ → Option Page → Option (List Entry)
of_page g m none = none
of_page g m (some k) = pick (eqb k.number m) (some (placed g.w (first_id g.p k.number + g.w) k.entries)) none

-- "The entries are those of the least page, then of each next number until one is missing."; no more than N pages are in the book
abbrev pub and_then : Option (List Entry) → List Entry → List Entry
and_then none es = []
and_then (some ks) es = ks ++ es

abbrev pub placed_from : Setup → (ℕ → Option Page) → ℕ → ℕ → List Entry
placed_from g slots zero m = []
placed_from g slots (suc more) m = and_then (of_page g m (slots (slot_of g.n m))) (placed_from g slots more (m + 1))

abbrev pub placed_at : Setup → (ℕ → Option Page) → Option ℕ → List Entry
placed_at g slots none = []
placed_at g slots (some m) = placed_from g slots g.n m

abbrev pub book_placed : Setup → Book → List Entry
book_placed g b = placed_at g b.slots (least (pages g.n b.slots))

-- the bytes of the book's entries
abbrev pub book_entries : Setup → Book → List (List ℕ)
book_entries g b = contents (book_placed g b)

-- "Reads use a set client, a deferred call after each, and length P with a buffer at least that long.": what a read gives, and the buffer after it
pub record ReadEntry (d : Done) (bytes' : List ℕ) (next : Log) (e : List ℕ) : Type 0 where
  pub answer : d.outcome.answer ≡ OK
  pub log : d.outcome.log ≡ next
  pub entry : take (length e) bytes' ≡ e

-- whatever the buffers, reading on from a log gives these entries, each reported with its length, and then FAIL
pub data ReadsOn (x : Lent) : Log → List (List ℕ) → Type 0 where
  on_ends : {l : Log}
      → ((bytes : List ℕ) → l.setup.p ≤ length bytes → (read l x (length bytes) l.setup.p).outcome.answer ≡ FAIL)
      → ReadsOn x l []
  on_goes : {l next : Log} {e : List ℕ} {es : List (List ℕ)}
      → ((bytes : List ℕ) → l.setup.p ≤ length bytes → ReadEntry (read l x (length bytes) l.setup.p) (read_buffer l x bytes l.setup.p) next e)
      → (deferred next x).outcome.report ≡ read_done (length e) OK
      → ReadsOn x (deferred next x).outcome.log es
      → ReadsOn x l (e ∷ es)

-- the world and the book after a list
pub record Bench : Type 0 where
  pub world : World
  pub book : Book

abbrev pub stepped : Setup → Bench → Event → Bench
stepped g s e = record {
  world = (step g s.world e).world;
  book = recorded g s.book e (step g s.world e).told;
}

abbrev pub stepped_all : Setup → Bench → List Event → Bench
stepped_all g s [] = s
stepped_all g s (e ∷ es) = stepped_all g (stepped g s e) es

-- "no entry in it has a length whose remainder by 256 is 0 or 255"
abbrev pub Clear : Option (List ℕ) → Type 0
Clear none = Unit {0}
Clear (some e) = (length e % 256 ≡ 0 → ⊥) × (length e % 256 ≡ pad_byte → ⊥)

abbrev pub AllClear : Setup → Bench → List Event → Type 0
AllClear g s [] = Unit {0}
AllClear g s (e ∷ es) = Clear (entry_of s.book e (step g s.world e).told) × AllClear g (stepped g s e) es

-- "a volume with no valid page header"
abbrev pub NoHeader : Setup → List ℕ → Type 0
NoHeader g volume = (s : ℕ) → s < g.n → header g.w g.p g.n volume s ≡ none

-- what a restart that isn't refused finds: "exactly the oldest ID and the append ID that .. the page book gives.
-- Reading on from that oldest ID to the first FAIL gives exactly the book's entries". Whatever the clients, the log's entries from O to the first FAIL
-- are the book's, with their IDs (`placed_entries`).
pub record Finds (g : Setup) (s : Bench) : Type 0 where
  pub oldest : s.world.log.oldest ≡ book_oldest g s.book
  pub read : s.world.log.read ≡ s.world.log.oldest
  pub append : s.world.log.append ≡ book_append g s.book
  pub placed_entries : log_entries s.world.log s.world.volume s.world.page ≡ book_placed g s.book
  pub entries : s.world.log.read_client ≡ true → ReadsOn (lent_by s.world) s.world.log (book_entries g s.book)

-- what is promised of an event, and of every event of a list: each restart that isn't refused finds what the book says
abbrev pub Promised : Setup → Event → Option ℕ → Bench → Type 0
Promised g (call c) a s = Unit {0}
Promised g (completion c left) a s = Unit {0}
Promised g (cut left) a s = Unit {0}
Promised g (restart r) a s = a ≡ some OK → Finds g s

abbrev pub AllPromised : Setup → Bench → List Event → Type 0
AllPromised g s [] = Unit {0}
AllPromised g s (e ∷ es) = Promised g e (step g s.world e).told.answer (stepped g s e) × AllPromised g (stepped g s e) es

-- where a list begins: the power is off, the book is empty
abbrev pub start : Log → List ℕ → List ℕ → List ℕ → Bench
start l volume page hold = record { world = before l volume page hold; book = empty_book }
