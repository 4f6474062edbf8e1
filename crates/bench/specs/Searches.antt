-- Document 02's L4 over the bench: what the reader and the searches find in a log that was just restarted. g is the setup.
use Rattle.std.specs.Prelude.{ℕ, ◌≡◌, List, length}
use Rattle.engine_state.specs.Log.{Setup}
use Rattle.engine_marks.specs.Nearest as search
use Rattle.engine_marks.specs.Nearest.{nearest_among}
use Rattle.engine_marks.specs.Between as list
use Rattle.engine_marks.specs.Between.{Stamps, between_done, between_answer}
use Rattle.engine_marks.specs.Entries.{log_entries}
use Rattle.engine_marks.specs.Reader.{StepsOn}
use Rattle.bench.specs.Promise.{book_placed, Bench}

-- the log's entries are the book's; the reader goes over exactly these, and gives each one's ID and length and the ID after it; the searches are about
-- the book's marks. No client has to be set
pub record Searches (g : Setup) (s : Bench) : Type 0 where
  pub entries : log_entries s.world.log s.world.volume s.world.page ≡ book_placed g s.book
  pub reader : StepsOn s.world.log s.world.volume s.world.page s.world.log.oldest (book_placed g s.book)
  pub nearest : (t : ℕ) → search.nearest s.world.log s.world.volume s.world.page t ≡ nearest_among t (book_placed g s.book)
  pub between : (r : Stamps) (ids : List ℕ)
      → list.between s.world.log s.world.volume s.world.page r ids
      ≡ between_done r (book_placed g s.book) ids (between_answer r (book_placed g s.book) (length ids))
