-- What holds of the world and the book after every event. g is the setup.
use Prim.Native.Nat.{ℕ, ◌+◌, ◌*◌, ◌≤◌, ◌<◌}
use mathlib.Core.Path.{◌≡◌}
use mathlib.Core.Bool.{Bool, true, false}
use mathlib.Core.List.{List, []}
use mathlib.Core.Logic.{◌⊎◌}
use mathlib.Core.Option.{Option, none, some}
use lib.ListN.{length, take}
use Rattle.page.specs.Sizes.{ceiling}
use Rattle.page.specs.Id.{slot_of, first_id}
use Rattle.page.specs.Slots.{slot_bytes}
use Rattle.page.specs.Header.{header}
use Rattle.page.specs.Layout.{encode_page, whole_page, page_length, AllGood}
use Rattle.engine_state.specs.Log.{Setup, State, Idle, Read, Seek, Append, Sync, Erase}
use Rattle.engine_state.specs.Check.{Sized, state_fits}
use Rattle.bench_flash.specs.Flash.{Operation, no_operation, writing, erasing, blank_page}
use Rattle.bench_flash.specs.Event.{Event}
use Rattle.bench.specs.World.{World, Step}
use Rattle.bench.specs.Book.{Page, Book, allowed, recorded}

-- a page with an entry
abbrev pub SomeEntry : Page → Type 0
SomeEntry k = k.entries ≡ [] → ⊥

-- a slot holds the whole encoding of a page of the book
pub record HoldsPage (g : Setup) (volume : List ℕ) (s : ℕ) (k : Page) : Type 0 where
  pub slot : slot_of g.n k.number ≡ s
  pub below : first_id g.p k.number < ceiling g.w
  pub some_entry : SomeEntry k
  pub good : AllGood g.w g.p k.entries
  pub fits : page_length g.w k.entries ≤ g.p
  pub bytes : slot_bytes g.p s volume ≡ whole_page g.w g.p k.number k.entries

-- a slot of which the book has nothing has no valid header
abbrev pub SlotHolds : Setup → List ℕ → ℕ → Option Page → Type 0
SlotHolds g volume s none = header g.w g.p g.n volume s ≡ none
SlotHolds g volume s (some k) = HoldsPage g volume s k

-- a book with these slots has the page m
pub record Has (g : Setup) (slots : ℕ → Option Page) (m : ℕ) : Type 0 where
  pub page : Page
  pub there : slots (slot_of g.n m) ≡ some page
  pub number : page.number ≡ m

-- it has the page m, or the page's slot is all 0xFF
abbrev pub HasOrBlank : Setup → List ℕ → (ℕ → Option Page) → ℕ → Type 0
HasOrBlank g volume slots m = Has g slots m ⊎ (slot_bytes g.p (slot_of g.n m) volume ≡ blank_page g.p)

-- the page m is the page k or one of the N before it
abbrev pub Near : Setup → Page → ℕ → Type 0
Near g k m = (m ≤ k.number) × (k.number ≤ m + g.n)

-- the book and the volume, power or not
pub record Books (g : Setup) (volume : List ℕ) (b : Book) : Type 0 where
  pub sizes : Sized g
  pub first : g.first ≤ 16_777_215
  pub whole : length volume ≡ g.n * g.p
  pub open_allowed : allowed g b.open_page.number ≡ true
  pub open_fits : page_length g.w b.open_page.entries ≤ g.p
  pub open_good : AllGood g.w g.p b.open_page.entries
  pub slots : (s : ℕ) → s < g.n → SlotHolds g volume s (b.slots s)
  pub near : (m : ℕ) → Has g b.slots m → Near g b.open_page m
  pub gaps : (m : ℕ) → Has g b.slots m → (j : ℕ) → m ≤ j → j < b.open_page.number → HasOrBlank g volume b.slots j
  pub open_some : Has g b.slots b.open_page.number → SomeEntry b.open_page

-- the page buffer begins with the page k, and A is where k ends
pub record Buffered (g : Setup) (page : List ℕ) (append : ℕ) (k : Page) : Type 0 where
  pub page_length_lem : length page ≡ g.p
  pub appends : append ≡ first_id g.p k.number + page_length g.w k.entries
  pub begins : take (page_length g.w k.entries) page ≡ encode_page g.w g.p k.number k.entries

-- a page m of the book lies from O's page on; or the open page k, N later, is about to take its slot
abbrev pub Live : Setup → Page → ℕ → ℕ → Type 0
Live g k oldest m = (oldest ≤ m) ⊎ ((m + g.n ≡ k.number) × SomeEntry k)

-- the page of O, from which on the pages of the book lie; k is the open page
pub record Oldest (g : Setup) (oldest : ℕ) (slots : ℕ → Option Page) (k : Page) : Type 0 where
  pub page : ℕ
  pub first : oldest ≡ first_id g.p page + g.w
  pub near : Near g k page
  pub live : (m : ℕ) → Has g slots m → Live g k page m

-- a write is under way: the page buffer is the whole open page
pub record Writes (g : Setup) (page : List ℕ) (k : Page) (oldest : ℕ) : Type 0 where
  pub room : k.number < oldest + g.n
  pub some_entry : SomeEntry k
  pub bytes : page ≡ whole_page g.w g.p k.number k.entries

-- an append waits for its write, with its data in the hold buffer
pub record Waits (g : Setup) (kept : ℕ) (hold : List ℕ) (b : Book) : Type 0 where
  pub kept_length : kept ≡ length b.waiting
  pub some_byte : 1 ≤ length b.waiting
  pub fits : length b.waiting + 2 * g.w ≤ g.p
  pub held : take (length b.waiting) hold ≡ b.waiting
  pub next : allowed g (b.open_page.number + 1) ≡ true

-- a write is under way exactly in Append and Sync, an erase exactly in Erase (`due_exactly`)
pub data Under (g : Setup) (page hold : List ℕ) (kept : ℕ) (b : Book) (oldest : ℕ) : State → Operation → Type 0 where
  idle : Under g page hold kept b oldest Idle no_operation
  read : Under g page hold kept b oldest Read no_operation
  seek : Under g page hold kept b oldest Seek no_operation
  erase : b.erase_slot ≡ slot_of g.n oldest → Under g page hold kept b oldest Erase (erasing (slot_of g.n oldest))
  sync : Writes g page b.open_page oldest → Under g page hold kept b oldest Sync (writing (slot_of g.n b.open_page.number))
  append : Writes g page b.open_page oldest → Waits g kept hold b
      → Under g page hold kept b oldest Append (writing (slot_of g.n b.open_page.number))

-- what is under way in a world
abbrev pub UnderIn : Setup → World → Book → ℕ → State → Operation → Type 0
UnderIn g x b oldest s op = Under g x.page x.hold x.log.kept b oldest s op

-- the log and its buffers, with the power on
pub record Running (g : Setup) (x : World) (b : Book) : Type 0 where
  pub setup : x.log.setup ≡ g
  pub hold_length : length x.hold ≡ g.p
  pub fits : state_fits x.log ≡ true
  pub buffer : Buffered g x.page x.log.append b.open_page
  pub oldest : Oldest g x.log.oldest b.slots b.open_page
  pub under : UnderIn g x b oldest.page x.log.state x.operation

abbrev pub Powered : Setup → World → Book → Bool → Type 0
Powered g x b true = Running g x b
Powered g x b false = x.operation ≡ no_operation

pub record Inv (g : Setup) (x : World) (b : Book) : Type 0 where
  pub books : Books g x.volume b
  pub powered : Powered g x b x.power

-- the invariant after an event's step
abbrev pub After : Setup → Book → Event → Step → Type 0
After g b e s = Inv g s.world (recorded g b e s.told)
