-- The bench flash: what an operation is, when one starts, and what it may leave. p is the page size P, s a slot.
use Rattle.std.specs.Prelude.{ℕ, ◌+◌, ◌*◌, ◌-◌, Bool, ◌&&◌, List, length, replicate, leb, eqb, Option, Some, None}
use Rattle.page.specs.Pick.{pick}
use Rattle.page.specs.Bytes.{pad_byte}
use Rattle.page.specs.Slots.{put_slot}
use Rattle.engine_state.specs.Answer.{Request, no_request, write_page, erase_page}
use Rattle.engine_call.specs.Outcome.{Word, ok, busy, fail}
use Rattle.bench_flash.specs.declared.operation.Operation as operation
use Rattle.bench_flash.specs.declared.operation.Operation.TheVariants as op
use Rattle.bench_flash.specs.declared.operation.Left as code
use Rattle.bench_flash.specs.declared.operation.Left.TheVariants as leaves

-- the operation under way, and its slot
pub data Operation : Type 0 where
  no_operation : Operation
  writing erasing : ℕ → Operation

abbrev pub operation_of : Option operation.Operation → Operation
operation_of None = no_operation
operation_of (Some (op.Write s)) = writing s
operation_of (Some (op.Erase s)) = erasing s

-- a request starts an operation in a slot: the flash page less the first
abbrev pub requested : Operation → Request → ℕ → Operation
requested o no_request first = o
requested o (write_page page) first = writing (page - first)
requested o (erase_page page) first = erasing (page - first)

-- "A refused start changes nothing.": the operation under way after a call, by its request and the driver's word
abbrev pub under_way : Operation → Request → Word → ℕ → Operation
under_way o asked ok first = requested o asked first
under_way o _ busy first = o
under_way o _ fail first = o

-- a volume of so many bytes has a slot s
abbrev pub slot_fits : ℕ → ℕ → ℕ → Bool
slot_fits p s volume = leb (s * p + p) volume

-- slot s holds the page b; where the volume has no such slot, or b isn't P bytes long, the volume is as it was
unfoldable pub in_slot : ℕ → ℕ → List ℕ → List ℕ → List ℕ
in_slot p s b volume = pick (slot_fits p s (length volume) && eqb (length b) p) (put_slot p s b volume) volume

-- "all 0xFF"
abbrev pub blank_page : ℕ → List ℕ
blank_page p = replicate p pad_byte

-- what an operation leaves in its slot
pub data Left : Type 0 where
  old blank new : Left

abbrev pub left_of : code.Left → Left
left_of leaves.Old = old
left_of leaves.Blank = blank
left_of leaves.New = new

-- "ends well": it leaves the new page
abbrev pub left_after : Bool → Left → Left
left_after good left = pick good new left

abbrev pub leave : ℕ → ℕ → List ℕ → Left → List ℕ → List ℕ
leave p s b old volume = volume
leave p s b blank volume = in_slot p s (blank_page p) volume
leave p s b new volume = in_slot p s b volume

-- "A write that ends well leaves the new page; failed or cut, the old, all 0xFF, or the new one. An erase leaves all 0xFF; failed or cut, the old one or
-- all 0xFF."
-- "Other pages never change.": of a write b is the new page; of an erase it is all 0xFF
abbrev pub after_end : ℕ → Operation → List ℕ → Left → List ℕ → List ℕ
after_end p no_operation b left volume = volume
after_end p (writing s) b left volume = leave p s b left volume
after_end p (erasing s) b left volume = leave p s (blank_page p) left volume
