-- Further theorems: what follows from the invariant, beside demand 3. g is the setup.
use Prim.Native.Nat.{ℕ, ◌*◌, ◌≤◌, ◌<◌}
use mathlib.Core.Path.{◌≡◌, refl, sym, ap, ◌∙◌, subst}
use mathlib.Core.Bool.{Bool, true, false, true≢false, not, ◌&&◌, ◌||◌}
use mathlib.Core.List.{List, [], ◌∷◌}
use mathlib.Core.Option.{Option, none, some, some-injective}
use native.Mathlib.Omega.{arith}
use lib.ListN.{length}
use lib.Dec.{eqb}
use Rattle.page.specs.Pick.{pick}
use Rattle.page.specs.Id.{offset_of}
use Rattle.page.specs.Slots.{slot_bytes}
use Rattle.page.specs.Header.{header}
use Rattle.page.specs.Layout.{whole_page}
use Rattle.page.specs.Answered.{FAIL}
use Rattle.engine_state.specs.Answer.{OK, CANCEL, SHAPE, Report, no_report, append_done, sync_done, erase_done, read_done, seek_done}
use Rattle.engine_state.specs.Log.{Setup, State, Append, Sync, Erase, Log, is}
use Rattle.engine_state.specs.Check.{Sized, shape_fits}
use Rattle.engine_state.specs.Open.{may_open}
use Rattle.engine_call.specs.Outcome.{Lent, Done, lend, first_of, ◌or_else◌, unless}
use Rattle.engine_call.specs.Call.{append_data, Completion, write_ended, erase_ended, ends_well}
use Rattle.engine_call.specs.Gate.{gate_by, gate, unless_writing}
use Rattle.engine_restart.specs.Restart as log
use Rattle.engine_restart.specs.Restart.{Restarted, RestartDone, started_from, headers}
use Rattle.engine_restart.proofs.Restarts.{started_log}
use Rattle.engine_write.specs.Store.{store}
use Rattle.engine_write.specs.WriteComplete.{opens_next, not_stored, sync_done_of, append_written, sync_written, write_runs, write_complete}
use Rattle.engine_laws.specs.Call.{unless_due}
use Rattle.engine_marks.specs.Entries.{pages_gate}
use Rattle.bench_flash.specs.Flash.{Operation, no_operation, writing, erasing, Left, old, blank, new, left_after}
use Rattle.bench_flash.specs.Event.{Restart, Event, call, completion, cut, restart}
use Rattle.bench.specs.World.{World, lent_by, Ended, unended, Told, Step, ended_by, ending, ends, restarted_world, restart_number, restart_step}
use Rattle.bench.specs.World.{step_on, step_off, step}
use Rattle.bench.specs.Book.{Page, Book, empty_page, slot_left, left_in, fills, next_page, append_reported, erase_reported, entry_of, joins, is_ok, waits}
use Rattle.bench.specs.Book.{asked, opens, emptied, pages, newest, reopened, sync_reported, fed, recorded}
use Rattle.bench.specs.Promise.{Bench, stepped, stepped_all, Clear, AllClear, NoHeader, start}
use Rattle.bench.proofs.Invariant.{SlotHolds, Has, Books, Under, idle, read, seek, erase, sync, append, Running, Powered, Inv}
use Rattle.bench.proofs.BookSteps.{slot_other}
use Rattle.bench.proofs.RestartKeeps.{has_its_number, slot_holds}
use Rattle.bench.proofs.Gates.{gate_passes}
use Rattle.bench.proofs.Appends.{may_next}
use Rattle.bench.proofs.Theorem.{step_keeps, list_inv, start_inv, further_inv}

-- what holds of both holds of the one that is picked
of_pick : {A : Type 0} (P : A → Type 0) (t : Bool) {a c : A} → P a → P c → P (pick t a c)
of_pick P true h i = h
of_pick P false h i = i

-- "SHAPE" and "STATE" refuse no call while the power is on
pub gate_open : {g : Setup} {x : World} {b : Book} → Inv g x b → x.power ≡ true → gate x.log (lent_by x) ≡ none
gate_open {g} {x} {b} i on = gate_passes i.books (subst (Powered g x b) on i.powered)

-- so after every list of events, on sizes that SHAPE allows
pub gate_open_after : (g : Setup) (l : Log) (volume page hold : List ℕ) → Sized g → g.first ≤ 16_777_215 → length volume ≡ g.n * g.p → NoHeader g volume
    → (es : List Event) → AllClear g (start l volume page hold) es → let x : World = (stepped_all g (start l volume page hold) es).world in
    x.power ≡ true → gate x.log (lent_by x) ≡ none
gate_open_after g l volume page hold z first whole none-valid es clear on =
    gate_open (list_inv (start l volume page hold) (start_inv g l volume page hold z first whole none-valid) es clear) on

-- with the power on a completion is due exactly while its operation is under way: a write's in Append and Sync, an erase's in Erase
pub due_exactly : {g : Setup} {x : World} {b : Book} → Inv g x b → x.power ≡ true → (c : Completion)
    → (unless_due x.log c).test ≡ not (ends c x.operation)
due_exactly {g} {x} {b} i on c = go c refl (subst (Powered g x b) on i.powered).under
  where
    writes : State → Bool
    writes s = not (is s Append || is s Sync)

    erases : State → Bool
    erases s = not (is s Erase)

    go : (c : Completion) {page hold : List ℕ} {kept oldest : ℕ} {s : State} {op : Operation} → x.log.state ≡ s
        → Under g page hold kept b oldest s op → (unless_due x.log c).test ≡ not (ends c op)
    go (write_ended good) e idle = ap writes e
    go (write_ended good) e read = ap writes e
    go (write_ended good) e seek = ap writes e
    go (write_ended good) e (erase a) = ap writes e
    go (write_ended good) e (sync a) = ap writes e
    go (write_ended good) e (append a w) = ap writes e
    go (erase_ended good word) e idle = ap erases e
    go (erase_ended good word) e read = ap erases e
    go (erase_ended good word) e seek = ap erases e
    go (erase_ended good word) e (erase a) = ap erases e
    go (erase_ended good word) e (sync a) = ap erases e
    go (erase_ended good word) e (append a w) = ap erases e

-- a report isn't an append's CANCEL
abbrev NotCancel : Report → Type 0
NotCancel (append_done n lost r) = r ≡ CANCEL → ⊥
NotCancel (sync_done r) = Unit {0}
NotCancel (erase_done r) = Unit {0}
NotCancel (read_done n r) = Unit {0}
NotCancel (seek_done r) = Unit {0}
NotCancel no_report = Unit {0}

abbrev NotCanceled : Done → Type 0
NotCanceled d = NotCancel d.outcome.report

-- a write completion's report, where the next page may be opened in Append
runs_not : (l : Log) (x : Lent) (good : Bool) → (is l.state Append ≡ true → opens_next l ≡ true) → NotCanceled (write_runs l x good)
unfolding write_runs append_written sync_written store
runs_not l x good h = go (is l.state Append) refl good
  where
    go : (t : Bool) → is l.state Append ≡ t → (good : Bool)
        → NotCanceled (pick t (pick good (append_written l x) (not_stored l x FAIL)) (pick good (sync_written l x) (sync_done_of l x FAIL)))
    go true e true = rw (h e) (λ z. omega arith)
    go true e false = λ z. omega arith
    go false e true = of_pick NotCanceled (eqb (offset_of l.setup.p l.append) 0 && opens_next l) tt tt
    go false e false = tt

completes_not : (l : Log) (x : Lent) (good : Bool) → (is l.state Append ≡ true → opens_next l ≡ true) → NotCanceled (write_complete l x good)
completes_not l x good h = go (gate l x or_else first_of (unless_writing l ∷ []))
  where
    go : (c : Option ℕ) → NotCanceled (unless c l x (write_runs l x good))
    go none = runs_not l x good h
    go (some a) = tt

-- an append that waits was allowed to open the next page
next_opens : {g : Setup} {x : World} {b : Book} → Books g x.volume b → Running g x b → is x.log.state Append ≡ true → opens_next x.log ≡ true
next_opens {g} {x} {b} bk r e = ap (λ (h : Setup). may_open h x.log.append) r.setup ∙ go r.under e
  where
    go : {page hold : List ℕ} {kept oldest : ℕ} {s : State} {op : Operation} → Under g page hold kept b oldest s op → is s Append ≡ true
        → may_open g x.log.append ≡ true
    go idle e = absurd (true≢false (sym e))
    go read e = absurd (true≢false (sym e))
    go seek e = absurd (true≢false (sym e))
    go (erase i) e = absurd (true≢false (sym e))
    go (sync a) e = absurd (true≢false (sym e))
    go (append a c) e = may_next bk r.buffer a.some_entry ∙ c.next

-- "or reports CANCEL (length 0, not lost) where opening isn't allowed": on the bench no write completion ever reports it
pub never_cancels : {g : Setup} (s : Bench) → Inv g s.world s.book → (good : Bool) (left : Left) (n : ℕ) (lost : Bool)
    → (step g s.world (completion (write_ended good) left)).told.report ≡ append_done n lost CANCEL → ⊥
unfolding step
never_cancels {g} s i good left n lost e = subst NotCancel e (go s.world.power i.powered) refl
  where
    x : World
    x = s.world

    ended : Event
    ended = completion (write_ended good) left

    Not : Step → Type 0
    Not t = NotCancel t.told.report

    go : (t : Bool) → Powered g x s.book t → Not (pick t (step_on g x ended) (step_off g x ended))
    go true r =
        let h = next_opens i.books r in
        of_pick Not (ends (write_ended good) x.operation) (completes_not x.log (lent_by (ending g.p x true (left_after good left))) good h)
        (of_pick Not (unless_due x.log (write_ended good)).test (completes_not x.log (lent_by x) good h) tt)
    go false r = tt

-- a log that is empty again
pub record Emptied (g : Setup) (s : Bench) : Type 0 where
  pub open_page : s.book.open_page ≡ empty_page 0
  pub no_page : (m : ℕ) → Has g s.book.slots m → ⊥
  pub no_header : NoHeader g s.world.volume

-- a book whose open page is the empty page 0 has no page, and no slot of the volume has a valid header
none_left : {g : Setup} (s : Bench) → Books g s.world.volume s.book → s.book.open_page ≡ empty_page 0 → Emptied g s
none_left {g} s bk e = record { open_page = e; no_page = none_there; no_header = λ t l. go t l (s.book.slots t) refl (bk.slots t l) }
  where
    none_there : (m : ℕ) → Has g s.book.slots m → ⊥
    none_there m h =
        let here : m ≡ s.book.open_page.number = omega (arith, (bk.near m h).0, ap (λ (k : Page). k.number) e) in
        bk.open_some (subst (Has g s.book.slots) here h) (ap (λ (k : Page). k.entries) e)

    go : (t : ℕ) → t < g.n → (k : Option Page) → s.book.slots t ≡ k → SlotHolds g s.world.volume t k
        → header g.w g.p g.n s.world.volume t ≡ none
    go t l none i h = h
    go t l (some k) i h = absurd (none_there k.number (has_its_number bk t k l i))

-- an erase request's slot is no matter to the open page
asked_open : (b : Book) (s : Option ℕ) → (asked b s).open_page ≡ b.open_page
asked_open b none = refl
asked_open b (some s) = refl

-- "erase_done(OK) makes the open page an empty page 0": then the book has no page, and the volume no valid header
pub erased_empty : {g : Setup} (s : Bench) → Inv g s.world s.book → (c : Completion) (left : Left)
    → (step g s.world (completion c left)).told.report ≡ erase_done OK → Emptied g (stepped g s (completion c left))
unfolding recorded
erased_empty {g} s i c left e =
    let t = (step g s.world (completion c left)).told in
    let clear : Clear (entry_of s.book (completion c left) t) =
    subst (λ (r : Report). Clear (pick (append_reported r) (some s.book.waiting) none)) (sym e) tt in
    let b : Book = left_in g.n s.book t.ended in
    let then : Book = joins (opens g b t.report) (entry_of b (completion c left) t) in
    none_left (stepped g s (completion c left)) (step_keeps s i (completion c left) clear).keeps.books
    (asked_open (emptied then t.report) t.erases ∙ ap (λ (r : Report). (emptied then r).open_page) e)

-- an operation is on a slot
abbrev pub OnSlot : Operation → ℕ → Type 0
OnSlot no_operation s = ⊥
OnSlot (writing t) s = s ≡ t
OnSlot (erasing t) s = s ≡ t

-- an event ends no operation on a slot: it ends none, or the one under way is on another
abbrev pub Spares : Event → Operation → ℕ → Type 0
Spares (call c) op s = Unit {0}
Spares (completion c left) op s = OnSlot op s → ⊥
Spares (cut left) op s = OnSlot op s → ⊥
Spares (restart r) op s = OnSlot op s → ⊥

-- what an operation on another slot leaves is no matter to what the book says of this one
slot_left_lem : (b : Book) (t : ℕ) (x : Option Page) (s : ℕ) → (s ≡ t → ⊥) → (left : Left) → (slot_left b t x left).slots s ≡ b.slots s
slot_left_lem b t x s d old = refl
slot_left_lem b t x s d blank = slot_other b.slots t none s d
slot_left_lem b t x s d new = slot_other b.slots t x s d

ended_left : {g : Setup} {page hold : List ℕ} {kept : ℕ} {b : Book} {oldest : ℕ} {state : State} {op : Operation} → Under g page hold kept b oldest state op
    → (s : ℕ) → (OnSlot op s → ⊥) → (left : Left) → (left_in g.n b (ended_by op left)).slots s ≡ b.slots s
ended_left idle s d left = refl
ended_left read s d left = refl
ended_left seek s d left = refl
ended_left {b = b} (erase e) s d left = slot_left_lem b b.erase_slot none s (λ i. d (i ∙ e)) left
ended_left {b = b} (sync a) s d left = slot_left_lem b _ (some b.open_page) s d left
ended_left {b = b} (append a c) s d left = slot_left_lem b _ (some b.open_page) s d left

-- so what an event that spares a slot leaves is no matter to it
abbrev Leaves : ℕ → Book → ℕ → Step → Type 0
Leaves n b s t = (left_in n b t.told.ended).slots s ≡ b.slots s

on_left : {g : Setup} {x : World} {b : Book} → Running g x b → (s : ℕ) (e : Event) → Spares e x.operation s → Leaves g.n b s (step_on g x e)
on_left r s (call c) d = refl
on_left {g} {x} {b} r s (completion c left) d =
    of_pick (Leaves g.n b s) (ends c x.operation) (ended_left r.under s d (left_after (ends_well c) left))
    (of_pick (Leaves g.n b s) (unless_due x.log c).test refl refl)
on_left r s (cut left) d = ended_left r.under s d left
on_left r s (restart a) d = ended_left r.under s d a.left

off_left : (g : Setup) (x : World) (b : Book) (s : ℕ) (e : Event) → Leaves g.n b s (step_off g x e)
off_left g x b s (call c) = refl
off_left g x b s (completion c left) = refl
off_left g x b s (cut left) = refl
off_left g x b s (restart a) = refl

-- what the book is told beside what an operation left changes no slot
pick_slots : (t : Bool) (b : Book) (k : Page) (e : List ℕ)
    → (pick t (record { slots = b.slots; open_page = k; waiting = e; erase_slot = b.erase_slot }) b).slots ≡ b.slots
pick_slots true b k e = refl
pick_slots false b k e = refl

joins_slots : (b : Book) (e : Option (List ℕ)) → (joins b e).slots ≡ b.slots
joins_slots b none = refl
joins_slots b (some e) = refl

waits_slots : (b : Book) (e : Option (List ℕ)) (t : Told) → (waits b e t).slots ≡ b.slots
waits_slots b none t = refl
waits_slots b (some e) t = pick_slots (is_ok t.answer && not (append_reported t.report)) b b.open_page e

asked_slots : (b : Book) (s : Option ℕ) → (asked b s).slots ≡ b.slots
asked_slots b none = refl
asked_slots b (some s) = refl

fed_slots : (g : Setup) (b : Book) (e : Event) (t : Told) → (fed g b e t).slots ≡ b.slots
fed_slots g b (call c) t =
    let then : Book = joins b (entry_of b (call c) t) in
    asked_slots (waits then (append_data c) t) t.erases ∙ waits_slots then (append_data c) t ∙ joins_slots b (entry_of b (call c) t)
fed_slots g b (completion c left) t =
    let opened : Book = opens g b t.report in
    let then : Book = joins opened (entry_of b (completion c left) t) in
    asked_slots (emptied then t.report) t.erases ∙ pick_slots (erase_reported t.report) then (empty_page 0) then.waiting
    ∙ joins_slots opened (entry_of b (completion c left) t)
    ∙ pick_slots (append_reported t.report || (sync_reported t.report && fills g b.open_page)) b (next_page g b.open_page) b.waiting
fed_slots g b (cut left) t = refl
fed_slots g b (restart r) t = pick_slots (is_ok t.answer) b (reopened g (newest (pages g.n b.slots))) b.waiting

-- no event of a list ends an operation on a slot
abbrev pub AllSpare : Setup → Bench → ℕ → List Event → Type 0
AllSpare g s slot [] = Unit {0}
AllSpare g s slot (e ∷ es) = Spares e s.world.operation slot × AllSpare g (stepped g s e) slot es

-- a page is in a slot, by the book and byte for byte on flash
pub record Kept (g : Setup) (s : Bench) (slot : ℕ) (k : Page) : Type 0 where
  pub there : s.book.slots slot ≡ some k
  pub bytes : slot_bytes g.p slot s.world.volume ≡ whole_page g.w g.p k.number k.entries

-- "Other pages never change.": what the book says of a slot, and the bytes there, survive every event that ends no operation on it
module _ {g : Setup} (slot : ℕ) (l : slot < g.n) where
  kept : (s : Bench) → Inv g s.world s.book → (k : Page) → s.book.slots slot ≡ some k → Kept g s slot k
  kept s i k is = record { there = is; bytes = (slot_holds i.books slot k l is).bytes }

  pub survives : (s : Bench) → Inv g s.world s.book → (e : Event) → Clear (entry_of s.book e (step g s.world e).told)
      → Spares e s.world.operation slot → (k : Page) → s.book.slots slot ≡ some k → Kept g (stepped g s e) slot k
  unfolding recorded step
  survives s i e clear spares k is =
      kept (stepped g s e) (step_keeps s i e clear).keeps k
      (ap (λ (t : ℕ → Option Page). t slot) (fed_slots g _ e (step g s.world e).told) ∙ go s.world.power i.powered ∙ is)
    where
      go : (t : Bool) → Powered g s.world s.book t
          → Leaves g.n s.book slot (pick t (step_on g s.world e) (step_off g s.world e))
      go true r = on_left r slot e spares
      go false r = off_left g s.world s.book slot e

  -- so they survive a cut, whatever it leaves in another slot
  pub survives_cut : (s : Bench) → Inv g s.world s.book → (left : Left) → (OnSlot s.world.operation slot → ⊥)
      → (k : Page) → s.book.slots slot ≡ some k → Kept g (stepped g s (cut left)) slot k
  survives_cut s i left = survives s i (cut left) tt

  -- and every such list
  pub survives_all : (s : Bench) → Inv g s.world s.book → (es : List Event) → AllClear g s es → AllSpare g s slot es
      → (k : Page) → s.book.slots slot ≡ some k → Kept g (stepped_all g s es) slot k
  survives_all s i [] clear spare k is = kept s i k is
  survives_all s i (e ∷ es) clear spare k is =
      survives_all (stepped g s e) (step_keeps s i e clear.0).keeps es clear.1 spare.1 k (survives s i e clear.0 spare.0 k is).there

-- a restart that is answered OK leaves the power on
restart_on : (g : Setup) (x : World) (ended : Ended) (r : Restart) → let t : Step = restart_step g x ended r in
    t.told.answer ≡ some OK → t.world.power ≡ true
unfolding log.restart
restart_on g x ended r =
    let lent : Lent = lend x.volume r.page r.hold in
    let found = headers g x.volume in
    let done : RestartDone = started_from g r.read_client r.append_client lent found in
    of_pick (λ (d : RestartDone). some (restart_number d.answer) ≡ some OK → (restarted_world x d.page r.hold d.answer).power ≡ true)
    (shape_fits g (length x.volume) (length r.page) (length r.hold))
    (λ e. ap (λ (a : Restarted). (restarted_world x done.page r.hold a).power) (started_log g r.read_client r.append_client lent found))
    (λ e. let z = some-injective SHAPE OK e in absurd (omega arith))

-- after every list and a further restart that is answered OK, the gate passes with P in place of the hold buffer's length: a search gets no hold buffer
pub search_gate_open : (g : Setup) (l : Log) (volume page hold : List ℕ) → NoHeader g volume → (es : List Event) → AllClear g (start l volume page hold) es
    → (r : Restart) → let s : Bench = stepped_all g (start l volume page hold) es in let x : World = (stepped g s (restart r)).world in
    (step g s.world (restart r)).told.answer ≡ some OK → pages_gate x.log x.volume x.page ≡ none
unfolding step
search_gate_open g l volume page hold none-valid es clear r ok =
    let s : Bench = stepped_all g (start l volume page hold) es in
    let x : World = (stepped g s (restart r)).world in
    let on =
    of_pick (λ (t : Step). t.told.answer ≡ some OK → t.world.power ≡ true) s.world.power
    (restart_on g (ending g.p s.world false r.left) (ended_by s.world.operation r.left) r) (restart_on g s.world unended r) ok in
    let i = (step_keeps s (further_inv g l volume page hold none-valid es clear r ok) (restart r) tt).keeps in
    let q = subst (Powered g x (stepped g s (restart r)).book) on i.powered in
    subst (λ k. gate_by x.log (length x.volume) (length x.page) k ≡ none) (q.hold_length ∙ ap (λ (h : Setup). h.p) (sym q.setup)) (gate_open i on)
