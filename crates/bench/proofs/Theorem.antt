-- Demand 3: one step keeps the invariant; the invariant gives the promise at a restart; so every list keeps the promise. g is the setup.
use Prim.Native.Nat.{ℕ, ◌*◌, ◌≤◌}
use mathlib.Core.Path.{◌≡◌, refl, sym, ap, ◌∙◌, subst}
use mathlib.Core.Bool.{Bool, true, false, true≢false}
use mathlib.Core.List.{List, [], ◌∷◌, ◌++◌}
use mathlib.Core.Logic.{◌⊎◌, inl, inr, ⊎_elim}
use mathlib.Core.Option.{Option, none, some, some-injective}
use native.Mathlib.Omega.{arith}
use lib.ListN.{length}
use Rattle.page.specs.Pick.{pick}
use Rattle.engine_state.specs.Answer.{OK, SHAPE}
use Rattle.engine_state.specs.Log.{Setup, Log}
use Rattle.engine_state.specs.Check.{Sized, shape_fits}
use Rattle.engine_state.proofs.Checks.{shape_fits_lem}
use Rattle.engine_call.specs.Call.{append_data}
use Rattle.engine_restart.specs.Restart as log
use Rattle.bench_flash.specs.Event.{Restart, Event, call, completion, cut, restart}
use Rattle.bench.specs.World.{World, unended, Step, quiet, ended_by, ending, step_on, step_off, step}
use Rattle.bench.specs.Book.{Book, empty_book, left_in, entry_of, waits, recorded}
use Rattle.bench.specs.Promise.{Bench, stepped, stepped_all, Clear, AllClear, NoHeader, Promised, AllPromised, start}
use Rattle.bench.proofs.Invariant.{Powered, Running, Inv, After}
use Rattle.bench.proofs.BookPages.{none_or_some}
use Rattle.bench.proofs.BookSteps.{books_none, books_ended}
use Rattle.bench.proofs.CutStep.{call_step, completion_step_lem, cut_step_lem}
use Rattle.bench.proofs.RestartStep.{restart_keeps}

-- the world and the book after an event
abbrev pub bench_after : Setup → Book → Event → Step → Bench
bench_after g b e t = record { world = t.world; book = recorded g b e t.told }

-- what an event keeps and what is promised of it
pub record Keeps (g : Setup) (b : Book) (e : Event) (t : Step) : Type 0 where
  pub keeps : After g b e t
  pub promised : Promised g e t.told.answer (bench_after g b e t)

-- an event with the power on; the setup is the log's own
on_own : (x : World) (b : Book) → Inv x.log.setup x b → Running x.log.setup x b → (e : Event)
    → Clear (entry_of b e (step_on x.log.setup x e).told) → Keeps x.log.setup b e (step_on x.log.setup x e)
unfolding recorded
on_own x b i r (call c) clear = record { keeps = call_step i r c clear; promised = tt }
on_own x b i r (completion c left) clear = record { keeps = completion_step_lem i r c left clear; promised = tt }
on_own x b i r (cut left) clear = record { keeps = cut_step_lem i r left; promised = tt }
on_own x b i r (restart a) clear =
    let g = x.log.setup in
    let left : Book = left_in g.n b (ended_by x.operation a.left) in
    let q = restart_keeps (ending g.p x false a.left) left (books_ended i.books r.under a.left) a in
    record { keeps = q.keeps; promised = q.finds }

-- the same for any setup that is the log's
on_keeps : {g : Setup} (x : World) (b : Book) → Inv g x b → Running g x b → (e : Event) → Clear (entry_of b e (step_on g x e).told)
    → Keeps g b e (step_on g x e)
on_keeps x b i r e =
    subst (λ (h : Setup). Inv h x b → Running h x b → Clear (entry_of b e (step_on h x e).told) → Keeps h b e (step_on h x e)) r.setup
    (λ i' r'. on_own x b i' r' e)
    i r

-- an append that isn't delivered brings no data
waits_not : (b : Book) (d : Option (List ℕ)) → waits b d (quiet unended) ≡ b
waits_not b none = refl
waits_not b (some e) = refl

-- an event with the power off
off_keeps : {g : Setup} (x : World) (b : Book) → Inv g x b → (e : Event) → Keeps g b e (step_off g x e)
unfolding recorded
off_keeps x b i (call c) = record { keeps = rw (waits_not b (append_data c)) i; promised = tt }
off_keeps x b i (completion c left) = record { keeps = i; promised = tt }
off_keeps x b i (cut left) = record { keeps = i; promised = tt }
off_keeps x b i (restart r) = let q = restart_keeps x b i.books r in record { keeps = q.keeps; promised = q.finds }

-- one step keeps the invariant, and a restart that isn't refused finds what the book says
pub step_keeps : {g : Setup} (s : Bench) → Inv g s.world s.book → (e : Event) → Clear (entry_of s.book e (step g s.world e).told)
    → Keeps g s.book e (step g s.world e)
unfolding step
step_keeps {g} s i e clear = go s.world.power i.powered clear
  where
    by : Bool → Step
    by t = pick t (step_on g s.world e) (step_off g s.world e)

    go : (t : Bool) → Powered g s.world s.book t → Clear (entry_of s.book e (by t).told) → Keeps g s.book e (by t)
    go true r c = on_keeps s.world s.book i r e c
    go false r c = off_keeps s.world s.book i e

-- every list keeps the promise, from any world and book of which the invariant holds
pub list_keeps : {g : Setup} (s : Bench) → Inv g s.world s.book → (es : List Event) → AllClear g s es → AllPromised g s es
list_keeps s i [] clear = tt
list_keeps {g} s i (e ∷ es) clear =
    let k = step_keeps s i e clear.0 in
    (k.promised, list_keeps (stepped g s e) k.keeps es clear.1)

-- and the invariant after it
pub list_inv : {g : Setup} (s : Bench) → Inv g s.world s.book → (es : List Event) → AllClear g s es
    → Inv g (stepped_all g s es).world (stepped_all g s es).book
list_inv s i [] clear = i
list_inv {g} s i (e ∷ es) clear = list_inv (stepped g s e) (step_keeps s i e clear.0).keeps es clear.1

-- where a list begins on a volume of the sizes' length, the invariant holds
pub start_inv : (g : Setup) (l : Log) (volume page hold : List ℕ) → Sized g → g.first ≤ 16_777_215 → length volume ≡ g.n * g.p → NoHeader g volume
    → Inv g (start l volume page hold).world (start l volume page hold).book
start_inv g l volume page hold z first whole none-valid =
    record { books = books_none g empty_book z first whole none-valid (λ m h. none_or_some refl h.there); powered = refl }

-- sizes that SHAPE refuses, or a volume of another length: every restart is refused, and nothing else ever happens
record Dead (g : Setup) (x : World) : Type 0 where
  off : x.power ≡ false
  unfit : (page hold : ℕ) → shape_fits g (length x.volume) page hold ≡ false

step_off_lem : (g : Setup) (x : World) (e : Event) → x.power ≡ false → step g x e ≡ step_off g x e
unfolding step
step_off_lem g x e off = ap (λ (t : Bool). pick t (step_on g x e) (step_off g x e)) off

-- one event, where every restart is refused
dead_step : {g : Setup} (s : Bench) → Dead g s.world → (e : Event)
    → Promised g e (step g s.world e).told.answer (stepped g s e) × Dead g (stepped g s e).world
unfolding log.restart
dead_step {g} s d e = rw (step_off_lem g s.world e d.off) (go e)
  where
    Kept : Event → Step → Type 0
    Kept e t = Promised g e t.told.answer (bench_after g s.book e t) × Dead g t.world

    go : (e : Event) → Kept e (step_off g s.world e)
    go (call c) = (tt, d)
    go (completion c left) = (tt, d)
    go (cut left) = (tt, d)
    go (restart r) =
        rw (d.unfit (length r.page) (length r.hold))
        ((λ i. let z = some-injective SHAPE OK i in absurd (omega arith)), record { off = refl; unfit = d.unfit })

-- and every list
dead_list : {g : Setup} (s : Bench) → Dead g s.world → (es : List Event) → AllPromised g s es
dead_list s d [] = tt
dead_list {g} s d (e ∷ es) = let k = dead_step s d e in (k.0, dead_list (stepped g s e) k.1 es)

-- and a further restart after every list is refused
dead_refuses : {g : Setup} (s : Bench) → Dead g s.world → (es : List Event) → (r : Restart)
    → (step g (stepped_all g s es).world (restart r)).told.answer ≡ some OK → ⊥
unfolding log.restart
dead_refuses {g} s d [] r =
    rw (step_off_lem g s.world (restart r) d.off, d.unfit (length r.page) (length r.hold))
    (λ i. let z = some-injective SHAPE OK i in omega arith)
dead_refuses {g} s d (e ∷ es) r = dead_refuses (stepped g s e) (dead_step s d e).1 es r

-- where a list begins, the invariant holds or every restart is refused
begins : (g : Setup) (l : Log) (volume page hold : List ℕ) → NoHeader g volume → let s : Bench = start l volume page hold in
    Inv g s.world s.book ⊎ Dead g s.world
begins g l volume page hold none-valid = go (shape_fits g (length volume) g.p g.p) refl
  where
    unfit : shape_fits g (length volume) g.p g.p ≡ false → (page' hold' : ℕ) (t : Bool) → shape_fits g (length volume) page' hold' ≡ t → t ≡ false
    unfit d page' hold' false e = refl
    unfit d page' hold' true e =
        let z = shape_fits_lem g (length volume) page' hold' e in
        absurd (true≢false (sym (rw (z.buffer, z.held) at e) ∙ d))

    go : (t : Bool) → shape_fits g (length volume) g.p g.p ≡ t → let s : Bench = start l volume page hold in Inv g s.world s.book ⊎ Dead g s.world
    go true e =
        let z = shape_fits_lem g (length volume) g.p g.p e in
        inl (start_inv g l volume page hold z.sizes z.first z.whole none-valid)
    go false d = inr (record { off = refl; unfit = λ page' hold'. unfit d page' hold' _ refl })

-- Demand 3. For every setup, volume with no valid header, starting buffers and list of events in which no entry's length hides it:
-- every restart that isn't refused finds exactly the book's O and A, and reading on from O gives exactly the book's entries.
pub promise : (g : Setup) (l : Log) (volume page hold : List ℕ) → NoHeader g volume → (es : List Event) → AllClear g (start l volume page hold) es
    → AllPromised g (start l volume page hold) es
promise g l volume page hold none-valid es clear =
    ⊎_elim (λ i. list_keeps (start l volume page hold) i es clear) (λ d. dead_list (start l volume page hold) d es) (begins g l volume page hold none-valid)

-- where a further restart after the list is answered OK, the invariant holds after the list
pub further_inv : (g : Setup) (l : Log) (volume page hold : List ℕ) → NoHeader g volume → (es : List Event) → AllClear g (start l volume page hold) es
    → (r : Restart) → let s : Bench = stepped_all g (start l volume page hold) es in
    (step g s.world (restart r)).told.answer ≡ some OK → Inv g s.world s.book
further_inv g l volume page hold none-valid es clear r ok =
    ⊎_elim (λ i. list_inv (start l volume page hold) i es clear) (λ d. absurd (dead_refuses (start l volume page hold) d es r ok))
    (begins g l volume page hold none-valid)

-- a further restart after the list
pub further : (g : Setup) (l : Log) (volume page hold : List ℕ) → NoHeader g volume → (es : List Event) → AllClear g (start l volume page hold) es
    → (r : Restart) → let s : Bench = stepped_all g (start l volume page hold) es in
    Promised g (restart r) (step g s.world (restart r)).told.answer (stepped g s (restart r))
further g l volume page hold none-valid es clear r =
    last (start l volume page hold) es (promise g l volume page hold none-valid (es ++ (restart r ∷ [])) (more_clear (start l volume page hold) es clear))
  where
    last : (s : Bench) (es : List Event) → AllPromised g s (es ++ (restart r ∷ [])) → let s' : Bench = stepped_all g s es in
        Promised g (restart r) (step g s'.world (restart r)).told.answer (stepped g s' (restart r))
    last s [] h = h.0
    last s (e ∷ es) h = last (stepped g s e) es h.1

    more_clear : (s : Bench) (es : List Event) → AllClear g s es → AllClear g s (es ++ (restart r ∷ []))
    more_clear s [] c = (tt, tt)
    more_clear s (e ∷ es) c = (c.0, more_clear (stepped g s e) es c.1)
