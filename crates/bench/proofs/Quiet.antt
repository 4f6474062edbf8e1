-- Calls that leave the volume, the buffers, the operation, O and A as they are: reads, seeks, deferred calls, and every refusal.
use Prim.Native.Nat.{ℕ, ◌+◌}
use mathlib.Core.Path.{◌≡◌, refl, sym, ap, ◌∙◌, subst}
use mathlib.Core.Bool.{Bool, true, false, not, ◌||◌, true≢false}
use mathlib.Core.List.{List, [], ◌∷◌}
use mathlib.Core.Logic.{◌⊎◌, inl, inr}
use mathlib.Core.Option.{none}
use native.Mathlib.Omega.{arith}
use lib.Dec.{ltb}
use borrow.Author.Tests.{not-false}
use Rattle.page.specs.Pick.{pick}
use Rattle.engine_state.specs.Answer.{OK, CANCEL, Report, no_report, Request, no_request}
use Rattle.engine_state.specs.Log.{Setup, State, Idle, Read, Seek, Append, Sync, Erase, Log, is}
use Rattle.engine_state.specs.Check.{state_fits}
use Rattle.engine_call.specs.Outcome.{Lent, Done, Word, ok, busy, fail, stop_if, first_of, still, moved}
use Rattle.engine_call.specs.Call.{Call, append_data, call_word, append, sync, read, seek, deferred, erase, Completion, completion_word}
use Rattle.engine_call.specs.Gate.{unless_idle, unless_set, unless_deferred, unless_free}
use Rattle.engine_call.proofs.Checks.{through, same_state}
use Rattle.engine_write.specs.Sync.{synced}
use Rattle.engine_write.specs.Flush.{flush}
use Rattle.engine_read.specs.Read.{Found, entry, no_entry, found, read_done_of, read_checks, read_runs}
use Rattle.engine_read.specs.Seek.{seek_checks}
use Rattle.engine_laws.specs.Call as engine
use Rattle.engine_laws.specs.Call.{complete, unless_due}
use Rattle.engine_laws.proofs.Calls.{end_of, complete_is, by_pick, by_unless, by_call}
use Rattle.engine_laws.proofs.CallKeeps.{call_keeps}
use Rattle.bench_flash.specs.Flash.{Operation, no_operation, writing, Left, under_way}
use Rattle.bench_flash.specs.Event as event
use Rattle.bench.specs.World.{World, lent_by, unended, erased_slot, Step, delivered, undelivered, step_on, step_off, step}
use Rattle.bench.specs.Book.{Book, asked, recorded}
use Rattle.bench.proofs.Invariant.{Books, Under, Running, Powered, Inv, After}
use Rattle.bench.proofs.Invariant as under
use Rattle.bench.proofs.BookSteps.{recorded_call}
use Rattle.bench.proofs.Gates.{Still, check_stops, check_passes}

-- a state in which nothing is under way, and no erase
pub data Rests : State → Type 0 where
  at_idle : Rests Idle
  at_read : Rests Read
  at_seek : Rests Seek

-- an idle log rests
pub idle_rests : {s : State} → s ≡ Idle → Rests s
idle_rests e = subst Rests (sym e) at_idle

-- so does one that is due for a deferred call
deferred_rests : (l : Log) (s : State) → l.state ≡ s → (unless_deferred l).test ≡ false → Rests s
deferred_rests l Idle i e = at_idle
deferred_rests l Read i e = at_read
deferred_rests l Seek i e = at_seek
deferred_rests l Append i e = absurd (true≢false (rw i at e))
deferred_rests l Sync i e = absurd (true≢false (rw i at e))
deferred_rests l Erase i e = absurd (true≢false (rw i at e))

-- a state in which every call but a completion only answers
abbrev Busy : State → Type 0
Busy s = (not (is s Idle) ≡ true) × (not (is s Read || is s Seek || is s Idle) ≡ true)

-- where the state rests, nothing is under way
pub under_nothing : {g : Setup} {page hold : List ℕ} {kept : ℕ} {b : Book} {o : ℕ} {s : State} {op : Operation} → Rests s
    → Under g page hold kept b o s op → op ≡ no_operation
under_nothing at_idle under.idle = refl
under_nothing at_read under.read = refl
under_nothing at_seek under.seek = refl

-- and where nothing is under way, the state may rest
pub under_rests : {g : Setup} {page hold : List ℕ} {kept : ℕ} {b : Book} {o : ℕ} {s : State} {op : Operation} → Rests s → op ≡ no_operation
    → Under g page hold kept b o s op
under_rests {g} {page} {hold} {kept} {b} {o} {s} r e = subst (Under g page hold kept b o s) (sym e) (go s r)
  where
    go : (s : State) → Rests s → Under g page hold kept b o s no_operation
    go Idle at_idle = under.idle
    go Read at_read = under.read
    go Seek at_seek = under.seek
    go Append x = elim x [ ]
    go Sync x = elim x [ ]
    go Erase x = elim x [ ]

-- what a quiet call gives and leaves
abbrev pub quietly : Log → Lent → State → ℕ → ℕ → ℕ → Report → Done
quietly l x state at kept answer report = record {
  outcome = record { log = moved l state l.oldest at l.append kept; answer = answer; report = report; request = no_request };
  page = x.page;
  hold = x.hold;
}

-- state and kept length stay; or the log rests before and after
pub data Quiet (l : Log) (x : Lent) : Done → Type 0 where
  stays : (at answer : ℕ) → Quiet l x (quietly l x l.state at l.kept answer no_report)
  rests : Rests l.state → {s : State} → Rests s → (at kept answer : ℕ) (report : Report) → Quiet l x (quietly l x s at kept answer report)

-- it has no request
quiet_request : {l : Log} {x : Lent} {d : Done} → Quiet l x d → d.outcome.request ≡ no_request
quiet_request (stays at answer) = refl
quiet_request (rests a c at kept answer report) = refl

module _ (l : Log) (x : Lent) where
  -- an answer alone
  quiet_still : (a : ℕ) → Quiet l x (still l x a)
  quiet_still a = stays l.read a

  -- a read, by what it finds
  quiet_found : (f : Found) → l.state ≡ Idle → Quiet l x (read_done_of l x f)
  quiet_found (no_entry a) i = quiet_still a
  quiet_found (entry id size) i = rests (idle_rests i) at_read (id + l.setup.w + size) size OK no_report

  -- every read
  pub quiet_read : (room n : ℕ) → Quiet l x (engine.call l x (read room n))
  unfolding read_runs
  quiet_read room n =
      by_call (Quiet l x) l x quiet_still (read room n)
      (λ h pass. let t = through (read_checks l room n) pass in
      by_pick (Quiet l x) (ltb l.append l.read) (λ c. stays l.oldest CANCEL)
      (λ c. by_unless (Quiet l x) l x quiet_still (first_of (unless_set l.read_client ∷ []))
      (λ d. quiet_found (found l x n) (same_state l.state Idle (not-false _ t.0)))))

  -- every seek
  pub quiet_seek : (id : ℕ) → Quiet l x (engine.call l x (seek id))
  quiet_seek id =
      by_call (Quiet l x) l x quiet_still (seek id)
      (λ h pass. let t = through (seek_checks l id) pass in
      rests (idle_rests (same_state l.state Idle (not-false _ t.0))) at_seek id l.kept OK no_report)

  -- every deferred call
  pub quiet_deferred : Quiet l x (engine.call l x deferred)
  quiet_deferred =
      by_call (Quiet l x) l x quiet_still deferred
      (λ h pass. let t = through (unless_deferred l ∷ []) pass in rests (deferred_rests l l.state refl t.0) at_idle l.read l.kept OK _)

  -- a completion that isn't due is refused
  stray_still : (c : Completion) → (unless_due l c).test ≡ true → Still l x (complete l x c)
  stray_still c t = subst (Still l x) (sym (complete_is l x c)) (check_stops l x (unless_due l c) [] (end_of l x c) t)

  -- in Append, Sync and Erase a call only answers
  busy_still : Busy l.state → (c : Call) → Still l x (engine.call l x c)
  busy_still (i, d) (append bytes n word) = check_stops l x (unless_idle l) _ _ i
  busy_still (i, d) (sync word) = go (synced l) refl
    where
      go : (t : Bool) → synced l ≡ t → Still l x (engine.call l x (sync word))
      go true e = check_stops l x (stop_if (synced l) OK) (unless_free l) _ e
      go false e =
          let s = check_stops l x (unless_idle l) (unless_set l.append_client ∷ []) (flush l x Sync l.kept word) i in
          record { answer = s.answer; is = check_passes l x (stop_if (synced l) OK) (unless_free l) (flush l x Sync l.kept word) e ∙ s.is }
  busy_still (i, d) (read room n) = check_stops l x (unless_idle l) _ _ i
  busy_still (i, d) (seek id) = check_stops l x (unless_idle l) _ _ i
  busy_still (i, d) deferred = check_stops l x (unless_deferred l) [] _ d
  busy_still (i, d) (erase word) = check_stops l x (unless_idle l) _ _ i

-- a completion that isn't of the operation under way: it comes only where STRAY refuses it
abbrev pub stray_step : Setup → World → Completion → Step
stray_step g x c =
    pick (unless_due x.log c).test (delivered g.first x unended (complete x.log (lent_by x) c) (completion_word c)) (undelivered x)

-- a request that isn't made starts nothing
pub no_start : (op : Operation) (word : Word) (first : ℕ) → under_way op no_request word first ≡ op
no_start op ok first = refl
no_start op busy first = refl
no_start op fail first = refl

-- a world with the power on; the setup is the log's own
module _ {x : World} {b : Book} (bk : Books x.log.setup x.volume b) (r : Running x.log.setup x b) where
  abbrev g : Setup
  g = x.log.setup

  -- a quiet call keeps the invariant
  pub quiet_inv : (word : Word) {d : Done} → Quiet x.log (lent_by x) d → state_fits d.outcome.log ≡ true
      → Inv g (delivered g.first x unended d word).world b
  quiet_inv word (stays at answer) fits =
      rw (no_start x.operation word g.first) (record {
        books = bk;
        powered = record { setup = refl; hold_length = r.hold_length; fits = fits; buffer = r.buffer; oldest = r.oldest; under = r.under };
      })
  quiet_inv word (rests a c at kept answer report) fits =
      rw (no_start x.operation word g.first) (record {
        books = bk;
        powered = record {
          setup = refl;
          hold_length = r.hold_length;
          fits = fits;
          buffer = r.buffer;
          oldest = r.oldest;
          under = under_rests c (under_nothing a r.under);
        };
      })

  -- a refused call leaves all as it was
  pub refused_inv : (word : Word) (a : ℕ) → Inv g (delivered g.first x unended (still x.log (lent_by x) a) word).world b
  refused_inv word a = quiet_inv word (quiet_still x.log (lent_by x) a) r.fits

  -- the event of a quiet call that brings no data keeps the invariant
  pub quiet_step : (c : Call) → append_data c ≡ none → Quiet x.log (lent_by x) (engine.call x.log (lent_by x) c)
      → After g b (event.call c) (step_on g x (event.call c))
  quiet_step c n q =
      let s : Step = step_on g x (event.call c) in
      let same : recorded g b (event.call c) s.told ≡ b =
      recorded_call g b c n s.told refl ∙ ap (λ (u : Request). asked b (erased_slot g.first u)) (quiet_request q) in
      subst (Inv g s.world) (sym same) (quiet_inv (call_word c) q (call_keeps x.log (lent_by x) c r.fits))

  -- a completion that isn't of the operation under way keeps it: STRAY refuses it, or it doesn't come
  pub stray_inv : Inv g x b → (c : Completion) (left : Left) → After g b (event.completion c left) (stray_step g x c)
  unfolding recorded
  stray_inv v c left = go (unless_due x.log c).test refl
    where
      come : Done → Step
      come d = delivered g.first x unended d (completion_word c)

      go : (t : Bool) → (unless_due x.log c).test ≡ t → After g b (event.completion c left) (pick t (come (complete x.log (lent_by x) c)) (undelivered x))
      go true t =
          let s = stray_still x.log (lent_by x) c t in
          subst (λ (d : Done). After g b (event.completion c left) (come d)) (sym s.is) (refused_inv (completion_word c) s.answer)
      go false t = v

-- where something is under way, the state is neither Idle nor due for a deferred call
under_busy : {g : Setup} {page hold : List ℕ} {kept : ℕ} {b : Book} {o : ℕ} {s : State} {op : Operation} → Under g page hold kept b o s op
    → (op ≡ no_operation) ⊎ Busy s
under_busy under.idle = inl refl
under_busy under.read = inl refl
under_busy under.seek = inl refl
under_busy (under.erase e) = inr (refl, refl)
under_busy (under.sync a) = inr (refl, refl)
under_busy (under.append a c) = inr (refl, refl)

-- while a write is under way, no call changes the page buffer or the operation: the page that a completion writes is the page that was requested
pub writing_keeps : {g : Setup} {x : World} {b : Book} → Inv g x b → {s : ℕ} → x.operation ≡ writing s → (c : Call)
    → ((step g x (event.call c)).world.page ≡ x.page) × ((step g x (event.call c)).world.operation ≡ writing s)
unfolding step
writing_keeps {g} {x} {b} v {s} e c = go x.power v.powered
  where
    Same : Step → Type 0
    Same y = (y.world.page ≡ x.page) × (y.world.operation ≡ writing s)

    busy_same : (x.operation ≡ no_operation) ⊎ Busy x.log.state → Same (step_on g x (event.call c))
    busy_same (inl n) = let z : ◌≡◌ {A = ℕ} 0 1 = cc in absurd (omega arith)
    busy_same (inr i) =
        let d = busy_still x.log (lent_by x) i c in
        let starts : Request → Operation = λ (q : Request). under_way x.operation q (call_word c) g.first in
        (ap (λ (d : Done). d.page) d.is, ap (λ (d : Done). starts d.outcome.request) d.is ∙ no_start x.operation (call_word c) g.first ∙ e)

    go : (p : Bool) → Powered g x b p → Same (pick p (step_on g x (event.call c)) (step_off g x (event.call c)))
    go true r = busy_same (under_busy r.under)
    go false n = (refl, e)
