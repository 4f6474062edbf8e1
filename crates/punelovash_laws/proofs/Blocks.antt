-- A call on a block that holds a log leaves a block that holds exactly that call's log. w is the width of a word.
use Prim.Native.Nat.{ℕ}
use mathlib.Core.Path.{◌≡◌, refl, ap}
use mathlib.Core.Bool.{Bool, true, false}
use mathlib.Core.List.{List}
use mathlib.Core.Option.{Option, none, some}
use native.Mathlib.Omega.{arith}
use lib.ListN.{length}
use lib.Dec.{eqb}
use borrow.Author.Tests.{eqb-true}
use Rattle.page.specs.Pick.{pick}
use Rattle.page.proofs.Kit.{wide}
use Rattle.page.specs.Header.{Extent}
use Rattle.engine_state.specs.Answer.{OK, SHAPE, STATE}
use Rattle.engine_state.specs.Log.{Setup, Log}
use Rattle.engine_state.specs.Check.{sizes_fit, shape_fits, state_fits}
use Rattle.engine_state.proofs.Checks.{sizes_fit_lem, sizes_of, state_fits_lem}
use Rattle.engine_call.specs.Outcome.{Outcome, Lent, Done, answered}
use Rattle.engine_call.specs.Call.{Call, Completion}
use Rattle.engine_restart.specs.Restart.{started, refused, RestartDone, started_from, headers, restart}
use Rattle.engine_restart.proofs.Restarts.{log_from, restored_log, started_log}
use Rattle.engine_restart.proofs.RestartState.{restart_fits}
use Rattle.engine_marks.specs.Nearest.{nearest}
use Rattle.engine_marks.specs.Between.{Stamps, between}
use Rattle.engine_marks.specs.Reader.{reader_step}
use Rattle.engine_laws.specs.Call.{call, complete}
use Rattle.engine_laws.specs.Reached as log
use Rattle.engine_laws.proofs.CallKeeps.{call_keeps, complete_keeps}
use Rattle.engine_laws.proofs.Leaves.{Leaves, call_leaves, complete_leaves}
use Rattle.punelovash_block.specs.Block.{block_size, setup_from, saved, sized}
use Rattle.punelovash_block.specs.Call.{unchanged, ran, call_block, complete_block, restart_saved, restart_block}
use Rattle.punelovash_block.specs.Search.{nearest_block, between_block, next_block}
use Rattle.punelovash_block.proofs.RoundTrip.{HeadedBy, Small, headed, round_trip, sized_headed}
use Rattle.punelovash_laws.specs.Reached.{Holds, HoldsStarted, ReachedBlock, restarts, calls, completes, HoldsReached}

-- the numbers of a log that SHAPE and STATE let through fit their places
small : (l : Log) → sizes_fit l.setup ≡ true → state_fits l ≡ true → Small l.setup.w l
small l g h =
    let s = state_fits_lem l h in
    let z = sizes_fit_lem l.setup g in
    let d = wide z.sizes.page.width in
    record { oldest = omega (arith, s, d); read = omega (arith, s, d); append = omega (arith, s, d); kept = omega (arith, s, z) }

-- so what is saved in a block with the log's sizes, mode and clients is held
saved_holds : (w : ℕ) (block : List ℕ) (o : Outcome) → HeadedBy w block o.log → sizes_fit o.log.setup ≡ true → state_fits o.log ≡ true
    → Holds w (saved w o block) o.log
saved_holds w block o h g s =
    let v : w ≡ o.log.setup.w = ap (λ (k : Setup). k.w) h.setup in
    record { loads = round_trip w block o h (rw v (small o.log g s)); sizes = g; state = s }

module _ {w : ℕ} {block : List ℕ} {l : Log} (h : Holds w block l) where
  ran_holds : (d : Done) → Leaves l d → state_fits d.outcome.log ≡ true → Holds w (ran w block d).block d.outcome.log
  ran_holds d e s = saved_holds w block d.outcome (rw (e.setup, e.read_client, e.append_client) (headed w block h.loads)) (rw e.setup h.sizes) s

  -- a call and a completion
  pub holds_after_call : (x : Lent) (c : Call) → Holds w (call_block w block x c).block (call l x c).outcome.log
  holds_after_call x c = rw h.loads (ran_holds (call l x c) (call_leaves l x c) (call_keeps l x c h.state))

  pub holds_after_completion : (x : Lent) (c : Completion) → Holds w (complete_block w block x c).block (complete l x c).outcome.log
  holds_after_completion x c = rw h.loads (ran_holds (complete l x c) (complete_leaves l x c) (complete_keeps l x c h.state))

  -- a search, and a step of the reader, are those of the log that the block holds; they leave the block as it is
  pub nearest_held : (volume page : List ℕ) (t : ℕ) → nearest_block w block volume page t ≡ nearest l volume page t
  nearest_held volume page t = rw h.loads refl

  pub between_held : (volume page : List ℕ) (r : Stamps) (ids : List ℕ) → between_block w block volume page r ids ≡ between l volume page r ids
  between_held volume page r ids = rw h.loads refl

  pub next_held : (volume page : List ℕ) (at : ℕ) → next_block w block volume page at ≡ reader_step l volume page at
  next_held volume page at = rw h.loads refl

-- the log that a restart finds has the sizes, the mode and the clients that it is given
found_same : (s : Setup) (read_client append_client : Bool) (volume : List ℕ) (h : Option Extent)
    → let l = log_from s read_client append_client volume h in (l.setup ≡ s) × (l.read_client ≡ read_client) × (l.append_client ≡ append_client)
found_same s read_client append_client volume none = (refl, refl, refl)
found_same s read_client append_client volume (some ids) = (refl, refl, refl)

-- a restart that answers OK
module _ (block : List ℕ) (s : Setup) (read_client append_client : Bool) (x : Lent) where
  abbrev shaped : Bool
  shaped = shape_fits s (length x.volume) (length x.page) (length x.hold)

  abbrev found : Log
  found = restored_log s read_client append_client x.volume

  found_holds : length block ≡ block_size s.w → shaped ≡ true → (restart s read_client append_client x).answer ≡ started found
      → Holds s.w (saved s.w (answered found OK) (sized s read_client append_client block)) found
  found_holds z t e =
      let f = sizes_fit_lem s (sizes_of s _ _ _ t) in
      let same = found_same s read_client append_client x.volume (headers s x.volume) in
      let head = sized_headed block s read_client append_client z (omega (arith, f)) (omega (arith, f)) (omega (arith, f)) in
      saved_holds s.w _ (answered found OK) (rw (same.0, same.1, same.2) head) (rw same.0 (sizes_of s _ _ _ t))
      (restart_fits s read_client append_client x e)

  pub holds_after_restart : (restart_block s.w block s read_client append_client x).answer ≡ OK
      → HoldsStarted (restart_block s.w block s read_client append_client x).block s read_client append_client x
  unfolding restart
  holds_after_restart ok = go (eqb (length block) (block_size s.w)) refl shaped refl ok
    where
      done : Bool → RestartDone
      done t = pick t (started_from s read_client append_client x (headers s x.volume)) (record { answer = refused SHAPE; page = x.page })

      go : (b : Bool) → eqb (length block) (block_size s.w) ≡ b → (t : Bool) → shaped ≡ t
          → (pick b (restart_saved s.w block s read_client append_client x (done t).page (done t).answer) (unchanged STATE block x)).answer ≡ OK
          → HoldsStarted (restart_block s.w block s read_client append_client x).block s read_client append_client x
      go false z t e ok = absurd (omega (arith, ok))
      go true z false e ok = absurd (omega (arith, ok))
      go true z true e ok =
          let starts : (restart s read_client append_client x).answer ≡ started found =
          rw e (started_log s read_client append_client x (headers s x.volume)) in
          record { log = found; starts = starts; holds = rw (z, starts) (found_holds (eqb-true _ _ z) e starts) }

-- every block that a restart and calls lead to holds a log that a restart and calls lead to
pub reached_holds : {w : ℕ} {block : List ℕ} → ReachedBlock w block → HoldsReached w block
reached_holds (restarts block p n first circular read_client append_client x e) =
    let h = holds_after_restart block (setup_from _ p n first circular) read_client append_client x e in
    record { log = h.log; holds = h.holds; reached = log.restarts _ read_client append_client x h.starts }
reached_holds (calls block x c b) =
    let h = reached_holds b in
    record { log = (call h.log x c).outcome.log; holds = holds_after_call h.holds x c; reached = log.calls x c h.reached }
reached_holds (completes block x c b) =
    let h = reached_holds b in
    record { log = (complete h.log x c).outcome.log; holds = holds_after_completion h.holds x c; reached = log.completes x c h.reached }

-- and so of each board
pub reached_holds_4 : {block : List ℕ} → ReachedBlock 4 block → HoldsReached 4 block
reached_holds_4 = reached_holds

pub reached_holds_8 : {block : List ℕ} → ReachedBlock 8 block → HoldsReached 8 block
reached_holds_8 = reached_holds
