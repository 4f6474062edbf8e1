-- Laws of a block that is lent with a volume and two buffers and gives no log.
use Rattle.std.proofs.Common.{◌≡◌, ℕ, Bool, false, not, List, [], ◌∷◌, length, eqb, Err, Option, Some, None, ok_or}
use Rattle.std.proofs.Common.{refl, sym, ap, subst, ◌∙◌, eq-eqb, ne_eqb}
use Rattle.std.proofs.Math.Option as m
use Rattle.std.proofs.Math.Bool.{and-false, and-true}
use borrow.Author.Tests.{not-true}
use Rattle.page.proofs.Kit.{both}
use Rattle.engine_state.specs.Answer.{SHAPE}
use Rattle.engine_state.specs.Log.{Setup, Log}
use Rattle.engine_state.specs.declared.state.Log as log
use Rattle.engine_state.specs.Check.{sizes_fit, shape_fits}
use Rattle.engine_call.specs.Outcome.{Lent, Done, Stop, first_of, still}
use Rattle.engine_call.specs.Call.{Call, Completion}
use Rattle.engine_call.specs.Gate.{gate_by, called}
use Rattle.engine_read.specs.Read.{read_checks, read_runs, read_buffer}
use Rattle.engine_laws.specs.Call.{unless_due}
use Rattle.engine_laws.proofs.Calls.{checks_of, body_of, end_of, call_is, complete_is}
use Rattle.punelovash_block.specs.Block.{block_size, setup_from, setup_at, loaded_of, loaded}
use Rattle.punelovash_block.specs.Call.{block_done, misfit_by, run_loaded, AsIfLent, call_block, complete_block, shape_refused, LoadsLent, read_loaded}
use Rattle.punelovash_block.specs.declared.block.NotLoaded.{NotLoaded}
use Rattle.punelovash_block.specs.declared.block.NotLoaded.TheVariants.{Misfit, NoLog}
use Rattle.punelovash_block.proofs.Blocks.{has_size, other_size, loaded_tests}

-- a buffer of another length than a page doesn't fit
pub other_page : (s : Setup) (volume page hold : ℕ) {p : ℕ} → (page ≡ p → ⊥) → p ≡ s.p → shape_fits s volume page hold ≡ false
unfolding shape_fits
other_page s volume page hold d e = rw (ne_eqb page s.p (λ k. d (k ∙ sym e)), and-false)

-- one of that length may stand for it
pub same_page : (s t : Setup) (page : ℕ) → s ≡ t → page ≡ s.p → setup_from s.w page s.n s.first s.circular ≡ t
same_page s t page e k = ap (λ (p : ℕ). setup_from s.w p s.n s.first s.circular) k ∙ e

-- what is lent as if by the sizes fits where they do
pub as_sized : (s : Setup) (x : Lent) → AsIfLent s x → shape_fits s (length x.volume) (length x.page) (length x.hold) ≡ sizes_fit s
unfolding shape_fits
as_sized s x e = rw (eq-eqb _ _ e.0, eq-eqb _ _ e.1, eq-eqb _ _ e.2, and-true, and-true, and-true)

-- past SHAPE
pub loads : (w : ℕ) (block : List ℕ) (volume page hold : ℕ) (o : Option log.Log) → loaded_of o ≡ loaded w block → misfit_by w block volume page hold ≡ false
    → LoadsLent w block volume page hold (ok_or o NoLog)
loads w block volume page hold (Some l) e m = sym e
loads w block volume page hold None e m = (sym e, m)

-- what tells a block that gives a log with what is lent from one that gives none
pub ruleset unlent_tests = (has_size, other_size, as_sized)

pub ruleset lent_tests = (has_size, other_size, other_page, same_page, loads)

-- a call that SHAPE refuses
abbrev Shaped : Setup → Lent → Bool
Shaped s x = shape_fits s (length x.volume) (length x.page) (length x.hold)

called_misfit : (l : Log) (x : Lent) (checks : List Stop) (body : Done) → Shaped l.setup x ≡ false → called l x checks body ≡ still l x SHAPE
unfolding gate_by first_of
called_misfit l x checks body h = rw h

-- a block that gives no log with what is lent
abbrev pub Refused : ℕ → List ℕ → Lent → NotLoaded → Type 0
Refused w block x why = LoadsLent w block (length x.volume) (length x.page) (length x.hold) (Err why)

-- by the lengths that a call has looked at
by_lengths : (w : ℕ) (block : List ℕ) (x : Lent) (why : NotLoaded) {volume page hold : ℕ}
    → (volume ≡ length x.volume) × (page ≡ length x.page) × (hold ≡ length x.hold) → LoadsLent w block volume page hold (Err why) → Refused w block x why
by_lengths w block x Misfit z e = rw (z.0, z.1, z.2) at e
by_lengths w block x NoLog z e = (e.0, rw (z.0, z.1, z.2) at e.1)

-- where it holds a log, SHAPE refuses that
refused_log : (w : ℕ) (block : List ℕ) (x : Lent) (why : NotLoaded) {l : Log} → Refused w block x why → loaded w block ≡ m.some l → Shaped l.setup x ≡ false
unfolding misfit_by
refused_log w block x Misfit m e =
    let t = (both (eqb (length block) (block_size w)) (not (Shaped (setup_at w block) x)) m).1 in
    subst (λ (k : Log). Shaped k.setup x ≡ false) (loaded_tests w block e).2 (not-true _ t)
refused_log w block x NoLog {l} h e = absurd (m.none-ne-some l (sym h.0 ∙ e))

-- what a refusal leaves is what every call and every completion comes to
module _ (w : ℕ) (block : List ℕ) (x : Lent) (why : NotLoaded) {volume page hold : ℕ}
    (z : (volume ≡ length x.volume) × (page ≡ length x.page) × (hold ≡ length x.hold)) (e : LoadsLent w block volume page hold (Err why)) where
  refused_runs : (run : Log → Done) → ((l : Log) → Shaped l.setup x ≡ false → run l ≡ still l x SHAPE)
      → shape_refused w block x ≡ run_loaded w block x run (loaded w block)
  refused_runs run f = go (loaded w block) refl
    where
      go : (h : m.Option Log) → loaded w block ≡ h → run_loaded w block x (λ l. still l x SHAPE) h ≡ run_loaded w block x run h
      go m.none q = refl
      go (m.some l) q = ap (λ (d : Done). run_loaded w block x (λ _. d) (m.some l)) (sym (f l (refused_log w block x why (by_lengths w block x why z e) q)))

  module _ {a : ℕ} {after : List ℕ} (d : (x : Lent) → Refused w block x why → block_done a after x.page x.hold ≡ shape_refused w block x) where
    pub refused_calls : (c : Call) → block_done a after x.page x.hold ≡ call_block w block x c
    refused_calls c =
        d x (by_lengths w block x why z e) ∙ refused_runs _ (λ l h. call_is l x c ∙ called_misfit l x (checks_of l c) (body_of l x c) h)

    pub refused_completes : (c : Completion) → block_done a after x.page x.hold ≡ complete_block w block x c
    refused_completes c =
        d x (by_lengths w block x why z e) ∙ refused_runs _ (λ l h. complete_is l x c ∙ called_misfit l x (unless_due l c ∷ []) (end_of l x c) h)

  -- and a read leaves the client's buffer as it was
  pub refused_reads : (bytes : List ℕ) (n : ℕ) → bytes ≡ read_loaded x bytes n (loaded w block)
  unfolding read_buffer
  refused_reads bytes n = go (loaded w block) refl
    where
      go : (h : m.Option Log) → loaded w block ≡ h → bytes ≡ read_loaded x bytes n h
      go m.none q = refl
      go (m.some l) q =
          rw (called_misfit l x (read_checks l (length bytes) n) (read_runs l x n) (refused_log w block x why (by_lengths w block x why z e) q))
