-- The event sync keeps the invariant. The setup is the log's own.
use mathlib.Core.Path.{◌≡◌, refl}
use mathlib.Core.Bool.{true}
use borrow.Author.Tests.{eqb-false, not-false}
use Rattle.page.specs.Id.{offset_of}
use Rattle.engine_state.specs.Log.{Setup, Idle, Sync}
use Rattle.engine_state.specs.Check.{state_fits}
use Rattle.engine_call.specs.Outcome.{Done, Word, ok, busy, fail}
use Rattle.engine_call.specs.Call as calls
use Rattle.engine_call.proofs.Checks.{through, same_state}
use Rattle.engine_write.specs.Flush.{flush}
use Rattle.engine_write.specs.Sync.{sync_checks}
use Rattle.engine_laws.proofs.Calls.{by_call}
use Rattle.engine_laws.proofs.CallKeeps.{call_keeps}
use Rattle.bench_flash.specs.Event.{call}
use Rattle.bench.specs.World.{World, lent_by, unended, delivered, step_on}
use Rattle.bench.specs.Book.{Book, recorded}
use Rattle.bench.proofs.Invariant.{SomeEntry, Books, sync, Running, After}
use Rattle.bench.proofs.Quiet.{refused_inv}
use Rattle.bench.proofs.Appends.{offset_empty}
use Rattle.bench.proofs.Flushes.{flush_accepted, flush_refused}

module _ {x : World} {b : Book} (bk : Books x.log.setup x.volume b) (r : Running x.log.setup x b) where
  abbrev g : Setup
  g = x.log.setup

  -- the step, by what the call gave
  abbrev Kept : Word → Done → Type 0
  Kept word d = state_fits d.outcome.log ≡ true → After g b (call (calls.sync word)) (delivered g.first x unended d word)

  -- a flush, where something is to be written
  flush_keeps : (word : Word) → SomeEntry b.open_page → x.log.state ≡ Idle → Kept word (flush x.log (lent_by x) Sync x.log.kept word)
  unfolding flush recorded
  flush_keeps ok e i fits = flush_accepted bk r Sync x.log.kept x.hold r.hold_length e b.waiting fits (λ writes. sync writes)
  flush_keeps busy e i fits = flush_refused bk r Sync x.log.kept x.hold r.hold_length e busy refl refl i fits
  flush_keeps fail e i fits = flush_refused bk r Sync x.log.kept x.hold r.hold_length e fail refl refl i fits

  -- the event sync keeps the invariant
  pub sync_step : (word : Word) → After g b (call (calls.sync word)) (step_on g x (call (calls.sync word)))
  unfolding recorded
  sync_step word =
      by_call (Kept word) x.log (lent_by x) (λ a fits. refused_inv bk r word a) (calls.sync word)
      (λ h pass. let t = through (sync_checks x.log) pass in
      flush_keeps word (λ nil. eqb-false (offset_of g.p x.log.append) g.w t.0 (offset_empty bk r.buffer nil))
      (same_state x.log.state Idle (not-false _ t.1.0)))
      (call_keeps x.log (lent_by x) (calls.sync word) r.fits)
