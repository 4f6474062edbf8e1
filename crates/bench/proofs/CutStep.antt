-- The events with the power on, but a restart: calls, completions and cuts keep the invariant. The setup is the log's own.
use mathlib.Core.Path.{◌≡◌, refl, ap}
use mathlib.Core.Bool.{not, ◌||◌}
use Rattle.page.specs.Pick.{pick}
use Rattle.engine_state.specs.Log.{Setup, State, Append, Sync, Erase, is}
use Rattle.engine_call.specs.Call.{Call, append, sync, read, seek, deferred, erase, Completion, write_ended, erase_ended}
use Rattle.engine_laws.specs.Call.{complete}
use Rattle.bench_flash.specs.Flash.{Operation, Left}
use Rattle.bench_flash.specs.Event.{call, completion, cut}
use Rattle.bench.specs.World.{World, lent_by, Step, ends, completion_step, cut_step, step_on}
use Rattle.bench.specs.Book.{Book, entry_of, recorded}
use Rattle.bench.specs.Promise.{Clear}
use Rattle.bench.proofs.Invariant.{UnderIn, Running, Inv, After}
use Rattle.bench.proofs.Invariant as under
use Rattle.bench.proofs.BookSteps.{books_ended}
use Rattle.bench.proofs.Quiet.{quiet_read, quiet_seek, quiet_deferred, quiet_step, stray_step, stray_inv}
use Rattle.bench.proofs.AppendStep.{append_step}
use Rattle.bench.proofs.SyncStep.{sync_step}
use Rattle.bench.proofs.WrittenKeeps.{ended_step, lent_then, due_ends}
use Rattle.bench.proofs.WriteStep.{append_ends, sync_ends}
use Rattle.bench.proofs.EraseStep.{erase_step, erase_ends}

module _ {x : World} {b : Book} (v : Inv x.log.setup x b) (r : Running x.log.setup x b) where
  abbrev g : Setup
  g = x.log.setup

  -- a call
  pub call_step : (c : Call) → Clear (entry_of b (call c) (step_on g x (call c)).told) → After g b (call c) (step_on g x (call c))
  call_step (append bytes n word) clear = append_step v.books r bytes n word clear
  call_step (sync word) clear = sync_step v.books r word
  call_step (read room n) clear = quiet_step v.books r (read room n) refl (quiet_read x.log (lent_by x) room n)
  call_step (seek id) clear = quiet_step v.books r (seek id) refl (quiet_seek x.log (lent_by x) id)
  call_step deferred clear = quiet_step v.books r deferred refl (quiet_deferred x.log (lent_by x))
  call_step (erase word) clear = erase_step v.books r word

  -- a completion: of the write or the erase under way, or a stray one
  pub completion_step_lem : (c : Completion) (left : Left) → Clear (entry_of b (completion c left) (completion_step g x c left).told)
      → After g b (completion c left) (completion_step g x c left)
  completion_step_lem c left = go c x.log.state x.operation refl r.under
    where
      step_by : Completion → Operation → Step
      step_by c op = pick (ends c op) (ended_step x op c left (complete x.log (lent_then x op c left) c)) (stray_step g x c)

      stray : (c : Completion) → After g b (completion c left) (stray_step g x c)
      stray c = stray_inv v.books r v c left

      go : (c : Completion) (s : State) (op : Operation) → x.log.state ≡ s → UnderIn g x b r.oldest.page s op
          → Clear (entry_of b (completion c left) (step_by c op).told) → After g b (completion c left) (step_by c op)
      go (write_ended good) _ _ e under.idle clear = stray (write_ended good)
      go (write_ended good) _ _ e under.read clear = stray (write_ended good)
      go (write_ended good) _ _ e under.seek clear = stray (write_ended good)
      go (write_ended good) _ _ e (under.erase q) clear = stray (write_ended good)
      go (write_ended good) _ _ e (under.sync wr) clear =
          due_ends v.books r (under.sync wr) (write_ended good) left (ap (λ (s : State). not (is s Append || is s Sync)) e)
          (sync_ends v.books r wr e good left) clear
      go (write_ended good) _ _ e (under.append wr wa) clear =
          due_ends v.books r (under.append wr wa) (write_ended good) left (ap (λ (s : State). not (is s Append || is s Sync)) e)
          (append_ends v.books r wr e wa good left) clear
      go (erase_ended good word) _ _ e under.idle clear = stray (erase_ended good word)
      go (erase_ended good word) _ _ e under.read clear = stray (erase_ended good word)
      go (erase_ended good word) _ _ e under.seek clear = stray (erase_ended good word)
      go (erase_ended good word) _ _ e (under.erase q) clear =
          due_ends v.books r (under.erase q) (erase_ended good word) left (ap (λ (s : State). not (is s Erase)) e)
          (erase_ends v.books r q left good word) clear
      go (erase_ended good word) _ _ e (under.sync wr) clear = stray (erase_ended good word)
      go (erase_ended good word) _ _ e (under.append wr wa) clear = stray (erase_ended good word)

  -- a cut
  pub cut_step_lem : (left : Left) → After g b (cut left) (cut_step g.p x left)
  unfolding recorded
  cut_step_lem left = record { books = books_ended v.books r.under left; powered = refl }
