-- What every call and every completion leaves: the setup and the clients; Idle, where it reports; and no append that can't go on.
use Prim.Native.Nat.{ℕ}
use mathlib.Core.Path.{◌≡◌, refl}
use mathlib.Core.Bool.{Bool, false, not, ◌&&◌}
use mathlib.Core.List.{List, [], ◌∷◌}
use mathlib.Core.Option.{none}
use lib.ListN.{length, take}
use lib.Seq.{length-take-le}
use lib.Dec.{ltb, eqb}
use Rattle.page.specs.Id.{offset_of}
use Rattle.engine_state.specs.Answer.{OK, CANCEL, Report, no_report, append_done, sync_done, erase_done, read_done, seek_done, Request}
use Rattle.engine_state.specs.Log.{State, Idle, Read, Seek, Append, Sync, Log, is}
use Rattle.engine_state.specs.Open.{may_open}
use Rattle.engine_call.specs.Outcome.{Lent, Done, Word, ok, busy, fail, first_of, moved}
use Rattle.engine_call.specs.Call.{Call, append, sync, read, seek, deferred, erase, Completion, write_ended, erase_ended}
use Rattle.engine_call.specs.Gate.{gate, unless_set}
use Rattle.engine_call.proofs.Gates.{shaped}
use Rattle.engine_write.specs.Flush.{flush}
use Rattle.engine_write.specs.Store.{store}
use Rattle.engine_write.specs.Append.{fits_page, holding, append_runs}
use Rattle.engine_write.proofs.AppendLaws.{accepted}
use Rattle.engine_write.specs.WriteComplete.{opens_next, append_written, sync_written, write_runs}
use Rattle.engine_read.specs.Read.{Found, entry, no_entry, found, read_done_of, read_runs}
use Rattle.engine_erase.specs.Erase.{erase_starts, last_erased, erases_next, erase_runs}
use Rattle.engine_laws.specs.Call.{call, complete}
use Rattle.engine_laws.proofs.Calls.{checks_of, body_of, end_of, by_pick, by_unless, by_call, by_complete}
use Rattle.engine_laws.proofs.Openable.{append_may}

-- a log in Append whose next page may not be opened
abbrev pub stuck : Log → Bool
stuck l = is l.state Append && not (may_open l.setup l.append)

-- whether a report is append_done(length, lost, CANCEL)
abbrev pub cancels : Report → Bool
cancels no_report = false
cancels (append_done length lost result) = eqb result CANCEL
cancels (sync_done result) = false
cancels (erase_done result) = false
cancels (read_done length result) = false
cancels (seek_done result) = false

pub record Leaves (l : Log) (d : Done) : Type 0 where
  pub setup : d.outcome.log.setup ≡ l.setup
  pub read_client : d.outcome.log.read_client ≡ l.read_client
  pub append_client : d.outcome.log.append_client ≡ l.append_client
  -- "Every report leaves state Idle."
  pub rests : (d.outcome.report ≡ no_report → ⊥) → d.outcome.log.state ≡ Idle
  -- a log that isn't stuck stays so, and no append of it reports CANCEL
  pub opens : stuck l ≡ false → stuck d.outcome.log ≡ false
  pub never : stuck l ≡ false → cancels d.outcome.report ≡ false

module _ {l : Log} {o r a k answer : ℕ} {request : Request} {page hold : List ℕ} where
  -- what ends in Idle, with any report
  idle : {report : Report} → (stuck l ≡ false → cancels report ≡ false)
      → Leaves l (record { outcome = record { log = moved l Idle o r a k; answer = answer; report = report; request = request }; page = page; hold = hold })
  idle n = record { setup = refl; read_client = refl; append_client = refl; rests = λ h. refl; opens = λ s. refl; never = n }

  -- what reports nothing, in any state
  quiet : {state : State} → (stuck l ≡ false → (is state Append && not (may_open l.setup a)) ≡ false)
      → Leaves l (record { outcome = record { log = moved l state o r a k; answer = answer; report = no_report; request = request }; page = page; hold = hold })
  quiet s = record { setup = refl; read_client = refl; append_client = refl; rests = λ h. absurd (h refl); opens = s; never = λ s. refl }

module _ (l : Log) (x : Lent) where
  flush_leaves : (x : Lent) (state : State) (kept : ℕ) (word : Word) → (is state Append && not (may_open l.setup l.append)) ≡ false
      → Leaves l (flush l x state kept word)
  unfolding flush
  flush_leaves x state kept ok m = quiet (λ o. m)
  flush_leaves x state kept busy m = quiet (λ o. refl)
  flush_leaves x state kept fail m = quiet (λ o. refl)

  read_leaves : (f : Found) → Leaves l (read_done_of l x f)
  read_leaves (no_entry a) = quiet (λ o. o)
  read_leaves (entry id size) = quiet (λ o. refl)

  starts_leaves : (word : Word) → Leaves l (erase_starts l x word)
  starts_leaves ok = quiet (λ o. refl)
  starts_leaves busy = quiet (λ o. refl)
  starts_leaves fail = quiet (λ o. refl)

  body_leaves : (c : Call) → gate l x ≡ none → first_of (checks_of l c) ≡ none → Leaves l (body_of l x c)
  unfolding append_runs store read_runs
  body_leaves (append bytes n word) g p =
      let e = length-take-le n bytes (accepted l (length bytes) n p).inside in
      by_pick (Leaves l) (fits_page l (length (take n bytes))) (λ h. idle (λ o. refl))
      (λ h. flush_leaves (holding x (take n bytes)) Append (length (take n bytes)) word
      (rw (append_may l (length bytes) n (shaped l _ _ _ g).sizes p (rw e at h))))
  body_leaves (sync word) g p = flush_leaves x Sync l.kept word refl
  body_leaves (read room n) g p =
      by_pick (Leaves l) (ltb l.append l.read) (λ b. quiet (λ o. o))
      (λ b. by_unless (Leaves l) l x (λ a. quiet (λ o. o)) (first_of (unless_set l.read_client ∷ [])) (λ e. read_leaves (found l x n)))
  body_leaves (seek id) g p = quiet (λ o. refl)
  body_leaves deferred g p =
      idle (λ o. by_pick (λ (r : Report). cancels r ≡ false) (is l.state Read) (λ e. refl)
      (λ e. by_pick (λ (r : Report). cancels r ≡ false) (is l.state Seek) (λ e. refl) (λ e. refl)))
  body_leaves (erase word) g p = starts_leaves word

  -- "A restart, completion or deferred call that isn't refused answers OK"
  abbrev Ends : Done → Type 0
  Ends d = Leaves l d × (d.outcome.answer ≡ OK)

  erases_end : (word : Word) → Ends (erases_next l x word)
  erases_end ok = (quiet (λ o. refl), refl)
  erases_end busy = (idle (λ o. refl), refl)
  erases_end fail = (idle (λ o. refl), refl)

  ends : (c : Completion) → Ends (end_of l x c)
  unfolding write_runs append_written sync_written store erase_runs
  ends (write_ended good) =
      by_pick Ends (is l.state Append)
      (λ a. by_pick Ends good (λ g. by_pick Ends (opens_next l) (λ h. (idle (λ o. refl), refl)) (λ h. (idle (λ o. rw (a, h) at o), refl)))
      (λ g. (idle (λ o. refl), refl)))
      (λ a. by_pick Ends good
      (λ g. by_pick Ends (eqb (offset_of l.setup.p l.append) 0 && opens_next l) (λ h. (idle (λ o. refl), refl)) (λ h. (idle (λ o. refl), refl)))
      (λ g. (idle (λ o. refl), refl)))
  ends (erase_ended good word) =
      by_pick Ends good (λ g. by_pick Ends (last_erased l) (λ h. (idle (λ o. refl), refl)) (λ h. erases_end word)) (λ g. (idle (λ o. refl), refl))

  pub end_ok : (c : Completion) → (end_of l x c).outcome.answer ≡ OK
  end_ok c = (ends c).1

  pub call_leaves : (c : Call) → Leaves l (call l x c)
  call_leaves c = by_call (Leaves l) l x (λ a. quiet (λ o. o)) c (body_leaves c)

  pub complete_leaves : (c : Completion) → Leaves l (complete l x c)
  complete_leaves c = by_complete (Leaves l) l x (λ a. quiet (λ o. o)) c (λ g p. (ends c).0)

  -- an append never reports CANCEL within the call, whatever the log
  pub append_never : (bytes : List ℕ) (n : ℕ) (word : Word) → cancels (call l x (append bytes n word)).outcome.report ≡ false
  append_never bytes n word =
      by_call (λ (d : Done). cancels d.outcome.report ≡ false) l x (λ a. refl) (append bytes n word)
      (λ g p. (body_leaves (append bytes n word) g p).never (rw (accepted l (length bytes) n p).idle))
