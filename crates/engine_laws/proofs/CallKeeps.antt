-- Every call and every completion keeps STATE.
use mathlib.Core.Path.{◌≡◌, refl}
use mathlib.Core.Bool.{true}
use mathlib.Core.Option.{none}
use native.Mathlib.Omega.{arith}
use Rattle.engine_state.specs.Log.{Idle, Sync, Erase, Log}
use Rattle.engine_state.specs.Check.{kept_fits, state_fits}
use Rattle.engine_state.proofs.Checks.{StateFits, state_fits_lem, fits_state}
use Rattle.engine_call.specs.Outcome.{Lent, Done, state_after, first_of}
use Rattle.engine_call.specs.Call.{Call, append, sync, read, seek, deferred, erase, Completion, write_ended, erase_ended}
use Rattle.engine_call.specs.Gate.{gate}
use Rattle.engine_call.proofs.Gates.{shaped}
use Rattle.engine_laws.specs.Call.{call, complete}
use Rattle.engine_laws.proofs.Calls.{checks_of, body_of, end_of, by_call, by_complete}
use Rattle.engine_laws.proofs.StateKit.{LeavesState, kept_after, flush_fits, state_set}
use Rattle.engine_laws.proofs.WritesKeep.{append_fits, write_fits}
use Rattle.engine_laws.proofs.ReadsKeep.{read_fits, seek_fits}
use Rattle.engine_laws.proofs.ErasesKeep.{erase_fits}

-- the state after a body satisfies STATE
body_fits : (l : Log) (x : Lent) (c : Call) → gate l x ≡ none → StateFits l → first_of (checks_of l c) ≡ none → LeavesState (body_of l x c)
unfolding kept_fits
body_fits l x (append bytes n word) h s p = append_fits l (shaped l _ _ _ h).sizes s x bytes n word p
body_fits l x (sync word) h s p = flush_fits l (shaped l _ _ _ h).sizes s x Sync l.kept word s.kept_most refl
body_fits l x (read room n) h s p = read_fits l (shaped l _ _ _ h).sizes s x n
body_fits l x (seek id) h s p = seek_fits l s x id p
body_fits l x deferred h s p = state_set s Idle refl
body_fits l x (erase word) h s p = state_set s (state_after word Erase) (kept_after word Erase l.kept refl)

end_fits : (l : Log) (x : Lent) (c : Completion) → gate l x ≡ none → StateFits l → LeavesState (end_of l x c)
end_fits l x (write_ended good) h s = let g = shaped l _ _ _ h in write_fits l g.sizes s x good (omega (arith, g.held, s.kept_most))
end_fits l x (erase_ended good word) h s = erase_fits l (shaped l _ _ _ h).sizes s x good word

-- every call and every completion keeps STATE
abbrev KeptBy : Done → Type 0
KeptBy d = state_fits d.outcome.log ≡ true

pub call_keeps : (l : Log) (x : Lent) (c : Call) → state_fits l ≡ true → state_fits (call l x c).outcome.log ≡ true
call_keeps l x c h = by_call KeptBy l x (λ a. h) c (λ g p. fits_state _ (body_fits l x c g (state_fits_lem l h) p))

pub complete_keeps : (l : Log) (x : Lent) (c : Completion) → state_fits l ≡ true → state_fits (complete l x c).outcome.log ≡ true
complete_keeps l x c h = by_complete KeptBy l x (λ a. h) c (λ g p. fits_state _ (end_fits l x c g (state_fits_lem l h)))
