-- Any call and any completion by its checks and its body, and how to prove a thing of all of them.
use Prim.Native.Nat.{ℕ}
use mathlib.Core.Path.{◌≡◌, refl, sym, subst}
use mathlib.Core.Bool.{Bool, true, false}
use mathlib.Core.List.{List, [], ◌∷◌}
use mathlib.Core.Option.{Option, none, some}
use lib.ListN.{length, take}
use Rattle.page.specs.Pick.{pick}
use Rattle.engine_state.specs.Log.{Sync, Log}
use Rattle.engine_call.specs.Outcome.{Lent, Done, Stop, first_of, ◌or_else◌, still, unless}
use Rattle.engine_call.specs.Call.{Call, append, sync, read, seek, deferred, erase, Completion, write_ended, erase_ended}
use Rattle.engine_call.specs.Gate.{gate, called, unless_free, unless_deferred}
use Rattle.engine_call.proofs.Checks.{or_none}
use Rattle.engine_write.specs.Flush.{flush}
use Rattle.engine_write.specs.Append.{append_checks, append_runs}
use Rattle.engine_write.specs.Sync.{sync_checks}
use Rattle.engine_write.specs.WriteComplete.{write_runs}
use Rattle.engine_read.specs.Read.{read_checks, read_runs}
use Rattle.engine_read.specs.Seek.{seek_checks, seek_runs}
use Rattle.engine_read.specs.Deferred.{deferred_runs}
use Rattle.engine_erase.specs.Erase.{erase_starts, erase_runs}
use Rattle.engine_laws.specs.Call.{call, complete, unless_due}

abbrev pub checks_of : Log → Call → List Stop
checks_of l (append bytes n word) = append_checks l (length bytes) n
checks_of l (sync word) = sync_checks l
checks_of l (read room n) = read_checks l room n
checks_of l (seek id) = seek_checks l id
checks_of l deferred = unless_deferred l ∷ []
checks_of l (erase word) = unless_free l

abbrev pub body_of : Log → Lent → Call → Done
body_of l x (append bytes n word) = append_runs l x (take n bytes) word
body_of l x (sync word) = flush l x Sync l.kept word
body_of l x (read room n) = read_runs l x n
body_of l x (seek id) = seek_runs l x id
body_of l x deferred = deferred_runs l x
body_of l x (erase word) = erase_starts l x word

abbrev pub end_of : Log → Lent → Completion → Done
end_of l x (write_ended good) = write_runs l x good
end_of l x (erase_ended good word) = erase_runs l x good word

pub call_is : (l : Log) (x : Lent) (c : Call) → call l x c ≡ called l x (checks_of l c) (body_of l x c)
call_is l x (append bytes n word) = refl
call_is l x (sync word) = refl
call_is l x (read room n) = refl
call_is l x (seek id) = refl
call_is l x deferred = refl
call_is l x (erase word) = refl

pub complete_is : (l : Log) (x : Lent) (c : Completion) → complete l x c ≡ called l x (unless_due l c ∷ []) (end_of l x c)
complete_is l x (write_ended good) = refl
complete_is l x (erase_ended good word) = refl

-- what holds of both of two values holds of the one that a test picks
pub by_pick : {A : Type 0} (P : A → Type 0) (b : Bool) {y z : A} → (b ≡ true → P y) → (b ≡ false → P z) → P (pick b y z)
by_pick P true f g = f refl
by_pick P false f g = g refl

module _ (P : Done → Type 0) (l : Log) (x : Lent) (s : (a : ℕ) → P (still l x a)) where
  -- what holds of each answer alone, and of a body where the checks pass, holds of both together
  pub by_unless : (c : Option ℕ) {d : Done} → (c ≡ none → P d) → P (unless c l x d)
  by_unless none b = b refl
  by_unless (some a) b = s a

  pub by_call : (c : Call) → (gate l x ≡ none → first_of (checks_of l c) ≡ none → P (body_of l x c)) → P (call l x c)
  by_call c b = subst P (sym (call_is l x c)) (by_unless (gate l x or_else first_of (checks_of l c)) (λ e. let p = or_none (gate l x) _ e in b p.0 p.1))

  pub by_complete : (c : Completion) → (gate l x ≡ none → first_of (unless_due l c ∷ []) ≡ none → P (end_of l x c)) → P (complete l x c)
  by_complete c b =
      subst P (sym (complete_is l x c)) (by_unless (gate l x or_else first_of (unless_due l c ∷ [])) (λ e. let p = or_none (gate l x) _ e in b p.0 p.1))
