-- What a block holds after each call of the C interface, as each board's export states it.
use Rattle.std.proofs.Common.{◌≡◌, ℕ, Bool, List, length, Bor, MutBor, sym, ap, subst, ◌∙◌}
use contract.Lifetimes.{Lfts}
use Rattle.engine_state.specs.Answer.{OK}
use Rattle.engine_state.specs.Log.{Setup, Log}
use Rattle.engine_call.specs.Outcome.{Lent, lend}
use Rattle.engine_call.specs.Call.{Call, append, sync, read, seek, deferred, erase, Completion, write_ended, erase_ended}
use Rattle.engine_laws.specs.Call.{call, complete}
use Rattle.punelovash_block.specs.Block.{is_set, setup_from, setup_at, word_from}
use Rattle.punelovash_block.specs.Call.{BlockDone, call_block, complete_block, restart_block, AsIfLent}
use Rattle.punelovash_block.proofs.RoundTrip.{headed}
use Rattle.punelovash_laws.specs.Reached.{Holds, HoldsStarted}
use Rattle.punelovash_laws.proofs.Blocks.{holds_after_call, holds_after_completion, holds_after_restart}

-- a contract's equation, and what the block holds
module _ {w : ℕ} {block : List ℕ} {l : Log} (h : Holds w block l) (x : Lent) where
  pub call_done : (c : Call) {d : BlockDone} → d ≡ call_block w block x c → Holds w d.block (call l x c).outcome.log
  call_done c e = rw (ap (λ (d : BlockDone). d.block) e) (holds_after_call h x c)

  pub complete_done : (c : Completion) {d : BlockDone} → d ≡ complete_block w block x c → Holds w d.block (complete l x c).outcome.log
  complete_done c e = rw (ap (λ (d : BlockDone). d.block) e) (holds_after_completion h x c)

  -- what is not lent, by the log's sizes and by the block's
  pub as_lent : AsIfLent l.setup x → AsIfLent (setup_at w block) x
  as_lent a = subst (λ (s : Setup). AsIfLent s x) (sym (headed w block h.loads).setup) a

pub restart_done : (block : List ℕ) (s : Setup) (reads appends : Bool) (x : Lent) {d : BlockDone} → d ≡ restart_block s.w block s reads appends x
    → d.answer ≡ OK → HoldsStarted d.block s reads appends x
restart_done block s reads appends x e ok =
    rw (ap (λ (d : BlockDone). d.block) e) (holds_after_restart block s reads appends x (sym (ap (λ (d : BlockDone). d.answer) e) ∙ ok))

-- what a caller learns of an export with that many lifetimes: of the arguments, the answer's number, and the arguments as they are left
abbrev pub Learns : ℕ → Type 0 → Type 1
Learns n A = Lfts n → A → ℕ → A → Type 0

-- a slice that is lent, to read or to write
abbrev Read : Type 0
Read = Bor (List ℕ)

abbrev Write : Type 0
Write = MutBor (List ℕ)

abbrev pub AppendHolds : ℕ → Learns 5 (Write × (Read × (Write × (Write × (Read × (ℕ × (ℕ × Unit {0}))))))) → Type 0
AppendHolds w Learnt =
    (κs : _) (block volume page hold bytes n word r s : _) (l : Log) → Learnt κs (block, (volume, (page, (hold, (bytes, (n, (word, tt))))))) r s
    → Holds w block.now l
    → Holds w s.0.now (call l (lend volume.now page.now hold.now) (append bytes.now n (word_from word))).outcome.log

abbrev pub ReadHolds : ℕ → Learns 3 (Write × (Read × (Read × (Write × (ℕ × Unit {0}))))) → Type 0
ReadHolds w Learnt =
    (κs : _) (block volume page buffer n r s : _) (l : Log) → Learnt κs (block, (volume, (page, (buffer, (n, tt))))) r s → Holds w block.now l
    → Holds w s.0.now (call l (lend volume.now page.now page.now) (read (length buffer.now) n)).outcome.log

abbrev pub SeekHolds : ℕ → Learns 1 (Write × (ℕ × Unit {0})) → Type 0
SeekHolds w Learnt =
    (κs : _) (block id r s : _) (l : Log) → Learnt κs (block, (id, tt)) r s → Holds w block.now l → (x : Lent) → AsIfLent l.setup x
    → Holds w s.0.now (call l x (seek id)).outcome.log

abbrev pub SyncHolds : ℕ → Learns 4 (Write × (Read × (Write × (Read × (ℕ × Unit {0}))))) → Type 0
SyncHolds w Learnt =
    (κs : _) (block volume page hold word r s : _) (l : Log) → Learnt κs (block, (volume, (page, (hold, (word, tt))))) r s → Holds w block.now l
    → Holds w s.0.now (call l (lend volume.now page.now hold.now) (sync (word_from word))).outcome.log

abbrev pub EraseHolds : ℕ → Learns 1 (Write × (ℕ × Unit {0})) → Type 0
EraseHolds w Learnt =
    (κs : _) (block word r s : _) (l : Log) → Learnt κs (block, (word, tt)) r s → Holds w block.now l → (x : Lent) → AsIfLent l.setup x
    → Holds w s.0.now (call l x (erase (word_from word))).outcome.log

abbrev pub WriteCompleteHolds : ℕ → Learns 4 (Write × (Read × (Write × (Read × (ℕ × Unit {0}))))) → Type 0
WriteCompleteHolds w Learnt =
    (κs : _) (block volume page hold good r s : _) (l : Log) → Learnt κs (block, (volume, (page, (hold, (good, tt))))) r s → Holds w block.now l
    → Holds w s.0.now (complete l (lend volume.now page.now hold.now) (write_ended (is_set good))).outcome.log

abbrev pub EraseCompleteHolds : ℕ → Learns 4 (Write × (Read × (Write × (Read × (ℕ × (ℕ × Unit {0})))))) → Type 0
EraseCompleteHolds w Learnt =
    (κs : _) (block volume page hold good word r s : _) (l : Log) → Learnt κs (block, (volume, (page, (hold, (good, (word, tt)))))) r s → Holds w block.now l
    → Holds w s.0.now (complete l (lend volume.now page.now hold.now) (erase_ended (is_set good) (word_from word))).outcome.log

abbrev pub DeferredHolds : ℕ → Learns 1 (Write × Unit {0}) → Type 0
DeferredHolds w Learnt =
    (κs : _) (block r s : _) (l : Log) → Learnt κs (block, tt) r s → Holds w block.now l → (x : Lent) → AsIfLent l.setup x
    → Holds w s.0.now (call l x deferred).outcome.log

abbrev pub RestartHolds : ℕ → Learns 4 (Write × (ℕ × (ℕ × (ℕ × (ℕ × (ℕ × (ℕ × (Read × (Write × (Read × Unit {0})))))))))) → Type 0
RestartHolds w Learnt =
    (κs : _) (block p n first circular reads appends volume page hold r s : _)
    → Learnt κs (block, (p, (n, (first, (circular, (reads, (appends, (volume, (page, (hold, tt)))))))))) r s → r ≡ OK
    → HoldsStarted s.0.now (setup_from w p n first (is_set circular)) (is_set reads) (is_set appends) (lend volume.now page.now hold.now)
