-- What a caller of an export learns is what a caller learns of the function at any word of 4 bytes: no clause is weaker here.
-- A law for each export, as C's names need it; what they have in common is one step, `rw w e`.
use Rattle.std.proofs.Common.{◌≡◌, ℕ, map-id, w32}
use denote.RattleType.{RattleType}
use denote.Plain.{UInt}
use Rattle.engine_restart.specs.declared.board_word.Word.{Ghosts}
use Rattle.punelovash_block.proofs.calls.append.Reads as append
use Rattle.punelovash_c.proofs.calls.punelovash_append.Reads as append-c
use Rattle.punelovash_block.proofs.calls.read.Reads as read
use Rattle.punelovash_c.proofs.calls.punelovash_read.Reads as read-c
use Rattle.punelovash_block.proofs.calls.seek.Reads as seek
use Rattle.punelovash_c.proofs.calls.punelovash_seek.Reads as seek-c
use Rattle.punelovash_block.proofs.calls.sync.Reads as sync
use Rattle.punelovash_c.proofs.calls.punelovash_sync.Reads as sync-c
use Rattle.punelovash_block.proofs.calls.erase.Reads as erase
use Rattle.punelovash_c.proofs.calls.punelovash_erase.Reads as erase-c
use Rattle.punelovash_block.proofs.calls.write_complete.Reads as write_complete
use Rattle.punelovash_c.proofs.calls.punelovash_write_complete.Reads as write_complete-c
use Rattle.punelovash_block.proofs.calls.erase_complete.Reads as erase_complete
use Rattle.punelovash_c.proofs.calls.punelovash_erase_complete.Reads as erase_complete-c
use Rattle.punelovash_block.proofs.calls.deferred_call.Reads as deferred_call
use Rattle.punelovash_c.proofs.calls.punelovash_deferred_call.Reads as deferred_call-c
use Rattle.punelovash_block.proofs.get.log_start.Reads as log_start
use Rattle.punelovash_c.proofs.get.punelovash_log_start.Reads as log_start-c
use Rattle.punelovash_block.proofs.get.log_end.Reads as log_end
use Rattle.punelovash_c.proofs.get.punelovash_log_end.Reads as log_end-c
use Rattle.punelovash_block.proofs.get.next_read_entry_id.Reads as next_read_entry_id
use Rattle.punelovash_c.proofs.get.punelovash_next_read_entry_id.Reads as next_read_entry_id-c
use Rattle.punelovash_block.proofs.get.get_size.Reads as get_size
use Rattle.punelovash_c.proofs.get.punelovash_get_size.Reads as get_size-c
use Rattle.punelovash_block.proofs.restart.restart.Reads as restart
use Rattle.punelovash_c.proofs.restart.punelovash_restart.Reads as restart-c
use Rattle.punelovash_block.proofs.search.nearest.Reads as nearest
use Rattle.punelovash_c.proofs.search.punelovash_nearest.Reads as nearest-c
use Rattle.punelovash_block.proofs.search.between.Reads as between
use Rattle.punelovash_c.proofs.search.punelovash_between.Reads as between-c
use Rattle.punelovash_block.proofs.search.next_entry.Reads as next_entry
use Rattle.punelovash_c.proofs.search.punelovash_next_entry.Reads as next_entry-c
use Rattle.punelovash_block.proofs.survey.survey.Reads as survey
use Rattle.punelovash_c.proofs.survey.punelovash_survey.Reads as survey-c

module _ {T : RattleType} (W : Ghosts T.Denot) (w : W.WIDTH ≡ 4) where
  pub append_same : (L C D E F κs κs' a r s : _) → append-c.Learnt κs a r s → append.Learnt T L C W D E F κs' a r s
  append_same L C D E F κs κs' a r s e = rw w e

  pub read_same : (L C D E F κs κs' a r s : _) → read-c.Learnt κs a r s → read.Learnt T L C W D E F κs' a r s
  read_same L C D E F κs κs' a r s e = rw w e

  pub seek_same : (L C D E F κs κs' a r s : _) → seek-c.Learnt κs a r s → seek.Learnt T L C W D E F κs' a r s
  seek_same L C D E F κs κs' a r s e = rw w e

  pub sync_same : (L C D E F κs κs' a r s : _) → sync-c.Learnt κs a r s → sync.Learnt T L C W D E F κs' a r s
  sync_same L C D E F κs κs' a r s e = rw w e

  pub erase_same : (L C D E F κs κs' a r s : _) → erase-c.Learnt κs a r s → erase.Learnt T L C W D E F κs' a r s
  erase_same L C D E F κs κs' a r s e = rw w e

  pub write_complete_same : (L C D E F κs κs' a r s : _) → write_complete-c.Learnt κs a r s → write_complete.Learnt T L C W D E F κs' a r s
  write_complete_same L C D E F κs κs' a r s e = rw w e

  pub erase_complete_same : (L C D E F κs κs' a r s : _) → erase_complete-c.Learnt κs a r s → erase_complete.Learnt T L C W D E F κs' a r s
  erase_complete_same L C D E F κs κs' a r s e = rw w e

  pub deferred_call_same : (L C D E F κs κs' a r s : _) → deferred_call-c.Learnt κs a r s → deferred_call.Learnt T L C W D E F κs' a r s
  deferred_call_same L C D E F κs κs' a r s e = rw w e

  pub log_start_same : (L C D E F κs κs' a r s : _) → log_start-c.Learnt κs a r s → log_start.Learnt T L C W D E F κs' a r s
  log_start_same L C D E F κs κs' a r s e = rw w e

  pub log_end_same : (L C D E F κs κs' a r s : _) → log_end-c.Learnt κs a r s → log_end.Learnt T L C W D E F κs' a r s
  log_end_same L C D E F κs κs' a r s e = rw w e

  pub next_read_entry_id_same : (L C D E F κs κs' a r s : _) → next_read_entry_id-c.Learnt κs a r s → next_read_entry_id.Learnt T L C W D E F κs' a r s
  next_read_entry_id_same L C D E F κs κs' a r s e = rw w e

  pub get_size_same : (L C D E F κs κs' a r s : _) → get_size-c.Learnt κs a r s → get_size.Learnt T L C W D E F κs' a r s
  get_size_same L C D E F κs κs' a r s e = rw w e

  pub restart_same : (L C D E F κs κs' a r s : _) → restart-c.Learnt κs a r s → restart.Learnt T L C W D E F κs' a r s
  restart_same L C D E F κs κs' a r s e = rw w e

  pub nearest_same : (L C D E F κs κs' a r s : _) → nearest-c.Learnt κs a r s → nearest.Learnt T L C W D E F κs' a r s
  nearest_same L C D E F κs κs' a r s e = rw w e

  pub between_same : (L C D E F κs κs' a r s : _) → between-c.Learnt κs a r s → between.Learnt T L C W D E F κs' a r s
  between_same L C D E F κs κs' a r s e = rw w e

  pub next_entry_same : (L C D E F κs κs' a r s : _) → next_entry-c.Learnt κs a r s → next_entry.Learnt T L C W D E F κs' a r s
  next_entry_same L C D E F κs κs' a r s e = rw w e

-- the survey's words are numbers of 4 bytes
pub survey_same : (W : Ghosts ℕ) → W.WIDTH ≡ 4 → W.value ≡ (λ x. x)
    → (L C D E F κs κs' a r s : _) → survey-c.Learnt κs a r s → survey.Learnt (UInt w32) L C W D E F κs' a r s
survey_same W w v L C D E F κs κs' a r s e = rw (w, v, map-id, map-id) e
