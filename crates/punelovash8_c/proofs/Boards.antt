-- What the block holds after each export of the board with 8-byte words, by the export's contract.
use Rattle.engine_call.specs.Outcome.{lend}
use Rattle.engine_call.specs.Call.{append, sync, read, seek, deferred, erase, write_ended, erase_ended}
use Rattle.std.proofs.Common.{length}
use Rattle.punelovash_block.specs.Block.{is_set, word_from}
use Rattle.punelovash_laws.proofs.Boards.{call_done, complete_done, as_lent, restart_done}
use Rattle.punelovash_laws.proofs.Boards.{AppendHolds, ReadHolds, SeekHolds, SyncHolds, EraseHolds, DeferredHolds}
use Rattle.punelovash_laws.proofs.Boards.{WriteCompleteHolds, EraseCompleteHolds, RestartHolds}
use Rattle.punelovash8_c.proofs.calls.punelovash8_append.Reads as append-c
use Rattle.punelovash8_c.proofs.calls.punelovash8_read.Reads as read-c
use Rattle.punelovash8_c.proofs.calls.punelovash8_seek.Reads as seek-c
use Rattle.punelovash8_c.proofs.calls.punelovash8_sync.Reads as sync-c
use Rattle.punelovash8_c.proofs.calls.punelovash8_erase.Reads as erase-c
use Rattle.punelovash8_c.proofs.calls.punelovash8_write_complete.Reads as write_complete-c
use Rattle.punelovash8_c.proofs.calls.punelovash8_erase_complete.Reads as erase_complete-c
use Rattle.punelovash8_c.proofs.calls.punelovash8_deferred_call.Reads as deferred_call-c
use Rattle.punelovash8_c.proofs.restart.punelovash8_restart.Reads as restart-c

pub append_holds_8 : AppendHolds 8 append-c.Learnt
append_holds_8 κs block volume page hold bytes n word r s l e h = call_done h (lend _ _ _) (append bytes.now n (word_from word)) e

pub read_holds_8 : ReadHolds 8 read-c.Learnt
read_holds_8 κs block volume page buffer n r s l e h = call_done h (lend _ _ _) (read (length buffer.now) n) e.0

pub seek_holds_8 : SeekHolds 8 seek-c.Learnt
seek_holds_8 κs block id r s l e h x a = call_done h x (seek id) (e x (as_lent h x a))

pub sync_holds_8 : SyncHolds 8 sync-c.Learnt
sync_holds_8 κs block volume page hold word r s l e h = call_done h (lend _ _ _) (sync (word_from word)) e

pub erase_holds_8 : EraseHolds 8 erase-c.Learnt
erase_holds_8 κs block word r s l e h x a = call_done h x (erase (word_from word)) (e x (as_lent h x a))

pub write_complete_holds_8 : WriteCompleteHolds 8 write_complete-c.Learnt
write_complete_holds_8 κs block volume page hold good r s l e h = complete_done h (lend _ _ _) (write_ended (is_set good)) e

pub erase_complete_holds_8 : EraseCompleteHolds 8 erase_complete-c.Learnt
erase_complete_holds_8 κs block volume page hold good word r s l e h = complete_done h (lend _ _ _) (erase_ended (is_set good) (word_from word)) e

pub deferred_call_holds_8 : DeferredHolds 8 deferred_call-c.Learnt
deferred_call_holds_8 κs block r s l e h x a = call_done h x deferred (e x (as_lent h x a))

pub restart_holds_8 : RestartHolds 8 restart-c.Learnt
restart_holds_8 κs block p n first circular reads appends volume page hold r s e ok = restart_done block.now _ _ _ _ e ok
