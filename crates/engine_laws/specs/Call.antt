-- Any call, and any completion: "Each call gives an answer, at most one report and at most one flash request".
use Rattle.engine_state.specs.Log.{Log}
use Rattle.engine_call.specs.Outcome.{Lent, Done, Stop}
use Rattle.engine_call.specs.Call.{Call, append, sync, read, seek, deferred, erase, Completion, write_ended, erase_ended}
use Rattle.engine_call.specs.Gate.{unless_writing, unless_erasing}
use Rattle.engine_write.specs.Append as appends
use Rattle.engine_write.specs.Sync as syncs
use Rattle.engine_write.specs.WriteComplete.{write_complete}
use Rattle.engine_read.specs.Read as reads
use Rattle.engine_read.specs.Seek as seeks
use Rattle.engine_read.specs.Deferred as defers
use Rattle.engine_erase.specs.Erase as erases

abbrev pub call : Log → Lent → Call → Done
call l x (append bytes n word) = appends.append l x bytes n word
call l x (sync word) = syncs.sync l x word
call l x (read room n) = reads.read l x room n
call l x (seek id) = seeks.seek l x id
call l x deferred = defers.deferred l x
call l x (erase word) = erases.erase l x word

abbrev pub complete : Log → Lent → Completion → Done
complete l x (write_ended good) = write_complete l x good
complete l x (erase_ended good word) = erases.erase_complete l x good word

-- "STRAY 22: completion .. not due (write: Append, Sync; erase: Erase ..)"
abbrev pub unless_due : Log → Completion → Stop
unless_due l (write_ended good) = unless_writing l
unless_due l (erase_ended good word) = unless_erasing l
