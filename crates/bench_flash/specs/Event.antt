-- The events of a list: "appends, reads, seeks, syncs, erases, good and failed flash completions, deferred calls, power cuts and restarts".
use Rattle.std.specs.Prelude.{ℕ, Bool, List, take, drop}
use Rattle.engine_call.specs.Outcome.{word_of}
use Rattle.engine_call.specs.Call.{Call, append, sync, read, seek, deferred, erase, Completion, write_ended, erase_ended}
use Rattle.bench_flash.specs.Flash.{Left, left_of}
use Rattle.bench_flash.specs.declared.event.Event as code
use Rattle.bench_flash.specs.declared.event.Event.TheVariants as v
use Rattle.bench_flash.specs.declared.event.Call as code_call
use Rattle.bench_flash.specs.declared.event.Call.TheVariants as c
use Rattle.bench_flash.specs.declared.event.Completion as code-completion
use Rattle.bench_flash.specs.declared.event.Completion.TheVariants as d
use Rattle.bench_flash.specs.declared.event.Restart as code-restart

-- what a restart brings: what it leaves of an operation under way, its client flags and its page and hold buffers
pub record Restart : Type 0 where
  pub left : Left
  pub read_client : Bool
  pub append_client : Bool
  pub page : List ℕ
  pub hold : List ℕ

-- a call; a completion, a cut and a restart, with what the operation left that was under way: looked at where there is one, and it did not end well
pub data Event : Type 0 where
  call : Call → Event
  completion : Completion → Left → Event
  cut : Left → Event
  restart : Restart → Event

-- what the code's events say, with the bytes lent beside them and the length of a read's buffer
abbrev pub call_of : code_call.Call → List ℕ → ℕ → Call
call_of (c.Append n word) bytes room = append bytes n (word_of word)
call_of (c.Sync word) bytes room = sync (word_of word)
call_of (c.Read n) bytes room = read room n
call_of (c.Seek id) bytes room = seek id.0
call_of c.Deferred bytes room = deferred
call_of (c.Erase word) bytes room = erase (word_of word)

abbrev pub completion_of : code-completion.Completion → Completion
completion_of (d.Write good) = write_ended good
completion_of (d.Erase good word) = erase_ended good (word_of word)

-- a restart's page buffer is the bytes' front, its hold buffer the rest
abbrev pub restart_of : code-restart.Restart → List ℕ → Restart
restart_of r bytes = record {
  left = left_of r.left;
  read_client = r.clients.read;
  append_client = r.clients.append;
  page = take r.size bytes;
  hold = drop r.size bytes;
}

abbrev pub event_of : code.Event → List ℕ → ℕ → Event
event_of (v.Call k) bytes room = call (call_of k bytes room)
event_of (v.Complete k left) bytes room = completion (completion_of k) (left_of left)
event_of (v.Cut left) bytes room = cut (left_of left)
event_of (v.Restart r) bytes room = restart (restart_of r bytes)
