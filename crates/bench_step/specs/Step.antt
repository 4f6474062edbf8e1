-- What a value of the code says of the bench's world and what is told of an event. g is the setup.
-- `page`, `hold` and `volume` are lent beside the code's world, `bytes` and a read's buffer beside its event.
use Rattle.std.specs.Prelude.{ℕ, Bool, List}
use Rattle.std.specs.Prelude as code
use Rattle.std.proofs.Math.Option.{Option, none, some}
use Rattle.page.specs.Pick.{pick}
use Rattle.engine_state.specs.Answer.{number, report_of, request_of}
use Rattle.engine_state.specs.Log.{Setup, Log, log_of}
use Rattle.engine_state.specs.declared.answer.Answer as answers
use Rattle.engine_call.specs.Outcome.{Lent}
use Rattle.engine_call.specs.Call.{Call, append, sync, read, seek, deferred, erase, Completion, completion_word}
use Rattle.engine_read.specs.Read.{read_buffer}
use Rattle.bench_flash.specs.Flash.{operation_of, left_of, Left}
use Rattle.bench_flash.specs.Event.{Event, call, completion, cut, restart, Restart}
use Rattle.engine_laws.specs.Call.{complete}
use Rattle.bench.specs.World.{World, lent_by, Ended, unended, wrote, erased, Told, erased_slot, Step, delivered, ending, ended_by, quiet, restart_step}
use Rattle.bench_step.specs.declared.world.World as world
use Rattle.bench_step.specs.declared.world.Ended as ended
use Rattle.bench_step.specs.declared.world.Ended.TheVariants as e
use Rattle.bench_step.specs.declared.world.Told as told
use Rattle.bench_step.specs.declared.world.Step as step

abbrev pub world_of : world.World → List ℕ → List ℕ → List ℕ → World
world_of x page hold volume = record {
  power = x.power;
  log = log_of x.log;
  page = page;
  hold = hold;
  volume = volume;
  operation = operation_of x.operation;
}

-- what an operation that ended has left
abbrev pub ended_of : code.Option ended.Ended → Ended
ended_of code.None = unended
ended_of (code.Some (e.Wrote left)) = wrote (left_of left)
ended_of (code.Some (e.Erased left)) = erased (left_of left)

-- "answers and reports, an erase request's slot and what each operation left"
abbrev pub answer_of : code.Option answers.Answer → Option ℕ
answer_of code.None = none
answer_of (code.Some a) = some (number a)

abbrev pub told_of : Setup → told.Told → Told
told_of g t = record {
  ended = ended_of t.ended;
  answer = answer_of t.answer;
  report = report_of t.report;
  erases = erased_slot g.first (request_of t.request);
}

abbrev pub step_of : Setup → step.Step → List ℕ → List ℕ → List ℕ → Step
step_of g s page hold volume = record { world = world_of s.world page hold volume; told = told_of g s.told }

-- the operation under way ends
abbrev pub end_step : Setup → World → Left → Step
end_step g x left = record { world = ending g.p x x.power left; told = quiet (ended_by x.operation left) }

-- after such a step, or one that did nothing, a completion is delivered
abbrev pub comes : Setup → Step → Completion → Step
comes g s k = delivered g.first s.world s.told.ended (complete s.world.log (lent_by s.world) k) (completion_word k)

-- a restart with the buffers as they are
abbrev pub in_place : Left → Bool → Bool → World → Restart
in_place left read_client append_client x = record {
  left = left;
  read_client = read_client;
  append_client = append_client;
  page = x.page;
  hold = x.hold;
}

-- a restart after a cut, or with the power off
abbrev pub restarts_after : Setup → Step → Restart → Step
restarts_after g s r = restart_step g s.world s.told.ended r

-- what a call leaves in the buffer of a read: only a read fills it
abbrev pub call_buffer : Log → Lent → Call → List ℕ → List ℕ
call_buffer l x (read room n) bytes = read_buffer l x bytes n
call_buffer l x (append client n word) bytes = bytes
call_buffer l x (sync word) bytes = bytes
call_buffer l x (seek id) bytes = bytes
call_buffer l x deferred bytes = bytes
call_buffer l x (erase word) bytes = bytes

-- what an event leaves in it: with the power off no call is delivered
abbrev pub event_buffer : World → Event → List ℕ → List ℕ
event_buffer x (call c) bytes = pick x.power (call_buffer x.log (lent_by x) c bytes) bytes
event_buffer x (completion c left) bytes = bytes
event_buffer x (cut left) bytes = bytes
event_buffer x (restart r) bytes = bytes
