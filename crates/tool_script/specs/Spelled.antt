-- The words of a script that stand for values.
use Rattle.std.specs.Prelude.{ℕ, List, codes}
use Rattle.engine_call.specs.declared.outcome.Driver as driver
use Rattle.engine_call.specs.declared.outcome.Driver.TheVariants as d
use Rattle.bench_flash.specs.declared.operation.Left as left
use Rattle.bench_flash.specs.declared.operation.Left.TheVariants as l
use Rattle.engine_state.specs.declared.state.State as state
use Rattle.engine_state.specs.Log.{State, Idle, Read, Seek, Append, Sync, Erase, state_of}
use Rattle.tool_script.specs.declared.fault.Fault as fault
use Rattle.tool_script.specs.declared.fault.Fault.TheVariants as f
use Rattle.tool_script.specs.declared.parse.Name as name
use Rattle.tool_script.specs.declared.parse.Name.TheVariants as n
use Rattle.tool_script.specs.declared.parse.End as end
use Rattle.tool_script.specs.declared.parse.End.TheVariants as e

-- a line's first word
abbrev pub name_word : name.Name → List ℕ
name_word n.Sizes = codes "sizes"
name_word n.Volume = codes "volume"
name_word n.Restart = codes "restart"
name_word n.Append = codes "append"
name_word n.Read = codes "read"
name_word n.Seek = codes "seek"
name_word n.Sync = codes "sync"
name_word n.Erase = codes "erase"
name_word n.Deferred = codes "deferred"
name_word n.WriteComplete = codes "write_complete"
name_word n.EraseComplete = codes "erase_complete"
name_word n.Cut = codes "cut"
name_word n.Get = codes "get"
name_word n.Survey = codes "survey"
name_word n.State = codes "state"
name_word n.Walk = codes "walk"
name_word n.Nearest = codes "nearest"
name_word n.Between = codes "between"

-- how an operation ended
abbrev pub end_word : end.End → List ℕ
end_word e.Well = codes "ok"
end_word e.Badly = codes "fail"

-- the driver's word
abbrev pub driver_word : driver.Driver → List ℕ
driver_word d.OK = codes "ok"
driver_word d.BUSY = codes "busy"
driver_word d.FAIL = codes "fail"

-- what an operation leaves
abbrev pub left_word : left.Left → List ℕ
left_word l.Old = codes "old"
left_word l.Blank = codes "blank"
left_word l.New = codes "new"

-- a state's name
abbrev pub state_text : State → List ℕ
state_text Idle = codes "idle"
state_text Read = codes "read"
state_text Seek = codes "seek"
state_text Append = codes "append"
state_text Sync = codes "sync"
state_text Erase = codes "erase"

abbrev pub state_word : state.State → List ℕ
state_word s = state_text (state_of s)

-- what is wrong with a line
abbrev pub fault_text : fault.Fault → List ℕ
fault_text f.Unknown = codes "no line begins with this word"
fault_text f.Place = codes "this line is out of its place"
fault_text f.Words = codes "this line has too many words"
fault_text f.Number = codes "a number is missing or too large"
fault_text f.Bytes = codes "bytes are missing, too many or not hexadecimal"
fault_text f.Word = codes "a word is missing or may not stand there"
fault_text f.Volume = codes "the volume has more than 65,536 bytes"
fault_text f.Long = codes "the script has more than 4 MiB"
