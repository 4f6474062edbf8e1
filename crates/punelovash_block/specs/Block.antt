-- The block that a caller lends: a log, and what the last call gave. w is the width of the board's words.
use Rattle.std.specs.Prelude.{ℕ, ◌+◌, ◌*◌, ◌/◌, ◌%◌, ◌<◌, ◌^◌, Bool, false, not, List, [], ◌∷◌, length, get_or, eqb, ltb}
use Rattle.std.proofs.Math.Option.{Option, none, some}
use Rattle.page.specs.Pick.{pick}
use Rattle.page.specs.Word.{word_at, word_bytes}
use Rattle.page.specs.Bytes.{overwrite}
use Rattle.engine_state.specs.Answer.{number, Report, no_report, append_done, sync_done, erase_done, read_done, seek_done}
use Rattle.engine_state.specs.Answer.{Request, no_request, write_page, erase_page}
use Rattle.engine_state.specs.Log.{Setup, State, Idle, Read, Seek, Append, Sync, Erase, state_number, Log, log_of}
use Rattle.engine_call.specs.Outcome.{Outcome, Word, ok, busy, fail}
use Rattle.engine_state.specs.declared.state.Geometry as geometry
use Rattle.engine_state.specs.declared.state.Log as log
use Rattle.punelovash_block.specs.declared.numbers.ReportNumbers as numbers
use Rattle.std.specs.Prelude as code

-- the places in a block: the three IDs are words of w bytes, the sizes, the kept length, the report's length and the request's page 4 bytes each, the
-- lowest first;
-- flags, state, the report's kind, lost and result and the request's kind are a byte each; bytes 13 and 14 are not used
abbrev pub page_size_at : ℕ
page_size_at = 0

abbrev pub page_count_at : ℕ
page_count_at = 4

abbrev pub first_page_at : ℕ
first_page_at = 8

abbrev pub flags_at : ℕ
flags_at = 12

abbrev pub state_at : ℕ
state_at = 15

abbrev pub oldest_at : ℕ
oldest_at = 16

abbrev pub read_at : ℕ → ℕ
read_at w = 16 + w

abbrev pub append_at : ℕ → ℕ
append_at w = 16 + 2 * w

abbrev pub kept_at : ℕ → ℕ
kept_at w = 16 + 3 * w

abbrev pub report_at : ℕ → ℕ
report_at w = 20 + 3 * w

abbrev pub lost_at : ℕ → ℕ
lost_at w = 21 + 3 * w

abbrev pub result_at : ℕ → ℕ
result_at w = 22 + 3 * w

abbrev pub request_at : ℕ → ℕ
request_at w = 23 + 3 * w

abbrev pub length_at : ℕ → ℕ
length_at w = 24 + 3 * w

abbrev pub flash_page_at : ℕ → ℕ
flash_page_at w = 28 + 3 * w

-- 44 or 56 bytes: three IDs, and 32 bytes beside them
abbrev pub block_rest : ℕ
block_rest = 32

abbrev pub block_size : ℕ → ℕ
block_size w = block_rest + 3 * w

-- the state of a number
abbrev pub state_from : ℕ → State
state_from k = pick (eqb k 0) Idle (pick (eqb k 1) Read (pick (eqb k 2) Seek (pick (eqb k 3) Append (pick (eqb k 4) Sync Erase))))

-- the flags are a sum: 1 where the log is circular, 2 where the read client is set, 4 where the append client is
abbrev pub flags : Bool → Bool → Bool → ℕ
flags circular read_client append_client = pick circular 1 0 + 2 * pick read_client 1 0 + 4 * pick append_client 1 0

-- a flag or a success as a caller gives it: 0 or not
abbrev pub is_set : ℕ → Bool
is_set k = not (eqb k 0)

-- the sizes as a caller gives them, and the mode
abbrev pub setup_from : ℕ → ℕ → ℕ → ℕ → Bool → Setup
setup_from w p n first circular = record { w = w; p = p; n = n; first = first; circular = circular }

-- the sizes and the mode in a block, and its log
abbrev pub setup_at : ℕ → List ℕ → Setup
setup_at w block = record {
  w = w;
  p = word_at 4 block page_size_at;
  n = word_at 4 block page_count_at;
  first = word_at 4 block first_page_at;
  circular = eqb (get_or block flags_at 0 % 2) 1;
}

abbrev pub log_at : ℕ → List ℕ → Log
log_at w block = record {
  setup = setup_at w block;
  read_client = eqb (get_or block flags_at 0 / 2 % 2) 1;
  append_client = eqb (get_or block flags_at 0 / 4 % 2) 1;
  state = state_from (get_or block state_at 0);
  oldest = word_at w block oldest_at;
  read = word_at w block (read_at w);
  append = word_at w block (append_at w);
  kept = word_at 4 block (kept_at w);
}

-- what is no log: another length, flags above 7, or a state above 5
unfoldable pub loaded : ℕ → List ℕ → Option Log
loaded w block =
    pick (eqb (length block) (block_size w))
    (pick (ltb 7 (get_or block flags_at 0)) none
    (pick (ltb 5 (get_or block state_at 0)) none
    (some (log_at w block))))
    none

-- the sizes that are loaded are words of 4 bytes
abbrev pub Words : geometry.Geometry → Type 0
Words g = (g.page_size < 2 ^ 32) × (g.page_count < 2 ^ 32)

-- what the code has loaded
abbrev pub loaded_of : code.Option log.Log → Option Log
loaded_of (code.Some l) = some (log_of l)
loaded_of code.None = none

-- a report in numbers: its kind, whether entries were lost, its result and its length
pub record ReportNumbers : Type 0 where
  pub kind : ℕ
  pub lost : Bool
  pub result : ℕ
  pub length : ℕ

abbrev pub in_numbers : ℕ → Bool → ℕ → ℕ → ReportNumbers
in_numbers kind lost result length = record { kind = kind; lost = lost; result = result; length = length }

abbrev pub report_numbers : Report → ReportNumbers
report_numbers no_report = in_numbers 0 false 0 0
report_numbers (append_done n lost r) = in_numbers 1 lost r n
report_numbers (sync_done r) = in_numbers 2 false r 0
report_numbers (erase_done r) = in_numbers 3 false r 0
report_numbers (read_done n r) = in_numbers 4 false r n
report_numbers (seek_done r) = in_numbers 5 false r 0

-- what the code's numbers say
abbrev pub numbers_of : numbers.ReportNumbers → ReportNumbers
numbers_of r = in_numbers r.kind r.lost (number r.result) r.length

-- a request in numbers: its kind and its flash page
abbrev pub request_kind : Request → ℕ
request_kind no_request = 0
request_kind (write_page page) = 1
request_kind (erase_page page) = 2

abbrev pub request_page : Request → ℕ
request_page no_request = 0
request_page (write_page page) = page
request_page (erase_page page) = page

-- the driver's word by the number of its answer
abbrev pub word_from : ℕ → Word
word_from k = pick (eqb k 0) ok (pick (eqb k 2) busy fail)

-- bytes at their place in a block; every other byte is as before
abbrev pub at : ℕ → List ℕ → List ℕ → List ℕ
at place bytes block = overwrite block place bytes

-- the block after a call: the state, the IDs and the kept length, the report and the request at their places
abbrev pub with_log : ℕ → Log → List ℕ → List ℕ
with_log w l block =
    at (kept_at w) (word_bytes 4 l.kept)
    (at (append_at w) (word_bytes w l.append)
    (at (read_at w) (word_bytes w l.read)
    (at oldest_at (word_bytes w l.oldest)
    (at state_at (state_number l.state ∷ []) block))))

abbrev pub with_report : ℕ → ReportNumbers → List ℕ → List ℕ
with_report w r block =
    at (length_at w) (word_bytes 4 r.length)
    (at (result_at w) (r.result ∷ [])
    (at (lost_at w) (pick r.lost 1 0 ∷ [])
    (at (report_at w) (r.kind ∷ []) block)))

abbrev pub with_request : ℕ → Request → List ℕ → List ℕ
with_request w q block = at (flash_page_at w) (word_bytes 4 (request_page q)) (at (request_at w) (request_kind q ∷ []) block)

unfoldable pub saved : ℕ → Outcome → List ℕ → List ℕ
saved w o block = with_request w o.request (with_report w (report_numbers o.report) (with_log w o.log block))

-- the block's sizes and its byte of flags, which only a restart sets
abbrev pub with_sizes : ℕ → ℕ → ℕ → ℕ → List ℕ → List ℕ
with_sizes p n first flag-byte block =
    at flags_at (flag-byte ∷ [])
    (at first_page_at (word_bytes 4 first)
    (at page_count_at (word_bytes 4 n)
    (at page_size_at (word_bytes 4 p) block)))

unfoldable pub sized : Setup → Bool → Bool → List ℕ → List ℕ
sized s read_client append_client block = with_sizes s.p s.n s.first (flags s.circular read_client append_client) block
