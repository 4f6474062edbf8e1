-- A list of events as bytes. An event is fourteen bytes, its head, and then its own bytes: an append's client buffer, or a restart's page and hold buffers.
-- The head has the event's kind, its options, a number (8 bytes, the lowest first) and how many bytes of its own follow (4 bytes).
-- It is the same for both widths of a word. Any bytes are a list; an incomplete last event is none.
use Rattle.std.specs.Prelude.{ℕ, zero, suc, ◌+◌, ◌/◌, ◌%◌, Bool, List, [], ◌∷◌, length, get_or, take, drop, leb, eqb}
use Rattle.page.specs.Pick.{pick}
use Rattle.page.specs.Word.{word_at}
use Rattle.engine_call.specs.Outcome.{Word, ok, busy, fail}
use Rattle.engine_call.specs.Call.{append, sync, read, seek, deferred, erase, write_ended, erase_ended}
use Rattle.bench_flash.specs.Flash.{Left, old, blank, new}
use Rattle.bench_flash.specs.Event.{Restart, Event, call, completion, cut, restart}

-- the options, from the lowest bit: the driver's word (two bits: 0 OK, 1 BUSY, else FAIL), whether a completion is good, what an operation left
-- (two bits: 0 old, 1 blank, else new), the read client, the append client; the highest bit is not looked at
abbrev pub driver_from : ℕ → Word
driver_from k = pick (eqb (k % 4) 0) ok (pick (eqb (k % 4) 1) busy fail)

abbrev pub good_from : ℕ → Bool
good_from k = eqb (k / 4 % 2) 1

abbrev pub left_from : ℕ → Left
left_from k = pick (eqb (k / 8 % 4) 0) old (pick (eqb (k / 8 % 4) 1) blank new)

abbrev pub read_client_from : ℕ → Bool
read_client_from k = eqb (k / 32 % 2) 1

abbrev pub append_client_from : ℕ → Bool
append_client_from k = eqb (k / 64 % 2) 1

-- a restart's page buffer is the front of its own bytes, its hold buffer the rest
abbrev pub restart_from : ℕ → ℕ → List ℕ → Restart
restart_from k n bytes = record {
  left = left_from k;
  read_client = read_client_from k;
  append_client = append_client_from k;
  page = take n bytes;
  hold = drop n bytes;
}

-- the event by its kind: 0 append, 1 read, 2 seek, 3 sync, 4 erase, 5 deferred call, 6 write completion, 7 erase completion, 8 cut, any other a restart.
-- `k` are its options; n, its number, is the length of an append, of a read and of a restart's page buffer, and a seek's ID; `bytes` are its own bytes.
-- All reads get one buffer, whose length is `room`: what it holds is not looked at
unfoldable pub event_from : ℕ → ℕ → ℕ → List ℕ → ℕ → Event
event_from kind k n bytes room =
    pick (eqb kind 0) (call (append bytes n (driver_from k)))
    (pick (eqb kind 1) (call (read room n))
    (pick (eqb kind 2) (call (seek n))
    (pick (eqb kind 3) (call (sync (driver_from k)))
    (pick (eqb kind 4) (call (erase (driver_from k)))
    (pick (eqb kind 5) (call deferred)
    (pick (eqb kind 6) (completion (write_ended (good_from k)) (left_from k))
    (pick (eqb kind 7) (completion (erase_ended (good_from k) (driver_from k)) (left_from k))
    (pick (eqb kind 8) (cut (left_from k))
    (restart (restart_from k n bytes))))))))))

-- the event at the front of bytes: how many bytes it takes up, and whether they are there
abbrev pub head_size : ℕ
head_size = 14

unfoldable pub event_size : List ℕ → ℕ
event_size list = head_size + word_at 4 list 10

unfoldable pub holds_event : List ℕ → Bool
holds_event list = leb (event_size list) (length list)

unfoldable pub event_at : ℕ → List ℕ → Event
event_at room list = event_from (get_or list 0 0) (get_or list 1 0) (word_at 8 list 2) (take (word_at 4 list 10) (drop head_size list)) room

-- the events of bytes, after so many bytes that belong to the event before
unfoldable pub decode : ℕ → ℕ → List ℕ → List Event
decode room skip [] = []
decode room (suc n) (b ∷ list) = decode room n list
decode room zero (b ∷ list) = pick (holds_event (b ∷ list)) (event_at room (b ∷ list) ∷ decode room (13 + word_at 4 (b ∷ list) 10) list) []
