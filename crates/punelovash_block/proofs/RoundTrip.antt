-- What a call saves in a block is what the next call loads from it.
use Rattle.std.proofs.Common.{◌≡◌, ℕ, zero, suc, ◌+◌, ◌/◌, ◌%◌, ◌≤◌, ◌<◌, ◌^◌, Bool, true, false, List, [], ◌∷◌, length, get_or, eqb, ltb}
use Rattle.std.proofs.Common.{refl, sym, ap, ◌∙◌, arith, get_or-set_same, eq-eqb, le-ltb}
use Rattle.std.proofs.Math.Option.{some}
use Rattle.page.specs.Pick.{pick}
use Rattle.page.specs.Word.{le, word_at, word_bytes}
use Rattle.page.proofs.Overwrites.{stores_overwrite, length_overwrite, overwrite_before}
use Rattle.page.proofs.Words.{word_at_suc, word_at_zero, word_at_written, length_word_bytes}
use Rattle.engine_state.specs.Log.{Setup, Log, state_number}
use Rattle.engine_call.specs.Outcome.{Outcome}
use Rattle.punelovash_block.specs.Block.{page_size_at, page_count_at, first_page_at, flags_at, state_at, oldest_at, read_at, append_at, kept_at}
use Rattle.punelovash_block.specs.Block.{report_at, lost_at}
use Rattle.punelovash_block.specs.Block.{result_at, request_at, length_at, flash_page_at, block_size, flags, setup_at, log_at, loaded}
use Rattle.punelovash_block.specs.Block.{report_numbers, request_kind, request_page, at, saved, sized}
use Rattle.punelovash_block.proofs.Blocks.{state_back, loaded_tests}

-- a byte, or a word of k bytes, that goes to its place
data Put : Type 0 where
  byte : (place b : ℕ) → Put
  word : (k place n : ℕ) → Put

abbrev start : Put → ℕ
start (byte place b) = place
start (word k place n) = place

abbrev end : Put → ℕ
end (byte place b) = place + 1
end (word k place n) = place + k

abbrev bytes : Put → List ℕ
bytes (byte place b) = b ∷ []
bytes (word k place n) = word_bytes k n

-- one after the other
abbrev puts : List Put → List ℕ → List ℕ
puts [] block = block
puts (p ∷ ps) block = puts ps (at (start p) (bytes p) block)

-- all from a place on and within a size, each of the first so many past the ones before it
abbrev Rising : ℕ → ℕ → ℕ → List Put → Type 0
Rising many from size [] = Unit {0}
Rising zero from size (p ∷ ps) = (from ≤ start p) × (end p ≤ size) × Rising zero from size ps
Rising (suc many) from size (p ∷ ps) = (from ≤ start p) × (end p ≤ size) × Rising many (end p) size ps

-- the first so many that were put stand
abbrev Stand : ℕ → List ℕ → List Put → Type 0
Stand many block [] = Unit {0}
Stand zero block (p ∷ ps) = Unit {0}
Stand (suc many) block (byte place b ∷ ps) = (get_or block place 0 ≡ b) × Stand many block ps
Stand (suc many) block (word k place n ∷ ps) = (n < 256 ^ k → word_at k block place ≡ n) × Stand many block ps

-- the end of a put
end_is : (p : Put) → start p + length (bytes p) ≡ end p
end_is (byte place b) = refl
end_is (word k place n) = ap (λ m. place + m) (length_word_bytes k n)

byte_is : (s : List ℕ) (i : ℕ) → i < length s → get_or s i 0 ≡ word_at 1 s i
byte_is s i h = omega (arith, word_at_suc 0 s i h, word_at_zero s (i + 1))

module _ {size : ℕ} where
  -- one put keeps the size, and the words before it
  put_size : (p : Put) (block : List ℕ) → end p ≤ size → length block ≡ size → length (at (start p) (bytes p) block) ≡ size
  put_size p block h z = length_overwrite block (start p) (bytes p) (omega (arith, end_is p, h, z)) ∙ z

  put_word : (p : Put) (block : List ℕ) (k a : ℕ) → a + k ≤ start p → end p ≤ size → length block ≡ size
      → word_at k (at (start p) (bytes p) block) a ≡ word_at k block a
  unfolding word_at
  put_word p block k a h e z = ap le (overwrite_before k a block (start p) (bytes p) h (omega (arith, end_is p, e, z)))

  -- so do many
  puts_size : (many from : ℕ) (ps : List Put) (block : List ℕ) → Rising many from size ps → length block ≡ size → length (puts ps block) ≡ size
  puts_size many from [] block r z = z
  puts_size zero from (p ∷ ps) block r z = puts_size zero from ps _ r.2 (put_size p block r.1 z)
  puts_size (suc many) from (p ∷ ps) block r z = puts_size many (end p) ps _ r.2 (put_size p block r.1 z)

  word_stays : (many from : ℕ) (ps : List Put) (block : List ℕ) (k a : ℕ) → Rising many from size ps → a + k ≤ from → length block ≡ size
      → word_at k (puts ps block) a ≡ word_at k block a
  word_stays many from [] block k a r h z = refl
  word_stays zero from (p ∷ ps) block k a r h z =
      word_stays zero from ps _ k a r.2 h (put_size p block r.1 z) ∙ put_word p block k a (omega (arith, h, r.0)) r.1 z
  word_stays (suc many) from (p ∷ ps) block k a r h z =
      word_stays many (end p) ps _ k a r.2 (omega (arith, h, r.0, end_is p)) (put_size p block r.1 z)
      ∙ put_word p block k a (omega (arith, h, r.0)) r.1 z

  byte_stays : (many from : ℕ) (ps : List Put) (block : List ℕ) (i : ℕ) → Rising many from size ps → i < from → from ≤ size → length block ≡ size
      → get_or (puts ps block) i 0 ≡ get_or block i 0
  byte_stays many from ps block i r h s z =
      byte_is (puts ps block) i (omega (arith, h, s, puts_size many from ps block r z))
      ∙ word_stays many from ps block 1 i r (omega (arith, h)) z
      ∙ sym (byte_is block i (omega (arith, h, s, z)))

  -- and the first stand
  stands : (many from : ℕ) (ps : List Put) (block : List ℕ) → Rising many from size ps → length block ≡ size → Stand many (puts ps block) ps
  stands many from [] block r z = tt
  stands zero from (p ∷ ps) block r z = tt
  stands (suc many) from (byte place b ∷ ps) block r z =
      let y = put_size (byte place b) block r.1 z in
      let set = stores_overwrite block place (b ∷ []) (omega (arith, r.1, z)) in
      let put = ap (λ s. get_or s place 0) (sym set) ∙ get_or-set_same block place b 0 (omega (arith, r.1, z)) in
      (byte_stays many (place + 1) ps (at place (b ∷ []) block) place r.2 (omega arith) r.1 y ∙ put, stands many (place + 1) ps _ r.2 y)
  stands (suc many) from (word k place n ∷ ps) block r z =
      let y = put_size (word k place n) block r.1 z in
      let stays = word_stays many (place + k) ps (at place (word_bytes k n) block) k place r.2 (omega arith) y in
      (λ h. stays ∙ word_at_written k n block place h (omega (arith, r.1, z)), stands many (place + k) ps _ r.2 y)

-- what stands before the state: a log's sizes, mode and clients
pub record Headed (w : ℕ) (block : List ℕ) (s : Setup) (read_client append_client : Bool) : Type 0 where
  pub size : length block ≡ block_size w
  pub small : ltb 7 (get_or block flags_at 0) ≡ false
  pub setup : setup_at w block ≡ s
  pub reads : eqb (get_or block flags_at 0 / 2 % 2) 1 ≡ read_client
  pub appends : eqb (get_or block flags_at 0 / 4 % 2) 1 ≡ append_client

abbrev pub HeadedBy : ℕ → List ℕ → Log → Type 0
HeadedBy w block l = Headed w block l.setup l.read_client l.append_client

-- a block that holds a log has its head
pub headed : (w : ℕ) (block : List ℕ) {l : Log} → loaded w block ≡ some l → HeadedBy w block l
headed w block e =
    let t = loaded_tests w block e in
    rw (← t.2) (record { size = t.0; small = t.1; setup = refl; reads = refl; appends = refl })

-- numbers that fit their places: IDs a word of w bytes, the kept length 4 bytes
pub record Small (w : ℕ) (l : Log) : Type 0 where
  pub oldest : l.oldest < 256 ^ w
  pub read : l.read < 256 ^ w
  pub append : l.append < 256 ^ w
  pub kept : l.kept < 2 ^ 32

-- what a call puts: the log, then the report and the request
abbrev given : ℕ → Outcome → List Put
given w o =
    let r = report_numbers o.report in
    byte state_at (state_number o.log.state)
    ∷ word w oldest_at o.log.oldest
    ∷ word w (read_at w) o.log.read
    ∷ word w (append_at w) o.log.append
    ∷ word 4 (kept_at w) o.log.kept
    ∷ byte (report_at w) r.kind
    ∷ byte (lost_at w) (pick r.lost 1 0)
    ∷ byte (result_at w) r.result
    ∷ word 4 (length_at w) r.length
    ∷ byte (request_at w) (request_kind o.request)
    ∷ word 4 (flash_page_at w) (request_page o.request)
    ∷ []

-- "round trip": into a block with a log's sizes, mode and clients the log is saved so that the next call loads it
pub round_trip : (w : ℕ) (block : List ℕ) (o : Outcome) → HeadedBy w block o.log → Small w o.log → loaded w (saved w o block) ≡ some o.log
unfolding loaded saved
round_trip w block o h s =
    let l = o.log in
    let ps = given w o in
    let after = puts ps block in
    let r : Rising 5 state_at (block_size w) ps = omega arith in
    let t = stands 5 state_at ps block r h.size in
    let state = state_back l.state in
    let mark = byte_stays 5 state_at ps block flags_at r (omega arith) (omega arith) h.size in
    let stays : (a : ℕ) → a + 4 ≤ state_at → word_at 4 after a ≡ word_at 4 block a = λ a i. word_stays 5 state_at ps block 4 a r i h.size in
    let setup : setup_at w after ≡ l.setup =
    rw (stays page_size_at (omega arith), stays page_count_at (omega arith), stays first_page_at (omega arith), mark) h.setup in
    let reads : (log_at w after).read_client ≡ l.read_client = rw mark h.reads in
    let appends : (log_at w after).append_client ≡ l.append_client = rw mark h.appends in
    let ids = t.1 in
    let read = ids.1 in
    let log : log_at w after ≡ l =
    rw (setup, reads, appends, t.0, state.1, ids.0 s.oldest, read.0 s.read, read.1.0 s.append, read.1.1.0 s.kept) in
    let small : ltb 7 (get_or after flags_at 0) ≡ false = rw mark h.small in
    let few : ltb 5 (get_or after state_at 0) ≡ false = rw t.0 (le-ltb 5 _ state.0) in
    rw (eq-eqb _ _ (puts_size 5 state_at ps block r h.size), small, few) (ap some log)

-- a flag's bit is 0 or 1, and tells it
bit : (b : Bool) → pick b 1 0 ≤ 1
bit true = omega arith
bit false = omega arith

told : (b : Bool) (n : ℕ) → n ≡ pick b 1 0 → eqb n 1 ≡ b
told true n e = eq-eqb n 1 e
told false n e = rw e

-- flags that were put are told
flags_back : (a b c : Bool)
    → (ltb 7 (flags a b c) ≡ false) × (eqb (flags a b c % 2) 1 ≡ a) × (eqb (flags a b c / 2 % 2) 1 ≡ b) × (eqb (flags a b c / 4 % 2) 1 ≡ c)
flags_back a b c =
    let x = bit a in
    let y = bit b in
    let z = bit c in
    let n = flags a b c in
    (le-ltb 7 n (omega arith), told a (n % 2) (omega arith), told b (n / 2 % 2) (omega arith), told c (n / 4 % 2) (omega arith))

-- what a restart puts before the state
pub sized_headed : (block : List ℕ) (s : Setup) (read_client append_client : Bool)
    → length block ≡ block_size s.w → s.p < 2 ^ 32 → s.n < 2 ^ 32 → s.first < 2 ^ 32
    → Headed s.w (sized s read_client append_client block) s read_client append_client
unfolding sized
sized_headed block s read_client append_client z p n first =
    let mark = flags s.circular read_client append_client in
    let ps : List Put = word 4 page_size_at s.p ∷ word 4 page_count_at s.n ∷ word 4 first_page_at s.first ∷ byte flags_at mark ∷ [] in
    let r : Rising 4 0 (block_size s.w) ps = omega arith in
    let t = stands 4 0 ps block r z in
    let m = t.1.1.1.0 in
    let f = flags_back s.circular read_client append_client in
    record {
      size = puts_size 4 0 ps block r z;
      small = rw m f.0;
      setup = rw (t.0 p, t.1.0 n, t.1.1.0 first, m, f.1);
      reads = rw m f.2;
      appends = rw m f.3;
    }
