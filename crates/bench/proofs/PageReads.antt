-- Going through the entries of one page. y is the pages of a log, n the page count N.
use Prim.Native.Nat.{ℕ, suc, ◌+◌, ◌*◌, ◌-◌, ◌/◌, ◌%◌, ◌^◌, ◌≤◌, ◌<◌}
use mathlib.Core.Path.{◌≡◌, refl, sym, ap, ◌∙◌, subst}
use mathlib.Core.List.{List, [], ◌∷◌, ◌++◌, append_assoc}
use mathlib.Core.Option.{none, some}
use native.Mathlib.Omega.{arith}
use native.Mathlib.Decide.{dec_lt}
use native.Mathlib.Nat.{mod-lt}
use lib.ListN.{length, get_or, take, drop, replicate, take-append-drop, length-replicate, replicate-append-replicate}
use lib.Seq.{get_or-take, get_or-drop, get_or_at, drop-drop, drop_at}
use borrow.Author.Tests.{le-ltb, lt-ltb, lt-leb, eq-eqb, ne_eqb}
use Rattle.std.proofs.lemmas.List.{take-replicate}
use Rattle.page.specs.Sizes.{Sizes}
use Rattle.page.specs.Bytes.{pad_byte}
use Rattle.page.specs.Id.{slot_of}
use Rattle.page.specs.Word.{le, word_at}
use Rattle.page.specs.Slots.{slot_bytes}
use Rattle.page.specs.Layout.{encode, encode_all, page_length, encode_page, whole_page, Good, AllGood}
use Rattle.page.specs.Answered.{gives, refuses, FAIL}
use Rattle.page_lookup.specs.Held.{bytes_at, byte_at, held_word, place, next_entry, entry_length}
use Rattle.page.proofs.Kit.{Facts, facts, page_of_lem, rest_of, slot_of_lem}
use Rattle.page.proofs.Slots.{length_slot}
use Rattle.page.proofs.Overwrites.{window_left}
use Rattle.page.proofs.Walks.{stop_pad}
use Rattle.page.proofs.Headers.{le_ones}
use Rattle.page.proofs.Pages.{length_encode_page, encode_all_append, entries_length_append, entry_word, entry_data, entry_goes, good_small}
use Rattle.page_lookup.proofs.Helds.{lent, holder_buffer, holder_volume, first_byte_at}
use Rattle.page_lookup.proofs.Places.{next_past}
use Rattle.engine_marks.specs.Entries.{LogPages, Entry, end_of, with_length, first_entry, entries_from}
use Rattle.engine_marks.proofs.EntryLaws.{place_of, length_at, held_at, Whole, entries_end, entries_more}
use Rattle.bench_flash.specs.Flash.{blank_page}
use Rattle.bench.specs.Promise.{placed}

-- going from an ID on to the first FAIL gives these entries, none of which ends past A
pub data GoesOn (y : LogPages) : ℕ → List Entry → Type 0 where
  at_end : {r : ℕ} → first_entry y r ≡ none → GoesOn y r []
  at_entry : {r : ℕ} {e : Entry} {es : List Entry} → first_entry y r ≡ some e → end_of y.w e ≤ y.a → GoesOn y (end_of y.w e) es → GoesOn y r (e ∷ es)

-- they are the entries from there on
pub goes_entries : (y : LogPages) → Whole y → {r : ℕ} {es : List Entry} → GoesOn y r es → entries_from y r ≡ es
goes_entries y whole {r} (at_end i) = entries_end y whole r i
goes_entries y whole {r} (at_entry {e = e} i b on) = entries_more y whole r i ∙ ap (λ (es : List Entry). e ∷ es) (goes_entries y whole on)

module _ (y : LogPages) (r : ℕ) {s : ℕ} (e : place_of y r ≡ s) where
  -- the first entry stands at the place of the ID
  pub first_there : s < y.a → first_entry y r ≡ with_length y s (length_at y s)
  unfolding first_entry next_entry
  first_there h = rw (e, lt-leb y.a s h)

  -- where that is A or past it there is none
  pub goes_past : y.a ≤ s → GoesOn y r []
  unfolding first_entry
  goes_past h = at_end (rw (next_past y.w y.p y.a y.volume y.page r (omega arith)))

  -- where it is its own place, what is found from there on is the same
  same_first : place_of y s ≡ s → first_entry y r ≡ first_entry y s
  unfolding first_entry next_entry
  same_first t = rw (e, t)

  pub goes_same : {es : List Entry} → place_of y s ≡ s → GoesOn y s es → GoesOn y r es
  goes_same t (at_end i) = at_end (same_first t ∙ i)
  goes_same t (at_entry i b on) = at_entry (same_first t ∙ i) b on

-- the bytes at the positions of page m are those of b
pub record Shows (y : LogPages) (m : ℕ) (b : List ℕ) : Type 0 where
  pub window : (off i : ℕ) → off < y.p → off + i ≤ y.p → held_at y (m * y.p + off) i ≡ take i (drop off b)

-- the page m with its entries, below A
pub record Paged (y : LogPages) (m : ℕ) (ms : List (List ℕ)) : Type 0 where
  pub bytes : List ℕ
  pub shows : Shows y m bytes
  pub begins : take (page_length y.w ms) bytes ≡ encode_page y.w y.p m ms
  pub good : AllGood y.w y.p ms
  pub fits : page_length y.w ms ≤ y.p
  pub below : m * y.p + page_length y.w ms ≤ y.a

-- the volume and the page buffer have the sizes' lengths
pub record Shaped (y : LogPages) (n : ℕ) : Type 0 where
  pub sizes : Sizes y.w y.p n
  pub whole : length y.volume ≡ n * y.p
  pub buffer : length y.page ≡ y.p

-- each of good entries is good
good_at : {w p : ℕ} (before : List (List ℕ)) {e : List ℕ} (after : List (List ℕ)) → AllGood w p (before ++ (e ∷ after)) → Good w p e
good_at [] after g = g.0
good_at (x ∷ before) after g = good_at before after g.1

-- the first byte of a page's tail
pad_at : (w p m : ℕ) (ms : List (List ℕ)) → page_length w ms < p → get_or (whole_page w p m ms) (page_length w ms) 0 ≡ pad_byte
unfolding whole_page
pad_at w p m ms h =
    let n : p - page_length w ms ≡ suc (p - page_length w ms - 1) = omega arith in
    rw n (get_or_at (encode_page w p m ms) pad_byte (replicate (p - page_length w ms - 1) pad_byte) 0 (page_length w ms) (length_encode_page w p m ms))

-- the word after the header of a page that is all 0xFF
blank_word : (w p : ℕ) → 2 * w ≤ p → word_at w (blank_page p) w + 1 ≡ 256 ^ w
unfolding word_at
blank_word w p h =
    let e : w + (p - w) ≡ p = omega arith in
    let s = replicate-append-replicate w (p - w) pad_byte ∙ ap (λ i. replicate i pad_byte) e in
    let rest = drop_at (replicate w pad_byte) (replicate (p - w) pad_byte) w (length-replicate w pad_byte) in
    rw (← s, rest, take-replicate w (p - w) pad_byte (omega arith)) (le_ones w)

module _ {y : LogPages} {n : ℕ} (q : Shaped y n) where
  abbrev w : ℕ
  w = y.w

  abbrev p : ℕ
  p = y.p

  abbrev a : ℕ
  a = y.a

  f : Facts w p n
  f = facts q.sizes

  pub whole_lem : Whole y
  whole_lem = lent q.sizes y.volume y.page q.whole q.buffer (omega (arith, f))

  -- the page of A - 1 is in the page buffer
  pub shows_buffer : (m : ℕ) → m ≡ (a - 1) / p → Shows y m y.page
  unfolding bytes_at
  shows_buffer m e = record {
    window = λ off n s t.
        let pos : (m * p + off) / p ≡ m = page_of_lem m s refl in
        let rest : (m * p + off) % p ≡ off = rest_of m s refl in
        rw (holder_buffer p a y.volume y.page (m * p + off) (pos ∙ e), q.buffer, rest);
  }

  -- every other page is in the volume
  pub shows_volume : (m : ℕ) → (m ≡ (a - 1) / p → ⊥) → Shows y m (slot_bytes p (slot_of n m) y.volume)
  unfolding bytes_at slot_bytes
  shows_volume m d = record {
    window = λ off i s t.
        let s' : ℕ = slot_of n m in
        let pos : (m * p + off) / p ≡ m = page_of_lem m s refl in
        let rest : (m * p + off) % p ≡ off = rest_of m s refl in
        let slot : (m * p + off) % (n * p) ≡ s' * p + off = slot_of_lem (m * p + off) f.page f.count ∙ rw (pos, rest) in
        let long = length_slot p n y.volume q.whole s' (mod-lt m f.count) in
        let part = window_left i off (take p (drop (s' * p) y.volume)) (drop p (drop (s' * p) y.volume)) (omega arith) in
        let whole = rw (take-append-drop p (drop (s' * p) y.volume), drop-drop off (s' * p) y.volume) at part in
        rw (holder_volume p a y.volume y.page (m * p + off) (λ e. d (sym pos ∙ e)), q.whole, slot) whole;
  }

  -- what a page shows at an offset
  module _ {m : ℕ} {b : List ℕ} (v : Shows y m b) (off : ℕ) (h : off < p) where
    -- one byte
    pub shows_byte : byte_at p a y.volume y.page (m * p + off) ≡ get_or b off 0
    shows_byte =
        let z : off + 0 ≡ off = omega arith in
        sym (first_byte_at p a y.volume y.page (m * p + off) 1 (omega arith))
        ∙ ap (λ (s : List ℕ). get_or s 0 0) (v.window off 1 h (omega arith))
        ∙ get_or-take 1 (drop off b) 0 0 (omega arith) ∙ get_or-drop off b 0 0 ∙ ap (λ i. get_or b i 0) z

    -- one word
    pub shows_word : off + w ≤ p → held_word w p a y.volume y.page (m * p + off) ≡ word_at w b off
    unfolding word_at
    shows_word room = ap le (v.window off w h room)

  -- past the entries of a whole page the place is in the next one
  pub page_end : {m : ℕ} (ms : List (List ℕ)) → Shows y m (whole_page w p m ms) → page_length w ms ≤ p
      → place_of y (m * p + page_length w ms) ≡ (m + 1) * p + w
  unfolding place
  page_end {m} ms v fits = go (dec_lt (page_length w ms) p)
    where
      go : Dec (page_length w ms < p) → place_of y (m * p + page_length w ms) ≡ (m + 1) * p + w
      go (yes h) =
          let off : (m * p + page_length w ms) % p ≡ page_length w ms = rest_of m h refl in
          let at : (m * p + page_length w ms) / p ≡ m = page_of_lem m h refl in
          let byte = shows_byte v (page_length w ms) h ∙ pad_at w p m ms h in
          rw (off, ne_eqb (page_length w ms) 0 (λ z. omega (arith, f.word, z)), eq-eqb _ pad_byte byte, at)
      go (no h) =
          let off : (m * p + page_length w ms) % p ≡ 0 = rest_of (m + 1) {r = 0} f.page (omega arith) in
          rw off (omega arith)

  -- in a page that is all 0xFF no entry has a length
  blank_length : {m : ℕ} → Shows y m (blank_page p) → length_at y (m * p + w) ≡ refuses FAIL
  unfolding entry_length
  blank_length {m} v =
      let word = shows_word v w (omega (arith, f)) (omega (arith, f)) in
      let big = blank_word w p (omega (arith, f)) in
      let off : (m * p + w) % p ≡ w = rest_of m {r = w} (omega (arith, f)) refl in
      let one = le-ltb p (w + w) (omega (arith, f)) in
      let two = ne_eqb (word_at w (blank_page p) w) 0 (λ z. omega (arith, z, big, f)) in
      let three = lt-ltb (p - 2 * w) (word_at w (blank_page p) w) (omega (arith, big, f)) in
      rw (word, off, one, two, three)

  -- so none is found there
  pub blank_goes : {m : ℕ} (r : ℕ) → Shows y m (blank_page p) → place_of y r ≡ m * p + w → m * p + w < a → GoesOn y r []
  blank_goes r v e h = at_end (first_there y r e h ∙ rw (blank_length v))

  module _ {m : ℕ} {ms : List (List ℕ)} (v : Paged y m ms) where
    -- one of its entries
    module _ (before : List (List ℕ)) (e : List ℕ) (after : List (List ℕ)) (i : ms ≡ before ++ (e ∷ after)) where
      -- where it starts in the page, the bytes before it, and those after it
      abbrev off : ℕ
      off = page_length w before

      abbrev front : List ℕ
      front = encode_page w p m before

      abbrev rest : List ℕ
      rest = encode_all w after ++ drop (page_length w ms) v.bytes

      bytes_split : v.bytes ≡ front ++ (encode w e ++ rest)
      unfolding encode_page
      bytes_split =
          sym (take-append-drop (page_length w ms) v.bytes)
          ∙ ap (λ (s : List ℕ). s ++ drop (page_length w ms) v.bytes) (v.begins ∙ ap (encode_page w p m) i)
          ∙ rw (encode_all_append w before (e ∷ after)) (simp append_assoc)

      its_good : Good w p e
      its_good = good_at before after (subst (AllGood w p) i v.good)

      -- it lies in the page and below A
      its_room : (off + w + length e ≤ p) × (m * p + off + w + length e ≤ a)
      its_room =
          let n = ap (page_length w) i in
          let k = entries_length_append w before (e ∷ after) in
          (omega (arith, v.fits), omega (arith, v.below))

      its_offset : (m * p + off) % p ≡ off
      its_offset = rest_of m (omega (arith, its_room, f.word)) refl

      -- its length word, its data and its first byte, which is no padding
      its_word : word_at w v.bytes off ≡ length e
      its_word = rw (bytes_split, ← length_encode_page w p m before) (entry_word w front e rest (good_small q.sizes.page e its_good))

      its_data : take (length e) (drop (off + w) v.bytes) ≡ e
      its_data =
          let small = good_small q.sizes.page e its_good in
          rw (bytes_split, ← length_encode_page w p m before) (rw (entry_word w front e rest small) at (entry_data w front e rest small))

      its_byte : get_or v.bytes off 0 ≡ pad_byte → ⊥
      its_byte b =
          let pad : get_or (front ++ (encode w e ++ rest)) (length front) 0 ≡ pad_byte = rw (bytes_split, ← length_encode_page w p m before) at b in
          let stop = stop_pad w (front ++ (encode w e ++ rest)) (length front) pad in
          let on = entry_goes q.sizes.page front e rest its_good in
          let z : ◌≡◌ {A = ℕ} 0 1 = cc in
          omega arith

      -- it is found where it starts, with its length and its data
      its_place : place_of y (m * p + off) ≡ m * p + off
      unfolding place
      its_place =
          let byte = shows_byte v.shows off (omega (arith, its_room, f.word)) in
          rw (its_offset, ne_eqb off 0 (λ z. omega (arith, f.word, z)), ne_eqb _ pad_byte (λ b. its_byte (sym byte ∙ b)))

      its_length : length_at y (m * p + off) ≡ gives (length e)
      unfolding entry_length
      its_length =
          let word = shows_word v.shows off (omega (arith, its_room, f.word)) (omega (arith, its_room)) ∙ its_word in
          let one = le-ltb p (off + w) (omega (arith, its_room)) in
          let two = ne_eqb (length e) 0 (λ z. omega (arith, its_good.not_empty, z)) in
          let three = le-ltb (p - 2 * w) (length e) (omega (arith, its_good.fits)) in
          let four = le-ltb p (off + w + length e) its_room.0 in
          rw (word, its_offset, one, two, three, four)

      its_bytes : held_at y (m * p + off + w) (length e) ≡ e
      its_bytes =
          let z : m * p + (off + w) ≡ m * p + off + w = omega arith in
          rw z at (v.shows.window (off + w) (length e) (omega (arith, its_room, its_good.not_empty)) (omega (arith, its_room)) ∙ its_data)

      -- so it is the first entry from where it starts
      its_first : first_entry y (m * p + off) ≡ some (record { id = m * p + off; bytes = e })
      its_first = first_there y (m * p + off) its_place (omega (arith, its_room, f.word)) ∙ rw (its_length, its_bytes)

    -- the last entries of the page come before what follows it
    entries_go : (before after : List (List ℕ)) {id : ℕ} {es : List Entry} → ms ≡ before ++ after → id ≡ m * p + page_length w before
        → GoesOn y (m * p + page_length w ms) es → GoesOn y id (placed w id after ++ es)
    entries_go before [] {es = es} i at on =
        let k = entries_length_append w before [] in
        subst (λ j. GoesOn y j es) (omega (arith, at, ap (page_length w) i)) on
    entries_go before (e ∷ after) {id} i at on =
        let k = entries_length_append w before (e ∷ []) in
        let next = entries_go (before ++ (e ∷ [])) after {id = id + w + length e} (i ∙ sym (append_assoc before (e ∷ []) after)) (omega arith) on in
        at_entry (rw at (its_first before e after i)) (omega (arith, at, its_room before e after i)) next

    -- so do all of them
    pub page_goes : {es : List Entry} → GoesOn y (m * p + page_length w ms) es → GoesOn y (m * p + w) (placed w (m * p + w) ms ++ es)
    page_goes = entries_go [] ms refl (omega arith)

    -- a page that has an entry is found at its first
    pub page_place : (ms ≡ [] → ⊥) → place_of y (m * p + w) ≡ m * p + w
    page_place filled = go ms refl
      where
        go : (xs : List (List ℕ)) → ms ≡ xs → place_of y (m * p + w) ≡ m * p + w
        go [] i = absurd (filled i)
        go (e ∷ es) i = let z : w + 0 ≡ w = omega arith in rw z at (its_place [] e es i)
