-- An entry that is stored in the open page, and a page that is flushed: what they make of the page buffer. g is the setup, A the append ID.
use Prim.Native.Nat.{ℕ, ◌+◌, ◌*◌, ◌-◌, ◌/◌, ◌%◌, ◌≤◌, ◌<◌}
use mathlib.Core.Path.{◌≡◌, refl, sym, ap, ◌∙◌}
use mathlib.Core.List.{List, [], ◌∷◌, ◌++◌}
use mathlib.Core.Logic.{inl, inr}
use mathlib.Core.Option.{Option}
use native.Mathlib.Omega.{arith}
use native.Mathlib.Nat.{mul-mod_left}
use native.Mathlib.Decide.{dec_lt}
use lib.ListN.{length, take}
use lib.Dec.{ltb, leb}
use borrow.Author.Tests.{lt-ltb, le-ltb, le-leb, lt-leb}
use Rattle.page.specs.Id.{page_of, offset_of, round_up, first_id}
use Rattle.page.specs.Bytes.{overwrite, padded}
use Rattle.page.specs.Layout.{encode, page_length, whole_page}
use Rattle.page.proofs.Kit.{Facts, facts, page_of_lem, rest_of, full, rounded, round_first, round_next}
use Rattle.page.proofs.Overwrites.{length_overwrite}
use Rattle.page.proofs.Pages.{length_encode, entries_length_append, begins_entry, begins_padded}
use Rattle.engine_state.specs.Log.{Setup}
use Rattle.engine_state.specs.Check.{Sized}
use Rattle.engine_state.specs.Open.{may_open}
use Rattle.bench.specs.Book.{Page, Book, allowed, with_entry}
use Rattle.bench.proofs.Invariant.{SomeEntry, Books, Buffered, Live, Oldest}
use Rattle.bench.proofs.BookSteps.{may_allowed, not_nil}

-- how long a page is with one entry more
pub longer : (w : ℕ) (es : List (List ℕ)) (e : List ℕ) → page_length w (es ++ (e ∷ [])) ≡ page_length w es + w + length e
longer w es e = omega (arith, entries_length_append w es (e ∷ []))

-- a page with an entry is longer than its header
pub some_length : (w : ℕ) (es : List (List ℕ)) → 0 < w → (es ≡ [] → ⊥) → w < page_length w es
some_length w [] z h = absurd (h refl)
some_length w (e ∷ es) z h = omega arith

-- "A + P > L" depends on A rounded up to P alone
past_round : (n a : ℕ) {p : ℕ} → 0 < p → ltb (n * p) (a + p) ≡ leb (n * p) (round_up p a)
past_round n a {p} h = go (dec_lt (n * p) (a + p))
  where
    go : Dec (n * p < a + p) → ltb (n * p) (a + p) ≡ leb (n * p) (round_up p a)
    go (yes l) = lt-ltb (n * p) (a + p) l ∙ sym (le-leb (n * p) (round_up p a) (full n a h l))
    go (no l) = le-ltb (n * p) (a + p) (omega (arith, l)) ∙ sym (lt-leb (n * p) (round_up p a) (omega (arith, l, (rounded a h).near)))

-- and so does opening
pub may_round : (g : Setup) (a c : ℕ) → 0 < g.p → round_up g.p a ≡ round_up g.p c → may_open g a ≡ may_open g c
unfolding may_open
may_round g a c h e = rw (past_round g.n a h, past_round g.n c h, e)

-- O's page is the oldest
pub oldest_of_lem : {g : Setup} {oldest : ℕ} {slots : ℕ → Option Page} {k : Page} → Sized g → (o : Oldest g oldest slots k) → oldest / g.p ≡ o.page
oldest_of_lem {g} z o = page_of_lem o.page {r = g.w} (omega (arith, facts z)) o.first

-- the page buffer begins with the open page
module _ {g : Setup} {volume : List ℕ} {b : Book} (bk : Books g volume b) {page : List ℕ} {a : ℕ} (u : Buffered g page a b.open_page) where
  abbrev w : ℕ
  w = g.w

  abbrev p : ℕ
  p = g.p

  abbrev k : ℕ
  k = b.open_page.number

  abbrev es : List (List ℕ)
  es = b.open_page.entries

  f : Facts w p g.n
  f = facts bk.sizes

  -- A's offset is the length of the open page, if it isn't full
  pub offset_open : page_length w es < p → offset_of p a ≡ page_length w es
  offset_open h = rest_of k h u.appends

  -- an empty open page is as long as its header
  pub offset_empty : es ≡ [] → offset_of p a ≡ w
  offset_empty nil =
      let size : page_length w es ≡ w = ap (page_length w) nil ∙ omega arith in
      offset_open (omega (arith, f.page_words, f.word)) ∙ size

  -- where A's page is full, A is the next page's first ID
  pub next_first : p ≤ page_length w es → a ≡ first_id p (k + 1)
  next_first h = omega (arith, u.appends, bk.open_fits, h)

  -- the byte before A is the open page's last
  last_byte : a - 1 ≡ k * p + (page_length w es - 1)
  last_byte = omega (arith, u.appends, f.word)

  -- it lies in the page
  last_below : page_length w es - 1 < p
  last_below = omega (arith, bk.open_fits, f.word)

  -- so its page is the open page
  pub last_open : page_of p (a - 1) ≡ k
  last_open = page_of_lem k last_below last_byte

  -- a flush makes the page buffer the whole open page
  pub flushed_whole : padded page (offset_of p (a - 1) + 1) ≡ whole_page w p k es
  flushed_whole =
      let last : offset_of p (a - 1) + 1 ≡ page_length w es = omega (arith, rest_of k last_below last_byte, f.word) in
      ap (padded page) last ∙ begins_padded w p k page es u.begins u.page_length_lem

  -- the next page's first ID is a page's start
  first_round : round_up p (first_id p (k + 1)) ≡ first_id p (k + 1)
  first_round = round_first ((k + 1) * p) f.page (mul-mod_left (k + 1) p)

  -- A rounded up is the next page's first ID, where the open page has an entry
  pub append_round : SomeEntry b.open_page → round_up p a ≡ first_id p (k + 1)
  append_round some_entry = go (dec_lt (page_length w es) p)
    where
      go : Dec (page_length w es < p) → round_up p a ≡ first_id p (k + 1)
      go (yes h) =
          round_next a f.page (omega (arith, offset_open h, some_length w es (omega (arith, f.word)) some_entry))
          ∙ ap (λ (j : ℕ). (j + 1) * p) (page_of_lem k h u.appends)
      go (no h) = ap (round_up p) (next_first (omega (arith, h))) ∙ first_round

  -- so the next page may be opened where the book's next page is allowed
  pub may_next : SomeEntry b.open_page → may_open g a ≡ allowed g (k + 1)
  may_next some_entry = may_round g a (first_id p (k + 1)) f.page (append_round some_entry ∙ sym first_round) ∙ may_allowed g bk.sizes (k + 1)

  -- an entry that fits in the page
  module _ (e : List ℕ) (within : 0 < a % p) (fits : length e + w ≤ p - a % p) where
    -- the open page is not full
    partly : page_length w es < p
    partly = go (dec_lt (page_length w es) p)
      where
        go : Dec (page_length w es < p) → page_length w es < p
        go (yes h) = h
        go (no h) =
            let none_left : a % p ≡ 0 = rest_of (k + 1) f.page (omega (arith, next_first (omega (arith, h)))) in
            absurd (omega (arith, within))

    -- the page has room for it
    pub stored_room : page_length w (es ++ (e ∷ [])) ≤ p
    stored_room = omega (arith, longer w es e, fits, offset_open partly, partly)

    -- it stands at the end of the open page
    pub stored_buffer : Buffered g (overwrite page (offset_of p a) (encode w e)) (a + length e + w) (with_entry b.open_page e)
    stored_buffer =
        let at : overwrite page (offset_of p a) (encode w e) ≡ overwrite page (page_length w es) (encode w e) =
        ap (λ (i : ℕ). overwrite page i (encode w e)) (offset_open partly) in
        let room : page_length w es + length (encode w e) ≤ length page = omega (arith, length_encode w e, stored_room, longer w es e, u.page_length_lem) in
        record {
          page_length_lem = ap (λ (l : List ℕ). length l) at ∙ length_overwrite page (page_length w es) (encode w e) room ∙ u.page_length_lem;
          appends = omega (arith, u.appends, longer w es e);
          begins = ap (take (page_length w (es ++ (e ∷ [])))) at ∙ begins_entry w p k page es e u.begins;
        }

-- an entry that joins the open page leaves O's page
pub joined_oldest : {g : Setup} {oldest : ℕ} {slots : ℕ → Option Page} {k : Page} → Oldest g oldest slots k → (e : List ℕ)
    → Oldest g oldest slots (with_entry k e)
joined_oldest {g} {slots = slots} {k} o e = record { page = o.page; first = o.first; near = o.near; live = λ m h. alive m (o.live m h) }
  where
    alive : (m : ℕ) → Live g k o.page m → Live g (with_entry k e) o.page m
    alive m (inl h) = inl h
    alive m (inr h) = inr (h.0, not_nil k.entries e)
