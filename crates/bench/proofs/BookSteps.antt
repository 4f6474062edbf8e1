-- What an operation leaves and what joins keep of the book and the volume: one law for each way in which the book changes.
-- And what a page buffer begins with. g is the setup.
use Prim.Native.Nat.{ℕ, zero, suc, ◌+◌, ◌*◌, ◌≤◌, ◌<◌}
use mathlib.Core.Path.{◌≡◌, refl, sym, ap, ◌∙◌, subst}
use mathlib.Core.Bool.{Bool, true, false, not, ◌&&◌, ◌||◌}
use mathlib.Core.List.{List, [], ◌∷◌, ◌++◌, append-nil}
use mathlib.Core.Logic.{◌⊎◌, inl, inr}
use mathlib.Core.Option.{Option, none, some}
use native.Mathlib.Omega.{arith}
use native.Mathlib.Nat.{mod-lt, mul-mod_left, mul-le-mul_right}
use native.Mathlib.Decide.{ℕ_discrete, dec_lt}
use lib.ListN.{length, length-append, take, replicate, length-replicate}
use lib.Dec.{ltb, leb}
use borrow.Author.Tests.{eq-eqb, ne_eqb, le-leb, ltb-true, lt-ltb, le-ltb}
use Rattle.std.proofs.lemmas.List.{take-replicate}
use Rattle.page.specs.Pick.{pick}
use Rattle.page.specs.Sizes.{ceiling}
use Rattle.page.specs.Id.{slot_of, first_id, round_up}
use Rattle.page.specs.Word.{word_bytes}
use Rattle.page.specs.Bytes.{overwrite}
use Rattle.page.specs.Slots.{slot_bytes, put_slot}
use Rattle.page.specs.Layout.{encode_page, whole_page, page_length, AllGood, Good}
use Rattle.page.proofs.Kit.{facts, same_slot, round_first, both}
use Rattle.page.proofs.Words.{length_word_bytes}
use Rattle.page.proofs.Overwrites.{length_overwrite}
use Rattle.page.proofs.Headers.{blank_header}
use Rattle.page.proofs.Slots.{length_put, put_same, put_other, header_slots}
use Rattle.page.proofs.Pages.{length_whole_page, begins_header, begins_whole}
use Rattle.engine_state.specs.Log.{Setup, State}
use Rattle.engine_state.specs.Check.{Sized}
use Rattle.engine_state.specs.Open.{may_open, opened_id, opened_page}
use Rattle.engine_state.proofs.Opens.{ltb_leb}
use Rattle.engine_call.specs.Call.{Call, append_data}
use Rattle.bench_flash.specs.Flash.{Operation, Left, old, blank, new, in_slot, blank_page, leave, after_end}
use Rattle.bench_flash.proofs.Slots.{in_slot_lem, length_blank}
use Rattle.bench_flash.specs.Event as event
use Rattle.bench.specs.World.{unended, Told, ended_by}
use Rattle.bench.specs.Book.{Page, Book, allowed, in_book, with_slot, with_open, empty_page, with_entry, append_reported, joins, asked, slot_left, left_in}
use Rattle.bench.specs.Book.{recorded}
use Rattle.bench.proofs.Invariant.{SomeEntry, SlotHolds, Has, HasOrBlank, Near, Books, Buffered, Under, idle, read, seek, erase, sync, append}
use Rattle.bench.proofs.BookPages.{one_page, none_or_some}

-- not (not x or y) is x and not y
not_or : (x y : Bool) → not (not x || y) ≡ (x && not y)
not_or true y = refl
not_or false y = refl

-- a page ends in the volume exactly if it is below N
in_volume : (j n : ℕ) {p : ℕ} → 0 < p → ltb (n * p) (j * p + p) ≡ not (ltb j n)
in_volume j n {p} h = go (dec_lt j n)
  where
    go : Dec (j < n) → ltb (n * p) (j * p + p) ≡ not (ltb j n)
    go (yes l) = rw (lt-ltb j n l) (le-ltb (n * p) (j * p + p) (omega (arith, mul-le-mul_right {m = j + 1} {n = n} p (omega arith))))
    go (no l) = let u : n ≤ j = omega arith in rw (le-ltb j n u) (lt-ltb (n * p) (j * p + p) (omega (arith, mul-le-mul_right p u)))

-- the log may open a page exactly where the book allows it
pub may_allowed : (g : Setup) → Sized g → (j : ℕ) → may_open g (first_id g.p j) ≡ allowed g j
unfolding may_open
may_allowed g z j =
    let f = facts z in
    let up : round_up g.p (j * g.p) ≡ j * g.p = round_first (j * g.p) f.page (mul-mod_left j g.p) in
    rw (up, ltb_leb (j * g.p) (ceiling g.w)) (go g.circular (in_volume j g.n f.page))
  where
    go : (c : Bool) → ltb (g.n * g.p) (j * g.p + g.p) ≡ not (ltb j g.n)
        → not ((not c && ltb (g.n * g.p) (j * g.p + g.p)) || leb (ceiling g.w) (j * g.p))
        ≡ ((c || ltb j g.n) && not (leb (ceiling g.w) (j * g.p)))
    go true e = refl
    go false e = rw e (not_or (ltb j g.n) (leb (ceiling g.w) (j * g.p)))

-- the page 0 is allowed
pub allowed_zero : (g : Setup) → Sized g → allowed g 0 ≡ true
allowed_zero g z =
    let f = facts z in
    let low : ltb (0 * g.p) (ceiling g.w) ≡ true = lt-ltb (0 * g.p) (ceiling g.w) (omega (arith, f)) in
    rw (low, go g.circular (lt-ltb 0 g.n f.count))
  where
    go : (c : Bool) → ltb 0 g.n ≡ true → (c || ltb 0 g.n) ≡ true
    go true q = refl
    go false q = q

-- the first ID of the open page is below the ceiling
pub allowed_first : {g : Setup} {volume : List ℕ} {b : Book} → Books g volume b → first_id g.p b.open_page.number < ceiling g.w
allowed_first {g} {volume} {b} bk =
    let k : ℕ = b.open_page.number in
    ltb-true (first_id g.p k) (ceiling g.w) (both (g.circular || ltb k g.n) (ltb (first_id g.p k) (ceiling g.w)) bk.open_allowed).1

-- good entries and one more
pub good_append : {w p : ℕ} (es : List (List ℕ)) (e : List ℕ) → AllGood w p es → Good w p e → AllGood w p (es ++ (e ∷ []))
good_append [] e a h = (h, tt)
good_append (x ∷ es) e a h = (a.0, good_append es e a.1 h)

-- a list with one more is not empty
pub not_nil : (es : List (List ℕ)) (e : List ℕ) → es ++ (e ∷ []) ≡ [] → ⊥
not_nil es e i =
    let n : length (es ++ (e ∷ [])) ≡ 0 = ap (λ (l : List (List ℕ)). length l) i in
    omega (arith, length-append es (e ∷ []))

-- a page buffer that is a whole page
pub buffered_whole : {g : Setup} {page : List ℕ} {append : ℕ} {k : Page} → page ≡ whole_page g.w g.p k.number k.entries
    → page_length g.w k.entries ≤ g.p → append ≡ first_id g.p k.number + page_length g.w k.entries → Buffered g page append k
buffered_whole {g} {page} {append} {k} e fits at = record {
  page_length_lem = ap (λ (l : List ℕ). length l) e ∙ length_whole_page g.w g.p k.number k.entries fits;
  appends = at;
  begins = ap (take (page_length g.w k.entries)) e ∙ begins_whole g.w g.p k.number k.entries;
}

-- a page j that is opened at the ID a
pub buffered_opened : (g : Setup) → Sized g → (a j : ℕ) → round_up g.p a ≡ first_id g.p j → (page : List ℕ) → length page ≡ g.p
    → Buffered g (opened_page g a page) (opened_id g a) (empty_page j)
buffered_opened g z a j up page long =
    let w : ℕ = g.w in
    let id : ℕ = first_id g.p j in
    let bytes : opened_page g a page ≡ overwrite page 0 (word_bytes w id) = ap (λ (i : ℕ). overwrite page 0 (word_bytes w i)) up in
    record {
      page_length_lem = ap length bytes ∙ length_overwrite page 0 (word_bytes w id) (omega (arith, facts z, long, length_word_bytes w id)) ∙ long;
      appends = omega (arith, up);
      begins = ap (take (page_length w [])) bytes ∙ begins_header w g.p j page;
    }

-- the word 0 is bytes 0
zero_word : (w : ℕ) → word_bytes w 0 ≡ replicate w 0
zero_word zero = refl
zero_word (suc w) = ap (λ (r : List ℕ). 0 ∷ r) (zero_word w)

-- a page of bytes 0 begins with the empty page 0
pub buffered_zero : (g : Setup) → Sized g → Buffered g (replicate g.p 0) g.w (empty_page 0)
unfolding encode_page
buffered_zero g z = record { page_length_lem = length-replicate g.p 0; appends = omega arith; begins = begins g.w g.p (omega (arith, facts z)) }
  where
    begins : (w p : ℕ) → w ≤ p → take (page_length w []) (replicate p 0) ≡ encode_page w p 0 []
    begins w p h =
        let z : 0 * p ≡ 0 = omega arith in
        let l : w + 0 ≡ w = omega arith in
        rw (append-nil, l, z, zero_word w) (take-replicate w p 0 h)

-- a call that brings no data and ends nothing tells the book no more than an erase request's slot
pub recorded_call : (g : Setup) (b : Book) (c : Call) → append_data c ≡ none → (t : Told) → t.ended ≡ unended
    → recorded g b (event.call c) t ≡ asked b t.erases
unfolding recorded
recorded_call g b c n t u = rw (n, u) (go (append_reported t.report))
  where
    go : (d : Bool) → asked (joins b (pick d none none)) t.erases ≡ asked b t.erases
    go true = refl
    go false = refl

-- a slot that holds the same bytes holds the same page
pub holds_same : (g : Setup) (volume other : List ℕ) (s : ℕ) → Sized g → (k : Option Page)
    → slot_bytes g.p s other ≡ slot_bytes g.p s volume → SlotHolds g volume s k → SlotHolds g other s k
holds_same g volume other s z none e h = header_slots g.w g.p g.n volume other s (omega (arith, facts z)) e ∙ h
holds_same g volume other s z (some k) e h =
    record { slot = h.slot; below = h.below; some_entry = h.some_entry; good = h.good; fits = h.fits; bytes = e ∙ h.bytes }

-- the page m is there, in another slot than s
abbrev pub Elsewhere : Setup → (ℕ → Option Page) → ℕ → ℕ → Type 0
Elsewhere g slots s m = Has g slots m × (slot_of g.n m ≡ s → ⊥)

-- slots of which one changed
module _ (slots : ℕ → Option Page) (s : ℕ) (x : Option Page) where
  pub slot_same : in_book slots s x s ≡ x
  slot_same = rw (eq-eqb s s refl)

  -- no other changes
  pub slot_other : (t : ℕ) → (t ≡ s → ⊥) → in_book slots s x t ≡ slots t
  slot_other t d = rw (ne_eqb t s d)

  module _ (g : Setup) (m : ℕ) where
    -- a page of another slot stays
    pub has_kept : Has g slots m → (slot_of g.n m ≡ s → ⊥) → Has g (in_book slots s x) m
    has_kept h d = record { page = h.page; there = slot_other (slot_of g.n m) d ∙ h.there; number = h.number }

    -- a page that is there then is the slot's, or one of another slot
    has_changed : (h : Has g (in_book slots s x) m) → (x ≡ some h.page) ⊎ Elsewhere g slots s m
    has_changed h = go (ℕ_discrete (slot_of g.n m) s)
      where
        go : Dec (slot_of g.n m ≡ s) → (x ≡ some h.page) ⊎ Elsewhere g slots s m
        go (yes e) = inl (sym slot_same ∙ ap (in_book slots s x) (sym e) ∙ h.there)
        go (no d) = inr (record { page = h.page; there = sym (slot_other (slot_of g.n m) d) ∙ h.there; number = h.number }, d)

-- a page that is still there after a slot was emptied
pub has_left : (g : Setup) (slots : ℕ → Option Page) (s m : ℕ) → Has g (in_book slots s none) m → Elsewhere g slots s m
has_left g slots s m h = go (has_changed slots s none g m h)
  where
    go : (none ≡ some h.page) ⊎ Elsewhere g slots s m → Elsewhere g slots s m
    go (inl e) = absurd (none_or_some refl e)
    go (inr i) = i

-- a page that is there after a slot got a page is that page, or one of another slot
pub has_put : (g : Setup) (slots : ℕ → Option Page) (s m : ℕ) (k : Page) → Has g (in_book slots s (some k)) m
    → (m ≡ k.number) ⊎ Elsewhere g slots s m
has_put g slots s m k h = go (has_changed slots s (some k) g m h)
  where
    go : (some k ≡ some h.page) ⊎ Elsewhere g slots s m → (m ≡ k.number) ⊎ Elsewhere g slots s m
    go (inl e) = inl (sym h.number ∙ ap (λ (q : Page). q.number) (one_page e refl))
    go (inr i) = inr i

-- what waits and which slot is erased is nothing to the volume
pub books_same : {g : Setup} {volume : List ℕ} {b : Book} → Books g volume b → (e : List ℕ) (s : ℕ)
    → Books g volume (record { slots = b.slots; open_page = b.open_page; waiting = e; erase_slot = s })
books_same bk e s = record {
  sizes = bk.sizes;
  first = bk.first;
  whole = bk.whole;
  open_allowed = bk.open_allowed;
  open_fits = bk.open_fits;
  open_good = bk.open_good;
  slots = bk.slots;
  near = bk.near;
  gaps = bk.gaps;
  open_some = bk.open_some;
}

-- a book that has no page, with the empty page 0 open
pub books_none : (g : Setup) {volume : List ℕ} (b : Book) → Sized g → g.first ≤ 16_777_215 → length volume ≡ g.n * g.p
    → ((s : ℕ) → s < g.n → SlotHolds g volume s (b.slots s)) → ((m : ℕ) → Has g b.slots m → ⊥)
    → Books g volume (with_open b (empty_page 0))
books_none g b z first whole slots none_there = record {
  sizes = z;
  first = first;
  whole = whole;
  open_allowed = allowed_zero g z;
  open_fits = omega (arith, facts z);
  open_good = tt;
  slots = slots;
  near = λ m h. absurd (none_there m h);
  gaps = λ m h. absurd (none_there m h);
  open_some = λ h. absurd (none_there 0 h);
}

-- another open page with the same slots
module _ {g : Setup} {volume : List ℕ} {b : Book} (bk : Books g volume b) where
  -- an entry joins the open page
  pub books_join : (e : List ℕ) → Good g.w g.p e → page_length g.w (b.open_page.entries ++ (e ∷ [])) ≤ g.p
      → Books g volume (with_open b (with_entry b.open_page e))
  books_join e good fits = record {
    sizes = bk.sizes;
    first = bk.first;
    whole = bk.whole;
    open_allowed = bk.open_allowed;
    open_fits = fits;
    open_good = good_append b.open_page.entries e bk.open_good good;
    slots = bk.slots;
    near = bk.near;
    gaps = bk.gaps;
    open_some = λ h. not_nil b.open_page.entries e;
  }

  -- the next page is opened: the open page is in the book, and no page lies N before the next
  pub books_next : allowed g (b.open_page.number + 1) ≡ true → Has g b.slots b.open_page.number
      → ((m : ℕ) → Has g b.slots m → b.open_page.number + 1 ≤ m + g.n) → Books g volume (with_open b (empty_page (b.open_page.number + 1)))
  books_next may there room = record {
    sizes = bk.sizes;
    first = bk.first;
    whole = bk.whole;
    open_allowed = may;
    open_fits = omega (arith, facts bk.sizes);
    open_good = tt;
    slots = bk.slots;
    near = λ m h. (omega (arith, (bk.near m h).0), room m h);
    gaps = λ m h j l u. by_last m h j l (ℕ_discrete j b.open_page.number) u;
    open_some = λ h i. absurd (omega (arith, (bk.near _ h).0));
  }
    where
      by_last : (m : ℕ) → Has g b.slots m → (j : ℕ) → m ≤ j → Dec (j ≡ b.open_page.number) → j < b.open_page.number + 1
          → HasOrBlank g volume b.slots j
      by_last m h j l (yes e) u = inl (subst (Has g b.slots) (sym e) there)
      by_last m h j l (no d) u = bk.gaps m h j l (omega (arith, d))

-- one slot of the volume was written
module _ {g : Setup} {volume : List ℕ} {b : Book} (bk : Books g volume b) (s : ℕ) (h : s < g.n) (page : List ℕ) (long : length page ≡ g.p) where
  put_is : in_slot g.p s page volume ≡ put_slot g.p s page volume
  put_is = in_slot_lem g.p s page volume (le-leb (s * g.p + g.p) (length volume) (omega (arith, bk.whole, mul-le-mul_right g.p h))) long

  -- the volume after it
  abbrev after : List ℕ
  after = in_slot g.p s page volume

  -- the slot holds the page
  put_here : slot_bytes g.p s after ≡ page
  put_here = ap (slot_bytes g.p s) put_is ∙ put_same g.p g.n volume bk.whole page long s h

  -- no other slot changes
  put_there : (t : ℕ) → t < g.n → (t ≡ s → ⊥) → slot_bytes g.p t after ≡ slot_bytes g.p t volume
  put_there t l d = ap (slot_bytes g.p t) put_is ∙ put_other g.p g.n volume bk.whole page long s h t l d

  -- the book says of the slot what it holds: nothing or the open page; a page in between that has the slot is in the book or all 0xFF
  books_put : (x : Option Page) → SlotHolds g after s x → ((k : Page) → x ≡ some k → (k.number ≡ b.open_page.number) × SomeEntry b.open_page)
      → ((m j : ℕ) → Elsewhere g b.slots s m → m ≤ j → j < b.open_page.number → slot_of g.n j ≡ s → HasOrBlank g after (in_book b.slots s x) j)
      → Books g after (with_slot b s x)
  books_put x holds is_open here = record {
    sizes = bk.sizes;
    first = bk.first;
    whole = ap (λ (v : List ℕ). length v) put_is ∙ length_put g.p g.n volume bk.whole page long s h;
    open_allowed = bk.open_allowed;
    open_fits = bk.open_fits;
    open_good = bk.open_good;
    slots = λ t l. by_slot t l (ℕ_discrete t s);
    near = λ m i. by_near m i.page i.number (has_changed b.slots s x g m i);
    gaps = λ m i j l u. by_gaps m j l u i.page i.number (has_changed b.slots s x g m i);
    open_some = λ i. by_open i.page (has_changed b.slots s x g _ i);
  }
    where
      by_slot : (t : ℕ) → t < g.n → Dec (t ≡ s) → SlotHolds g after t (in_book b.slots s x t)
      by_slot t l (yes e) =
          subst (λ (y : ℕ). SlotHolds g after y (in_book b.slots s x y)) (sym e) (subst (SlotHolds g after s) (sym (slot_same b.slots s x)) holds)
      by_slot t l (no d) =
          subst (SlotHolds g after t) (sym (slot_other b.slots s x t d))
          (holds_same g volume after t bk.sizes (b.slots t) (put_there t l d) (bk.slots t l))

      by_near : (m : ℕ) (k : Page) → k.number ≡ m → (x ≡ some k) ⊎ Elsewhere g b.slots s m → Near g b.open_page m
      by_near m k i (inl e) = let q = (is_open k e).0 in (omega arith, omega arith)
      by_near m k i (inr c) = bk.near m c.0

      by_open : (k : Page) → (x ≡ some k) ⊎ Elsewhere g b.slots s b.open_page.number
          → SomeEntry b.open_page
      by_open k (inl e) = (is_open k e).1
      by_open k (inr c) = bk.open_some c.0

      by_gaps : (m j : ℕ) → m ≤ j → j < b.open_page.number → (k : Page) → k.number ≡ m
          → (x ≡ some k) ⊎ Elsewhere g b.slots s m → HasOrBlank g after (in_book b.slots s x) j
      by_gaps m j l u k i (inl e) = let q = (is_open k e).0 in absurd (omega arith)
      by_gaps m j l u k i (inr c) = go (ℕ_discrete (slot_of g.n j) s) (bk.gaps m c.0 j l u)
        where
          go : Dec (slot_of g.n j ≡ s) → HasOrBlank g volume b.slots j → HasOrBlank g after (in_book b.slots s x) j
          go (yes e) a = here m j c l u e
          go (no o) (inl a) = inl (has_kept b.slots s x g j a o)
          go (no o) (inr a) = inr (put_there (slot_of g.n j) (mod-lt j (facts bk.sizes).count) o ∙ a)

-- "blank (all 0xFF) empties the operation's slot"
pub books_blank : {g : Setup} {volume : List ℕ} {b : Book} → Books g volume b → (s : ℕ) → s < g.n
    → Books g (in_slot g.p s (blank_page g.p) volume) (with_slot b s none)
books_blank {g} {volume} bk s h =
    let after : List ℕ = in_slot g.p s (blank_page g.p) volume in
    let emptied : slot_bytes g.p s after ≡ blank_page g.p = put_here bk s h (blank_page g.p) (length_blank g.p) in
    books_put bk s h (blank_page g.p) (length_blank g.p) none (blank_header bk.sizes after s emptied) (λ k e. absurd (none_or_some refl e))
    (λ m j c l u e. inr (ap (λ (t : ℕ). slot_bytes g.p t after) e ∙ emptied))

-- "new writes put the open page and its list in its slot"
pub books_new : {g : Setup} {volume : List ℕ} {b : Book} → Books g volume b
    → SomeEntry b.open_page → (page : List ℕ) → page ≡ whole_page g.w g.p b.open_page.number b.open_page.entries
    → Books g (in_slot g.p (slot_of g.n b.open_page.number) page volume)
    (with_slot b (slot_of g.n b.open_page.number) (some b.open_page))
books_new {g} {volume} {b} bk some_entry page e =
    books_put bk s h page long (some k)
    (record {
      slot = refl;
      below = allowed_first bk;
      some_entry = some_entry;
      good = bk.open_good;
      fits = bk.open_fits;
      bytes = put_here bk s h page long ∙ e;
    })
    (λ j i. (ap (λ (q : Page). q.number) (one_page i refl), some_entry))
    (λ m j c l u i. absurd (apart m j c l u i))
  where
    k : Page
    k = b.open_page

    s : ℕ
    s = slot_of g.n k.number

    h : s < g.n
    h = mod-lt k.number (facts bk.sizes).count

    long : length page ≡ g.p
    long = ap (λ (v : List ℕ). length v) e ∙ length_whole_page g.w g.p k.number k.entries bk.open_fits

    -- a page between one of another slot and the open page is of another slot too
    apart : (m j : ℕ) → Elsewhere g b.slots s m → m ≤ j → j < k.number → slot_of g.n j ≡ s → ⊥
    apart m j (i, d) l u c = go (dec_lt k.number (j + g.n))
      where
        go : Dec (k.number < j + g.n) → ⊥
        go (yes v) = let z : j ≡ k.number = same_slot g.n {k = j} {j = k.number} (omega arith) v c in absurd (omega arith)
        go (no v) = let z : m ≡ j = omega (arith, (bk.near m i).1, v) in d (ap (slot_of g.n) z ∙ c)

-- what an operation leaves in its slot, where the new page keeps the book and the volume one
books_left : {g : Setup} {volume : List ℕ} {b : Book} → Books g volume b → (s : ℕ) → s < g.n → (x : Option Page) (page : List ℕ)
    → Books g (in_slot g.p s page volume) (with_slot b s x) → (left : Left) → Books g (leave g.p s page left volume) (slot_left b s x left)
books_left bk s h x page put old = bk
books_left bk s h x page put blank = books_blank bk s h
books_left bk s h x page put new = put

-- what any operation that is under way leaves
pub books_ended : {g : Setup} {volume page hold : List ℕ} {kept : ℕ} {b : Book} {oldest : ℕ} {s : State} {op : Operation} → Books g volume b
    → Under g page hold kept b oldest s op → (left : Left) → Books g (after_end g.p op page left volume) (left_in g.n b (ended_by op left))
books_ended bk idle left = bk
books_ended bk read left = bk
books_ended bk seek left = bk
books_ended {g} {volume} {b = b} {oldest} bk (erase e) left =
    let h = mod-lt oldest (facts bk.sizes).count in
    subst (λ (s : ℕ). Books g (leave g.p (slot_of g.n oldest) (blank_page g.p) left volume) (slot_left b s none left)) (sym e)
    (books_left bk (slot_of g.n oldest) h none (blank_page g.p) (books_blank bk (slot_of g.n oldest) h) left)
books_ended {g} {page = page} {b = b} bk (sync a) left =
    books_left bk _ (mod-lt b.open_page.number (facts bk.sizes).count) (some b.open_page) page (books_new bk a.some_entry page a.bytes) left
books_ended {g} {page = page} {b = b} bk (append a c) left =
    books_left bk _ (mod-lt b.open_page.number (facts bk.sizes).count) (some b.open_page) page (books_new bk a.some_entry page a.bytes) left
