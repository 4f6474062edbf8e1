-- The log's entries from the oldest ID on are the book's, and reading on gives them.
use Prim.Native.Nat.{ℕ, zero, suc, ◌+◌, ◌*◌, ◌-◌, ◌/◌, ◌≤◌, ◌<◌}
use mathlib.Core.Path.{◌≡◌, refl, sym, ap, ◌∙◌, subst}
use mathlib.Core.Bool.{true}
use mathlib.Core.List.{List, [], ◌++◌}
use mathlib.Core.Logic.{inl, inr}
use mathlib.Core.Option.{Option, none, some}
use native.Mathlib.Omega.{arith}
use native.Mathlib.Decide.{dec_lt, ℕ_discrete}
use native.Mathlib.Nat.{mod-lt, mul-le-mul_right}
use lib.ListN.{take}
use borrow.Author.Tests.{eq-eqb, ne_eqb}
use Rattle.page.specs.Id.{slot_of}
use Rattle.page.specs.Slots.{slot_bytes}
use Rattle.page.specs.Layout.{page_length, whole_page}
use Rattle.page.specs.Header.{Extent}
use Rattle.page.proofs.Kit.{Facts, facts}
use Rattle.page.proofs.Pages.{begins_whole}
use Rattle.engine_state.specs.Log.{Setup, Log}
use Rattle.engine_state.proofs.Checks.{StateFits, state_fits_lem}
use Rattle.engine_marks.specs.Entries.{LogPages, pages_of, log_entries}
use Rattle.engine_marks.proofs.EntryLaws.{place_of, first_past}
use Rattle.bench.specs.World.{World, lent_by}
use Rattle.bench.specs.Book.{Page, Book, pages, least}
use Rattle.bench.specs.Promise.{oldest_found, placed, of_page, and_then, placed_from, placed_at, book_placed, book_entries, ReadsOn}
use Rattle.bench.proofs.Invariant.{HoldsPage, Has, HasOrBlank, Books}
use Rattle.bench.proofs.BookPages.{HeadersPages, empty, some_pages, one_page, none_or_some, headers_pages}
use Rattle.bench.proofs.Gates.{fits_shape}
use Rattle.bench.proofs.Appends.{last_open}
use Rattle.bench.proofs.RestartKeeps.{has_its_number, slot_holds, has_none, has_near, Recovers}
use Rattle.bench.proofs.PageReads.{GoesOn, at_end, goes_entries, goes_past, goes_same, Shows, Paged, Shaped, whole_lem, shows_buffer, shows_volume}
use Rattle.bench.proofs.PageReads.{page_end, blank_goes, page_goes, page_place}
use Rattle.bench.proofs.EntryReads.{Run, goes_reads}

-- what a restart found
module _ {x : World} {b : Book} (q : Recovers x.log.setup x b) where
  abbrev l : Log
  l = x.log

  abbrev y : LogPages
  y = pages_of l x.volume x.page

  abbrev g : Setup
  g = x.log.setup

  abbrev w : ℕ
  w = g.w

  abbrev p : ℕ
  p = g.p

  abbrev k : Page
  k = b.open_page

  abbrev bk : Books g x.volume b
  bk = q.books

  f : Facts w p g.n
  f = facts bk.sizes

  shaped : Shaped y g.n
  shaped = record { sizes = bk.sizes; whole = bk.whole; buffer = q.running.buffer.page_length_lem }

  -- A is where the open page ends
  ends_at : l.append ≡ k.number * p + page_length w k.entries
  ends_at = q.running.buffer.appends

  -- at A and past it nothing is found
  nothing_past : {r : ℕ} → l.append ≤ r → GoesOn y r []
  nothing_past {r} h = at_end (first_past y (whole_lem shaped) r h)

  -- the page of the page buffer is the open page
  open_page_is : (l.append - 1) / p ≡ k.number
  open_page_is = last_open bk q.running.buffer

  -- a page before the open page is read from its slot, and ends where the open page starts or before
  shows_old : (m : ℕ) → m < k.number → Shows y m (slot_bytes p (slot_of g.n m) x.volume)
  shows_old m u = shows_volume shaped m (λ e. omega (arith, u, e, open_page_is))

  old_below : (m : ℕ) → m < k.number → m * p + p ≤ l.append
  old_below m u = omega (arith, ends_at, mul-le-mul_right {m = m + 1} {n = k.number} p (omega arith))

  -- a page that the book has
  module _ (m : ℕ) (h : Has g b.slots m) where
    abbrev ms : List (List ℕ)
    ms = h.page.entries

    has_holds : HoldsPage g x.volume (slot_of g.n m) h.page
    has_holds = slot_holds bk (slot_of g.n m) h.page (mod-lt m f.count) h.there

    has_bytes : slot_bytes p (slot_of g.n m) x.volume ≡ whole_page w p m ms
    has_bytes = has_holds.bytes ∙ ap (λ i. whole_page w p i ms) h.number

    -- it is read from its slot, or from the page buffer if it is the open page
    paged : Paged y m ms
    paged = go (dec_lt m k.number)
      where
        go : Dec (m < k.number) → Paged y m ms
        go (yes u) = record {
          bytes = slot_bytes p (slot_of g.n m) x.volume;
          shows = shows_old m u;
          begins = ap (take (page_length w ms)) has_bytes ∙ begins_whole w p m ms;
          good = has_holds.good;
          fits = has_holds.fits;
          below = omega (arith, has_holds.fits, old_below m u);
        }
        go (no u) =
            let i : m ≡ k.number = omega (arith, (bk.near m h).0) in
            let e : ms ≡ k.entries = q.open_is m h i in
            record {
              bytes = x.page;
              shows = shows_buffer shaped m (i ∙ sym open_page_is);
              begins = rw (e, i) q.running.buffer.begins;
              good = has_holds.good;
              fits = has_holds.fits;
              below = rw (e, i) (omega (arith, ends_at));
            }

    -- past a page before the open page the place is in the next one
    old_end : m < k.number → place_of y (m * p + page_length w ms) ≡ (m + 1) * p + w
    old_end u = page_end shaped ms (subst (Shows y m) has_bytes (shows_old m u)) has_holds.fits

    -- where the book doesn't have the next page, nothing is found past this one
    none_next : (Has g b.slots (m + 1) → ⊥) → GoesOn y (m * p + page_length w ms) []
    none_next d = go (dec_lt m k.number) (dec_lt (m + 1) k.number)
      where
        blank_next : m < k.number → m + 1 < k.number → HasOrBlank g x.volume b.slots (m + 1) → GoesOn y (m * p + page_length w ms) []
        blank_next u v (inl h') = absurd (d h')
        blank_next u v (inr e) =
            blank_goes shaped (m * p + page_length w ms) (subst (Shows y (m + 1)) e (shows_old (m + 1) v)) (old_end u) (omega (arith, f, old_below (m + 1) v))

        go : Dec (m < k.number) → Dec (m + 1 < k.number) → GoesOn y (m * p + page_length w ms) []
        go (yes u) (yes v) = blank_next u v (bk.gaps m h (m + 1) (omega arith) v)
        go (yes u) (no v) =
            let i : m + 1 ≡ k.number = omega arith in
            let e : k.entries ≡ [] = q.open_none (λ h'. d (subst (Has g b.slots) (sym i) h')) in
            goes_past y (m * p + page_length w ms) (old_end u) (omega (arith, ends_at, ap (page_length w) e, ap (λ n. n * p) i))
        go (no u) v =
            let i : m ≡ k.number = omega (arith, (bk.near m h).0) in
            let e : ms ≡ k.entries = q.open_is m h i in
            nothing_past (omega (arith, ends_at, ap (page_length w) e, ap (λ n. n * p) i))

  -- past a page of the book come the entries of the pages after it, of which there are no more than so many
  abbrev GoesPast : ℕ → (m : ℕ) → Has g b.slots m → Type 0
  GoesPast more m h = GoesOn y (m * p + page_length w h.page.entries) (placed_from g b.slots more (m + 1))

  -- and from it on its own before them
  goes_here : (more m : ℕ) (h : Has g b.slots m) → GoesPast more m h
      → GoesOn y (m * p + w) (and_then (of_page g m (some h.page)) (placed_from g b.slots more (m + 1)))
  goes_here more m h on =
      rw (eq-eqb h.page.number m h.number)
      (subst (λ i. GoesOn y (m * p + w) (placed w (i * p + w) h.page.entries ++ placed_from g b.slots more (m + 1))) (sym h.number)
      (page_goes shaped (paged m h) on))

  pages_go : (more m : ℕ) (h : Has g b.slots m) → ((j : ℕ) → Has g b.slots j → j < m + suc more) → GoesPast more m h
  pages_go zero m h reach = none_next m h (λ h'. absurd (omega (arith, reach (m + 1) h')))
  pages_go (suc more) m h reach = go (b.slots (slot_of g.n (m + 1))) refl (λ h'. pages_go more (m + 1) h' (λ j z. omega (arith, reach j z)))
    where
      On : Option Page → Type 0
      On o = GoesOn y (m * p + page_length w h.page.entries) (and_then (of_page g (m + 1) o) (placed_from g b.slots more (m + 1 + 1)))

      at : (j : Page) → b.slots (slot_of g.n (m + 1)) ≡ some j → Dec (j.number ≡ m + 1) → ((h' : Has g b.slots (m + 1)) → GoesPast more (m + 1) h')
          → On (some j)
      at j e (yes i) next =
          let h' : Has g b.slots (m + 1) = record { page = j; there = e; number = i } in
          goes_same y (m * p + page_length w h.page.entries) (old_end m h (omega (arith, (bk.near (m + 1) h').0)))
          (page_place shaped (paged (m + 1) h') (has_holds (m + 1) h').some_entry) (goes_here more (m + 1) h' (next h'))
      at j e (no d) next = rw (ne_eqb j.number (m + 1) d) (none_next m h (λ h'. d (ap (λ (r : Page). r.number) (one_page e h'.there) ∙ h'.number)))

      go : (o : Option Page) → b.slots (slot_of g.n (m + 1)) ≡ o → ((h' : Has g b.slots (m + 1)) → GoesPast more (m + 1) h') → On o
      go none e next = none_next m h (λ h'. none_or_some e h'.there)
      go (some j) e next = at j e (ℕ_discrete j.number (m + 1)) next

  -- from the oldest ID on the book's entries come
  from_oldest : GoesOn y l.oldest (book_placed g b)
  from_oldest = go refl q.oldest (headers_pages g x.volume b.slots bk.sizes bk.slots g.n (omega arith))
    where
      go : {ids : Option Extent} {low : Option ℕ} {o : Option Page} → least (pages g.n b.slots) ≡ low → l.oldest ≡ oldest_found g low
          → HeadersPages p b.slots g.n ids low o → GoesOn y l.oldest (placed_at g b.slots low)
      go low i (empty e) =
          let es : k.entries ≡ [] = q.open_none (has_none bk e k.number) in
          let zeroth = ap (λ n. n * p) (q.open_zero low) in
          nothing_past (omega (arith, ends_at, ap (page_length w) es))
      go low i (some_pages {a = m} el eg bot top) =
          let h : Has g b.slots m = subst (Has g b.slots) bot.number (has_its_number bk bot.slot bot.page bot.below bot.is) in
          let n : g.n ≡ suc (g.n - 1) = omega (arith, f.count) in
          let on = goes_here (g.n - 1) m h (pages_go (g.n - 1) m h (λ j z. omega (arith, n, has_near bk m j h z))) in
          rw i (subst (λ more. GoesOn y (m * p + w) (placed_from g b.slots more m)) (sym n) (rw h.there on))

  -- they are the log's
  pub entries_found : log_entries l x.volume x.page ≡ book_placed g b
  entries_found = goes_entries y (whole_lem shaped) from_oldest

  -- with the read client set, reading on gives exactly them
  pub reads_on : l.read_client ≡ true → ReadsOn (lent_by x) l (book_entries g b)
  reads_on client =
      let fits : StateFits l = state_fits_lem l q.running.fits in
      let shape = fits_shape g _ _ _ bk.sizes bk.first bk.whole q.running.buffer.page_length_lem q.running.hold_length in
      let reader : Run l (lent_by x) = record { shape = shape; whole = whole_lem shaped; fits = fits; client = client } in
      rw (q.at_rest, q.read) (goes_reads reader (record { read = fits.ordered; kept = fits.kept_most }) from_oldest)
