-- What the book has; and a restart finds it: the invariant holds after it. g is the setup.
use Prim.Native.Nat.{ℕ, ◌+◌, ◌*◌, ◌/◌, ◌%◌, ◌≤◌, ◌<◌}
use mathlib.Core.Path.{◌≡◌, refl, sym, ap, ◌∙◌}
use mathlib.Core.Bool.{Bool, true, false, ◌||◌}
use mathlib.Core.List.{List, []}
use mathlib.Core.Logic.{inl}
use mathlib.Core.Option.{Option, none, some}
use native.Mathlib.Omega.{arith}
use native.Mathlib.Decide.{dec_lt}
use native.Mathlib.Nat.{mod-lt, add-mod_right, mul-mod_left, mul-div_cancel, mul-le-mul_right}
use lib.ListN.{length}
use lib.Dec.{ltb}
use borrow.Author.Tests.{ltb-true, lt-ltb, eqb-true, eqb-false}
use Rattle.page.specs.Pick.{pick}
use Rattle.page.specs.Sizes.{ceiling}
use Rattle.page.specs.Id.{slot_of, first_id, round_up}
use Rattle.page.specs.Slots.{slot_bytes}
use Rattle.page.specs.Header.{valid_ids, Extent}
use Rattle.page.specs.Layout.{whole_page, page_length, AllGood}
use Rattle.page.specs.Walk.{walked}
use Rattle.page.proofs.Kit.{Facts, facts, both, round_first}
use Rattle.page.proofs.Pages.{walked_page}
use Rattle.engine_state.specs.Log.{Setup, Idle, Log}
use Rattle.engine_state.specs.Check.{shape_fits, state_fits}
use Rattle.engine_state.specs.Open.{may_open}
use Rattle.engine_state.proofs.Checks.{ShapeFits, shape_fits_lem}
use Rattle.engine_call.specs.Outcome.{Lent, lend}
use Rattle.engine_restart.specs.Restart.{started, RestartDone, newest_page, walked_id, recovered_of, opens_after, recovered, started_from, headers, restart}
use Rattle.engine_restart.proofs.Restarts.{recovers_opened, recovers_kept, opens_partial, opens_not}
use Rattle.engine_restart.proofs.RestartState.{restart_fits}
use Rattle.bench_flash.specs.Event.{Restart}
use Rattle.bench.specs.World.{World, restarted_world}
use Rattle.bench.specs.Book.{Page, Book, empty_page, with_open, allowed, fills, pages, newest, least, reopened}
use Rattle.bench.specs.Promise.{book_oldest}
use Rattle.bench.proofs.Invariant.{HoldsPage, Has, HasOrBlank, Near, Books, Buffered, Running, idle}
use Rattle.bench.proofs.BookSteps.{may_allowed, buffered_whole, buffered_opened, buffered_zero, books_none}
use Rattle.bench.proofs.BookPages.{Top, Bottom, HeadersPages, empty, some_pages, one_page, none_or_some, headers_pages}

-- a page below an allowed one is allowed
allowed_below : (g : Setup) {j k : ℕ} → j ≤ k → allowed g k ≡ true → allowed g j ≡ true
allowed_below g {j} {k} h e =
    let t = both (g.circular || ltb k g.n) (ltb (k * g.p) (ceiling g.w)) e in
    let l = ltb-true (k * g.p) (ceiling g.w) t.1 in
    rw (lt-ltb (j * g.p) (ceiling g.w) (omega (arith, mul-le-mul_right g.p h)), go g.circular t.0)
  where
    go : (c : Bool) → (c || ltb k g.n) ≡ true → (c || ltb j g.n) ≡ true
    go true q = refl
    go false q = let l = ltb-true k g.n q in lt-ltb j g.n (omega arith)

-- what the book has
module _ {g : Setup} {volume : List ℕ} {b : Book} (bk : Books g volume b) where
  f : Facts g.w g.p g.n
  f = facts bk.sizes

  -- what a slot with a page holds
  pub slot_holds : (s : ℕ) (k : Page) → s < g.n → b.slots s ≡ some k → HoldsPage g volume s k
  slot_holds s k l e = rw e at (bk.slots s l)

  -- so the book has it
  pub has_its_number : (s : ℕ) (k : Page) → s < g.n → b.slots s ≡ some k → Has g b.slots k.number
  has_its_number s k l e = record { page = k; there = ap b.slots (slot_holds s k l e).slot ∙ e; number = refl }

  -- where no slot has a page the book has none
  pub has_none : ((s : ℕ) → s < g.n → b.slots s ≡ none) → (m : ℕ) → Has g b.slots m → ⊥
  has_none e m h = none_or_some (e (m % g.n) (mod-lt m f.count)) h.there

  -- a page that the book has is no newer than the newest, and no older than the least
  has_top : {k : Page} → Top b.slots g.n k → (m : ℕ) → Has g b.slots m → m ≤ k.number
  has_top t m h = let u = t.to (m % g.n) h.page (mod-lt m f.count) h.there in omega (arith, h.number)

  has_bottom : {a : ℕ} → Bottom b.slots g.n a → (m : ℕ) → Has g b.slots m → a ≤ m
  has_bottom t m h = let u = t.from (m % g.n) h.page (mod-lt m f.count) h.there in omega (arith, h.number)

  -- no page of the book is N pages or more after another: only one page has a slot
  pub has_near : (m j : ℕ) → Has g b.slots m → Has g b.slots j → j < m + g.n
  has_near m j h y = go (dec_lt j (m + g.n))
    where
      go : Dec (j < m + g.n) → j < m + g.n
      go (yes l) = l
      go (no l) =
          let i : j ≡ m + g.n = omega (arith, (bk.near j y).0, (bk.near m h).1) in
          let s : slot_of g.n m ≡ slot_of g.n j = sym (ap (slot_of g.n) i ∙ add-mod_right m g.n) in
          let same = ap (λ (k : Page). k.number) (one_page h.there (ap b.slots s ∙ y.there)) in
          absurd (omega (arith, h.number, y.number, f.count))

-- the world and the book after a restart that isn't refused
pub record Recovers (g : Setup) (x : World) (b : Book) : Type 0 where
  pub books : Books g x.volume b
  pub running : Running g x b
  pub at_rest : x.log.state ≡ Idle
  pub read : x.log.read ≡ x.log.oldest
  pub oldest : x.log.oldest ≡ book_oldest g b
  pub open_is : (m : ℕ) (h : Has g b.slots m) → m ≡ b.open_page.number → h.page.entries ≡ b.open_page.entries
  pub open_none : (Has g b.slots b.open_page.number → ⊥) → b.open_page.entries ≡ []
  pub open_zero : least (pages g.n b.slots) ≡ none → b.open_page.number ≡ 0

-- a restart on a volume and a book that agree
module _ {g : Setup} (y : World) {b : Book} (bk : Books g y.volume b) (r : Restart)
    (shape : shape_fits g (length y.volume) (length r.page) (length r.hold) ≡ true) where
  abbrev lent : Lent
  lent = lend y.volume r.page r.hold

  -- what it answers and leaves, by the valid headers, and the world after it
  abbrev done : Option Extent → RestartDone
  done h = started_from g r.read_client r.append_client lent h

  abbrev world_by : RestartDone → World
  world_by d = restarted_world y d.page r.hold d.answer

  lengths : ShapeFits g (length y.volume) (length r.page) (length r.hold)
  lengths = shape_fits_lem g _ _ _ shape

  sizes : Facts g.w g.p g.n
  sizes = facts bk.sizes

  -- its log satisfies STATE
  abbrev Fits : Option Extent → Type 0
  Fits h = (l : Log) → (done h).answer ≡ started l → state_fits l ≡ true

  fits : Fits (headers g y.volume)
  unfolding restart
  fits l e = restart_fits g r.read_client r.append_client lent (rw shape e)

  -- with no page in the book: "an empty page 0"
  found_empty : ((s : ℕ) → s < g.n → b.slots s ≡ none) → least (pages g.n b.slots) ≡ none → Fits none
      → Recovers g (world_by (done none)) (with_open b (empty_page 0))
  found_empty e low fit =
      record {
        books = books_none g b bk.sizes bk.first bk.whole bk.slots (has_none bk e);
        running = record {
          setup = refl;
          hold_length = lengths.held;
          fits = fit _ refl;
          buffer = buffered_zero g bk.sizes;
          oldest = record { page = 0; first = omega arith; near = (omega arith, omega arith); live = λ m h. absurd (has_none bk e m h) };
          under = idle;
        };
        at_rest = refl;
        read = refl;
        oldest = rw low;
        open_is = λ m h. absurd (has_none bk e m h);
        open_none = λ h. refl;
        open_zero = λ h. refl;
      }

  -- the newest page k of the book, the least number a, and the headers with them
  module _ {k : Page} {a : ℕ} (t : Top b.slots g.n k) (u : Bottom b.slots g.n a) (low : least (pages g.n b.slots) ≡ some a)
      {ids : Extent} (el : ids.least ≡ a * g.p) (eg : ids.greatest ≡ k.number * g.p) (fit : Fits (some ids)) where
    its : HoldsPage g y.volume t.slot k
    its = slot_holds bk t.slot k t.below t.is

    has_newest : Has g b.slots k.number
    has_newest = has_its_number bk t.slot k t.below t.is

    has_least : Has g b.slots a
    has_least = rw u.number at (has_its_number bk u.slot u.page u.below u.is)

    -- a page that may be opened next: the newest, or an empty one after it
    record Opens (j : Page) : Type 0 where
      ok : allowed g j.number ≡ true
      fits : page_length g.w j.entries ≤ g.p
      good : AllGood g.w g.p j.entries
      from : k.number ≤ j.number
      to : j.number ≤ k.number + 1
      same : j.number ≡ k.number → j.entries ≡ k.entries
      other : (j.number ≡ k.number → ⊥) → j.entries ≡ []

    -- a restart that opens_after it
    module _ (j : Page) (o : Opens j) where
      newest_old : k.number ≤ b.open_page.number
      newest_old = (bk.near k.number has_newest).0

      near : (m : ℕ) → Has g b.slots m → Near g j m
      near m h = (omega (arith, has_top bk t m h, o.from), omega (arith, has_near bk m k.number h has_newest, o.to))

      gap : (m : ℕ) → Has g b.slots m → (i : ℕ) → m ≤ i → i < j.number → HasOrBlank g y.volume b.slots i
      gap m h i l v = go (dec_lt i k.number)
        where
          go : Dec (i < k.number) → HasOrBlank g y.volume b.slots i
          go (yes d) = bk.gaps m h i l (omega (arith, newest_old))
          go (no d) = let z : k.number ≡ i = omega (arith, o.to) in inl (rw z at has_newest)

      -- the book has the page only if it is the newest
      at_newest : (m : ℕ) → Has g b.slots m → m ≡ j.number → j.number ≡ k.number
      at_newest m h e = omega (arith, has_top bk t m h, o.from)

      its_entries : (m : ℕ) (h : Has g b.slots m) → m ≡ j.number → h.page.entries ≡ j.entries
      its_entries m h e =
          let at : b.slots (slot_of g.n m) ≡ some k = rw (e ∙ at_newest m h e, its.slot) t.is in
          ap (λ (i : Page). i.entries) (one_page h.there at) ∙ sym (o.same (at_newest m h e))

      found_open : {append : ℕ} {page : List ℕ} → recovered g (k.number * g.p) y.volume r.page ≡ recovered_of append page
          → Buffered g page append j → Recovers g (world_by (done (some ids))) (with_open b j)
      found_open {append} {page} e buffered =
          let rec : recovered g ids.greatest y.volume r.page ≡ recovered_of append page = rw eg e in
          record {
            books = record {
              sizes = bk.sizes;
              first = bk.first;
              whole = bk.whole;
              open_allowed = o.ok;
              open_fits = o.fits;
              open_good = o.good;
              slots = bk.slots;
              near = near;
              gaps = gap;
              open_some = λ h z. its.some_entry (sym (o.same (at_newest j.number h refl)) ∙ z);
            };
            running = record {
              setup = refl;
              hold_length = lengths.held;
              fits = fit _ refl;
              buffer = rw rec buffered;
              oldest = record { page = a; first = ap (λ (i : ℕ). i + g.w) el; near = near a has_least; live = λ m h. inl (has_bottom bk u m h) };
              under = idle;
            };
            at_rest = refl;
            read = refl;
            oldest = rw low (ap (λ (i : ℕ). i + g.w) el);
            open_is = its_entries;
            open_none = λ h. o.other (λ z. h (rw (sym z) at has_newest));
            open_zero = λ z. let c : ◌≡◌ {A = ℕ} 0 1 = cc in absurd (omega arith);
          }

    -- the newest page alone, and where its walk ends
    newest_is : newest_page g (k.number * g.p) y.volume ≡ whole_page g.w g.p k.number k.entries
    newest_is =
        let q : k.number * g.p / g.p ≡ k.number = mul-div_cancel k.number sizes.page in
        ap (λ i. slot_bytes g.p (slot_of g.n i) y.volume) q ∙ ap (λ s. slot_bytes g.p s y.volume) its.slot ∙ its.bytes

    newest_walk : walked g.w (newest_page g (k.number * g.p) y.volume) ≡ page_length g.w k.entries
    newest_walk = ap (walked g.w) newest_is ∙ walked_page bk.sizes.page k.number k.entries its.good

    abbrev end : ℕ
    end = walked_id g (k.number * g.p) y.volume

    -- a restart that keeps the newest page open
    found_kept : opens_after g (k.number * g.p) y.volume ≡ false → Recovers g (world_by (done (some ids))) (with_open b k)
    found_kept not-next =
        found_open k
        (record {
          ok = allowed_below g (bk.near k.number has_newest).0 bk.open_allowed;
          fits = its.fits;
          good = its.good;
          from = omega arith;
          to = omega arith;
          same = λ z. refl;
          other = λ z. absurd (z refl);
        })
        (recovers_kept g _ _ r.page not-next)
        (buffered_whole newest_is its.fits (ap (λ n. k.number * g.p + n) newest_walk))

    -- where the newest page is full, the next is opened where the book allows it
    module _ (full : page_length g.w k.entries ≡ g.p) where
      next_end : end ≡ first_id g.p (k.number + 1)
      next_end = ap (λ n. k.number * g.p + n) newest_walk ∙ omega arith

      may_next : may_open g end ≡ allowed g (k.number + 1)
      may_next = ap (may_open g) next_end ∙ may_allowed g bk.sizes (k.number + 1)

      -- a restart that opens_after it
      found_next : allowed g (k.number + 1) ≡ true → Recovers g (world_by (done (some ids))) (with_open b (empty_page (k.number + 1)))
      found_next may =
          let up = ap (round_up g.p) next_end ∙ round_first _ sizes.page (mul-mod_left (k.number + 1) g.p) in
          found_open (empty_page (k.number + 1))
          (record {
            ok = may;
            fits = omega (arith, sizes);
            good = tt;
            from = omega arith;
            to = omega arith;
            same = λ z. absurd (omega arith);
            other = λ z. refl;
          })
          (recovers_opened g _ _ r.page (newest_walk ∙ full) (may_next ∙ may))
          (buffered_opened g bk.sizes end (k.number + 1) up r.page lengths.buffer)

    -- a restart with some page in the book
    found_some : Recovers g (world_by (done (some ids))) (with_open b (reopened g (some k)))
    found_some = go (fills g k) refl (allowed g (k.number + 1)) refl
      where
        go : (c : Bool) → fills g k ≡ c → (d : Bool) → allowed g (k.number + 1) ≡ d
            → Recovers g (world_by (done (some ids))) (with_open b (pick c (pick d (empty_page (k.number + 1)) k) k))
        go true q true v = found_next (eqb-true _ _ q) v
        go true q false v = found_kept (opens_not g _ _ r.page (may_next (eqb-true _ _ q) ∙ v))
        go false q d v = found_kept (opens_partial g _ _ r.page (λ z. eqb-false _ _ q (sym newest_walk ∙ z)))

  -- after a restart that isn't refused, the log is where the book says
  pub restored : Recovers g (world_by (done (headers g y.volume))) (with_open b (reopened g (newest (pages g.n b.slots))))
  unfolding valid_ids
  restored = go refl (headers_pages g y.volume b.slots bk.sizes bk.slots g.n (omega arith)) fits
    where
      go : {h : Option Extent} {l : Option ℕ} {k : Option Page} → least (pages g.n b.slots) ≡ l → HeadersPages g.p b.slots g.n h l k
          → Fits h → Recovers g (world_by (done h)) (with_open b (reopened g k))
      go low (empty e) s = found_empty e low s
      go low (some_pages el eg u t) s = found_some t u low el eg s
