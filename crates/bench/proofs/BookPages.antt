-- Laws of the book's pages: the newest and the least of them, and the headers that they have in the volume.
use Prim.Native.Nat.{ℕ, zero, suc, ◌*◌, ◌≤◌, ◌<◌, min, max}
use mathlib.Core.Path.{◌≡◌, refl, sym, ap}
use mathlib.Core.List.{List}
use mathlib.Core.Option.{Option, none, some}
use native.Mathlib.Omega.{arith}
use native.Mathlib.Decide.{dec_lt}
use native.Mathlib.Nat.{mul-le-mul_right}
use borrow.Author.Tests.{lt-ltb, le-ltb}
use Rattle.page.specs.Header.{header, joined, ids_below, Extent, widen, extent}
use Rattle.page.proofs.Headers.{page_in_slot}
use Rattle.engine_state.specs.Log.{Setup}
use Rattle.engine_state.specs.Check.{Sized}
use Rattle.bench.specs.Book.{Page, with_page, pages, newer, newest, lesser, least}
use Rattle.bench.proofs.Invariant.{SlotHolds}

-- the newest page of the slots below m
pub record Top (slots : ℕ → Option Page) (m : ℕ) (k : Page) : Type 0 where
  pub slot : ℕ
  pub below : slot < m
  pub is : slots slot ≡ some k
  pub to : (s : ℕ) (j : Page) → s < m → slots s ≡ some j → j.number ≤ k.number

-- the least page number of the slots below m
pub record Bottom (slots : ℕ → Option Page) (m a : ℕ) : Type 0 where
  pub page : Page
  pub slot : ℕ
  pub below : slot < m
  pub is : slots slot ≡ some page
  pub number : page.number ≡ a
  pub from : (s : ℕ) (j : Page) → s < m → slots s ≡ some j → a ≤ j.number

-- the extent of the headers, the least page number and the newest page go together: there is none of them, or each
pub data HeadersPages (p : ℕ) (slots : ℕ → Option Page) (m : ℕ) : Option Extent → Option ℕ → Option Page → Type 0 where
  empty : ((s : ℕ) → s < m → slots s ≡ none) → HeadersPages p slots m none none none
  some_pages : {x : Extent} {a : ℕ} {k : Page} → x.least ≡ a * p → x.greatest ≡ k.number * p → Bottom slots m a → Top slots m k
      → HeadersPages p slots m (some x) (some a) (some k)

-- two pages of one slot are one
pub one_page : {o : Option Page} {k j : Page} → o ≡ some k → o ≡ some j → k ≡ j
one_page a b = cc

-- a slot has no page and a page: that is not so
pub none_or_some : {o : Option Page} {k : Page} → o ≡ none → o ≡ some k → ⊥
none_or_some a b = let z : ◌≡◌ {A = ℕ} 0 1 = cc in omega arith

-- one slot more
module _ (p : ℕ) (slots : ℕ → Option Page) (m : ℕ) where
  -- what holds of the pages below and of the slot's holds of all
  with_slot_lem : (P : Page → Type 0) → ((s : ℕ) (j : Page) → s < m → slots s ≡ some j → P j) → ((j : Page) → slots m ≡ some j → P j)
      → (s : ℕ) (j : Page) → s < suc m → slots s ≡ some j → P j
  with_slot_lem P below here s j h i = go (dec_lt s m)
    where
      go : Dec (s < m) → P j
      go (yes l) = below s j l i
      go (no l) = let q : s ≡ m = omega arith in here j (rw q at i)

  -- the newest page stays, where the slot's is no newer
  top_old : {k : Page} → ((j : Page) → slots m ≡ some j → j.number ≤ k.number) → Top slots m k → Top slots (suc m) k
  top_old {k} h t =
      record { slot = t.slot; below = omega (arith, t.below); is = t.is; to = with_slot_lem (λ (j : Page). j.number ≤ k.number) t.to h }

  -- the least number stays, where the slot's is no less
  bottom_old : {a : ℕ} → ((j : Page) → slots m ≡ some j → a ≤ j.number) → Bottom slots m a → Bottom slots (suc m) a
  bottom_old {a} h t = record {
    page = t.page;
    slot = t.slot;
    below = omega (arith, t.below);
    is = t.is;
    number = t.number;
    from = with_slot_lem (λ (j : Page). a ≤ j.number) t.from h;
  }

  -- the slot has no page
  survey_none : slots m ≡ none → {x : Option Extent} {l : Option ℕ} {y : Option Page} → HeadersPages p slots m x l y → HeadersPages p slots (suc m) x l y
  survey_none e (empty h) = empty (λ s b. none_at s b (dec_lt s m))
    where
      none_at : (s : ℕ) → s < suc m → Dec (s < m) → slots s ≡ none
      none_at s b (yes l) = h s l
      none_at s b (no l) = let i : s ≡ m = omega arith in rw i e
  survey_none e (some_pages el eg b t) = some_pages el eg (bottom_old (λ j i. absurd (none_or_some e i)) b) (top_old (λ j i. absurd (none_or_some e i)) t)

  -- the slot has a page
  module _ (k : Page) (e : slots m ≡ some k) where
    -- which is the only one
    number_is : (j : Page) → slots m ≡ some j → k.number ≡ j.number
    number_is j i = ap (λ (r : Page). r.number) (one_page e i)

    -- it is the newest
    top_new : ((s : ℕ) (j : Page) → s < m → slots s ≡ some j → j.number ≤ k.number) → Top slots (suc m) k
    top_new h = record {
      slot = m;
      below = omega arith;
      is = e;
      to = with_slot_lem (λ (j : Page). j.number ≤ k.number) h (λ j i. omega (arith, number_is j i));
    }

    -- its number is the least
    bottom_new : ((s : ℕ) (j : Page) → s < m → slots s ≡ some j → k.number ≤ j.number) → Bottom slots (suc m) k.number
    bottom_new h = record {
      page = k;
      slot = m;
      below = omega arith;
      is = e;
      number = refl;
      from = with_slot_lem (λ (j : Page). k.number ≤ j.number) h (λ j i. omega (arith, number_is j i));
    }

    -- the newer of the two
    top_next : {j : Page} → Top slots m j → Dec (k.number < j.number) → Top slots (suc m) (newer k (some j))
    top_next {j} t (yes l) = rw (lt-ltb k.number j.number l) (top_old (λ i q. omega (arith, number_is i q, l)) t)
    top_next {j} t (no l) =
        let u : j.number ≤ k.number = omega arith in
        rw (le-ltb k.number j.number u) (top_new (λ s i b q. omega (arith, t.to s i b q)))

    -- the lesser number
    bottom_next : {a : ℕ} → Bottom slots m a → Dec (a < k.number) → Bottom slots (suc m) (lesser k.number (some a))
    bottom_next {a} t (yes l) = rw (lt-ltb a k.number l) (bottom_old (λ i q. omega (arith, number_is i q, l)) t)
    bottom_next {a} t (no l) =
        let u : k.number ≤ a = omega arith in
        rw (le-ltb a k.number u) (bottom_new (λ s i b q. omega (arith, t.from s i b q)))

    -- all of them together
    survey_some : {x : Option Extent} {l : Option ℕ} {y : Option Page} → HeadersPages p slots m x l y
        → HeadersPages p slots (suc m) (some (widen (k.number * p) x)) (some (lesser k.number l)) (some (newer k y))
    survey_some (empty h) =
        some_pages refl refl (bottom_new (λ s j b i. absurd (none_or_some (h s b) i))) (top_new (λ s j b i. absurd (none_or_some (h s b) i)))
    survey_some (some_pages {x} {a} {k = j} el eg b t) = some_pages (low less) (high more) (bottom_next b less) (top_next t more)
      where
        less : Dec (a < k.number)
        less = dec_lt a k.number

        more : Dec (k.number < j.number)
        more = dec_lt k.number j.number

        low : Dec (a < k.number) → min (k.number * p) x.least ≡ lesser k.number (some a) * p
        low (yes l) = rw (lt-ltb a k.number l) (omega (arith, mul-le-mul_right {m = a} {n = k.number} p (omega arith)))
        low (no l) = let u : k.number ≤ a = omega arith in rw (le-ltb a k.number u) (omega (arith, mul-le-mul_right p u))

        high : Dec (k.number < j.number) → max (k.number * p) x.greatest ≡ (newer k (some j)).number * p
        high (yes l) = rw (lt-ltb k.number j.number l) (omega (arith, mul-le-mul_right {m = k.number} {n = j.number} p (omega arith)))
        high (no l) = let u : j.number ≤ k.number = omega arith in rw (le-ltb k.number j.number u) (omega (arith, mul-le-mul_right p u))

-- the valid headers of a volume are those of the book's pages
pub headers_pages : (g : Setup) (volume : List ℕ) (slots : ℕ → Option Page) → Sized g → ((s : ℕ) → s < g.n → SlotHolds g volume s (slots s))
    → (m : ℕ) → m ≤ g.n → HeadersPages g.p slots m (extent (ids_below g.w g.p g.n volume m)) (least (pages m slots)) (newest (pages m slots))
headers_pages g volume slots z h zero b = empty (λ s l. absurd (omega arith))
headers_pages g volume slots z h (suc m) b =
    go (slots m) refl (h m b) (ids_below g.w g.p g.n volume m) (pages m slots) (headers_pages g volume slots z h m (omega arith))
  where
    go : (o : Option Page) → slots m ≡ o → SlotHolds g volume m o → (ids : List ℕ) (ks : List Page)
        → HeadersPages g.p slots m (extent ids) (least ks) (newest ks)
        → HeadersPages g.p slots (suc m) (extent (joined (header g.w g.p g.n volume m) ids)) (least (with_page o ks)) (newest (with_page o ks))
    go none e v ids ks s = rw v (survey_none g.p slots m e s)
    go (some k) e v ids ks s =
        rw (page_in_slot z volume m k.number k.entries v.below v.bytes (sym v.slot)) (survey_some g.p slots m k e s)
