-- Reading on through the entries of a log: each read gives the next, and where there is none it answers FAIL.
-- l is the log that the reading began with, x what every call is lent.
use Prim.Native.Nat.{ℕ, ◌+◌, ◌*◌, ◌-◌, ◌≤◌}
use mathlib.Core.Path.{◌≡◌, refl, sym, ap, subst}
use mathlib.Core.Bool.{Bool, true, false}
use mathlib.Core.List.{List}
use mathlib.Core.Option.{Option, none, some}
use native.Mathlib.Omega.{arith}
use lib.ListN.{length}
use lib.Dec.{leb}
use borrow.Author.Tests.{le-ltb}
use Rattle.page.specs.Pick.{pick}
use Rattle.page.specs.Answered.{Answered, gives, refuses, FAIL}
use Rattle.page_lookup.specs.Held.{next_entry}
use Rattle.page.proofs.Overwrites.{overwrite_same}
use Rattle.page_lookup.proofs.Lengths.{lengthy, length_data, length_by_lem}
use Rattle.engine_state.specs.Log.{State, Idle, Read, Log}
use Rattle.engine_state.specs.Check.{shape_fits, kept_fits}
use Rattle.engine_state.proofs.Checks.{StateFits, fits_state}
use Rattle.engine_call.specs.Outcome.{Lent, Done, first_of, moved}
use Rattle.engine_call.specs.Gate.{gate}
use Rattle.engine_read.specs.Read.{Found, entry, no_entry, found_length, found_at, found, read_done_of, read_runs, read, read_buffer}
use Rattle.engine_read.specs.Deferred.{deferred_runs, deferred}
use Rattle.engine_marks.specs.Entries.{LogPages, pages_of, Entry, end_of, with_length, with_place, first_entry, contents}
use Rattle.engine_marks.proofs.EntryLaws.{place_of, length_at, held_at, Whole, first_at}
use Rattle.bench.specs.Promise.{ReadsOn, on_ends, on_goes}
use Rattle.bench.proofs.Gates.{fits_gate}
use Rattle.bench.proofs.PageReads.{GoesOn, at_end, at_entry}

-- the log in the run: its state, its read ID and its kept length vary
abbrev pub reading_log : Log → State → ℕ → ℕ → Log
reading_log l state r kept = moved l state l.oldest r l.append kept

-- reading on with a read ID and a kept length
abbrev pub ReadsFrom : Log → Lent → ℕ → ℕ → List (List ℕ) → Type 0
ReadsFrom l x r kept es = ReadsOn x (reading_log l Idle r kept) es

-- what stays in the run
pub record Run (l : Log) (x : Lent) : Type 0 where
  pub shape : shape_fits l.setup (length x.volume) (length x.page) (length x.hold) ≡ true
  pub whole : Whole (pages_of l x.volume x.page)
  pub fits : StateFits l
  pub client : l.read_client ≡ true

-- a read ID and a kept length in the run
pub record Within (l : Log) (r k : ℕ) : Type 0 where
  pub read : r ≤ l.append
  pub kept : k ≤ l.setup.p - 2 * l.setup.w

module _ {l : Log} {x : Lent} (q : Run l x) where
  -- the gate passes every call of the run
  run_passes : (state : State) {r kept : ℕ} → kept_fits state kept ≡ true → Within l r kept → gate (reading_log l state r kept) x ≡ none
  run_passes state {r} {kept} s v =
      let fits : StateFits (reading_log l state r kept) =
      record {
        headed = q.fits.headed;
        ordered = q.fits.ordered;
        limited = q.fits.limited;
        first = q.fits.first;
        read_limited = omega (arith, v.read, q.fits.limited);
        offset = q.fits.offset;
        kept_most = v.kept;
        kept_some = s;
      } in
      fits_gate _ x q.shape (fits_state _ fits)

  -- the deferred call after a read
  after_read : {r kept : ℕ} → Within l r kept → deferred (reading_log l Read r kept) x ≡ deferred_runs (reading_log l Read r kept) x
  unfolding first_of kept_fits
  after_read v = rw (run_passes Read refl v)

  -- a read with a buffer that is long enough gives what it finds
  reads_found : {r kept : ℕ} → Within l r kept → (room : ℕ) → l.setup.p ≤ room
      → let k : Log = reading_log l Idle r kept in read k x room l.setup.p ≡ read_done_of k x (found k x l.setup.p)
  unfolding first_of kept_fits read_runs found
  reads_found {r} v room m = rw (run_passes Idle refl v, le-ltb room l.setup.p m, le-ltb l.append r v.read, q.client)

  abbrev y : LogPages
  y = pages_of l x.volume x.page

  -- it finds the first entry, which is no longer than P
  abbrev Told : Option Entry → Found → Type 0
  Told none k = k ≡ no_entry FAIL
  Told (some e) k = (k ≡ entry e.id (length e.bytes)) × (held_at y (e.id + y.w) (length e.bytes) ≡ e.bytes)

  finds_first : (r kept : ℕ) → Told (first_entry y r) (found (reading_log l Idle r kept) x l.setup.p)
  unfolding found first_entry next_entry
  finds_first r kept = placed (leb y.a (place_of y r))
    where
      sized : (id : ℕ) (n : Answered) → length_at y id ≡ n → Told (with_length y id n) (found_length y.p id n)
      sized id (refuses f) i = sym (ap (found_length y.p id) (rw i at (length_by_lem q.whole y.w y.a id)))
      sized id (gives n) i =
          let long = lengthy y.w y.p y.a y.volume y.page id i in
          rw (length_data q.whole y.a id long, le-ltb y.p n (omega (arith, long.most))) (refl, refl)

      placed : (b : Bool) → let at : Answered = pick b (refuses FAIL) (gives (place_of y r)) in
          Told (with_place y at) (found_at (reading_log l Idle r kept) x y.p at)
      placed true = refl
      placed false = sized (place_of y r) (length_at y (place_of y r)) refl

  -- so the entries are read, each with its length, and then a read answers FAIL
  pub goes_reads : {r kept : ℕ} {es : List Entry} → Within l r kept → GoesOn y r es → ReadsFrom l x r kept (contents es)
  unfolding read_buffer
  goes_reads {r} {kept} v (at_end i) =
      on_ends {l = reading_log l Idle r kept} (λ bytes m. rw (reads_found v (length bytes) m, rw i at (finds_first r kept)))
  goes_reads {r} {kept} v (at_entry {e = e} {es = es} i b on) =
      let t : Told (some e) (found (reading_log l Idle r kept) x l.setup.p) = rw i at (finds_first r kept) in
      let next : Within l (end_of y.w e) (length e.bytes) = record { read = b; kept = omega (arith, (first_at y q.whole r i).lengthy.most) } in
      on_goes {l = reading_log l Idle r kept} {next = reading_log l Read (end_of y.w e) (length e.bytes)}
      (λ bytes m.
      let one = reads_found v (length bytes) m in
      record {
        answer = rw (one, t.0);
        log = rw (one, t.0);
        entry = rw (one, t.0, t.1) (overwrite_same bytes 0 e.bytes (omega (arith, next.kept)));
      })
      (ap (λ (d : Done). d.outcome.report) (after_read next))
      (subst (λ (d : Done). ReadsOn x d.outcome.log (contents es)) (sym (after_read next)) (goes_reads next on))
