-- Reading on into a buffer of zeros. x is what is lent, l the log from which reading began.
use Rattle.std.proofs.Common.{ℕ, ◌+◌, ◌-◌, ◌^◌, ◌≤◌, ◌<◌, ◌≡◌, sym, ap, ◌∙◌, subst, Bool, false, List, [], ◌∷◌, ◌++◌, append_assoc, append-nil, arith}
use Rattle.std.proofs.Common.{length, take, drop, replicate, length-append, take_at, drop_at, eqb}
use Rattle.std.proofs.lemmas.List.{length-replicate}
use borrow.Rule.Slice.PartMut.{mid_of, put_mid, put_same}
use Rattle.page.specs.Sizes.{Width}
use Rattle.page.specs.Layout.{encode_all, entries_length}
use Rattle.page.proofs.Pages.{width_pos, length_encode_all, encode_all_append, entries_length_append}
use Rattle.page.specs.Answered.{FAIL}
use Rattle.engine_state.specs.Log.{Setup, Log}
use Rattle.engine_call.specs.Outcome.{Lent}
use Rattle.bench_run.specs.Entries.{entry_read, ReadsOut, out_full, out_ends, out_goes, laid}
use Rattle.bench_run.specs.Entries.{next_entry_read, next_ends, next_full, NextRead, no_room_left, no_more, one_more}
use Rattle.bench_run.specs.Entries.{ReadOut}
use Rattle.bench_run.proofs.NextLaw.{rest_lent, rest_back, read_keeps, entry_given}

-- the buffer with entries: its length, its rest, and an entry more
module _ (w n : ℕ) (es : List (List ℕ)) where
  length_laid : entries_length w es ≤ n → length (laid w n es) ≡ n
  length_laid h = simp (length-append, length_encode_all w es, length-replicate) (omega arith)

  laid_rest : drop (entries_length w es) (laid w n es) ≡ replicate (n - entries_length w es) 0
  laid_rest = drop_at (encode_all w es) _ (entries_length w es) (length_encode_all w es)

  laid_more : {at : ℕ} {out part : List ℕ} (e : List ℕ) → at ≡ entries_length w es → out ≡ laid w n es → part ≡ laid w (n - at) (e ∷ [])
      → take at out ++ part ≡ laid w n (es ++ (e ∷ []))
  laid_more e t f g =
      let m = n - entries_length w es - entries_length w (e ∷ []) in
      let k : n - entries_length w (es ++ (e ∷ [])) ≡ m = omega (arith, entries_length_append w es (e ∷ [])) in
      let front = take_at (encode_all w es) (replicate (n - entries_length w es) 0) (entries_length w es) (length_encode_all w es) in
      rw (g, f, t, front, encode_all_append w es (e ∷ []), k)
      (sym (append_assoc (encode_all w es) (encode_all w (e ∷ [])) (replicate m 0)))

-- what has been read from a log into n zeros: the buffer, the log then, how many entries, and how many bytes they take up
pub record ReadSofar (x : Lent) (l : Log) (n : ℕ) (out : List ℕ) (current : Log) (count at : ℕ) : Type 0 where
  pub setup : current.setup ≡ l.setup
  pub entries : List (List ℕ)
  pub number : count ≡ length entries
  pub total : at ≡ entries_length l.setup.w entries
  pub few : count ≤ at
  pub fits : at ≤ n
  pub short : n < 2 ^ 64
  pub size : length out ≡ n
  pub leaves : out ≡ laid l.setup.w n entries
  pub onward : (es : List (List ℕ)) (whole : Bool) → ReadsOut x current (n - at) es whole → ReadsOut x l n (entries ++ es) whole

module _ {x : Lent} where
  module _ {l : Log} {n : ℕ} {out : List ℕ} {current : Log} {count at : ℕ} (s : ReadSofar x l n out current count at) where
    -- the rest of the buffer
    abbrev rest : List ℕ
    rest = mid_of at (length out - at) out

    rest_zeros : rest ≡ replicate (n - at) 0
    rest_zeros = rest_lent at out ∙ rw (s.leaves, s.total) (laid_rest l.setup.w n s.entries)

    rest_room : length rest ≡ n - at
    rest_room = ap length rest_zeros ∙ length-replicate (n - at) 0

    pub sofar_width : current.setup.w ≡ l.setup.w
    sofar_width = ap (λ (s : Setup). s.w) s.setup

    -- an entry more
    pub sofar_goes : {part' : List ℕ} {next : Log} {size : ℕ} → Width l.setup.w → NextRead x current rest part' (next_entry_read next size)
        → ReadSofar x l n (put_mid at (length out - at) out part') next (count + 1) (at + (l.setup.w + size))
    sofar_goes {part'} {next} {size} v (one_more h ok log long f) =
        let w = l.setup.w in
        let room = length rest - current.setup.w in
        let same = sofar_width in
        let e : List ℕ = entry_read x current room in
        let g = entry_given x current room ok in
        let total : at + (w + size) ≡ entries_length w (s.entries ++ (e ∷ [])) = omega (arith, s.total, long, entries_length_append w s.entries (e ∷ [])) in
        let fits : at + (w + size) ≤ n = omega (arith, s.fits, h, long, g.fits, rest_room, same) in
        let part : part' ≡ laid w (n - at) (e ∷ []) = f ∙ ap (λ k. laid k (length rest) (e ∷ [])) same ∙ ap (λ k. laid w k (e ∷ [])) rest_room in
        let leaves : put_mid at (length out - at) out part' ≡ laid w n (s.entries ++ (e ∷ [])) =
        rest_back at out part' ∙ laid_more w n s.entries e s.total s.leaves part in
        record {
          setup = ap (λ (l : Log). l.setup) log ∙ read_keeps x current room ∙ s.setup;
          entries = s.entries ++ (e ∷ []);
          number = omega (arith, s.number, length-append s.entries (e ∷ []));
          total = total;
          few = omega (arith, s.few, width_pos v);
          fits = fits;
          short = s.short;
          size = ap length leaves ∙ length_laid w n (s.entries ++ (e ∷ [])) (omega arith);
          leaves = leaves;
          onward = λ es whole r.
              let k : n - (at + (w + size)) ≡ length rest - (current.setup.w + length e) = omega (arith, long, rest_room, same) in
              let q = subst (λ m. ReadsOut x current m (e ∷ es) whole) rest_room (out_goes h ok (rw (k, log) at r)) in
              rw (append_assoc s.entries (e ∷ []) es) (s.onward (e ∷ es) whole q);
        }

  -- no entry more
  module _ {l current : Log} {begun out part' : List ℕ} {count at : ℕ} (s : ReadSofar x l (length begun) out current count at) where
    sofar_ends : {whole : Bool} → ReadsOut x current (length (rest s)) [] whole → part' ≡ rest s
        → ReadOut x l count at whole begun (put_mid at (length out - at) out part')
    sofar_ends {whole} r e =
        let r : ReadsOut x current (length begun - at) [] whole = subst (λ k. ReadsOut x current k [] whole) (rest_room s) r in
        record {
          entries = s.entries;
          reads = rw append-nil at (s.onward [] whole r);
          number = s.number;
          total = s.total;
          leaves = ap (put_mid at (length out - at) out) e ∙ put_same at (length out - at) out ∙ s.leaves;
        }

    -- for want of room, or by an answer
    pub sofar_full : NextRead x current (rest s) part' next_full → ReadOut x l count at false begun (put_mid at (length out - at) out part')
    sofar_full (no_room_left h e) = sofar_ends (out_full h) e

    pub sofar_stops : {a : ℕ} {whole : Bool} → whole ≡ eqb a FAIL → NextRead x current (rest s) part' (next_ends a)
        → ReadOut x l count at whole begun (put_mid at (length out - at) out part')
    sofar_stops t (no_more h e n q) = sofar_ends (rw (t, e) (out_ends h (λ k. n (e ∙ k)))) q
