-- One read into the rest of a buffer of zeros, past a word. x is what is lent, l the log.
use Rattle.std.proofs.Common.{ℕ, ◌+◌, ◌*◌, ◌-◌, ◌≤◌, ◌≡◌, refl, sym, ap, ◌∙◌, List, [], ◌∷◌, ◌++◌, append_assoc, append-nil, arith, zero-add, length, take}
use Rattle.std.proofs.Common.{drop, replicate, length-drop, drop_of_length-le, take_all, take_at, drop_at, length-take-le, ltb-false}
use Rattle.std.proofs.lemmas.Bool.{not-false}
use Rattle.std.proofs.lemmas.List.{length-replicate}
use Rattle.std.proofs.lemmas.List.{drop-replicate}
use borrow.Rule.Slice.PartMut.{mid_of, put_mid, put_same}
use Rattle.page.specs.Word.{word_bytes}
use Rattle.page.specs.Bytes.{overwrite}
use Rattle.page.proofs.Kit.{facts}
use Rattle.page.proofs.Words.{length_word_bytes}
use Rattle.engine_state.specs.Answer.{OK}
use Rattle.engine_state.specs.Log.{Log}
use Rattle.engine_state.proofs.Checks.{shape_fits_lem}
use Rattle.page_lookup.specs.Held.{bytes_at}
use Rattle.page_lookup.proofs.Helds.{lent}
use Rattle.page_lookup.proofs.Lengths.{lengthy, length_data}
use Rattle.engine_call.specs.Outcome.{Lent, Done}
use Rattle.engine_call.specs.Call as calls
use Rattle.engine_call.proofs.Checks.{through}
use Rattle.engine_read.specs.Read.{read, read_buffer}
use Rattle.engine_laws.proofs.Leaves.{call_leaves}
use Rattle.engine_laws.proofs.ReadRows.{read_gives, unread}
use Rattle.bench_run.specs.Entries.{reading, entry_read, afterwards, Roomy, laid, next_entry_read, next_ends, NextRead, no_more, one_more}

-- bytes written to the front of zeros
overwrite_zeros : (n : ℕ) (b : List ℕ) → length b ≤ n → overwrite (replicate n 0) 0 b ≡ b ++ replicate (n - length b) 0
unfolding overwrite
overwrite_zeros n b h = rw (zero-add (length b), drop-replicate {X = ℕ} (length b) n 0)

-- the rest of a slice that is lent, and the slice with it back
pub rest_lent : (a : ℕ) (out : List ℕ) → mid_of a (length out - a) out ≡ drop a out
rest_lent a out = take_all (length out - a) (drop a out) (omega (arith, length-drop a out))

pub rest_back : (a : ℕ) (out b : List ℕ) → put_mid a (length out - a) out b ≡ take a out ++ b
rest_back a out b =
    let l : length (drop a out) ≤ length out - a = omega (arith, length-drop a out) in
    rw (drop_of_length-le (drop a out) l, append-nil b)

-- a word before an entry
word_before : (w : ℕ) (out b e : List ℕ) (k : ℕ) → w ≤ length out → b ≡ take w out ++ (e ++ replicate (length out - w - length e) 0) → k ≡ length e
    → overwrite b 0 (word_bytes w k) ≡ laid w (length out) (e ∷ [])
unfolding overwrite
word_before w out b e k h f g =
    let zeros : List ℕ = replicate (length out - w - length e) 0 in
    let m : length out - (w + length e + 0) ≡ length out - w - length e = omega arith in
    rw (f, g, zero-add, length_word_bytes w (length e), drop_at (take w out) (e ++ zeros) w (length-take-le w out h), m, append-nil)
    (sym (append_assoc (word_bytes w (length e)) e zeros))

-- the log after a read and its deferred call has the same setup
pub read_keeps : (x : Lent) (l : Log) (room : ℕ) → (afterwards x (reading x l room).outcome.log).setup ≡ l.setup
read_keeps x l room = (call_leaves _ x calls.deferred).setup ∙ (call_leaves l x (calls.read room l.setup.p)).setup

-- an entry that is read into `room` zeros: its length, and the buffer
pub record Given (x : Lent) (l : Log) (room : ℕ) : Type 0 where
  pub size : length (entry_read x l room) ≡ (reading x l room).outcome.log.kept
  pub fits : length (entry_read x l room) + 2 * l.setup.w ≤ l.setup.p
  pub rest : read_buffer l x (replicate room 0) l.setup.p ≡ entry_read x l room ++ replicate (room - length (entry_read x l room)) 0

pub entry_given : (x : Lent) (l : Log) (room : ℕ) → (reading x l room).outcome.answer ≡ OK → Given x l room
entry_given x l room ok =
    let p = l.setup.p in
    let zeros : List ℕ = replicate room 0 in
    let n : length zeros ≡ room = length-replicate room 0 in
    let y = read_gives l x zeros p (ap (λ k. (read l x k p).outcome.answer) n ∙ ok) in
    let t = through _ y.passes in
    let s = shape_fits_lem l.setup _ _ _ (not-false _ t.0) in
    let f = facts s.sizes in
    let long = lengthy _ p _ _ _ _ y.header in
    let bytes : List ℕ = bytes_at p l.append x.volume x.page (y.id + l.setup.w) y.size in
    let size : length bytes ≡ y.size = length_data (lent s.sizes x.volume x.page s.whole s.buffer (omega arith)) l.append y.id long in
    let fits : length bytes ≤ room = omega (arith, n, y.fits, size, ltb-false (length zeros) p t.1.1.1.0) in
    let kept : (reading x l room).outcome.log.kept ≡ length bytes =
    ap (λ k. (read l x k p).outcome.log.kept) (sym n) ∙ ap (λ (d : Done). d.outcome.log.kept) y.done ∙ sym size in
    let after : read_buffer l x zeros p ≡ bytes ++ replicate (room - length bytes) 0 = y.buffer ∙ overwrite_zeros room bytes fits in
    let same : entry_read x l room ≡ bytes =
    ap (λ k. take k (read_buffer l x zeros p)) kept ∙ ap (take (length bytes)) after ∙ take_at bytes (replicate (room - length bytes) 0) (length bytes) refl in
    record { size = ap length same ∙ sym kept; fits = omega (arith, ap length same, size, long.most); rest = rw same after }

module _ (x : Lent) (l : Log) (out : List ℕ) where
  abbrev w : ℕ
  w = l.setup.w

  abbrev rest : List ℕ
  rest = mid_of w (length out - w) out

  module _ {bytes' : List ℕ} {d : Done} (h : Roomy l.setup (length out))
      (c : (d ≡ read l x (length rest) l.setup.p) × (bytes' ≡ read_buffer l x rest l.setup.p)) where
    -- a read that isn't answered OK
    pub next_stops : (d.outcome.answer ≡ OK → ⊥) → NextRead x l out (put_mid w (length out - w) out bytes') (next_ends d.outcome.answer)
    next_stops bad =
        let answer = ap (λ (d : Done). d.outcome.answer) c.0 in
        let room : length rest ≡ length out - w = ap length (rest_lent w out) ∙ length-drop w out in
        no_more h (answer ∙ ap (λ k. (read l x k l.setup.p).outcome.answer) room) bad
        (ap (put_mid w (length out - w) out) (c.1 ∙ unread l x rest l.setup.p (λ q. bad (answer ∙ q))) ∙ put_same w (length out - w) out)

    -- a read that is answered OK, with the entry's length before it
    pub next_reads : d.outcome.answer ≡ OK → out ≡ replicate (length out) 0 → {next : Log} {out' : List ℕ} → next ≡ afterwards x d.outcome.log
        → out' ≡ overwrite (put_mid w (length out - w) out bytes') 0 (word_bytes w d.outcome.log.kept)
        → NextRead x l out out' (next_entry_read next d.outcome.log.kept)
    next_reads q z a f =
        let room = length out - w in
        let zeros : rest ≡ replicate room 0 = rest_lent w out ∙ ap (drop w) z ∙ drop-replicate {X = ℕ} w (length out) 0 in
        let said : d ≡ reading x l room = c.0 ∙ ap (λ k. read l x k l.setup.p) (ap length zeros ∙ length-replicate room 0) in
        let ok : (reading x l room).outcome.answer ≡ OK = ap (λ (d : Done). d.outcome.answer) (sym said) ∙ q in
        let g = entry_given x l room ok in
        let size : d.outcome.log.kept ≡ length (entry_read x l room) = ap (λ (d : Done). d.outcome.log.kept) said ∙ sym g.size in
        let back = rest_back w out bytes' ∙ ap (λ b. take w out ++ b) (c.1 ∙ ap (λ b. read_buffer l x b l.setup.p) zeros ∙ g.rest) in
        one_more h ok (a ∙ ap (λ (d : Done). afterwards x d.outcome.log) said) size
        (f ∙ word_before w out _ (entry_read x l room) _ (omega arith) back size)
