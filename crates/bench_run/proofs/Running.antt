-- A list of events that runs: the world after some of its events, and the events that are left. g is the setup, x what is lent at first,
-- `room` the length of the buffer that reads get.
use Rattle.std.proofs.Common.{◌≡◌, ℕ, ◌-◌, false, List, length, get_or, take, drop, refl, sym, ap, ◌∙◌, arith}
use Rattle.page.specs.Word.{word_at}
use Rattle.engine_state.specs.Log.{Setup}
use Rattle.engine_call.specs.Outcome.{Lent}
use Rattle.bench_flash.specs.Event.{Event}
use Rattle.bench.specs.World.{World, Step, step, before}
use Rattle.bench.specs.Book.{Book, empty_book, recorded}
use Rattle.bench.specs.Promise.{Bench, stepped_all}
use Rattle.bench_run.specs.Encoded.{event_from, event_size, holds_event, event_at, decode}
use Rattle.bench_run.specs.Run.{unstarted, listed, after}
use Rattle.bench_run.proofs.Lists.{Whole, decode_first, decode_none}

-- a list has run but for the bytes `rest`: the world there is y, and the reads' buffer
pub record Upto (g : Setup) (list : List ℕ) (x : Lent) (room : ℕ) (y : World) (out rest : List ℕ) : Type 0 where
  pub volume_same : length y.volume ≡ length x.volume
  pub page_same : length y.page ≡ length x.page
  pub hold_same : length y.hold ≡ length x.hold
  pub out_same : length out ≡ room
  pub book : Book
  pub onward : after g (listed room list) x ≡ stepped_all g (record { world = y; book = book }) (decode room 0 rest)

module _ {g : Setup} {list : List ℕ} {x : Lent} where
  -- nothing has run
  pub upto_starts : (out : List ℕ) {y : World} → y ≡ before (unstarted g) x.volume x.page x.hold → Upto g list x (length out) y out list
  upto_starts out {y} e = record {
    volume_same = ap (λ (y : World). length y.volume) e;
    page_same = ap (λ (y : World). length y.page) e;
    hold_same = ap (λ (y : World). length y.hold) e;
    out_same = refl;
    book = empty_book;
    onward = ap (λ (y : World). stepped_all g (record { world = y; book = empty_book }) (decode (length out) 0 list)) (sym e);
  }

  module _ {room : ℕ} {y : World} {out rest : List ℕ} (u : Upto g list x room y out rest) where
    -- an event more, with its own bytes beside it
    pub upto_goes : (z : Step) (e : Event) {size : ℕ} {out' rest' : List ℕ} → Whole rest size
        → e ≡ event_from (get_or rest 0 0) (get_or rest 1 0) (word_at 8 rest 2) (take (size - 14) (drop 14 rest)) (length out) → z ≡ step g y e
        → rest' ≡ drop size rest
        → length z.world.volume ≡ length y.volume → length z.world.page ≡ length y.page → length z.world.hold ≡ length y.hold
        → length out' ≡ length out → Upto g list x room z.world out' rest'
    unfolding event_size event_at
    upto_goes z e {size} c q d r v p h b =
        let here : Event = event_at room rest in
        let k : size - 14 ≡ word_at 4 rest 10 = omega (arith, c.is) in
        let own : e ≡ event_at (length out) rest =
        q ∙ ap (λ n. event_from (get_or rest 0 0) (get_or rest 1 0) (word_at 8 rest 2) (take n (drop 14 rest)) (length out)) k in
        let same : z ≡ step g y here = d ∙ ap (step g y) (own ∙ ap (λ n. event_at n rest) u.out_same) in
        let next : Book = recorded g u.book here (step g y here).told in
        record {
          volume_same = v ∙ u.volume_same;
          page_same = p ∙ u.page_same;
          hold_same = h ∙ u.hold_same;
          out_same = b ∙ u.out_same;
          book = next;
          onward = u.onward ∙ ap (stepped_all g (record { world = y; book = u.book })) (decode_first room rest c.all)
              ∙ ap (λ (d : Step). stepped_all g (record { world = d.world; book = next }) (decode room 0 (drop (event_size rest) rest))) (sym same)
              ∙ ap (λ l. stepped_all g (record { world = z.world; book = next }) (decode room 0 l)) (ap (λ n. drop n rest) (sym c.is) ∙ sym r);
        }

    -- no event more
    pub upto_ends : holds_event rest ≡ false → y ≡ (after g (listed room list) x).world
    upto_ends c = ap (λ (s : Bench). s.world) (sym (u.onward ∙ ap (stepped_all g (record { world = y; book = u.book })) (decode_none room rest c)))
