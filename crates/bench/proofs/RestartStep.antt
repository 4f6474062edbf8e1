-- A restart, in the middle of an operation or not: it keeps the invariant, and it finds what the book says where it isn't refused.
use Prim.Native.Nat.{ℕ}
use mathlib.Core.Path.{◌≡◌, refl, ap, subst}
use mathlib.Core.Bool.{Bool, true, false}
use mathlib.Core.Option.{Option, some, some-injective}
use native.Mathlib.Omega.{arith}
use lib.ListN.{length}
use Rattle.page.specs.Pick.{pick}
use Rattle.engine_state.specs.Answer.{OK, SHAPE}
use Rattle.engine_state.specs.Log.{Setup}
use Rattle.engine_state.specs.Check.{shape_fits}
use Rattle.engine_call.specs.Outcome.{Lent, lend}
use Rattle.engine_restart.specs.Restart.{Restarted, refused, RestartDone, started_from, headers, restart}
use Rattle.engine_restart.proofs.Restarts.{started_log}
use Rattle.engine_marks.specs.Entries.{log_entries}
use Rattle.bench_flash.specs.Event.{Restart}
use Rattle.bench.specs.World.{World, lent_by, restarted_world, restart_number}
use Rattle.bench.specs.Book.{Book, restarted}
use Rattle.bench.specs.Promise.{book_placed, book_entries, ReadsOn, Bench, Finds}
use Rattle.bench.proofs.Invariant.{Books, Inv}
use Rattle.bench.proofs.RestartKeeps.{Recovers, restored}
use Rattle.bench.proofs.Reading.{entries_found, reads_on}

-- what it has found is what is promised
promised : {g : Setup} {x : World} {b : Book} → Recovers g x b → Finds g (record { world = x; book = b })
promised {g} {x} {b} q = record {
  oldest = q.oldest;
  read = q.read;
  append = q.running.buffer.appends;
  placed_entries = subst (λ (h : Setup). Recovers h x b → log_entries x.log x.volume x.page ≡ book_placed h b) q.running.setup (λ q'. entries_found q') q;
  entries =
      subst (λ (h : Setup). Recovers h x b → x.log.read_client ≡ true → ReadsOn (lent_by x) x.log (book_entries h b)) q.running.setup (λ q'. reads_on q') q;
}

-- what a restart with an answer gives: the invariant, and what it finds
pub record Restarts (g : Setup) (s : Bench) (answer : Option ℕ) : Type 0 where
  pub keeps : Inv g s.world s.book
  pub finds : answer ≡ some OK → Finds g s

-- a restart on a volume and a book that agree
module _ {g : Setup} (x : World) (b : Book) (bk : Books g x.volume b) (r : Restart) where
  abbrev lent : Lent
  lent = lend x.volume r.page r.hold

  -- the world and the book after it, by what it answers and leaves
  abbrev world : RestartDone → World
  world d = restarted_world x d.page r.hold d.answer

  abbrev After : RestartDone → Option ℕ → Type 0
  After d a = Restarts g (record { world = world d; book = restarted g b a }) a

  pub restart_keeps : After (restart g r.read_client r.append_client lent)
      (some (restart_number (restart g r.read_client r.append_client lent).answer))
  unfolding restart
  restart_keeps = go (shape_fits g (length x.volume) (length r.page) (length r.hold)) refl
    where
      done : RestartDone
      done = started_from g r.read_client r.append_client lent (headers g x.volume)

      by : Bool → RestartDone
      by t = pick t done (record { answer = refused SHAPE; page = r.page })

      go : (t : Bool) → shape_fits g (length x.volume) (length r.page) (length r.hold) ≡ t
          → After (by t) (some (restart_number (by t).answer))
      go true shape =
          let s = started_log g r.read_client r.append_client lent (headers g x.volume) in
          let q = restored x bk r shape in
          rw (ap restart_number s)
          (record {
            keeps = record { books = q.books; powered = rw (ap (λ (a : Restarted). (restarted_world x done.page r.hold a).power) s) q.running };
            finds = λ e. promised q;
          })
      go false shape = record {
        keeps = record { books = bk; powered = refl };
        finds = λ e. let z = some-injective SHAPE OK e in absurd (omega arith);
      }
