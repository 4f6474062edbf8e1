-- A further restart after a list, and what is read then. g is the setup.
use Rattle.std.proofs.Common.{ℕ, ◌≡◌, refl, sym, ap, ◌∙◌, subst, Bool, true, List, length}
use Rattle.std.proofs.Math.Option.{Option, none, some}
use Rattle.page.specs.Header.{Extent}
use Rattle.page.specs.Layout.{entries_length}
use Rattle.engine_state.specs.Answer.{OK}
use Rattle.engine_state.specs.Log.{Setup, Log}
use Rattle.engine_state.specs.Check.{shape_fits}
use Rattle.engine_call.specs.Outcome.{Lent, lend}
use Rattle.engine_restart.specs.Restart as log
use Rattle.engine_restart.specs.Restart.{Restarted, started, refused, RestartDone, headers}
use Rattle.engine_restart.proofs.Restarts.{log_from, started_log}
use Rattle.bench_flash.specs.Flash.{Left}
use Rattle.bench_flash.specs.Event.{Restart, Event, cut, restart}
use Rattle.bench.specs.World.{World, lent_by, Step, restarted_world, step}
use Rattle.bench.specs.Promise.{Bench, Finds}
use Rattle.bench.proofs.Theorem.{further}
use Rattle.bench_step.specs.Step.{in_place, restarts_after}
use Rattle.bench_step.proofs.Steps.{cut_first}
use Rattle.bench_run.specs.Entries.{ReadsOut, ReadOut, laid}
use Rattle.bench_run.specs.Run.{unstarted, after, again, FoundLog, MatchesBook, Ran, Runs, list_ran}
use Rattle.bench_run.proofs.ReadLink.{read_fitting}

-- a restart that is answered OK, with its read client set
pub record Answered (g : Setup) (s : Step) : Type 0 where
  pub ok : s.told.answer ≡ some OK
  pub client : s.world.log.read_client ≡ true
  pub setup : s.world.log.setup ≡ g

module _ (g : Setup) (append_client : Bool) where
  -- the log that a restart makes
  made : (volume : List ℕ) (e : Option Extent) → let l : Log = log_from g true append_client volume e in (l.read_client ≡ true) × (l.setup ≡ g)
  made volume none = (refl, refl)
  made volume (some e) = (refl, refl)

  -- whatever its answer, the volume is the one that it got
  volume_stays : (x : World) (page hold : List ℕ) (a : Restarted) → (restarted_world x page hold a).volume ≡ x.volume
  volume_stays x page hold (started l) = refl
  volume_stays x page hold (refused a) = refl

  -- a restart on a volume and buffers that fit, which are told by the volume after it
  pub again_answers : (left : Left) (x : World) → let s : Step = step g x (restart (in_place left true append_client x)) in
      shape_fits g (length s.world.volume) (length x.page) (length x.hold) ≡ true → Answered g s
  unfolding log.restart
  again_answers left x fit =
      let r : Restart = in_place left true append_client x in
      let over : Step = step g x (cut left) in
      let volume : List ℕ = over.world.volume in
      let same : restarts_after g over r ≡ step g x (restart r) = cut_first g x r over refl refl in
      let d : RestartDone = log.restart g true append_client (lend volume x.page x.hold) in
      let stays = ap (λ (s : Step). s.world.volume) (sym same) ∙ volume_stays over.world d.page x.hold d.answer in
      let yes : shape_fits g (length volume) (length x.page) (length x.hold) ≡ true = rw stays at fit in
      let is = made volume (headers g volume) in
      subst (Answered g) same
      (rw (yes, started_log g true append_client (lend volume x.page x.hold) (headers g volume)) (record { ok = refl; client = is.0; setup = is.1 }))

-- what was read into zeros of a buffer's length, from the log of a world
pub ran_again : {s : Bench} (y : World) {count used : ℕ} {whole : Bool} {zeros out out' : List ℕ} → y ≡ s.world → length zeros ≡ length out
    → ReadOut (lent_by y) y.log count used whole zeros out'
    → Ran s (record { oldest = y.log.oldest; append = y.log.append; count = count; used = used; whole = whole }) (lent_by y) out out'
ran_again {s} y {count} {used} {whole} {out = out} {out' = out'} e n r =
    let over : ReadOut (lent_by y) y.log count used whole out out' = record {
      entries = r.entries;
      reads = subst (λ k. ReadsOut (lent_by y) y.log k r.entries whole) n r.reads;
      number = r.number;
      total = r.total;
      leaves = r.leaves ∙ ap (λ k. laid y.log.setup.w k r.entries) n;
    } in
    record {
      lent = ap lent_by e;
      oldest = ap (λ (y : World). y.log.oldest) e;
      append = ap (λ (y : World). y.log.append) e;
      read = subst (λ (k : World). ReadOut (lent_by y) k.log count used whole out out') e over;
    }

-- what a restart finds is what is read after it
matches : (s : Bench) {f : FoundLog} {x : Lent} {out out' : List ℕ} → Finds s.world.log.setup s → s.world.log.read_client ≡ true → Ran s f x out out'
    → MatchesBook s.world.log.setup s f (length out) out'
matches s {f} {x} {out} {out'} q client r =
    let g = s.world.log.setup in
    let read : ReadOut (lent_by s.world) s.world.log f.count f.used f.whole out out' =
    subst (λ (k : Lent). ReadOut k s.world.log f.count f.used f.whole out out') r.lent r.read in
    let fits = read_fitting (q.entries client) read.reads in
    record {
      oldest = r.oldest ∙ q.oldest;
      append = r.append ∙ q.append;
      count = read.number ∙ ap length fits.same;
      used = read.total ∙ ap (entries_length g.w) fits.same;
      entries = read.leaves ∙ ap (laid g.w (length out)) fits.same;
      all = λ t. sym fits.same ∙ fits.all t;
      front = λ t. rw read.total (fits.front t);
    }

-- a list that ran, a further restart, and what was read then
pub list_runs : {g : Setup} {es : List Event} {left : Left} {append_client : Bool} (x : Lent) {f : FoundLog} {x' : Lent} {out out' : List ℕ}
    → let s : Bench = after g es x in
    shape_fits g (length x.volume) (length x.page) (length x.hold) ≡ true → Ran (again g left append_client s) f x' out out'
    → length x'.volume ≡ length x.volume → length s.world.page ≡ length x.page → length s.world.hold ≡ length x.hold
    → Runs g es left append_client x x' out out' (some f)
list_runs {g} {es} {left} {append_client} x {f} {x'} {out} {out'} fit r v p h =
    let s : Bench = after g es x in
    let end : Bench = again g left append_client s in
    let whole : length end.world.volume ≡ length x.volume = ap (λ (k : Lent). length k.volume) (sym r.lent) ∙ v in
    let a = again_answers g append_client left s.world (rw (whole, p, h) fit) in
    list_ran fit r
    (λ no_header clear.
    subst (λ (k : Setup). Finds k end → MatchesBook k end f (length out) out') a.setup (λ q. matches end q a.client r)
    (further g (unstarted g) x.volume x.page x.hold no_header es clear (in_place left true append_client s.world) a.ok))
