-- `bench_run::run::run` meets its contract.
use Rattle.std.proofs.Common.{◌≡◌, refl, sym, ap, ◌∙◌, subst, Bool, true, length}
use Rattle.engine_state.specs.Log.{Setup, setup_of}
use Rattle.engine_state.specs.Check.{shape_fits}
use Rattle.engine_call.specs.Outcome.{Lent, lend}
use Rattle.bench_flash.specs.Flash.{left_of}
use Rattle.bench.specs.World.{World}
use Rattle.bench.specs.Promise.{Bench}
use Rattle.bench_run.specs.Run.{listed, after, again, found_log_of, Ran, list_refused}
use Rattle.bench_run.proofs.Again.{list_runs}
use Rattle.bench_run.proofs.run.run.Goals as goal
use Rattle.bench_run.proofs.run.run.Goals.{After-shape_fits, Else-not-shape_fits, Start}

abbrev setup : Start → Setup
setup s = setup_of s.args.setup

abbrev lent : Start → Lent
lent s = lend s.args.volume.now s.args.page.now s.args.hold.now

-- the bench after the list
abbrev ended : Start → Bench
ended s = after (setup s) (listed (length s.args.out.now) s.args.list.now) (lent s)

-- whether the shape fits
abbrev start : After-shape_fits → Start
start c = (goal.at.After-shape_fits c).Start

abbrev shaped : After-shape_fits → Bool
shaped c = let x = lent (start c) in shape_fits (setup (start c)) (length x.volume) (length x.page) (length x.hold)

shaped_is : (c : After-shape_fits) → c.shape_fits.result ≡ shaped c
shaped_is c = let told = c.of.ensures in rw (sym told.0, sym told.1, sym told.2) c.shape_fits.ensures

-- it does
fits : (c : Else-not-shape_fits) → shaped (goal.at.Else-not-shape_fits c).After-shape_fits ≡ true
fits c = sym (shaped_is (goal.at.Else-not-shape_fits c).After-shape_fits) ∙ c.if-not-shape_fits.false

pub returns-then-not-shape_fits-clause-runs : goal.returns-then-not-shape_fits-clause-runs
returns-then-not-shape_fits-clause-runs c =
    list_refused (sym (shaped_is (goal.at.returns-then-not-shape_fits-clause-runs c).After-shape_fits) ∙ c.if-not-shape_fits.true) refl refl

pub returns-clause-runs : goal.returns-clause-runs
returns-clause-runs c =
    let s = start (goal.at.returns-clause-runs c).After-shape_fits in
    let kept = c.run_list-world.auto in
    let is = c.run_list-world.ensures in
    let last = c.find.new in
    let after : Lent = lend last.volume last.page c.run_list-world.new.hold in
    let Ends : World → Type 0 = λ y. Ran (again (setup s) (left_of s.args.left) s.args.append_client (record { world = y; book = (ended s).book }))
    (found_log_of c.find.result) after s.args.out.now last.out in
    let ran = subst Ends is (c.find.ensures (ended s).book s.args.out.now (sym kept.out)) in
    list_runs (lent s) (fits (goal.at.returns-clause-runs c).Else-not-shape_fits) ran (c.find.auto.volume ∙ kept.volume)
    (ap (λ (y : World). length y.page) (sym is) ∙ kept.page) (ap (λ (y : World). length y.hold) (sym is) ∙ kept.hold)
