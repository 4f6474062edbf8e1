-- `bench_run::entries::read_next` meets its contract.
use Rattle.std.proofs.Common.{length, refl, sym, ap, ◌∙◌, arith}
use Rattle.engine_state.specs.Log.{log_of}
use Rattle.engine_call.specs.Outcome.{Lent, Done, lend}
use Rattle.bench_run.specs.Entries.{Roomy, no_room_left}
use Rattle.bench_run.proofs.Compared.{is_ok, is_not_ok}
use Rattle.bench_run.proofs.NextLaw.{next_stops, next_reads}
use Rattle.bench_run.proofs.entries.read_next.Goals as goal
use Rattle.bench_run.proofs.entries.read_next.Goals.{Else-out-width-2}
use Rattle.bench_run.proofs.entries.read_next.Goals.{then-out-width-via-then-out-width, then-out-width-via-else-out-width+then-out-width-2}

pub returns-then-out-width : goal.returns-then-out-width
returns-then-out-width c =
    elim c.then-out-width.branch [
      | then-out-width-via-then-out-width w ↦ no_room_left (omega (arith, w.if-out-width.true)) refl
      | then-out-width-via-else-out-width+then-out-width-2 w ↦ no_room_left (omega (arith, w.if-out-width-2.true)) refl
    ]

-- there is room for a word and a page
room : (c : Else-out-width-2) → Roomy (log_of c.args.log).setup (length c.args.out.now)
room c = omega (arith, c.if-out-width-2.false, c.if-out-width.false)

abbrev lent : Else-out-width-2 → Lent
lent c = let a = c.args in lend a.volume.now a.page.now a.hold.now

pub returns-then-ne : goal.returns-then-ne
returns-then-ne c =
    let h = (goal.at.returns-then-ne c).Else-out-width-2 in
    next_stops (lent h) (log_of c.args.log) c.args.out.now (room h) c.read-given.ensures (is_not_ok _ (sym c.ne.ensures ∙ c.if-ne.true))

pub returns : goal.returns
returns c =
    let h = (goal.at.returns c).Else-out-width-2 in
    let ok = is_ok _ (sym c.ne.ensures ∙ c.if-ne.false) in
    let told = c.of.ensures in
    let next = ap (λ (d : Done). d.outcome.log) (c.handle_deferred_call-after.ensures (lent h) (sym told.0, sym told.1, sym told.2)) in
    next_reads (lent h) (log_of c.args.log) c.args.out.now (room h) c.read-given.ensures ok c.requires.1 next c.write_word.ensures
