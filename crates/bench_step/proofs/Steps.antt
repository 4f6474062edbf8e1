-- Laws of a step. g is the setup, x the world.
use Rattle.std.proofs.Common.{ℕ, ◌+◌, ◌≡◌, refl, sym, ap, ◌∙◌, Bool, true, false, List, arith, length, take, drop, length-take, length-drop}
use Rattle.page.specs.Pick.{pick}
use Rattle.page.proofs.Kit.{facts}
use Rattle.engine_state.specs.Answer.{SHAPE}
use Rattle.engine_state.specs.Log.{Setup}
use Rattle.engine_state.specs.Check.{shape_fits}
use Rattle.engine_state.proofs.Checks.{shape_fits_lem}
use Rattle.engine_call.specs.Outcome.{Lent, lend}
use Rattle.engine_call.specs.Call.{Completion, ends_well}
use Rattle.engine_restart.specs.Restart as log
use Rattle.engine_restart.specs.Restart.{RestartDone, refused, started_from, headers}
use Rattle.engine_restart.proofs.Restarts.{started_log}
use Rattle.bench_flash.specs.Flash.{Left, left_after}
use Rattle.bench_flash.specs.Event.{Event, Restart, cut, restart}
use Rattle.bench.specs.World.{World, Told, Step, ends, completion_step, undelivered, step_on, step_off, step, cut_step}
use Rattle.bench_step.specs.Step.{end_step, comes, restarts_after}

-- an event by the power
pub on : (g : Setup) (x : World) (e : Event) → x.power ≡ true → step g x e ≡ step_on g x e
unfolding step
on g x e p = ap (λ (t : Bool). pick t (step_on g x e) (step_off g x e)) p

pub off : (g : Setup) (x : World) (e : Event) → x.power ≡ false → step g x e ≡ step_off g x e
unfolding step
off g x e p = ap (λ (t : Bool). pick t (step_on g x e) (step_off g x e)) p

-- a completion of the operation under way, which has ended
pub comes_due : (g : Setup) (x : World) (k : Completion) (left l : Left) (over : Step) {s : Step}
    → x.power ≡ true → ends k x.operation ≡ true → l ≡ left_after (ends_well k) left → over ≡ end_step g x l → s ≡ comes g over k
    → s ≡ completion_step g x k left
comes_due g x k left l over power due well ended e = e ∙ ap (λ (o : Step). comes g o k) ended ∙ rw (power, due, well)

-- a restart is a cut first
pub cut_first : (g : Setup) (x : World) (r : Restart) (over : Step) {s : Step}
    → over ≡ step g x (cut r.left) → s ≡ restarts_after g over r → s ≡ step g x (restart r)
unfolding step
cut_first g x r over ended e = e ∙ ap (λ (o : Step). restarts_after g o r) ended ∙ go x.power
  where
    go : (t : Bool) → restarts_after g (pick t (cut_step g.p x r.left) (undelivered x)) r ≡ pick t (step_on g x (restart r)) (step_off g x (restart r))
    go true = refl
    go false = refl

-- a restart that is refused leaves the page buffer
pub refused_keeps : (g : Setup) (read_client append_client : Bool) (x : Lent) {a : ℕ} {page : List ℕ}
    → log.restart g read_client append_client x ≡ record { answer = refused a; page = page } → page ≡ x.page
unfolding log.restart
refused_keeps g read_client append_client x {a} {page} = go (shape_fits g (length x.volume) (length x.page) (length x.hold))
  where
    given : RestartDone
    given = started_from g read_client append_client x (headers g x.volume)

    go : (t : Bool) → pick t given (record { answer = refused SHAPE; page = x.page }) ≡ record { answer = refused a; page = page } → page ≡ x.page
    go false e = sym (ap (λ (d : RestartDone). d.page) e)
    go true e =
        let starts = sym (started_log g read_client append_client x (headers g x.volume)) ∙ ap (λ (d : RestartDone). d.answer) e in
        let z : ◌≡◌ {A = ℕ} 0 1 = cc in
        absurd (omega arith)

-- a restart that SHAPE lets through is the same with its buffers copied before
pub starts_anew : (g : Setup) (x : World) (told : Told) (r : Restart) {page hold : List ℕ} {s : Step}
    → shape_fits g (length x.volume) (length r.page) (length r.hold) ≡ true → page ≡ r.page → hold ≡ r.hold
    → s ≡ restarts_after g
    (record { world = record { power = x.power; log = x.log; page = page; hold = hold; volume = x.volume; operation = x.operation }; told = told })
    (record { left = r.left; read_client = r.read_client; append_client = r.append_client; page = page; hold = hold })
    → s ≡ restarts_after g (record { world = x; told = told }) r
unfolding log.restart
starts_anew g x told r fit p h e =
    e ∙ rw (p, h, fit, started_log g r.read_client r.append_client (lend x.volume r.page r.hold) (headers g x.volume))

-- bytes that come apart into buffers of other lengths than those that SHAPE let through
pub unlike : (g : Setup) (volume page hold size : ℕ) (bytes : List ℕ) → shape_fits g volume page hold ≡ true
    → (size ≡ page → length bytes ≡ page + hold → ⊥) → shape_fits g volume (length (take size bytes)) (length (drop size bytes)) ≡ false
unlike g volume page hold size bytes fit other = go (shape_fits g volume (length (take size bytes)) (length (drop size bytes))) refl
  where
    go : (t : Bool) → shape_fits g volume (length (take size bytes)) (length (drop size bytes)) ≡ t → t ≡ false
    go false e = refl
    go true e =
        let old = shape_fits_lem g volume page hold fit in
        let new = shape_fits_lem g volume _ _ e in
        let f = facts old.sizes in
        let front = length-take size bytes in
        let rest = length-drop size bytes in
        absurd (other (omega arith) (omega arith))

-- and of the same lengths
pub alike : (g : Setup) (volume page hold size : ℕ) (bytes : List ℕ) → shape_fits g volume page hold ≡ true → size ≡ page → length bytes ≡ page + hold
    → shape_fits g volume (length (take size bytes)) (length (drop size bytes)) ≡ true
alike g volume page hold size bytes fit same long =
    let front : length (take size bytes) ≡ page = omega (arith, same, long, length-take size bytes) in
    let rest : length (drop size bytes) ≡ hold = omega (arith, same, long, length-drop size bytes) in
    rw (front, rest) fit
