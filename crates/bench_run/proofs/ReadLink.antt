-- Reading on by the bench's promise and reading into a buffer give the same entries, as far as the buffer goes. x is what is lent.
use Rattle.std.proofs.Common.{ℕ, ◌+◌, ◌-◌, ◌≤◌, ◌<◌, ◌≡◌, refl, sym, ap, ◌∙◌, subst, Bool, true, false, true≢false, List, [], ◌∷◌, arith, length, take}
use Rattle.std.proofs.Common.{replicate, eqb, lt-ltb, le-ltb}
use Rattle.std.proofs.lemmas.List.{length-replicate}
use Rattle.page.specs.Layout.{entries_length}
use Rattle.page.specs.Answered.{FAIL}
use Rattle.engine_state.specs.Answer.{OK, Report, no_report, read_done, seek_done}
use Rattle.engine_state.specs.Log.{Setup, Read, Seek, Log, is}
use Rattle.engine_call.specs.Outcome.{Lent, Done}
use Rattle.engine_call.specs.Call as calls
use Rattle.engine_read.specs.Read.{read, read_buffer}
use Rattle.engine_read.specs.Deferred.{deferred}
use Rattle.engine_laws.proofs.Calls.{by_pick, by_call}
use Rattle.bench.specs.Promise.{ReadsOn, on_ends, on_goes}
use Rattle.bench_run.specs.Entries.{reading, entry_read, afterwards, Roomy, ReadsOut, out_full, out_ends, out_goes, fitting}
use Rattle.bench_run.proofs.NextLaw.{read_keeps}

-- what is read into `room` bytes is what fits of the entries that are promised: all of them, where it goes to FAIL, and else as many as there is room for
pub record ReadFits (s : Setup) (room : ℕ) (es fs : List (List ℕ)) (whole : Bool) : Type 0 where
  pub same : fs ≡ fitting s room es
  pub all : whole ≡ true → fs ≡ es
  pub front : whole ≡ false → room < entries_length s.w fs + (s.w + s.p)

-- nothing more is read
fits_full : (s : Setup) (room : ℕ) (es : List (List ℕ)) → room < s.w + s.p → ReadFits s room es [] false
fits_full s room es h = record { same = nothing es; all = λ e. absurd (true≢false (sym e)); front = λ e. omega arith }
  where
    nothing : (es : List (List ℕ)) → [] ≡ fitting s room es
    nothing [] = refl
    nothing (e ∷ es) = rw (lt-ltb room (s.w + s.p) h)

fits_ends : (s : Setup) (room : ℕ) {whole : Bool} → whole ≡ true → ReadFits s room [] [] whole
fits_ends s room t = record { same = refl; all = λ e. refl; front = λ e. absurd (true≢false (sym t ∙ e)) }

-- an entry more is read
fits_more : (s : Setup) (room : ℕ) {e d : List ℕ} {es fs : List (List ℕ)} {whole : Bool} → Roomy s room → d ≡ e
    → ReadFits s (room - (s.w + length d)) es fs whole → ReadFits s room (e ∷ es) (d ∷ fs) whole
fits_more s room {e} {d} {es} {fs} h q r = record {
  same = rw (le-ltb room (s.w + s.p) h, r.same, q);
  all = λ t. rw (r.all t, q);
  front = λ t. omega (arith, r.front t);
}

-- zeros with room for a page
module _ (x : Lent) (l : Log) (room : ℕ) (h : Roomy l.setup room) where
  abbrev zeros : List ℕ
  zeros = replicate (room - l.setup.w) 0

  count : length zeros ≡ room - l.setup.w
  count = length-replicate {A = ℕ} (room - l.setup.w) 0

  long : l.setup.p ≤ length zeros
  long = omega (arith, count)

  -- a read into them
  reading_is : read l x (length zeros) l.setup.p ≡ reading x l (room - l.setup.w)
  reading_is = ap (λ k. read l x k l.setup.p) count

-- a deferred call reports the kept length
reported : (l : Log) (x : Lent) {n : ℕ} → (deferred l x).outcome.report ≡ read_done n OK → l.kept ≡ n
reported l x {n} =
    by_call (λ (d : Done). Says d.outcome.report) l x (λ a. silent) calls.deferred
    (λ g p. by_pick Says (is l.state Read) (λ t e. cc) (λ t. by_pick Says (is l.state Seek) (λ t. other) (λ t. silent)))
  where
    Says : Report → Type 0
    Says r = r ≡ read_done n OK → l.kept ≡ n

    silent : Says no_report
    silent e = cc

    other : Says (seek_done OK)
    other e = cc

pub read_fitting : {x : Lent} {l : Log} {es fs : List (List ℕ)} {room : ℕ} {whole : Bool} → ReadsOn x l es → ReadsOut x l room fs whole
    → ReadFits l.setup room es fs whole
read_fitting {x} {l} {es} (on_ends f) (out_full {room = room} h) = fits_full l.setup room [] h
read_fitting {x} {l} (on_ends f) (out_ends {room = room} h n) =
    fits_ends l.setup room (ap (λ a. eqb a FAIL) (ap (λ d. d.outcome.answer) (sym (reading_is x l room h)) ∙ f (zeros x l room h) (long x l room h)))
read_fitting {x} {l} (on_ends f) (out_goes {room = room} h ok r) =
    absurd (omega (arith, ok, ap (λ d. d.outcome.answer) (reading_is x l room h), f (zeros x l room h) (long x l room h)))
read_fitting {x} {l} (on_goes {e = e} {es = es} f d r) (out_full {room = room} h) = fits_full l.setup room (e ∷ es) h
read_fitting {x} {l} (on_goes f d r) (out_ends {room = room} h n) =
    absurd (n (ap (λ d. d.outcome.answer) (sym (reading_is x l room h)) ∙ (f (zeros x l room h) (long x l room h)).answer))
read_fitting {x} {l} (on_goes {next = next} {e = e} {es = es} f d r) (out_goes {room = room} {es = fs} {whole = whole} h ok q) =
    let t = f (zeros x l room h) (long x l room h) in
    let log : (reading x l (room - l.setup.w)).outcome.log ≡ next = ap (λ d. d.outcome.log) (sym (reading_is x l room h)) ∙ t.log in
    let kept : (reading x l (room - l.setup.w)).outcome.log.kept ≡ length e = ap (λ (k : Log). k.kept) log ∙ reported next x d in
    let same : entry_read x l (room - l.setup.w) ≡ e = ap (λ n. take n (read_buffer l x (zeros x l room h) l.setup.p)) kept ∙ t.entry in
    let on : ReadsOn x (afterwards x (reading x l (room - l.setup.w)).outcome.log) es = subst (λ k. ReadsOn x (afterwards x k) es) (sym log) r in
    fits_more l.setup room h same (rw (read_keeps x l (room - l.setup.w)) at (read_fitting on q))
