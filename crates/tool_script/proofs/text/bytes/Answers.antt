-- `tool_script::text::bytes` refuses no BYTES that `out` has room for.
use Rattle.std.proofs.Common.{◌<◌, length, slice_index, rules, arith}
use Rattle.tool_script.proofs.Digits.{two_for_each, digits_at}
use Rattle.tool_script.proofs.text.bytes.Goals as goal

pub returns-then-is_empty-clause-none : goal.returns-then-is_empty-clause-none
returns-then-is_empty-clause-none c = λ values all e. let d = two_for_each _ values (search rules) e in search (rules, d)

pub returns-then-out-size-clause-none : goal.returns-then-out-size-clause-none
returns-then-out-size-clause-none c = λ values all e. let d = two_for_each _ values (search rules) e in omega (arith, d)

pub returns-in_err-out-clause-none : goal.returns-in_err-out-clause-none
returns-in_err-out-clause-none c = rw c.from_residual.ensures (λ values all e.
    let d = two_for_each _ values (search rules) e in
    let within : c.loop-at.at < length values = omega (arith, d) in
    absurd (c.in_err-out.ensures.none (slice_index values c.loop-at.at) (all c.loop-at.at 0 within) (rw d.2 (digits_at values c.loop-at.at within))))
