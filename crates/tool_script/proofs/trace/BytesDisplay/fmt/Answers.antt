-- `tool_script::trace::Bytes` prints the digits of one block more.
use Rattle.std.proofs.Common.{◌≡◌, ℕ, List, ◌++◌, append_assoc, sym, ap, ◌∙◌, rules}
use Rattle.std.proofs.Output.{has_written_append}
use Rattle.std.proofs.lemmas.List.Concat.{flat_map-append}
use Rattle.std.specs.List.{flat_map}
use Rattle.std.specs.Slice.Iter.{chunks_rest}
use Rattle.tool_script.specs.Words.{hex_digits}
use Rattle.tool_script.proofs.trace.BytesDisplay.fmt.Goals as goal

pub loop-bytes-preserved : goal.loop-bytes-preserved
loop-bytes-preserved g c =
    let steps = c.in-Some.ensures.steps in
    let text : c.in_ok-map_err.field-0.now ≡ flat_map hex_digits c.in-Some.bytes.now = search rules in (
      search rules,
      tt,
      steps.0 ∙ c.loop-bytes.invariant.2,
      λ plain.
          let so_far = c.loop-bytes.invariant.3 plain in (
            so_far.0 ++ c.in_ok-map_err.field-0.now,
            has_written_append _ _ _ _ _ _ so_far.1 (search rules),
            append_assoc so_far.0 _ _
                ∙ ap (λ (t : List ℕ). so_far.0 ++ t)
                (rw text (sym (flat_map-append hex_digits c.in-Some.bytes.now (chunks_rest c.next.new.self)) ∙ ap (flat_map hex_digits) (sym steps.1.0)))
                ∙ so_far.2,
          ),
    )
