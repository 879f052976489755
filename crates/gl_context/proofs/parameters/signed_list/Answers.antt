-- Each of the four numbers has 32 bits.
use Rattle.std.proofs.Common.{◌≡◌, rules, length, pos, ap, w32, slice_index_or, SFits}
use Rattle.std.proofs.lemmas.Int.{to_z-of_z}
use Rattle.call_records.specs.declared.replies.Value.TheVariants.{List}
use Rattle.gl_context.specs.ParameterValues.{word_of}
use Rattle.gl_context.proofs.Fours.{four}
use Rattle.gl_context.proofs.parameters.signed_list.Goals as goal

pub returns : goal.returns
returns c =
    let x : SFits w32 (slice_index_or c.args.numbers 0 (pos 0)) = search rules in
    let y : SFits w32 (slice_index_or c.args.numbers 1 (pos 0)) = search rules in
    let width : SFits w32 (slice_index_or c.args.numbers 2 (pos 0)) = search rules in
    let height : SFits w32 (slice_index_or c.args.numbers 3 (pos 0)) = search rules in
    let length : length c.args.numbers ≡ 4 = search rules in
    rw (
      c.word_of.ensures,
      c.word_of-2.ensures,
      c.word_of-3.ensures,
      c.word_of-4.ensures,
      to_z-of_z w32 _ x,
      to_z-of_z w32 _ y,
      to_z-of_z w32 _ width,
      to_z-of_z w32 _ height,
    ) (ap List (four word_of (pos 0) c.args.numbers length))
