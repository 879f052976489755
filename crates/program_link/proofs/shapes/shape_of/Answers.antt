-- All fields are there.
use Rattle.std.proofs.Common.{◌≤◌, length, subst}
use Rattle.program_link.proofs.Words.{shape-end}
use Rattle.program_link.proofs.shapes.shape_of.Goals as goal

pub returns : goal.returns
returns c =
    shape-end c.args.numbers.now c.args.structure.now c.loop-field.field-index c.loop-field.words.items
    (subst (λ l. length l ≤ c.loop-field.field-index) c.as_slice-field-items.ensures c.loop-field-test.false)
    c.loop-field.invariant
