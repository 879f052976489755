-- No item so far differs.
use Rattle.std.proofs.Common.{◌≡◌, drop}
use Rattle.program_link.specs.Rules.{some_uniform_differs}
use Rattle.program_link.specs.Shapes.{same_by_numbers}
use Rattle.program_link.proofs.items.any_uniform_differs.Given as goal

abbrev pub invariant-loop-item : goal.invariant-loop-item
invariant-loop-item l =
    some_uniform_differs (same_by_numbers l.shapes.vertex.items l.shapes.fragment.items) l.declared l.items
    ≡ some_uniform_differs (same_by_numbers l.shapes.vertex.items l.shapes.fragment.items) l.declared (drop l.item-index l.items)
