-- The words of the fields so far.
use Rattle.std.proofs.Common.{◌≡◌, ◌++◌, take}
use Rattle.std.specs.List.{flat_map}
use Rattle.program_link.specs.Shapes.{field_words, name_words}
use Rattle.program_link.proofs.shapes.shape_of.Given as goal

abbrev pub invariant-loop-field : goal.invariant-loop-field
invariant-loop-field l =
    l.words.items ≡ name_words l.structure.name ++ flat_map (field_words l.numbers) (take l.field-index l.structure.fields)
