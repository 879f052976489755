-- The size so far, and that of the letters to come.
use Rattle.std.proofs.Common.{◌≡◌, ◌+◌, drop}
use Rattle.gl_numbers.specs.Fields.{fields_size}
use Rattle.gl_numbers.proofs.fields.size_of.Given as goal

abbrev pub invariant-loop-letter : goal.invariant-loop-letter
invariant-loop-letter l = record {
  whole : l.size + fields_size (drop l.letter-index l.letters) ≡ fields_size l.letters;
}
