-- The bytes so far.
use Rattle.std.proofs.Common.{◌≡◌, ◌++◌, ◌∷◌, length, take}
use Rattle.program_link.proofs.shapes.add_name.Given as goal

abbrev pub invariant-loop-byte : goal.invariant-loop-byte
invariant-loop-byte l = l.words.items ≡ l.fn.words.items ++ length l.name ∷ take l.byte-index l.name
