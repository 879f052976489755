use Rattle.std.proofs.Common.{◌≡◌, drop}
use Rattle.glsl_tree.specs.Spellings.{number_from}
use Rattle.glsl_preproc.proofs.numbers.number_of.Given as goal

-- the number so far, and the digits that are left
abbrev pub invariant-loop-digit : goal.invariant-loop-digit
invariant-loop-digit l = number_from l.base l.number (drop l.digit-index l.digits) ≡ number_from l.base 0 l.digits
