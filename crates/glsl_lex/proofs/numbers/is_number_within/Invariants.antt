use Rattle.std.proofs.Common.{◌≡◌, drop}
use Rattle.glsl_tree.specs.Spellings.{number_from}
use Rattle.glsl_lex.proofs.numbers.is_number_within.Given as goal

-- the number so far, and the digits that are left
abbrev pub invariant-loop-digit : goal.invariant-loop-digit
invariant-loop-digit l = number_from l.base l.number (drop l.digit-index l.digits) ≡ number_from l.base 0 l.digits
