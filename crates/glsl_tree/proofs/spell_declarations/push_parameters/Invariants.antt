use Rattle.std.proofs.Common.{◌≡◌, ◌++◌, map, drop}
use Rattle.glsl_tree.specs.Expressions.{separated, listed}
use Rattle.glsl_tree.specs.Declarations.{parameter_tokens}
use Rattle.glsl_tree.specs.Token.{plain_tokens}
use Rattle.glsl_tree.proofs.spell_declarations.push_parameters.Given as goal

-- what was added, and then what is left, is all
abbrev pub invariant-loop-parameter : goal.invariant-loop-parameter
invariant-loop-parameter l =
    plain_tokens l.out.items ++ listed l.is_first (map parameter_tokens (drop l.parameter-index l.parameters))
    ≡ plain_tokens l.fn.out.items ++ separated (map parameter_tokens l.parameters)
