use Rattle.std.proofs.Common.{◌≡◌, ◌++◌, map, drop}
use Rattle.glsl_tree.specs.Expressions.{separated, listed}
use Rattle.glsl_tree.specs.Declarations.{declarator_tokens}
use Rattle.glsl_tree.specs.Token.{plain_tokens}
use Rattle.glsl_tree.proofs.spell_declarations.push_declarators.Given as goal

-- what was added, and then what is left, is all
abbrev pub invariant-loop-declarator : goal.invariant-loop-declarator
invariant-loop-declarator l =
    plain_tokens l.out.items ++ listed l.is_first (map declarator_tokens (drop l.declarator-index l.declarators))
    ≡ plain_tokens l.fn.out.items ++ separated (map declarator_tokens l.declarators)
