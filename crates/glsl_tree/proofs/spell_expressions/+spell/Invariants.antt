use Rattle.std.proofs.Common.{◌≡◌, ◌++◌, map, drop}
use Rattle.glsl_tree.specs.Expressions.{expression_tokens, separated, listed}
use Rattle.glsl_tree.specs.Token.{plain_tokens}
use Rattle.glsl_tree.proofs.spell_expressions.+spell.Given as goal

-- what was added, and then what is left, is all
abbrev pub invariant-push_arguments-loop-argument : goal.invariant-push_arguments-loop-argument
invariant-push_arguments-loop-argument l =
    plain_tokens l.out.items ++ listed l.is_first (map expression_tokens (drop l.argument-index l.arguments))
    ≡ plain_tokens l.fn.out.items ++ separated (map expression_tokens l.arguments)
