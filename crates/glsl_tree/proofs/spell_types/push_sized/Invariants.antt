use Rattle.std.proofs.Common.{◌≡◌, ◌++◌, map, drop}
use Rattle.glsl_tree.specs.Expressions.{separated, listed}
use Rattle.glsl_tree.specs.Types.{sized_tokens}
use Rattle.glsl_tree.specs.Token.{plain_tokens}
use Rattle.glsl_tree.proofs.spell_types.push_sized.Given as goal

-- what was added, and then what is left, is all
abbrev pub invariant-loop-sized : goal.invariant-loop-sized
invariant-loop-sized l =
    plain_tokens l.out.items ++ listed l.is_first (map sized_tokens (drop l.sized-index l.names))
    ≡ plain_tokens l.fn.out.items ++ separated (map sized_tokens l.names)
