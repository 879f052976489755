use Rattle.std.proofs.Common.{◌≡◌, ◌++◌, map, drop}
use Rattle.glsl_tree.specs.Expressions.{separated, listed}
use Rattle.glsl_tree.specs.Declarations.{one_name}
use Rattle.glsl_tree.specs.Token.{plain_tokens}
use Rattle.glsl_tree.proofs.spell_declarations.push_names.Given as goal

-- what was added, and then what is left, is all
abbrev pub invariant-loop-name : goal.invariant-loop-name
invariant-loop-name l =
    plain_tokens l.out.items ++ listed l.is_first (map one_name (drop l.name-index l.names))
    ≡ plain_tokens l.fn.out.items ++ separated (map one_name l.names)
