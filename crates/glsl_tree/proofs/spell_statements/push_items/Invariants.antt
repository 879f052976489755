use Rattle.std.proofs.Common.{◌≡◌, ◌++◌, map, drop}
use Rattle.glsl_tree.specs.Types.{joined}
use Rattle.glsl_tree.specs.Statements.{item_tokens}
use Rattle.glsl_tree.specs.Token.{plain_tokens}
use Rattle.glsl_tree.proofs.spell_statements.push_items.Given as goal

-- what was added, and then what is left, is all
abbrev pub invariant-loop-item : goal.invariant-loop-item
invariant-loop-item l =
    plain_tokens l.out.items ++ joined (map item_tokens (drop l.item-index l.items))
    ≡ plain_tokens l.fn.out.items ++ joined (map item_tokens l.items)
