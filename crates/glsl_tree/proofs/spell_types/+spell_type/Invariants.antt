use Rattle.std.proofs.Common.{◌≡◌, ◌++◌, map, drop}
use Rattle.glsl_tree.specs.Types.{joined, member_tokens}
use Rattle.glsl_tree.specs.Token.{plain_tokens}
use Rattle.glsl_tree.proofs.spell_types.+spell_type.Given as goal

-- what was added, and then what is left, is all
abbrev pub invariant-push_members-loop-member : goal.invariant-push_members-loop-member
invariant-push_members-loop-member l =
    plain_tokens l.out.items ++ joined (map member_tokens (drop l.member-index l.members))
    ≡ plain_tokens l.fn.out.items ++ joined (map member_tokens l.members)
