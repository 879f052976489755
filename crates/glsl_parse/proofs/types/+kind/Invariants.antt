use Rattle.std.proofs.Common.{◌≡◌, ◌≤◌, ◌+◌, ◌*◌, length, map}
use Rattle.glsl_tree.specs.Token.{plain_tokens}
use Rattle.glsl_tree.specs.Expressions.{highest}
use Rattle.glsl_tree.specs.Types.{member_height}
use Rattle.glsl_parse.specs.Readings.{looped}
use Rattle.glsl_parse.specs.TypeReadings.{member, members, more_members}
use Rattle.glsl_parse.proofs.types.+kind.Given as goal

abbrev pub decreases-type_specifier : goal.decreases-type_specifier
decreases-type_specifier l = 4 * l.room

abbrev pub decreases-structure : goal.decreases-structure
decreases-structure l = 4 * l.below + 3

abbrev pub decreases-members : goal.decreases-members
decreases-members l = 4 * l.below + 2

abbrev pub decreases-member : goal.decreases-member
decreases-member l = 4 * l.room + 1

-- the members so far, and what is left
abbrev pub invariant-members-loop-alloc : goal.invariant-members-loop-alloc
invariant-members-loop-alloc l = record {
  reads : looped (more_members (member l.below)) l.all (plain_tokens l.rest) ≡ members (member l.below) (plain_tokens l.list);
  measured : l.height ≡ highest (map member_height l.all);
  bounded : l.height ≤ l.below;
  shorter : length l.rest ≤ length l.list;
}

abbrev pub decreases-members-loop-alloc : goal.decreases-members-loop-alloc
decreases-members-loop-alloc l = length l.rest
