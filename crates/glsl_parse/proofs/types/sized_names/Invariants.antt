use Rattle.std.proofs.Common.{◌≡◌, ◌≤◌, ◌<◌, length, map}
use Rattle.glsl_tree.specs.Token.{plain_tokens}
use Rattle.glsl_parse.specs.Readings.{looped}
use Rattle.glsl_parse.specs.ExpressionReadings.{listed, more_listed}
use Rattle.glsl_tree.specs.Expressions.{highest}
use Rattle.glsl_tree.specs.Types.{size_height}
use Rattle.glsl_parse.specs.TypeReadings.{sized_name}
use Rattle.glsl_parse.proofs.types.sized_names.Given as goal

-- the list so far, and what is left
abbrev pub invariant-loop-more : goal.invariant-loop-more
invariant-loop-more l = record {
  reads : looped (more_listed (sized_name l.room)) l.all (plain_tokens l.rest) ≡ listed (sized_name l.room) (plain_tokens l.list);
  measured : l.height ≡ highest (map (λ sized. size_height sized.size) l.all);
  bounded : l.height ≤ l.room;
  shorter : length l.rest < length l.list;
}

abbrev pub decreases-loop-more : goal.decreases-loop-more
decreases-loop-more l = length l.rest
