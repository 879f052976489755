use Rattle.std.proofs.Common.{◌≡◌, ◌<◌, length}
use Rattle.glsl_tree.specs.Token.{plain_tokens}
use Rattle.glsl_parse.specs.Readings.{looped}
use Rattle.glsl_parse.specs.ExpressionReadings.{listed, more_listed}
use Rattle.glsl_parse.specs.DeclarationReadings.{parameter_at}
use Rattle.glsl_parse.proofs.parameters.parameter_list.Given as goal

-- the list so far, and what is left
abbrev pub invariant-loop-more : goal.invariant-loop-more
invariant-loop-more l = record {
  reads : looped (more_listed (parameter_at l.below)) l.all (plain_tokens l.rest) ≡ listed (parameter_at l.below) (plain_tokens l.list);
  shorter : length l.rest < length l.list;
}

abbrev pub decreases-loop-more : goal.decreases-loop-more
decreases-loop-more l = length l.rest
