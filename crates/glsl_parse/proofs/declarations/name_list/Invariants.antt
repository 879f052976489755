use Rattle.std.proofs.Common.{◌≡◌, ◌<◌, length}
use Rattle.glsl_tree.specs.Token.{plain_tokens}
use Rattle.glsl_parse.specs.Readings.{looped}
use Rattle.glsl_parse.specs.ExpressionReadings.{listed, more_listed}
use Rattle.glsl_parse.specs.Symbols.{name_at}
use Rattle.glsl_parse.proofs.declarations.name_list.Given as goal

-- the list so far, and what is left
abbrev pub invariant-loop-more : goal.invariant-loop-more
invariant-loop-more l = record {
  reads : looped (more_listed (name_at)) l.all (plain_tokens l.rest) ≡ listed (name_at) (plain_tokens l.list);
  shorter : length l.rest < length l.list;
}

abbrev pub decreases-loop-more : goal.decreases-loop-more
decreases-loop-more l = length l.rest
