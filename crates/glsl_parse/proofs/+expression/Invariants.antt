use Rattle.std.proofs.Common.{◌≡◌, ◌≤◌, ◌<◌, ◌+◌, ◌*◌, length, map}
use Rattle.glsl_tree.specs.Token.{plain_tokens}
use Rattle.glsl_tree.specs.Expressions.{highest, expression_height}
use Rattle.glsl_parse.specs.Readings.{looped}
use Rattle.glsl_parse.specs.Answers.{IsMeasured}
use Rattle.glsl_parse.specs.ExpressionReadings.{expression, climbed, postfixed, listed, more_joined, more_suffixed, more_listed}
use Rattle.glsl_parse.proofs.+expression.Given as goal

abbrev pub decreases-expressions::expression : goal.decreases-expressions::expression
decreases-expressions::expression l = 20 * l.room

abbrev pub decreases-expressions::climbed : goal.decreases-expressions::climbed
decreases-expressions::climbed l = 20 * l.below + 10

abbrev pub decreases-expressions::joined : goal.decreases-expressions::joined
decreases-expressions::joined l = 20 * l.below + 9

abbrev pub decreases-expressions::branches : goal.decreases-expressions::branches
decreases-expressions::branches l = 20 * l.below + 8

abbrev pub decreases-expressions::operand : goal.decreases-expressions::operand
decreases-expressions::operand l = 20 * l.below + 9

abbrev pub decreases-expressions::postfixed : goal.decreases-expressions::postfixed
decreases-expressions::postfixed l = 20 * l.below + 8

abbrev pub decreases-expressions::suffixed : goal.decreases-expressions::suffixed
decreases-expressions::suffixed l = 20 * l.below + 7

abbrev pub decreases-expressions::indexed : goal.decreases-expressions::indexed
decreases-expressions::indexed l = 20 * l.below + 6

abbrev pub decreases-primaries::primary : goal.decreases-primaries::primary
decreases-primaries::primary l = 20 * l.below + 7

abbrev pub decreases-primaries::bracketed : goal.decreases-primaries::bracketed
decreases-primaries::bracketed l = 20 * l.below + 6

abbrev pub decreases-primaries::word : goal.decreases-primaries::word
decreases-primaries::word l = 20 * l.below + 6

abbrev pub decreases-primaries::named : goal.decreases-primaries::named
decreases-primaries::named l = 20 * l.below + 6

abbrev pub decreases-primaries::call : goal.decreases-primaries::call
decreases-primaries::call l = 20 * l.below + 5

abbrev pub decreases-primaries::called : goal.decreases-primaries::called
decreases-primaries::called l = 20 * l.below + 4

abbrev pub decreases-arguments::arguments : goal.decreases-arguments::arguments
decreases-arguments::arguments l = 20 * l.below + 3

-- the expression so far, and what is left
abbrev pub invariant-expressions::climbed-loop-infix : goal.invariant-expressions::climbed-loop-infix
invariant-expressions::climbed-loop-infix l = record {
  reads : looped (more_joined l.below (expression l.below) l.least) l.left.tree (plain_tokens l.left.rest.now)
      ≡ climbed l.below (expression l.below) l.least (plain_tokens l.list);
  measured : IsMeasured l.left;
  bounded : l.left.height ≤ l.below + 1;
  shorter : length l.left.rest.now < length l.list;
}

abbrev pub decreases-expressions::climbed-loop-infix : goal.decreases-expressions::climbed-loop-infix
decreases-expressions::climbed-loop-infix l = length l.left.rest.now

-- the expression so far, and what is left
abbrev pub invariant-expressions::postfixed-loop-suffix : goal.invariant-expressions::postfixed-loop-suffix
invariant-expressions::postfixed-loop-suffix l = record {
  reads : looped (more_suffixed l.below (expression l.below)) l.base.tree (plain_tokens l.base.rest.now)
      ≡ postfixed l.below (expression l.below) (plain_tokens l.list);
  measured : IsMeasured l.base;
  bounded : l.base.height ≤ l.below + 1;
  shorter : length l.base.rest.now < length l.list;
}

abbrev pub decreases-expressions::postfixed-loop-suffix : goal.decreases-expressions::postfixed-loop-suffix
decreases-expressions::postfixed-loop-suffix l = length l.base.rest.now

-- the arguments so far, and what is left
abbrev pub invariant-arguments::arguments-loop-more : goal.invariant-arguments::arguments-loop-more
invariant-arguments::arguments-loop-more l = record {
  reads : looped (more_listed (expression l.below 1)) l.all (plain_tokens l.rest) ≡ listed (expression l.below 1) (plain_tokens l.list);
  measured : l.height ≡ highest (map expression_height l.all);
  bounded : l.height ≤ l.below;
  shorter : length l.rest < length l.list;
}

abbrev pub decreases-arguments::arguments-loop-more : goal.decreases-arguments::arguments-loop-more
decreases-arguments::arguments-loop-more l = length l.rest
