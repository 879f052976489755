use Rattle.std.proofs.Common.{arith, ap, sym, ◌∙◌, map, []}
use Rattle.glsl_tree.specs.declared.expressions.Expr.TheVariants as tree
use Rattle.glsl_parse.specs.ExpressionReadings.{expression}
use Rattle.glsl_parse.proofs.Loops.{listed_on, joined_on, suffixed_on}
use Rattle.glsl_parse.proofs.Measures.{highest_more, call-level, empty_call-height}
use Rattle.glsl_tree.specs.Expressions.{expression_height, grade, highest}
use Rattle.glsl_parse.proofs.+expression.Goals as goal

pub expressions::climbed-loop-infix-preserved : goal.expressions::climbed-loop-infix-preserved
expressions::climbed-loop-infix-preserved t c = record {
  reads = joined_on c.args.below (expression c.args.below) c.args.least c.loop-infix.left.level _ _ c.in-Some.infix c.loop-infix.left.rest.now c.in_ok-left-2.left.rest.now _
      c.loop-infix.invariant.reads c.loop-infix.invariant.measured.0 c.in-Some.ensures.found c.in_ok-left-2.ensures.found c.in_ok-left-2.ensures.shorter;
  measured = c.in_ok-left-2.ensures.measured;
  bounded = c.in_ok-left-2.ensures.bounded;
  shorter = omega (arith, c.in_ok-left-2.ensures.shorter);
}

pub expressions::postfixed-loop-suffix-preserved : goal.expressions::postfixed-loop-suffix-preserved
expressions::postfixed-loop-suffix-preserved t c = record {
  reads = suffixed_on c.args.below (expression c.args.below) _ _ c.in-Some.suffix c.loop-suffix.base.rest.now c.in_ok-base-2.base.rest.now _
      c.loop-suffix.invariant.reads c.in-Some.ensures.found c.in_ok-base-2.ensures.found c.in_ok-base-2.ensures.shorter;
  measured = c.in_ok-base-2.ensures.measured;
  bounded = c.in_ok-base-2.ensures.bounded;
  shorter = omega (arith, c.in_ok-base-2.ensures.shorter);
}

pub arguments::arguments-loop-more-preserved : goal.arguments::arguments-loop-more-preserved
arguments::arguments-loop-more-preserved t c =
    let pushed = ap (λ s. highest (map expression_height s)) c.in_ok-push-2.ensures.ok in
    let more = highest_more expression_height c.loop-more.all c.in_ok-argument.argument.tree in
    record {
      reads = listed_on (expression c.args.below 1) _ _ c.in_ok-argument.argument.tree c.loop-more.rest.now c.in-Some.more.now c.in_ok-argument.argument.rest.now _
          c.loop-more.invariant.reads c.in-Some.ensures.found c.in-Some.ensures.shorter c.in_ok-argument.ensures.found c.in_ok-argument.ensures.shorter c.in_ok-push-2.ensures.ok;
      measured = omega (arith, pushed, more, c.in_ok-argument.ensures.measured.1);
      bounded = omega (arith, c.in_ok-argument.ensures.bounded);
      shorter = omega (arith, c.in-Some.ensures.shorter, c.in_ok-argument.ensures.shorter);
    }

pub primaries::call-returns-in-Some-clause-measured : goal.primaries::call-returns-in-Some-clause-measured
primaries::call-returns-in-Some-clause-measured t c =
    let made = c.leaf.ensures.tree ∙ ap (tree.Call c.args.callee) c.new-arguments.ensures in (
      c.leaf.ensures.level ∙ sym (ap (λ e. (grade e).level) made ∙ call-level c.args.callee []),
      c.leaf.ensures.height ∙ sym (ap expression_height made ∙ empty_call-height c.args.callee),
    )
