use Rattle.std.proofs.Common.{arith}
use Rattle.glsl_parse.specs.DeclarationReadings.{declarator_at}
use Rattle.glsl_parse.proofs.Loops.{listed_on}
use Rattle.glsl_parse.proofs.declarations.declarator_list.Goals as goal

pub loop-more-preserved : goal.loop-more-preserved
loop-more-preserved c = record {
  reads = listed_on (declarator_at c.args.below) _ _ c.in_ok-next.next c.loop-more.rest.now c.in-Some.more.now c.in_ok-next.tail.now _
      c.loop-more.invariant.reads c.in-Some.ensures.found c.in-Some.ensures.shorter c.in_ok-next.ensures.found c.in_ok-next.ensures.shorter c.in_ok-push-2.ensures.ok;
  shorter = omega (arith, c.in-Some.ensures.shorter, c.in_ok-next.ensures.shorter);
}
