-- A call, and the arguments that it takes one by one.
use Rattle.std.proofs.Common.{sym, subst}
use Rattle.appendix_a.specs.declared.findings.Finding.{Finding}
use Rattle.appendix_a.specs.Ahead.{ahead_of}
use Rattle.appendix_a.specs.Rules.{Comes, Outcome}
use Rattle.appendix_a.specs.Site.{site_of}
use Rattle.appendix_a.specs.Expressions.{called_parameters}
use Rattle.appendix_a.proofs.Arguments.{arguments-turn, call-is}
use Rattle.appendix_a.proofs.expressions.+expression.Goals as goal

pub expression-returns-in-Call : goal.expression-returns-in-Call
expression-returns-in-Call t c =
    let P : Outcome Finding → Type 0 = λ o. Comes o c.call.new.ahead c.call.result in
    subst P
    (sym (call-is (site_of c.args.site.now) (ahead_of c.args.ahead.now) c.in-Call.callee c.in-Call.arguments c.as_slice-in-Call.result.now
    c.args.e.now c.in-Call.is c.as_slice-in-Call.ensures)) c.call.ensures

pub each_argument-loop-place-preserved : goal.each_argument-loop-place-preserved
each_argument-loop-place-preserved t c =
    arguments-turn (site_of c.args.site.now) (called_parameters (site_of c.args.site.now) c.args.callee.now c.args.number)
    c.args.arguments.now c.loop-place.place c.index-arguments-place.result (ahead_of c.loop-place.ahead) (ahead_of c.expression.new.ahead)
    c.loop-place.found c.then_argument-found.result c.in_ok-f.f c.called_gives_back-gives_back.result _ c.loop-place-test.true
    c.index-arguments-place.is c.in_ok-f.ensures c.then_argument-found.ensures c.called_gives_back-gives_back.ensures c.loop-place.invariant
