use Rattle.std.proofs.Common.{rules, arith, ◌∙◌, sym, length}
use Rattle.std.proofs.lemmas.Bool.{eqb-true, eqb-false}
use Rattle.glsl_tree.specs.Token.{plain_tokens}
use Rattle.glsl_parse.specs.Answers.{Refuses}
use Rattle.glsl_parse.specs.StatementReadings.{items_at}
use Rattle.glsl_parse.proofs.Loops.{items_end, items_refused}
use Rattle.glsl_parse.proofs.units.items.Goals as goal

pub returns-in_err-next : goal.returns-in_err-next
returns-in_err-next c =
    let some = eqb-false (length c.loop-rest.rest.now) 0 (sym c.is_empty-in-loop-rest.ensures ∙ c.loop-rest-test.true) in
    let refused : Refuses c.in_err-next.field-0.0 (items_at 127 (plain_tokens c.args.list.now)) = items_refused 127 c.loop-rest.all c.loop-rest.rest.now _ _ c.loop-rest.invariant (omega (arith, some)) c.in_err-next.ensures.found in
    search rules

pub returns : goal.returns
returns c = sym c.loop-rest.invariant
    ∙ items_end 127 c.loop-rest.all c.loop-rest.rest.now (eqb-true (length c.loop-rest.rest.now) 0 (sym c.is_empty-in-loop-rest.ensures ∙ c.loop-rest-test.false))
