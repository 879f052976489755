use Rattle.std.proofs.Common.{◌-◌, sym, ap, ◌∙◌, subst, arith}
use Rattle.std.specs.Option.{option_copied}
use Rattle.glsl_tree.specs.Token.{plain_tokens}
use Rattle.glsl_parse.specs.Answers.{Gives}
use Rattle.glsl_parse.specs.StatementReadings.{statement_at, statement_led}
use Rattle.glsl_parse.proofs.Fronts.{no_statement, led_statement}
use Rattle.glsl_parse.proofs.statements.+statement.Goals as goal

pub statement-returns-in_default-clause-found : goal.statement-returns-in_default-clause-found
statement-returns-in_default-clause-found t c =
    no_statement c.args.room c.args.list.now (sym c.first.ensures.value ∙ ap option_copied c.in_default.is)

pub statement-returns-clause-found : goal.statement-returns-clause-found
statement-returns-clause-found t c =
    let front = sym c.first.ensures.value ∙ ap option_copied c.in-Some.is in
    let led = led_statement c.args.room c.args.list.now c.in-Some.token.now (omega (arith, c.if-room-eq0.false)) front in
    let named = ap (λ leader. statement_led (c.args.room - 1) (statement_at (c.args.room - 1)) leader (plain_tokens c.args.list.now)) c.leader_of.ensures in
    subst (λ answer. Gives c.led.result answer) (named ∙ sym led) c.led.ensures.found
