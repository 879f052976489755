use Rattle.std.proofs.Common.{sym, ap, ◌∙◌, arith}
use Rattle.std.proofs.lemmas.Fmt.{decimal_digit}
use Rattle.glsl_preproc.specs.Macros.{number_token}
use Rattle.glsl_preproc.specs.Conditions.{answer_token}
use Rattle.glsl_preproc.proofs.defined.answer_piece.Goals as goal

pub returns-then-answer : goal.returns-then-answer
returns-then-answer c = c.number_at.ensures ∙ ap number_token (decimal_digit 1 (omega arith)) ∙ ap answer_token (sym c.if-answer.true)

pub returns-else-answer : goal.returns-else-answer
returns-else-answer c = c.number_at-else-answer.ensures ∙ ap number_token (decimal_digit 0 (omega arith)) ∙ ap answer_token (sym c.if-answer.false)
