use Rattle.std.proofs.Common.{◌∙◌, ap, sym}
use Rattle.std.proofs.lemmas.List.{length-take-le}
use Rattle.std.proofs.lemmas.Bool.{cond-true, cond-false}
use Rattle.glsl_lex.proofs.Fronts.{token_within, token_taken, taken}
use Rattle.glsl_lex.proofs.pieces.token_at.Goals as goal

pub slice_bounds-is_within_limits-end : goal.slice_bounds-is_within_limits-end
slice_bounds-is_within_limits-end c =
    sym (length-take-le _ _ (token_within c.args.text.now c.in-Some.class c.in-Some.count c.requires c.in-Some.ensures).1)

pub returns-in-Some-clause-token : goal.returns-in-Some-clause-token
returns-in-Some-clause-token c =
    sym (token_taken c.args.text.now c.requires ∙ ap (taken c.args.text.now) (sym c.in-Some.ensures)
    ∙ cond-true _ _ _ (sym c.is_within_limits.ensures ∙ c.if-is_within_limits.true))

pub returns-in-Some-clause-front : goal.returns-in-Some-clause-front
returns-in-Some-clause-front c = token_within c.args.text.now c.in-Some.class c.in-Some.count c.requires c.in-Some.ensures

pub returns-in_default-clause-token : goal.returns-in_default-clause-token
returns-in_default-clause-token c =
    sym (token_taken c.args.text.now c.requires ∙ ap (taken c.args.text.now) (sym c.in-Some.ensures)
    ∙ cond-false _ _ _ (sym c.is_within_limits.ensures ∙ c.if-is_within_limits.false))

pub returns-in_default-2-clause-token : goal.returns-in_default-2-clause-token
returns-in_default-2-clause-token c = sym (token_taken c.args.text.now c.requires ∙ ap (taken c.args.text.now) (sym c.longest_token.ensures ∙ c.in_default.is))
