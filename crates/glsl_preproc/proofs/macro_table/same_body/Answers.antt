use Rattle.std.proofs.Common.{◌&&◌, drop, sym, ap, ◌∙◌}
use Rattle.glsl_tree.specs.Token.{plain_tokens}
use Rattle.glsl_preproc.specs.Macros.{same_body}
use Rattle.glsl_preproc.proofs.Items.{some_items, none_left}
use Rattle.glsl_preproc.proofs.Same.{body_first, body_left, body_right}
use Rattle.glsl_preproc.proofs.macro_table.same_body.Goals as goal

pub returns-then-is_empty : goal.returns-then-is_empty
returns-then-is_empty c =
    sym (body_right c.loop-xs.xs.now c.loop-xs.ys.now (some_items _ _ c.is_empty.ensures c.loop-xs-test.true) (none_left _ _ c.is_empty-in-loop-xs.ensures c.if-is_empty.true)) ∙ c.loop-xs.invariant

pub returns-then-not-same_token : goal.returns-then-not-same_token
returns-then-not-same_token c =
    sym (body_first c.loop-xs.xs.now c.loop-xs.ys.now c.index-xs-0.result c.index-ys-0.result (some_items _ _ c.is_empty.ensures c.loop-xs-test.true) (some_items _ _ c.is_empty-in-loop-xs.ensures c.if-is_empty.false) c.index-xs-0.is c.index-ys-0.is
    ∙ ap (λ b. b && same_body (plain_tokens (drop 1 c.loop-xs.xs.now)) (plain_tokens (drop 1 c.loop-xs.ys.now))) (sym c.same_token.ensures ∙ c.if-not-same_token.true))
    ∙ c.loop-xs.invariant

pub loop-xs-preserved : goal.loop-xs-preserved
loop-xs-preserved c =
    (λ i. same_body (plain_tokens (c.split_at.ensures.back i)) (plain_tokens (c.split_at-in-loop-xs.ensures.back i)))
    ∙ sym (body_first c.loop-xs.xs.now c.loop-xs.ys.now c.index-xs-0.result c.index-ys-0.result (some_items _ _ c.is_empty.ensures c.loop-xs-test.true) (some_items _ _ c.is_empty-in-loop-xs.ensures c.if-is_empty.false) c.index-xs-0.is c.index-ys-0.is
    ∙ ap (λ b. b && same_body (plain_tokens (drop 1 c.loop-xs.xs.now)) (plain_tokens (drop 1 c.loop-xs.ys.now))) (sym c.same_token.ensures ∙ c.if-not-same_token.false))
    ∙ c.loop-xs.invariant

pub returns : goal.returns
returns c = c.is_empty-2.ensures ∙ sym (body_left c.loop-xs.xs.now c.loop-xs.ys.now (none_left _ _ c.is_empty.ensures c.loop-xs-test.false)) ∙ c.loop-xs.invariant
