use Rattle.std.proofs.Common.{◌&&◌, drop, sym, ap, ◌∙◌}
use Rattle.std.specs.Str.{bytes_eq}
use Rattle.glsl_preproc.specs.Macros.{same_names}
use Rattle.glsl_preproc.specs.Views.{texts}
use Rattle.glsl_preproc.proofs.Items.{some_items, none_left}
use Rattle.glsl_preproc.proofs.Same.{names_first, names_left, names_right}
use Rattle.glsl_preproc.proofs.macro_table.same_names.Goals as goal

pub returns-then-is_empty : goal.returns-then-is_empty
returns-then-is_empty c =
    sym (names_right c.loop-xs.xs.now c.loop-xs.ys.now (some_items _ _ c.is_empty.ensures c.loop-xs-test.true) (none_left _ _ c.is_empty-in-loop-xs.ensures c.if-is_empty.true)) ∙ c.loop-xs.invariant

pub returns-then-not-same_text : goal.returns-then-not-same_text
returns-then-not-same_text c =
    sym (names_first c.loop-xs.xs.now c.loop-xs.ys.now c.index-xs-0.result c.index-ys-0.result (some_items _ _ c.is_empty.ensures c.loop-xs-test.true) (some_items _ _ c.is_empty-in-loop-xs.ensures c.if-is_empty.false) c.index-xs-0.is c.index-ys-0.is
    ∙ ap (λ b. b && same_names (texts (drop 1 c.loop-xs.xs.now)) (texts (drop 1 c.loop-xs.ys.now))) ((λ i. bytes_eq (sym c.as_slice.ensures.value i) (sym c.as_slice-in-loop-xs.ensures.value i)) ∙ sym c.same_text.ensures ∙ c.if-not-same_text.true))
    ∙ c.loop-xs.invariant

pub loop-xs-preserved : goal.loop-xs-preserved
loop-xs-preserved c =
    (λ i. same_names (texts (c.split_at.ensures.back i)) (texts (c.split_at-in-loop-xs.ensures.back i)))
    ∙ sym (names_first c.loop-xs.xs.now c.loop-xs.ys.now c.index-xs-0.result c.index-ys-0.result (some_items _ _ c.is_empty.ensures c.loop-xs-test.true) (some_items _ _ c.is_empty-in-loop-xs.ensures c.if-is_empty.false) c.index-xs-0.is c.index-ys-0.is
    ∙ ap (λ b. b && same_names (texts (drop 1 c.loop-xs.xs.now)) (texts (drop 1 c.loop-xs.ys.now))) ((λ i. bytes_eq (sym c.as_slice.ensures.value i) (sym c.as_slice-in-loop-xs.ensures.value i)) ∙ sym c.same_text.ensures ∙ c.if-not-same_text.false))
    ∙ c.loop-xs.invariant

pub returns : goal.returns
returns c = c.is_empty-2.ensures ∙ sym (names_left c.loop-xs.xs.now c.loop-xs.ys.now (none_left _ _ c.is_empty.ensures c.loop-xs-test.false)) ∙ c.loop-xs.invariant
