use Rattle.std.proofs.Common.{◌&&◌, Some, not, sym, ap, ◌∙◌}
use Rattle.std.proofs.lemmas.Bool.{cond-true}
use Rattle.glsl_tree.specs.Token.{plain_tokens}
use Rattle.glsl_preproc.specs.Macros.{is_reserved, without_macro}
use Rattle.glsl_preproc.specs.Directives.{after_undef}
use Rattle.glsl_preproc.proofs.Items.{one_item}
use Rattle.glsl_preproc.proofs.directives.undefine.Goals as goal

pub returns-in-len1 : goal.returns-in-len1
unfolding after_undef
returns-in-len1 c =
    let macros = c.args.macros.now in
    let x = c.name-item.result in
    let is_name = sym c.is_name.ensures ∙ c.if-is_name.true in
    let free = ap is_reserved (sym c.as_slice.ensures.value) ∙ sym c.is_reserved.ensures ∙ c.if-not-is_reserved.true in
    let named = ap (without_macro macros) c.as_slice-in-len1.ensures.value in
    ap (λ l. after_undef macros (plain_tokens l)) (one_item c.args.list.now x c.in-len1.len_at_least c.in-len1.len_below c.name-item.is)
    ∙ cond-true _ _ _ (λ i. is_name i && not (free i))
    ∙ ap Some (sym (c.remove.ensures ∙ named))
