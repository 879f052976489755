use Rattle.std.proofs.Common.{◌++◌, drop, sym, ap, ◌∙◌, append_assoc}
use Rattle.std.proofs.lemmas.List.{append-nil}
use Rattle.glsl_tree.specs.Token.{plain, plain_tokens}
use Rattle.glsl_preproc.specs.Replacement.{substituted, argument_of, argument_or, at_line}
use Rattle.glsl_preproc.specs.Views.{plain_pieces, parameters_of}
use Rattle.glsl_preproc.proofs.Items.{some_items, none_left}
use Rattle.glsl_preproc.proofs.Substitution.{substituted_first, substituted_none}
use Rattle.glsl_preproc.proofs.parameters.substituted.Goals as goal

pub loop-rest-preserved : goal.loop-rest-preserved
loop-rest-preserved c =
    let rest = c.loop-rest.rest.now in
    let some = some_items rest _ c.is_empty.ensures c.loop-rest-test.true in
    let parameters = parameters_of c.args.parameters.now in
    let arguments = c.args.arguments.now in
    let line = c.args.line in
    let left = substituted parameters arguments line (plain_tokens (drop 1 rest)) in
    let x = c.index-rest-0.result in
    let argument = c.argument_of.ensures ∙ ap (argument_of parameters arguments) c.as_slice.ensures.value in
    (λ i. c.in_ok-append_argument.ensures i ++ substituted parameters arguments line (plain_tokens (c.split_at.ensures.back i)))
    ∙ ap (λ a. (plain_pieces c.loop-rest.out.items ++ at_line line (argument_or a (plain x))) ++ left) argument
    ∙ append_assoc (plain_pieces c.loop-rest.out.items) (at_line line (argument_or (argument_of parameters arguments x.text.items) (plain x))) left
    ∙ ap (λ l. plain_pieces c.loop-rest.out.items ++ l) (sym (substituted_first parameters arguments line rest x some c.index-rest-0.is))
    ∙ c.loop-rest.invariant

pub returns : goal.returns
returns c =
    sym (append-nil (plain_pieces c.loop-rest.out.items))
    ∙ ap (λ l. plain_pieces c.loop-rest.out.items ++ l) (sym (substituted_none (parameters_of c.args.parameters.now) c.args.arguments.now c.args.line c.loop-rest.rest.now (none_left _ _ c.is_empty.ensures c.loop-rest-test.false)))
    ∙ c.loop-rest.invariant
