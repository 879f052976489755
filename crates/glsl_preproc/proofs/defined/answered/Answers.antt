use Rattle.std.proofs.Common.{◌++◌, [], ◌∷◌, drop, sym, ap, ◌∙◌}
use Rattle.glsl_tree.specs.Token.{plain, plain_tokens}
use Rattle.glsl_preproc.specs.Views.{plain_pieces}
use Rattle.glsl_preproc.specs.Macros.{is_defined}
use Rattle.glsl_preproc.specs.Conditions.{Other, Of, Broken, asked_at, answer_token, answered_from}
use Rattle.glsl_preproc.proofs.Items.{some_items, none_left}
use Rattle.glsl_preproc.proofs.Answering.{answered_at, answered_skip, answered_end}
use Rattle.glsl_preproc.proofs.defined.answered.Goals as goal

pub loop-rest-preserved-in-Other : goal.loop-rest-preserved-in-Other
loop-rest-preserved-in-Other c =
    let rest = c.loop-rest.rest.now in
    let macros = c.args.macros.now in
    let done = plain_pieces c.loop-rest.out.items in
    let x = c.index-rest-0.result in
    let some = some_items rest _ c.is_empty.ensures c.loop-rest-test.true in
    let pushed = c.in_ok-push_piece-in-Other.ensures ∙ ap (λ k. done ++ k ∷ []) c.piece_at.ensures in
    let asked = c.in-Other.ensures.asked ∙ ap (λ l. asked_at (plain x) (plain_tokens l)) c.split_at.ensures.back in
    (λ i. answered_from macros (pushed i) 0 (plain_tokens (c.split_at.ensures.back i)))
    ∙ sym (answered_at macros done rest x Other some c.index-rest-0.is asked) ∙ c.loop-rest.invariant

pub loop-rest-preserved : goal.loop-rest-preserved
loop-rest-preserved c =
    let rest = c.loop-rest.rest.now in
    let macros = c.args.macros.now in
    let done = plain_pieces c.loop-rest.out.items in
    let x = c.index-rest-0.result in
    let name = c.in-Of.name.now in
    let some = some_items rest _ c.is_empty.ensures c.loop-rest-test.true in
    let asked = c.in-Of.ensures.asked ∙ ap (λ l. asked_at (plain x) (plain_tokens l)) c.split_at.ensures.back in
    let pushed = c.in_ok-push_piece-in-Of.ensures ∙ ap (λ k. done ++ k ∷ []) c.answer_piece.ensures ∙ ap (λ b. done ++ answer_token b ∷ []) c.is_defined.ensures in
    (λ i. answered_from macros (pushed i) 0 (plain_tokens (c.split_at-in-Of.ensures.back i)))
    ∙ ap (λ l. answered_from macros (done ++ answer_token (is_defined macros name) ∷ []) 0 (plain_tokens (drop c.in-Of.count l))) c.split_at.ensures.back
    ∙ sym (answered_at macros done rest x (Of name c.in-Of.count) some c.index-rest-0.is asked
    ∙ answered_skip macros (done ++ answer_token (is_defined macros name) ∷ []) c.in-Of.count (drop 1 rest))
    ∙ c.loop-rest.invariant

pub returns-in-Broken : goal.returns-in-Broken
returns-in-Broken c =
    let rest = c.loop-rest.rest.now in
    let macros = c.args.macros.now in
    let x = c.index-rest-0.result in
    let some = some_items rest _ c.is_empty.ensures c.loop-rest-test.true in
    let asked = c.in-Broken.ensures.asked ∙ ap (λ l. asked_at (plain x) (plain_tokens l)) c.split_at.ensures.back in
    sym (answered_at macros (plain_pieces c.loop-rest.out.items) rest x Broken some c.index-rest-0.is asked) ∙ c.loop-rest.invariant

pub returns : goal.returns
returns c = sym (answered_end c.args.macros.now (plain_pieces c.loop-rest.out.items) c.loop-rest.rest.now (none_left _ _ c.is_empty.ensures c.loop-rest-test.false)) ∙ c.loop-rest.invariant
