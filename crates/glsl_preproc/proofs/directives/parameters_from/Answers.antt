use Rattle.std.proofs.Common.{◌≡◌, ◌-◌, ◌+◌, ◌++◌, [], ◌∷◌, Some, length, sym, ap, ◌∙◌, arith}
use Rattle.std.proofs.lemmas.Bool.{cond-true, cond-false}
use Rattle.glsl_tree.specs.Token.{plain_tokens}
use Rattle.glsl_preproc.specs.Directives.{parameters_from}
use Rattle.glsl_preproc.proofs.Defining.{parameters_two, parameters_few}
use Rattle.glsl_preproc.proofs.directives.parameters_from.Goals as goal

pub returns-then-not-is_new_name-clause-found : goal.returns-then-not-is_new_name-clause-found
returns-then-not-is_new_name-clause-found c =
    let rest = c.loop-rest.rest.now in
    let n = length c.args.list.now - length rest in
    sym (parameters_two c.loop-rest.names n rest c.index-rest-0.result c.index-rest-1.result c.loop-rest-test.true c.index-rest-0.is c.index-rest-1.is
    ∙ cond-false _ _ _ (sym c.is_new_name.ensures ∙ c.if-not-is_new_name.true))
    ∙ c.loop-rest.invariant.rest

pub returns-then-closes-clause-found : goal.returns-then-closes-clause-found
returns-then-closes-clause-found c =
    let rest = c.loop-rest.rest.now in
    let n = length c.args.list.now - length rest in
    let count : length c.args.list.now - length c.split_at.result.1.now ≡ n + 2 = omega arith in
    let pushed = c.in_ok-push.ensures ∙ ap (λ t. c.loop-rest.names ++ t ∷ []) c.as_slice.ensures.value in
    (λ i. Some (pushed i, count i))
    ∙ sym (parameters_two c.loop-rest.names n rest c.index-rest-0.result c.index-rest-1.result c.loop-rest-test.true c.index-rest-0.is c.index-rest-1.is
    ∙ cond-true _ _ _ (sym c.is_new_name.ensures ∙ c.if-not-is_new_name.false) ∙ cond-true _ _ _ (sym c.closes.ensures ∙ c.if-closes.true))
    ∙ c.loop-rest.invariant.rest

pub returns-then-not-is_comma-clause-found : goal.returns-then-not-is_comma-clause-found
returns-then-not-is_comma-clause-found c =
    let rest = c.loop-rest.rest.now in
    let n = length c.args.list.now - length rest in
    sym (parameters_two c.loop-rest.names n rest c.index-rest-0.result c.index-rest-1.result c.loop-rest-test.true c.index-rest-0.is c.index-rest-1.is
    ∙ cond-true _ _ _ (sym c.is_new_name.ensures ∙ c.if-not-is_new_name.false) ∙ cond-false _ _ _ (sym c.closes.ensures ∙ c.if-closes.false)
    ∙ cond-false _ _ _ (sym c.is_comma.ensures ∙ c.if-not-is_comma.true))
    ∙ c.loop-rest.invariant.rest

pub loop-rest-preserved : goal.loop-rest-preserved
loop-rest-preserved c =
    let rest = c.loop-rest.rest.now in
    let n = length c.args.list.now - length rest in
    let count : length c.args.list.now - length c.split_at.result.1.now ≡ n + 2 = omega arith in
    let pushed = c.in_ok-push.ensures ∙ ap (λ t. c.loop-rest.names ++ t ∷ []) c.as_slice.ensures.value in
    record {
      rest = (λ i. parameters_from (pushed i) (count i) (plain_tokens (c.split_at.ensures.back i)))
          ∙ sym (parameters_two c.loop-rest.names n rest c.index-rest-0.result c.index-rest-1.result c.loop-rest-test.true c.index-rest-0.is c.index-rest-1.is
          ∙ cond-true _ _ _ (sym c.is_new_name.ensures ∙ c.if-not-is_new_name.false) ∙ cond-false _ _ _ (sym c.closes.ensures ∙ c.if-closes.false)
          ∙ cond-true _ _ _ (sym c.is_comma.ensures ∙ c.if-not-is_comma.false))
          ∙ c.loop-rest.invariant.rest;
      within = omega arith;
    }

pub returns-clause-found : goal.returns-clause-found
returns-clause-found c = sym (parameters_few c.loop-rest.names (length c.args.list.now - length c.loop-rest.rest.now) c.loop-rest.rest.now c.loop-rest-test.false) ∙ c.loop-rest.invariant.rest
