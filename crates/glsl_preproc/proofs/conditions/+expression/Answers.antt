use Rattle.std.proofs.Common.{◌≡◌, ◌-◌, ◌+◌, drop, Some, None, true, false, refl, sym, ap, ◌∙◌, arith}
use Rattle.std.proofs.lemmas.Bool.{false≢true}
use Rattle.glsl_tree.specs.Token.{plain_tokens}
use Rattle.glsl_preproc.specs.Values.{applied}
use Rattle.glsl_preproc.specs.Conditions.{in_brackets, behind_sign, chain_from, chain_behind, expression_at, operand_within}
use Rattle.glsl_preproc.specs.ConditionViews.{signed, parsed_of}
use Rattle.glsl_preproc.proofs.Items.{some_items, none_left}
use Rattle.glsl_preproc.proofs.Expressions.{expression_zero, expression_more, chain_skip, chain_at, chain_end, chained, operand_zero, operand_first, operand_none}
use Rattle.glsl_preproc.proofs.conditions.+expression.Goals as goal

pub chain-returns-in-Wrong-clause-parsed : goal.chain-returns-in-Wrong-clause-parsed
chain-returns-in-Wrong-clause-parsed t c = ap (λ p. chain_behind (expression_at (operand_within c.args.levels) (c.args.level - 1)) c.args.level (plain_tokens c.args.list.now) (parsed_of p)) (sym c.in-Wrong.is)

pub chain-returns-in-TooDeep-clause-parsed : goal.chain-returns-in-TooDeep-clause-parsed
chain-returns-in-TooDeep-clause-parsed t c = ap (λ p. chain_behind (expression_at (operand_within c.args.levels) (c.args.level - 1)) c.args.level (plain_tokens c.args.list.now) (parsed_of p)) (sym c.in-TooDeep.is)

pub chain-loop-rest-init : goal.chain-loop-rest-init
chain-loop-rest-init t c =
    let operand = expression_at (operand_within c.args.levels) (c.args.level - 1) in
    record {
      rest = ap (λ l. chain_from operand c.args.level c.in-Read.value c.in-Read.count 0 (plain_tokens l)) c.split_at.ensures.back
          ∙ sym (chain_skip operand c.args.level c.in-Read.value c.in-Read.count c.in-Read.count c.args.list.now)
          ∙ ap (λ p. chain_behind operand c.args.level (plain_tokens c.args.list.now) (parsed_of p)) (sym c.in-Read.is);
      count = omega arith;
    }

pub chain-returns-in-None-clause-parsed : goal.chain-returns-in-None-clause-parsed
chain-returns-in-None-clause-parsed t c =
    let rest = c.loop-rest.rest.now in
    let some = some_items rest _ c.is_empty.ensures c.loop-rest-test.true in
    sym (chain_at (expression_at (operand_within c.args.levels) (c.args.level - 1)) c.args.level c.loop-rest.value c.loop-rest.count rest c.index-rest-0.result None some c.index-rest-0.is c.in-None.ensures) ∙ c.loop-rest.invariant.rest

pub chain-loop-rest-preserved : goal.chain-loop-rest-preserved
chain-loop-rest-preserved t c =
    let rest = c.loop-rest.rest.now in
    let operand = expression_at (operand_within c.args.levels) (c.args.level - 1) in
    let v = c.loop-rest.value in
    let count = c.loop-rest.count in
    let op = c.in-Some.op in
    let taken = c.in-Read-expression.taken in
    let some = some_items rest _ c.is_empty.ensures c.loop-rest-test.true in
    let parsed = c.in-Read-expression.ensures.parsed ∙ ap (λ l. operand (plain_tokens l)) c.split_at-in-loop-rest.ensures.back in
    let total : count + (1 + taken) ≡ count + 1 + taken = omega arith in
    record {
      rest = (λ i. chain_from operand c.args.level (c.applied-value.ensures i) (total i) 0 (plain_tokens (c.split_at-in-Read-expression.ensures.back i)))
          ∙ ap (λ l. chain_from operand c.args.level (applied op v c.in-Read-expression.right) (count + 1 + taken) 0 (plain_tokens (drop taken l))) c.split_at-in-loop-rest.ensures.back
          ∙ sym (chain_at operand c.args.level v count rest c.index-rest-0.result (Some op) some c.index-rest-0.is c.in-Some.ensures
          ∙ ap (chained operand c.args.level v count (plain_tokens (drop 1 rest)) op) (sym parsed)
          ∙ chain_skip operand c.args.level (applied op v c.in-Read-expression.right) (count + 1 + taken) taken (drop 1 rest))
          ∙ c.loop-rest.invariant.rest;
      count = omega arith;
    }

pub chain-returns-in-Wrong-expression-clause-parsed : goal.chain-returns-in-Wrong-expression-clause-parsed
chain-returns-in-Wrong-expression-clause-parsed t c =
    let rest = c.loop-rest.rest.now in
    let operand = expression_at (operand_within c.args.levels) (c.args.level - 1) in
    let some = some_items rest _ c.is_empty.ensures c.loop-rest-test.true in
    let parsed = c.in-Wrong-expression.ensures.parsed ∙ ap (λ l. operand (plain_tokens l)) c.split_at-in-loop-rest.ensures.back in
    sym (chain_at operand c.args.level c.loop-rest.value c.loop-rest.count rest c.index-rest-0.result (Some c.in-Some.op) some c.index-rest-0.is c.in-Some.ensures
    ∙ ap (chained operand c.args.level c.loop-rest.value c.loop-rest.count (plain_tokens (drop 1 rest)) c.in-Some.op) (sym parsed))
    ∙ c.loop-rest.invariant.rest

pub chain-returns-in-TooDeep-expression-clause-parsed : goal.chain-returns-in-TooDeep-expression-clause-parsed
chain-returns-in-TooDeep-expression-clause-parsed t c =
    let rest = c.loop-rest.rest.now in
    let operand = expression_at (operand_within c.args.levels) (c.args.level - 1) in
    let some = some_items rest _ c.is_empty.ensures c.loop-rest-test.true in
    let parsed = c.in-TooDeep-expression.ensures.parsed ∙ ap (λ l. operand (plain_tokens l)) c.split_at-in-loop-rest.ensures.back in
    sym (chain_at operand c.args.level c.loop-rest.value c.loop-rest.count rest c.index-rest-0.result (Some c.in-Some.op) some c.index-rest-0.is c.in-Some.ensures
    ∙ ap (chained operand c.args.level c.loop-rest.value c.loop-rest.count (plain_tokens (drop 1 rest)) c.in-Some.op) (sym parsed))
    ∙ c.loop-rest.invariant.rest

pub chain-returns-clause-parsed : goal.chain-returns-clause-parsed
chain-returns-clause-parsed t c =
    sym (chain_end (expression_at (operand_within c.args.levels) (c.args.level - 1)) c.args.level c.loop-rest.value c.loop-rest.count c.loop-rest.rest.now (none_left _ _ c.is_empty.ensures c.loop-rest-test.false)) ∙ c.loop-rest.invariant.rest

pub expression-loop-done-init : goal.expression-loop-done-init
expression-loop-done-init t c = record {
  parsed = c.operand-parsed.ensures.parsed ∙ sym (expression_zero (operand_within c.args.levels) 0 (plain_tokens c.args.list.now) refl);
  within = c.operand-parsed.ensures.within;
  most = omega arith;
}

pub expression-loop-done-preserved : goal.expression-loop-done-preserved
expression-loop-done-preserved t c =
    let operand = operand_within c.args.levels in
    let list = plain_tokens c.args.list.now in
    let done = c.loop-done.done in
    let same : done + 1 - 1 ≡ done = omega arith in
    record {
      parsed = c.chain-parsed.ensures.parsed ∙ ap (λ k. chain_behind (expression_at operand k) (done + 1) list (parsed_of c.loop-done.parsed)) same
          ∙ ap (chain_behind (expression_at operand done) (done + 1) list) c.loop-done.invariant.parsed ∙ sym (expression_more operand done (done + 1) list refl);
      within = c.chain-parsed.ensures.within;
      most = omega arith;
    }

pub expression-returns-clause-parsed : goal.expression-returns-clause-parsed
expression-returns-clause-parsed t c =
    let same : c.loop-done.done ≡ c.args.level = omega (arith, c.loop-done-test.false) in
    c.loop-done.invariant.parsed ∙ ap (λ k. expression_at (operand_within c.args.levels) k (plain_tokens c.args.list.now)) same

pub operand-returns-then-levels-eq0-clause-parsed : goal.operand-returns-then-levels-eq0-clause-parsed
operand-returns-then-levels-eq0-clause-parsed t c = sym (operand_zero c.args.levels (plain_tokens c.args.list.now) c.if-levels-eq0.true)

pub operand-returns-then-is_empty-clause-parsed : goal.operand-returns-then-is_empty-clause-parsed
operand-returns-then-is_empty-clause-parsed t c = sym (operand_none (c.args.levels - 1) c.args.levels c.args.list.now (omega arith) (none_left _ _ c.is_empty.ensures c.if-is_empty.true))

pub operand-returns-then-opens-clause-parsed : goal.operand-returns-then-opens-clause-parsed
operand-returns-then-opens-clause-parsed t c =
    let list = c.args.list.now in
    let n = c.args.levels - 1 in
    let some = some_items list _ c.is_empty.ensures c.if-is_empty.false in
    c.in_brackets.ensures.parsed
    ∙ ap (in_brackets (plain_tokens c.split_at.result.1.now)) c.expression.ensures.parsed
    ∙ ap (λ l. in_brackets (plain_tokens l) (expression_at (operand_within n) 10 (plain_tokens l))) c.split_at.ensures.back
    ∙ sym (operand_first n c.args.levels list c.index-list-0.result true None (omega arith) some c.index-list-0.is (sym c.opens.ensures ∙ c.if-opens.true) (λ e. absurd (false≢true (sym e))))

pub operand-returns-in-Some-clause-parsed : goal.operand-returns-in-Some-clause-parsed
operand-returns-in-Some-clause-parsed t c =
    let list = c.args.list.now in
    let n = c.args.levels - 1 in
    let some = some_items list _ c.is_empty.ensures c.if-is_empty.false in
    c.behind_sign.ensures.parsed
    ∙ ap (behind_sign (signed c.in-Some.sign)) (c.operand.ensures.parsed ∙ ap (λ l. operand_within n (plain_tokens l)) c.split_at.ensures.back)
    ∙ sym (operand_first n c.args.levels list c.index-list-0.result false (Some c.in-Some.sign) (omega arith) some c.index-list-0.is (sym c.opens.ensures ∙ c.if-opens.false) (λ e. c.in-Some.ensures))

pub operand-returns-in-None-clause-parsed : goal.operand-returns-in-None-clause-parsed
operand-returns-in-None-clause-parsed t c =
    let list = c.args.list.now in
    let n = c.args.levels - 1 in
    let some = some_items list _ c.is_empty.ensures c.if-is_empty.false in
    c.primary.ensures.parsed
    ∙ sym (operand_first n c.args.levels list c.index-list-0.result false None (omega arith) some c.index-list-0.is (sym c.opens.ensures ∙ c.if-opens.false) (λ e. c.in-None.ensures))
