use Rattle.std.proofs.Common.{◌≡◌, ◌<◌, ◌+◌, ◌++◌, [], ◌∷◌, length, take, drop, refl, sym, ap, ◌∙◌, arith, Some}
use Rattle.glsl_preproc.specs.Replacement.{arguments_from}
use Rattle.glsl_preproc.specs.Views.{plain_pieces, slices}
use Rattle.glsl_preproc.proofs.ArgumentLists.{args_open, args_end, args_part, args_other, args_none, depth_zero, longer, begun}
use Rattle.glsl_preproc.proofs.calls.arguments_at.Goals as goal

pub loop-at-init : goal.loop-at-init
loop-at-init c = record {
  rest = (λ i. arguments_from (slices (c.new-lists.ensures.items i)) (begun c.args.list.now 0 i) 0 1 (plain_pieces c.args.list.now));
  start = omega arith;
  within = omega arith;
  depth = omega arith;
}

pub loop-at-preserved-then-opens : goal.loop-at-preserved-then-opens
loop-at-preserved-then-opens c =
    let list = c.args.list.now in
    let at = c.loop-at.at in
    let next = at + 1 in
    let x = c.index-list-at.result in
    let inside : at < length list = omega (arith, c.loop-at-test.true) in
    let count : 1 + next ≡ next + 1 = omega arith in
    let current = longer list at next x refl inside c.index-list-at.is c.loop-at.start c.loop-at.invariant.start in
    record {
      rest = (λ i. arguments_from (slices c.loop-at.lists.items) (current i) (c.loop-at.depth + 1) (count i) (plain_pieces (drop next list)))
          ∙ sym (args_open list at next x refl inside c.index-list-at.is (slices c.loop-at.lists.items) (plain_pieces (drop c.loop-at.start (take at list))) c.loop-at.depth (sym c.opens.ensures ∙ c.if-opens.true))
          ∙ c.loop-at.invariant.rest;
      start = omega arith;
      within = omega arith;
      depth = omega arith;
    }

pub returns-then-ends_call-clause-found : goal.returns-then-ends_call-clause-found
returns-then-ends_call-clause-found c =
    let list = c.args.list.now in
    let at = c.loop-at.at in
    let next = at + 1 in
    let x = c.index-list-at.result in
    let inside : at < length list = omega (arith, c.loop-at-test.true) in
    let part = c.split_at-then-ends_call.ensures.back ∙ ap (drop c.loop-at.start) c.split_at.ensures.front in
    let pushed = c.in_ok-push_argument.ensures ∙ ap (λ l. slices c.loop-at.lists.items ++ plain_pieces l ∷ []) part in
    (λ i. Some (pushed i, next + 1))
    ∙ sym (args_end list at next x refl inside c.index-list-at.is (slices c.loop-at.lists.items) (plain_pieces (drop c.loop-at.start (take at list))) c.loop-at.depth (sym c.opens.ensures ∙ c.if-opens.false) (sym c.ends_call.ensures ∙ c.if-ends_call.true))
    ∙ c.loop-at.invariant.rest

pub loop-at-preserved-in_ok-push_argument-2 : goal.loop-at-preserved-in_ok-push_argument-2
loop-at-preserved-in_ok-push_argument-2 c =
    let list = c.args.list.now in
    let at = c.loop-at.at in
    let next = at + 1 in
    let x = c.index-list-at.result in
    let inside : at < length list = omega (arith, c.loop-at-test.true) in
    let count : 1 + next ≡ next + 1 = omega arith in
    let parts = sym c.parts_arguments.ensures ∙ c.if-parts_arguments.true in
    let part = c.split_at-then-parts_arguments.ensures.back ∙ ap (drop c.loop-at.start) c.split_at.ensures.front in
    let pushed = c.in_ok-push_argument-2.ensures ∙ ap (λ l. slices c.loop-at.lists.items ++ plain_pieces l ∷ []) part in
    record {
      rest = (λ i. arguments_from (pushed i) (begun list next i) (depth_zero c.loop-at.depth _ parts i) (count i) (plain_pieces (drop next list)))
          ∙ sym (args_part list at next x refl inside c.index-list-at.is (slices c.loop-at.lists.items) (plain_pieces (drop c.loop-at.start (take at list))) c.loop-at.depth (sym c.opens.ensures ∙ c.if-opens.false) (sym c.ends_call.ensures ∙ c.if-ends_call.false) parts)
          ∙ c.loop-at.invariant.rest;
      start = omega arith;
      within = omega arith;
      depth = omega arith;
    }

pub loop-at-preserved : goal.loop-at-preserved
loop-at-preserved c =
    let list = c.args.list.now in
    let at = c.loop-at.at in
    let next = at + 1 in
    let x = c.index-list-at.result in
    let inside : at < length list = omega (arith, c.loop-at-test.true) in
    let count : 1 + next ≡ next + 1 = omega arith in
    let current = longer list at next x refl inside c.index-list-at.is c.loop-at.start c.loop-at.invariant.start in
    record {
      rest = (λ i. arguments_from (slices c.loop-at.lists.items) (current i) (c.depth_behind-depth.ensures.depth i) (count i) (plain_pieces (drop next list)))
          ∙ sym (args_other list at next x refl inside c.index-list-at.is (slices c.loop-at.lists.items) (plain_pieces (drop c.loop-at.start (take at list))) c.loop-at.depth (sym c.opens.ensures ∙ c.if-opens.false) (sym c.ends_call.ensures ∙ c.if-ends_call.false) (sym c.parts_arguments.ensures ∙ c.if-parts_arguments.false))
          ∙ c.loop-at.invariant.rest;
      start = omega arith;
      within = omega arith;
      depth = omega arith;
    }

pub returns-clause-found : goal.returns-clause-found
returns-clause-found c =
    sym (args_none (slices c.loop-at.lists.items) (plain_pieces (drop c.loop-at.start (take c.loop-at.at c.args.list.now))) c.loop-at.depth (1 + c.loop-at.at) c.args.list.now c.loop-at.at (omega (arith, c.loop-at-test.false)))
    ∙ c.loop-at.invariant.rest
