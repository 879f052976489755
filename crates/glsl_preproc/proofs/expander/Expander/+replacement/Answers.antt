use Rattle.std.proofs.Common.{◌≡◌, ◌<◌, ◌+◌, ◌-◌, ◌++◌, List, [], ◌∷◌, Result, Err, length, drop, refl, sym, ap, subst, ◌∙◌, arith}
use Rattle.glsl_tree.specs.Token.{PlainToken}
use Rattle.glsl_preproc.specs.Replacement.{Outcome, End, Kept, LineNumber, Object, Call, WrongCount, use_of, line_number, list_from, expanded, object_outcome, call_outcome, expanded_arguments}
use Rattle.glsl_preproc.specs.LoneClosers.{AreCounts}
use Rattle.glsl_preproc.specs.Views.{plain_piece, plain_pieces, plain_macro, slices, parameters_of, use_view, Expands, ExpandsArguments, argument_error}
use Rattle.glsl_preproc.specs.declared.pieces.Piece.{Piece}
use Rattle.glsl_preproc.specs.declared.errors.Pre.{Pre}
use Rattle.glsl_preproc.proofs.LoneClosers.{no_counts, counts_later}
use Rattle.glsl_preproc.proofs.Items.{first_dropped, dropped_none}
use Rattle.glsl_preproc.proofs.Expanding.{expanded_more, step_at, list_end, behind_whole, err_push, err_behind, err_argument, arguments_first, arguments_end}
use Rattle.glsl_preproc.proofs.expander.Expander.+replacement.Goals as goal

pub expand_list-loop-at-init : goal.expand_list-loop-at-init
expand_list-loop-at-init t c = record {
  rest = sym (expanded_more (c.args.levels - 1) c.args.levels c.args.self.now.macros.now c.args.self.now.hidden c.args.out.now (plain_pieces c.args.list.now) (omega arith));
  macros = refl;
  hidden = refl;
  levels = omega arith;
  counts = no_counts _ _ c.new-brackets.ensures;
}

pub expand_list-use_of-requires : goal.expand_list-use_of-requires
expand_list-use_of-requires t c =
    let P : List Piece → Type 0 = λ l. AreCounts c.loop-at.brackets.counts.items (plain_pieces l) in
    subst P (sym c.split_at.ensures.back) (counts_later _ c.loop-at.at 1 (c.loop-at.at + 1) c.args.list.now refl c.loop-at.invariant.counts)

pub expand_list-loop-at-preserved-in-Ok-keep : goal.expand_list-loop-at-preserved-in-Ok-keep
expand_list-loop-at-preserved-in-Ok-keep t c =
    let list = c.args.list.now in
    let at = c.loop-at.at in
    let next = at + 1 in
    let n = c.args.levels - 1 in
    let macros = c.loop-at.self.macros.now in
    let hidden = c.loop-at.self.hidden in
    let x = c.index-list-at.result in
    let inside : at < length list = omega (arith, c.loop-at-test.true) in
    let used = sym (ap use_view c.in-Kept.is) ∙ c.in-Ok-use_of.ensures.used ∙ (λ i. use_of macros hidden (plain_piece x) (plain_pieces (c.split_at.ensures.back i))) in
    let Q : List Piece → Type 0 = λ l. AreCounts c.use_of.new.brackets.counts.items (plain_pieces l) in
    record {
      rest = (λ i. list_from (expanded n macros) macros hidden (c.in-Ok-keep.ensures.ok i) 0 (plain_pieces (drop next list)))
          ∙ sym (step_at (expanded n macros) macros hidden c.loop-at.out list at next x Kept refl inside c.index-list-at.is used) ∙ c.loop-at.invariant.rest;
      macros = c.loop-at.invariant.macros;
      hidden = c.loop-at.invariant.hidden;
      levels = c.loop-at.invariant.levels;
      counts = subst Q c.split_at.ensures.back c.in-Ok-use_of.ensures.counts;
    }

pub expand_list-returns-in-Err-clause-outcome : goal.expand_list-returns-in-Err-clause-outcome
expand_list-returns-in-Err-clause-outcome t c =
    let list = c.args.list.now in
    let at = c.loop-at.at in
    let next = at + 1 in
    let n = c.args.levels - 1 in
    let macros = c.loop-at.self.macros.now in
    let hidden = c.loop-at.self.hidden in
    let x = c.index-list-at.result in
    let inside : at < length list = omega (arith, c.loop-at-test.true) in
    let used = sym (ap use_view c.in-Kept.is) ∙ c.in-Ok-use_of.ensures.used ∙ (λ i. use_of macros hidden (plain_piece x) (plain_pieces (c.split_at.ensures.back i))) in
    err_push n macros hidden c.loop-at.out (plain_piece x) (plain_pieces (drop next list)) _ _ c.in-Err.e
    (sym c.loop-at.invariant.rest ∙ step_at (expanded n macros) macros hidden c.loop-at.out list at next x Kept refl inside c.index-list-at.is used)
    c.in-Err.ensures.never c.in-Err.ensures.full

pub expand_list-loop-at-preserved-in-Ok-keep-2 : goal.expand_list-loop-at-preserved-in-Ok-keep-2
expand_list-loop-at-preserved-in-Ok-keep-2 t c =
    let list = c.args.list.now in
    let at = c.loop-at.at in
    let next = at + 1 in
    let n = c.args.levels - 1 in
    let macros = c.loop-at.self.macros.now in
    let hidden = c.loop-at.self.hidden in
    let x = c.index-list-at.result in
    let inside : at < length list = omega (arith, c.loop-at-test.true) in
    let used = sym (ap use_view c.in-LineNumber.is) ∙ c.in-Ok-use_of.ensures.used ∙ (λ i. use_of macros hidden (plain_piece x) (plain_pieces (c.split_at.ensures.back i))) in
    let pushed = c.in-Ok-keep-2.ensures.ok ∙ ap (λ k. c.loop-at.out ++ k ∷ []) c.line_number.ensures in
    let Q : List Piece → Type 0 = λ l. AreCounts c.use_of.new.brackets.counts.items (plain_pieces l) in
    record {
      rest = (λ i. list_from (expanded n macros) macros hidden (pushed i) 0 (plain_pieces (drop next list)))
          ∙ sym (step_at (expanded n macros) macros hidden c.loop-at.out list at next x LineNumber refl inside c.index-list-at.is used) ∙ c.loop-at.invariant.rest;
      macros = c.loop-at.invariant.macros;
      hidden = c.loop-at.invariant.hidden;
      levels = c.loop-at.invariant.levels;
      counts = subst Q c.split_at.ensures.back c.in-Ok-use_of.ensures.counts;
    }

pub expand_list-returns-in-Err-keep-clause-outcome : goal.expand_list-returns-in-Err-keep-clause-outcome
expand_list-returns-in-Err-keep-clause-outcome t c =
    let list = c.args.list.now in
    let at = c.loop-at.at in
    let next = at + 1 in
    let n = c.args.levels - 1 in
    let macros = c.loop-at.self.macros.now in
    let hidden = c.loop-at.self.hidden in
    let x = c.index-list-at.result in
    let inside : at < length list = omega (arith, c.loop-at-test.true) in
    let used = sym (ap use_view c.in-LineNumber.is) ∙ c.in-Ok-use_of.ensures.used ∙ (λ i. use_of macros hidden (plain_piece x) (plain_pieces (c.split_at.ensures.back i))) in
    err_push n macros hidden c.loop-at.out (line_number (plain_piece x)) (plain_pieces (drop next list)) _ _ c.in-Err-keep.e
    (sym c.loop-at.invariant.rest ∙ step_at (expanded n macros) macros hidden c.loop-at.out list at next x LineNumber refl inside c.index-list-at.is used)
    c.in-Err-keep.ensures.never c.in-Err-keep.ensures.full

pub expand_list-returns-in-WrongCount-clause-outcome : goal.expand_list-returns-in-WrongCount-clause-outcome
expand_list-returns-in-WrongCount-clause-outcome t c =
    let list = c.args.list.now in
    let at = c.loop-at.at in
    let macros = c.loop-at.self.macros.now in
    let hidden = c.loop-at.self.hidden in
    let x = c.index-list-at.result in
    let inside : at < length list = omega (arith, c.loop-at-test.true) in
    let used = sym (ap use_view c.in-WrongCount.is) ∙ c.in-Ok-use_of.ensures.used ∙ (λ i. use_of macros hidden (plain_piece x) (plain_pieces (c.split_at.ensures.back i))) in
    sym c.loop-at.invariant.rest ∙ step_at (expanded (c.args.levels - 1) macros) macros hidden c.loop-at.out list at (at + 1) x WrongCount refl inside c.index-list-at.is used

pub expand_list-loop-at-preserved-in-Ok-expand_object : goal.expand_list-loop-at-preserved-in-Ok-expand_object
expand_list-loop-at-preserved-in-Ok-expand_object t c =
    let list = c.args.list.now in
    let at = c.loop-at.at in
    let next = at + 1 in
    let n = c.args.levels - 1 in
    let macros = c.loop-at.self.macros.now in
    let hidden = c.loop-at.self.hidden in
    let x = c.index-list-at.result in
    let m = plain_macro c.in-Object.m.now in
    let inside : at < length list = omega (arith, c.loop-at-test.true) in
    let none : next ≡ next + 0 = omega arith in
    let used = sym (ap use_view c.in-Object.is) ∙ c.in-Ok-use_of.ensures.used ∙ (λ i. use_of macros hidden (plain_piece x) (plain_pieces (c.split_at.ensures.back i))) in
    let Q : List Piece → Type 0 = λ l. AreCounts c.use_of.new.brackets.counts.items (plain_pieces l) in
    record {
      rest = (λ i. list_from (expanded n (c.in-Ok-expand_object.ensures.macros i)) (c.in-Ok-expand_object.ensures.macros i) (c.in-Ok-expand_object.ensures.hidden i) c.expand_object.new.out 0 (plain_pieces (drop next list)))
          ∙ sym (step_at (expanded n macros) macros hidden c.loop-at.out list at next x (Object m) refl inside c.index-list-at.is used
          ∙ behind_whole (expanded n macros) macros hidden 0 list next next (object_outcome (expanded n macros) hidden c.loop-at.out (plain_piece x) m) c.expand_object.new.out none c.in-Ok-expand_object.ensures.outcome)
          ∙ c.loop-at.invariant.rest;
      macros = c.in-Ok-expand_object.ensures.macros ∙ c.loop-at.invariant.macros;
      hidden = c.in-Ok-expand_object.ensures.hidden ∙ c.loop-at.invariant.hidden;
      levels = c.loop-at.invariant.levels;
      counts = subst Q c.split_at.ensures.back c.in-Ok-use_of.ensures.counts;
    }

pub expand_list-returns-in-Err-expand_object-clause-outcome : goal.expand_list-returns-in-Err-expand_object-clause-outcome
expand_list-returns-in-Err-expand_object-clause-outcome t c =
    let list = c.args.list.now in
    let at = c.loop-at.at in
    let next = at + 1 in
    let n = c.args.levels - 1 in
    let macros = c.loop-at.self.macros.now in
    let hidden = c.loop-at.self.hidden in
    let x = c.index-list-at.result in
    let m = plain_macro c.in-Object.m.now in
    let inside : at < length list = omega (arith, c.loop-at-test.true) in
    let used = sym (ap use_view c.in-Object.is) ∙ c.in-Ok-use_of.ensures.used ∙ (λ i. use_of macros hidden (plain_piece x) (plain_pieces (c.split_at.ensures.back i))) in
    err_behind n 0 macros hidden (plain_pieces (drop next list)) (object_outcome (expanded n macros) hidden c.loop-at.out (plain_piece x) m) _ _ c.in-Err-expand_object.e
    (sym c.loop-at.invariant.rest ∙ step_at (expanded n macros) macros hidden c.loop-at.out list at next x (Object m) refl inside c.index-list-at.is used) c.in-Err-expand_object.ensures.outcome

pub expand_list-loop-at-preserved : goal.expand_list-loop-at-preserved
expand_list-loop-at-preserved t c =
    let list = c.args.list.now in
    let at = c.loop-at.at in
    let next = at + 1 in
    let n = c.args.levels - 1 in
    let macros = c.loop-at.self.macros.now in
    let hidden = c.loop-at.self.hidden in
    let x = c.index-list-at.result in
    let m = plain_macro c.in-Call.m.now in
    let parameters = parameters_of c.in-Call.m.now.parameters in
    let arguments = slices c.in-Call.arguments.lists.items in
    let k = c.in-Call.arguments.count in
    let last = at + (1 + k) in
    let far : last ≡ next + k = omega arith in
    let inside : at < length list = omega (arith, c.loop-at-test.true) in
    let used = sym (ap use_view c.in-Call.is) ∙ c.in-Ok-use_of.ensures.used ∙ (λ i. use_of macros hidden (plain_piece x) (plain_pieces (c.split_at.ensures.back i))) in
    let Q : List Piece → Type 0 = λ l. AreCounts c.use_of.new.brackets.counts.items (plain_pieces l) in
    record {
      rest = (λ i. list_from (expanded n (c.in-Ok-expand_call.ensures.macros i)) (c.in-Ok-expand_call.ensures.macros i) (c.in-Ok-expand_call.ensures.hidden i) c.expand_call.new.out 0 (plain_pieces (drop last list)))
          ∙ sym (step_at (expanded n macros) macros hidden c.loop-at.out list at next x (Call m parameters arguments k) refl inside c.index-list-at.is used
          ∙ behind_whole (expanded n macros) macros hidden k list next last (call_outcome (expanded n macros) hidden c.loop-at.out (plain_piece x) m parameters arguments) c.expand_call.new.out far c.in-Ok-expand_call.ensures.outcome)
          ∙ c.loop-at.invariant.rest;
      macros = c.in-Ok-expand_call.ensures.macros ∙ c.loop-at.invariant.macros;
      hidden = c.in-Ok-expand_call.ensures.hidden ∙ c.loop-at.invariant.hidden;
      levels = c.loop-at.invariant.levels;
      counts = counts_later _ next k last list far (subst Q c.split_at.ensures.back c.in-Ok-use_of.ensures.counts);
    }

pub expand_list-returns-in-Err-expand_call-clause-outcome : goal.expand_list-returns-in-Err-expand_call-clause-outcome
expand_list-returns-in-Err-expand_call-clause-outcome t c =
    let list = c.args.list.now in
    let at = c.loop-at.at in
    let next = at + 1 in
    let n = c.args.levels - 1 in
    let macros = c.loop-at.self.macros.now in
    let hidden = c.loop-at.self.hidden in
    let x = c.index-list-at.result in
    let m = plain_macro c.in-Call.m.now in
    let parameters = parameters_of c.in-Call.m.now.parameters in
    let arguments = slices c.in-Call.arguments.lists.items in
    let k = c.in-Call.arguments.count in
    let inside : at < length list = omega (arith, c.loop-at-test.true) in
    let used = sym (ap use_view c.in-Call.is) ∙ c.in-Ok-use_of.ensures.used ∙ (λ i. use_of macros hidden (plain_piece x) (plain_pieces (c.split_at.ensures.back i))) in
    err_behind n k macros hidden (plain_pieces (drop next list)) (call_outcome (expanded n macros) hidden c.loop-at.out (plain_piece x) m parameters arguments) _ _ c.in-Err-expand_call.e
    (sym c.loop-at.invariant.rest ∙ step_at (expanded n macros) macros hidden c.loop-at.out list at next x (Call m parameters arguments k) refl inside c.index-list-at.is used) c.in-Err-expand_call.ensures.outcome

pub expand_list-returns-clause-outcome : goal.expand_list-returns-clause-outcome
expand_list-returns-clause-outcome t c =
    let macros = c.loop-at.self.macros.now in
    sym c.loop-at.invariant.rest ∙ list_end (expanded (c.args.levels - 1) macros) macros c.loop-at.self.hidden c.loop-at.out c.args.list.now c.loop-at.at (omega (arith, c.loop-at-test.false))

pub expand_arguments-loop-at-preserved : goal.expand_arguments-loop-at-preserved
expand_arguments-loop-at-preserved t c =
    let all = c.args.arguments.now in
    let at = c.loop-at.at in
    let below = expanded c.args.levels c.args.self.now.macros.now c.args.self.now.hidden [] in
    let a = c.index-arguments-at.result in
    let whole = (λ i. expanded c.args.levels (sym c.loop-at.invariant.macros i) (sym c.loop-at.invariant.hidden i) (sym c.new-tokens.ensures i) (plain_pieces (sym c.as_pieces.ensures i))) ∙ c.in-Ok.ensures.outcome in
    record {
      rest = ap (λ l. expanded_arguments below l (slices (drop (at + 1) all))) c.in-Ok-push_expanded.ensures
          ∙ sym (first_dropped (λ l. expanded_arguments below c.loop-at.done.items (slices l)) all at (at + 1) a (omega arith) (omega (arith, c.loop-at-test.true)) c.index-arguments-at.is
          ∙ arguments_first below c.loop-at.done.items (plain_pieces a.now) (slices (drop (at + 1) all)) c.expand_list.new.out whole)
          ∙ c.loop-at.invariant.rest;
      macros = c.in-Ok.ensures.macros ∙ c.loop-at.invariant.macros;
      hidden = c.in-Ok.ensures.hidden ∙ c.loop-at.invariant.hidden;
    }

pub expand_arguments-returns-in-Err-clause-outcome : goal.expand_arguments-returns-in-Err-clause-outcome
expand_arguments-returns-in-Err-clause-outcome t c =
    let all = c.args.arguments.now in
    let at = c.loop-at.at in
    let below = expanded c.args.levels c.args.self.now.macros.now c.args.self.now.hidden [] in
    let a = c.index-arguments-at.result in
    let new = c.expand_list.new.out in
    let P : Outcome → Type 0 = λ o. Expands o new (Err c.in-Err.e) in
    let failed : P (below (plain_pieces a.now)) = subst P (λ i. expanded c.args.levels (c.loop-at.invariant.macros i) (c.loop-at.invariant.hidden i) (c.new-tokens.ensures i) (plain_pieces (c.as_pieces.ensures i))) c.in-Err.ensures.outcome in
    let Q : Result (List (List PlainToken)) End → Type 0 = λ r. ExpandsArguments r (Err (argument_error c.in-Err.e)) in
    let R : Pre → Type 0 = λ e. ExpandsArguments (expanded_arguments below [] (slices all)) (Err e) in
    subst R (sym c.argument_error.ensures)
    (subst Q (sym (first_dropped (λ l. expanded_arguments below c.loop-at.done.items (slices l)) all at (at + 1) a (omega arith) (omega (arith, c.loop-at-test.true)) c.index-arguments-at.is) ∙ c.loop-at.invariant.rest)
    (err_argument below c.loop-at.done.items (plain_pieces a.now) (slices (drop (at + 1) all)) new c.in-Err.e failed))

pub expand_arguments-returns-clause-outcome : goal.expand_arguments-returns-clause-outcome
expand_arguments-returns-clause-outcome t c =
    let below = expanded c.args.levels c.args.self.now.macros.now c.args.self.now.hidden [] in
    sym c.loop-at.invariant.rest ∙ dropped_none (λ l. expanded_arguments below c.loop-at.done.items (slices l)) c.args.arguments.now c.loop-at.at (omega (arith, c.loop-at-test.false)) ∙ arguments_end below c.loop-at.done.items
