use Rattle.std.proofs.Common.{◌≡◌, ◌<◌, ◌-◌, ◌+◌, List, [], Err, length, take, drop, sym, ap, subst, ◌∙◌, arith}
use Rattle.glsl_tree.specs.Token.{plain_tokens}
use Rattle.glsl_preproc.specs.Replacement.{Outcome}
use Rattle.glsl_preproc.specs.Expansion.{lines_from, line_of}
use Rattle.glsl_tree.specs.declared.token.Token.{Token}
use Rattle.glsl_preproc.specs.ReaderViews.{state_of, Steps, Finishes}
use Rattle.glsl_preproc.proofs.Items.{some_items, none_left}
use Rattle.glsl_preproc.proofs.Lines.{at_begin, place_more, line_more, line_done, line_fails, last_line, err_last, ok_last}
use Rattle.glsl_preproc.proofs.run.read_lines.Goals as goal

pub loop-rest-init : goal.loop-rest-init
loop-rest-init c =
    let k = length c.args.tokens.now - length c.args.tokens.now in
    let none : k ≡ 0 = omega arith in
    record {
      rest = at_begin 1024 (state_of c.args.reader.now) c.args.tokens.now k none c.requires;
      place = ap (λ j. drop j c.args.tokens.now) none;
      within = omega arith;
    }

pub returns-in-Err : goal.returns-in-Err
returns-in-Err c =
    let start = c.loop-rest.start.now in
    let rest = c.loop-rest.rest.now in
    let k = length start - length rest in
    let s = state_of c.loop-rest.reader in
    let new = state_of c.line_of.new.self in
    let some = some_items rest _ c.is_empty.ensures c.loop-rest-test.true in
    let P : List Token → Type 0 = λ l. Steps (line_of 1024 s (plain_tokens l)) new (Err c.in-Err.e) in
    let step : P (take k start) = subst P c.split_at-then-is_line_end.ensures.front c.in-Err.ensures in
    let Q : Outcome → Type 0 = λ o. Finishes o new.tokens (Err c.in-Err.e) in
    subst Q c.loop-rest.invariant.rest
    (line_fails 1024 s new start rest c.index-rest-0.result k c.in-Err.e some c.index-rest-0.is (sym c.is_line_end.ensures ∙ c.if-is_line_end.true) step)

pub loop-rest-preserved-in-Ok : goal.loop-rest-preserved-in-Ok
loop-rest-preserved-in-Ok c =
    let start = c.loop-rest.start.now in
    let rest = c.loop-rest.rest.now in
    let tail = c.split_at.result.1.now in
    let k = length start - length rest in
    let none : length tail - length tail ≡ 0 = omega arith in
    let s = state_of c.loop-rest.reader in
    let new = state_of c.line_of.new.self in
    let some = some_items rest _ c.is_empty.ensures c.loop-rest-test.true in
    let step = ap (λ l. line_of 1024 s (plain_tokens l)) (sym c.split_at-then-is_line_end.ensures.front) ∙ c.in-Ok.ensures in
    record {
      rest = ap (λ j. lines_from 1024 new (plain_tokens (take j tail)) (plain_tokens tail)) none
          ∙ ap (λ l. lines_from 1024 new [] (plain_tokens l)) c.split_at.ensures.back
          ∙ sym (line_done 1024 s new start rest c.index-rest-0.result k some c.index-rest-0.is (sym c.is_line_end.ensures ∙ c.if-is_line_end.true) step)
          ∙ c.loop-rest.invariant.rest;
      place = ap (λ j. drop j tail) none;
      within = omega arith;
    }

pub loop-rest-preserved : goal.loop-rest-preserved
loop-rest-preserved c =
    let start = c.loop-rest.start.now in
    let rest = c.loop-rest.rest.now in
    let tail = c.split_at.result.1.now in
    let k = length start - length rest in
    let j = length start - length tail in
    let s = state_of c.loop-rest.reader in
    let some = some_items rest _ c.is_empty.ensures c.loop-rest-test.true in
    let more : j ≡ k + 1 = omega arith in
    let inside : k < length start = omega arith in
    record {
      rest = ap (λ l. lines_from 1024 s (plain_tokens (take j start)) (plain_tokens l)) c.split_at.ensures.back
          ∙ line_more 1024 s start rest c.index-rest-0.result k j c.loop-rest.invariant.place more inside some c.index-rest-0.is (sym c.is_line_end.ensures ∙ c.if-is_line_end.false)
          ∙ c.loop-rest.invariant.rest;
      place = place_more start rest k j c.loop-rest.invariant.place more ∙ sym c.split_at.ensures.back;
      within = omega arith;
    }

pub returns : goal.returns
returns c =
    let start = c.loop-rest.start.now in
    let rest = c.loop-rest.rest.now in
    let k = length start - length rest in
    let s = state_of c.loop-rest.reader in
    let new = state_of c.line_of-2.new.self in
    let none : length rest ≡ 0 = none_left rest _ c.is_empty.ensures c.loop-rest-test.false in
    let whole = sym (last_line 1024 s start rest k none (omega arith)) ∙ c.loop-rest.invariant.rest in
    let Q : Outcome → Type 0 = λ o. Finishes o c.finish.new.self.tokens c.finish.result in
    subst Q (sym (ok_last 1024 s new (plain_tokens start) c.in-Ok-line_of.ensures) ∙ whole) c.finish.ensures

pub returns-in-Err-line_of : goal.returns-in-Err-line_of
returns-in-Err-line_of c =
    let start = c.loop-rest.start.now in
    let rest = c.loop-rest.rest.now in
    let k = length start - length rest in
    let s = state_of c.loop-rest.reader in
    let new = state_of c.line_of-2.new.self in
    let none : length rest ≡ 0 = none_left rest _ c.is_empty.ensures c.loop-rest-test.false in
    let whole = sym (last_line 1024 s start rest k none (omega arith)) ∙ c.loop-rest.invariant.rest in
    let Q : Outcome → Type 0 = λ o. Finishes o new.tokens (Err c.in-Err-line_of.e) in
    subst Q whole (err_last 1024 s new (plain_tokens start) c.in-Err-line_of.e c.in-Err-line_of.ensures)
