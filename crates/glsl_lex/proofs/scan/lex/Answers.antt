use Rattle.std.proofs.Common.{◌≡◌, ◌<◌, length, drop, sym, ap, ◌∙◌, arith}
use Rattle.std.proofs.lemmas.Bool.Decides.{nat_tests}
use Rattle.glsl_tree.specs.SourceTokens.{tokens_from, after_token}
use Rattle.glsl_lex.specs.Scan.{before}
use Rattle.glsl_lex.proofs.Reading.{read_gap, read_token, read_foreign, read_end}
use Rattle.glsl_lex.proofs.scan.lex.Goals as goal

pub loop-rest-preserved-in-Gap : goal.loop-rest-preserved-in-Gap
loop-rest-preserved-in-Gap c =
    let rest = c.loop-rest.rest.now in
    let state = before c.loop-rest.scanner in
    let some : 0 < length rest = grind (arith, nat_tests) in
    let front = c.in-Gap.ensures.front in
    record {
      rest = (λ i. tokens_from (c.skip.ensures.gap i) 0 (c.split_at.ensures.back i))
          ∙ sym (read_gap state rest c.in-Gap.count c.in-Gap.lines some front.0 c.in-Gap.ensures.piece)
          ∙ c.loop-rest.invariant.rest;
      within = omega arith;
      lines = omega arith;
    }

pub loop-rest-preserved : goal.loop-rest-preserved
loop-rest-preserved c =
    let rest = c.loop-rest.rest.now in
    let state = before c.loop-rest.scanner in
    let some : 0 < length rest = grind (arith, nat_tests) in
    let front = c.in-Token.ensures.front in
    record {
      rest = (λ i. tokens_from (c.in-Ok.ensures.token i) 0 (c.split_at-in-Token.ensures.back i))
          ∙ ap (λ text. tokens_from (after_token state c.in-Token.class text) 0 (drop c.in-Token.count rest)) c.split_at-in-Token.ensures.front
          ∙ sym (read_token state rest c.in-Token.class c.in-Token.count some front.0 c.in-Token.ensures.piece)
          ∙ c.loop-rest.invariant.rest;
      within = omega arith;
      lines = omega (arith, c.in-Ok.ensures.line);
    }

pub returns-in-Foreign : goal.returns-in-Foreign
returns-in-Foreign c =
    let some : 0 < length c.loop-rest.rest.now = grind (arith, nat_tests) in
    sym c.loop-rest.invariant.rest ∙ read_foreign (before c.loop-rest.scanner) c.loop-rest.rest.now some c.in-Foreign.ensures.piece

pub returns : goal.returns
returns c =
    let none : length c.loop-rest.rest.now ≡ 0 = grind (arith, nat_tests) in
    sym c.loop-rest.invariant.rest ∙ read_end (before c.loop-rest.scanner) c.loop-rest.rest.now none
