use Rattle.std.proofs.Common.{◌<◌, length, sym, ap, ◌∙◌, arith, rules}
use Rattle.std.proofs.lemmas.Bool.Decides.{nat_tests}
use Rattle.glsl_tree.specs.Comments.{is_in_charset}
use Rattle.glsl_lex.proofs.WithoutComments.{is_clean, clean_line, clean_block, clean_open}
use Rattle.glsl_lex.proofs.charset.check_charset.Goals as goal

pub loop-rest-init : goal.loop-rest-init
unfolding is_in_charset
loop-rest-init c = search rules

pub loop-rest-preserved-in-Line : goal.loop-rest-preserved-in-Line
loop-rest-preserved-in-Line c =
    let some : 0 < length c.loop-rest.rest.now = grind (arith, nat_tests) in
    ap is_clean c.split_at-in-Line.ensures.back
    ∙ sym (clean_line c.loop-rest.rest.now c.in-Line.count some c.in-Line.ensures.front.0 (sym c.in-Line.ensures.comment))
    ∙ c.loop-rest.invariant

pub loop-rest-preserved : goal.loop-rest-preserved
loop-rest-preserved c =
    let some : 0 < length c.loop-rest.rest.now = grind (arith, nat_tests) in
    ap is_clean c.split_at-in-Block.ensures.back
    ∙ sym (clean_block c.loop-rest.rest.now c.in-Block.count some c.in-Block.ensures.front.0 (sym c.in-Block.ensures.comment))
    ∙ c.loop-rest.invariant

pub returns-in-Open : goal.returns-in-Open
returns-in-Open c =
    let some : 0 < length c.loop-rest.rest.now = grind (arith, nat_tests) in
    sym (clean_open c.loop-rest.rest.now some (sym c.in-Open.ensures.comment)) ∙ c.loop-rest.invariant
