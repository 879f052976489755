use Rattle.std.proofs.Common.{◌≡◌, sym, ap, ◌∙◌, arith, Some, pos}
use Rattle.std.proofs.lemmas.Int.{ints}
use Rattle.std.proofs.lemmas.List.{drop_all}
use mir.Syntax.{w32}
use mir.Val.{to_z}
use Rattle.glsl_tree.specs.Spellings.{number_from}
use Rattle.glsl_preproc.specs.Values.{fitting}
use Rattle.glsl_preproc.proofs.Fitting.{fitting_small}
use Rattle.glsl_preproc.proofs.numbers.number_of.Goals as goal

pub returns-else-number-gt2147483647-2 : goal.returns-else-number-gt2147483647-2
returns-else-number-gt2147483647-2 c =
    let n = c.loop-digit.number in
    let same : to_z w32 n ≡ pos n = omega (arith, ints) in
    ap Some same ∙ sym (fitting_small n (omega arith))
    ∙ ap (λ k. fitting (pos k)) (ap (number_from c.args.base n) (sym (drop_all c.loop-digit.digit-index c.args.digits.now c.loop-digit-test.false)) ∙ c.loop-digit.invariant)
