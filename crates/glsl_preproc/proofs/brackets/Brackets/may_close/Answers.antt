use Rattle.std.proofs.Common.{◌≡◌, ◌<◌, length, get_or, sym, ap, ◌∙◌, arith}
use Rattle.std.proofs.lemmas.Bool.{ltb-false, ltb-true}
use Rattle.glsl_preproc.proofs.LoneClosers.{asked}
use Rattle.glsl_preproc.proofs.brackets.Brackets.may_close.Goals as goal

pub returns-else-len-counts-clause-none : goal.returns-else-len-counts-clause-none
returns-else-len-counts-clause-none c =
    let n = length c.args.rest.now in
    let size = ap length c.as_slice-counts.ensures.value in
    let same = ap (λ l. get_or l n 0) c.as_slice-counts.ensures.value in
    let found = same ∙ asked c.args.self.now.counts.items c.args.rest.now c.requires (omega arith) in
    λ h. let small = ltb-false 0 (get_or c.as_slice-counts.result.now n 0) h in
    let zero : get_or c.as_slice-counts.result.now n 0 ≡ 0 = omega arith in
    sym found ∙ zero

pub returns-else-len-counts-clause-some : goal.returns-else-len-counts-clause-some
returns-else-len-counts-clause-some c =
    let n = length c.args.rest.now in
    let size = ap length c.as_slice-counts.ensures.value in
    let same = ap (λ l. get_or l n 0) c.as_slice-counts.ensures.value in
    let found = same ∙ asked c.args.self.now.counts.items c.args.rest.now c.requires (omega arith) in
    λ g h. let some : 0 < get_or c.as_slice-counts.result.now n 0 = ltb-true 0 (get_or c.as_slice-counts.result.now n 0) h in
    omega arith
