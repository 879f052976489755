use Rattle.std.proofs.Common.{sym, ap, pos}
use Rattle.std.proofs.lemmas.Int.{to_z-of_z}
use mir.Syntax.{w32}
use mir.Val.{of_z}
use Rattle.glsl_preproc.proofs.Fitting.{divided_zero, divided_other, from_bits, zero_fits}
use Rattle.glsl_preproc.proofs.values.divided.Goals as goal

pub returns-then-b-eq0 : goal.returns-then-b-eq0
returns-then-b-eq0 c = sym (divided_zero c.args.a c.args.b (from_bits c.args.b (pos 0) c.ranges.b zero_fits c.if-b-eq0.true))

pub returns-else-b-eq0 : goal.returns-else-b-eq0
returns-else-b-eq0 c =
    let a_fits = c.ranges.a in
    let b_fits = c.ranges.b in
    divided_other c.checked_div.result c.args.a c.args.b b_fits (λ e. c.if-b-eq0.false (ap (of_z w32) e)) (simp to_z-of_z at c.checked_div.ensures)
