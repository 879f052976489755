use Rattle.std.proofs.Common.{sym, ap, ◌∙◌, pos, negsuc}
use Rattle.std.proofs.lemmas.Int.{to_z-of_z}
use mir.Syntax.{w32}
use mir.Val.{of_z}
use Rattle.glsl_preproc.specs.Values.{remainder}
use Rattle.glsl_preproc.proofs.Fitting.{remainder_zero, remainder_other, remainder_minus, rem_fits, from_bits, zero_fits, minus_fits}
use Rattle.glsl_preproc.proofs.values.remainder.Goals as goal

pub returns-then-b-eq0 : goal.returns-then-b-eq0
returns-then-b-eq0 c = sym (remainder_zero c.args.a c.args.b (from_bits c.args.b (pos 0) c.ranges.b zero_fits c.if-b-eq0.true))

pub returns-then-b-eqminus1 : goal.returns-then-b-eqminus1
returns-then-b-eqminus1 c = sym (ap (remainder c.args.a) (from_bits c.args.b (negsuc 0) c.ranges.b minus_fits c.if-b-eqminus1.true) ∙ remainder_minus c.args.a)

pub returns-else-b-eqminus1 : goal.returns-else-b-eqminus1
returns-else-b-eqminus1 c =
    let a_fits = c.ranges.a in
    let b_fits = c.ranges.b in
    let rest_fits = rem_fits c.args.a c.args.b a_fits in
    simp to_z-of_z (sym (remainder_other c.args.a c.args.b (λ e. c.if-b-eq0.false (ap (of_z w32) e))))
