use Rattle.std.proofs.Common.{sym}
use Rattle.std.proofs.lemmas.Int.{to_z-of_z}
use Rattle.glsl_preproc.proofs.Fitting.{count_negative, count_large, count_is}
use Rattle.glsl_preproc.proofs.values.shift_count.Goals as goal

pub returns-then-b-lt0-clause-count : goal.returns-then-b-lt0-clause-count
returns-then-b-lt0-clause-count c = let fits = c.ranges.b in sym (count_negative c.args.b (simp to_z-of_z at c.if-b-lt0.true))

pub returns-then-b-gt31-clause-count : goal.returns-then-b-gt31-clause-count
returns-then-b-gt31-clause-count c = let fits = c.ranges.b in sym (count_large c.args.b (simp to_z-of_z at c.if-b-gt31.true))

pub returns-clause-count : goal.returns-clause-count
returns-clause-count c = let fits = c.ranges.b in simp to_z-of_z (sym (count_is c.args.b (simp to_z-of_z at c.if-b-lt0.false) (simp to_z-of_z at c.if-b-gt31.false)).0)
