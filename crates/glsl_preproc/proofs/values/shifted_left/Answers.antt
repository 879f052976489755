use Rattle.std.proofs.Common.{◌*ℤ◌, ◌^◌, ℤ, pos, subst}
use Rattle.std.specs.Result.{OkIff}
use Rattle.std.specs.Int.RustNames.{FitsSigned}
use mir.Syntax.{w32}
use Rattle.glsl_preproc.proofs.Fitting.{ok_fitting, product_is}
use Rattle.glsl_preproc.proofs.values.shifted_left.Goals as goal

pub returns : goal.returns
returns c =
    let P : ℤ → Type 0 = λ z. OkIff c.try_from.result (FitsSigned w32 z) z in
    ok_fitting c.ok.result c.try_from.result (c.args.a *ℤ pos (2 ^ c.args.n)) c.ok.ensures.value
    (subst P (product_is c.args.a c.from.result c.from-2.result c.args.n c.ranges.a c.requires c.from.ensures c.from-2.ensures) c.try_from.ensures)
