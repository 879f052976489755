use Rattle.std.proofs.Common.{sym, ap, ◌∙◌, arith}
use Rattle.glsl_preproc.specs.Replacement.{argument_of}
use Rattle.glsl_preproc.specs.Views.{parameters_of}
use Rattle.glsl_preproc.proofs.NamePlaces.{argument_at, argument_past, argument_none}
use Rattle.glsl_preproc.proofs.parameters.argument_of.Goals as goal
use Rattle.glsl_preproc.proofs.parameters.argument_of.Goals.{in_default-via-in-Some-place+else-place-arguments, in_default-via-in_default}

pub returns-in-Some-place : goal.returns-in-Some-place
returns-in-Some-place c =
    let same = ap (λ p. argument_of (parameters_of p) c.args.arguments.now c.args.name.now) c.in-Some.is in
    sym (same ∙ argument_at _ c.args.arguments.now _ c.in-Some-place.place c.index-arguments-place.result (sym c.place.ensures ∙ c.in-Some-place.is) (omega (arith, c.if-place-arguments.true)) c.index-arguments-place.is)

pub returns-in_default : goal.returns-in_default
returns-in_default c =
    let same = ap (λ p. argument_of (parameters_of p) c.args.arguments.now c.args.name.now) c.in-Some.is in
    elim c.in_default.branch [
      | in_default-via-in-Some-place+else-place-arguments w ↦
          sym (same ∙ argument_past _ c.args.arguments.now _ w.in-Some-place.place (sym c.place.ensures ∙ w.in-Some-place.is) (omega (arith, w.if-place-arguments.false)))
      | in_default-via-in_default w ↦ sym (same ∙ argument_none _ c.args.arguments.now _ (sym c.place.ensures ∙ w.in_default.is))
    ]
