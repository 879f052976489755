use Rattle.std.proofs.Common.{is_some, ap, ◌∙◌}
use Rattle.glsl_preproc.proofs.NamePlaces.{any_place}
use Rattle.glsl_preproc.proofs.names.Names.contains.Goals as goal

pub returns : goal.returns
returns c = c.is_some.ensures ∙ ap is_some c.place.ensures ∙ any_place c.args.self.now c.args.name.now
