use Rattle.std.proofs.Common.{map, ap, ◌∙◌}
use Rattle.glsl_preproc.specs.Macros.{without_macro}
use Rattle.glsl_preproc.specs.Views.{plain_entry}
use Rattle.glsl_preproc.proofs.Entries.{removed}
use Rattle.glsl_preproc.proofs.macro_table.MacroTable.remove.Goals as goal

pub returns : goal.returns
unfolding without_macro
returns c = ap (map plain_entry) c.remove.ensures.entries ∙ removed c.args.name.now c.self.inside.macros.entries ∙ ap (λ l. without_macro l c.args.name.now) c.self.view_is
