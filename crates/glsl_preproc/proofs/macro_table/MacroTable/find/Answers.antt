use Rattle.std.proofs.Common.{ap, ◌∙◌, option_map}
use Rattle.glsl_preproc.specs.Macros.{find_macro}
use Rattle.glsl_preproc.specs.Views.{plain_macro}
use Rattle.glsl_preproc.proofs.Entries.{copied, found_macro}
use Rattle.glsl_preproc.proofs.macro_table.MacroTable.find.Goals as goal

pub returns : goal.returns
returns c = copied c.get.result ∙ ap (option_map plain_macro) c.get.ensures.value ∙ found_macro c.args.name.now c.self.inside.macros.entries ∙ ap (λ l. find_macro l c.args.name.now) c.self.view_is
