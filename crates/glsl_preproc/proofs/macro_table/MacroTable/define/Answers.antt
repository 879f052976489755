use Rattle.std.proofs.Common.{map, ap, ◌∙◌, nat_cmp}
use Rattle.std.specs.BTreeMap.{insert_entry}
use Rattle.std.specs.Cmp.Lexicographic.{slice_cmp}
use Rattle.glsl_preproc.specs.Macros.{with_macro}
use Rattle.glsl_preproc.specs.Views.{plain_macro, plain_entry}
use Rattle.glsl_preproc.proofs.Entries.{inserted}
use Rattle.glsl_preproc.proofs.macro_table.MacroTable.define.Goals as goal

pub returns : goal.returns
unfolding with_macro
returns c =
    let m = c.args.m in
    ap (map plain_entry) c.in-Ok.ensures.entries ∙ inserted c.in_ok-name.name m c.self.inside.macros.entries
    ∙ (λ i. insert_entry (slice_cmp nat_cmp) (c.self.view_is i) (c.in_ok-name.ensures.items i) (plain_macro m))
