use Rattle.std.proofs.Common.{◌∙◌, refl, arith}
use Rattle.glsl_tree.proofs.Initials.{found_in_row}
use Rattle.glsl_tree.proofs.keywords.is_keyword.Goals as goal

pub returns-in-97-to-122 : goal.returns-in-97-to-122
returns-in-97-to-122 c =
    c.stands_in_row.ensures ∙ found_in_row _ c.args.name.now c.from.result 0 refl (omega arith) (omega (arith, c.from.ensures)) (omega (arith, c.from.ensures))
