-- A level that is reached and isn't there.
use Rattle.std.proofs.Common.{◌∙◌, sym, ap, arith}
use Rattle.texel_rules.specs.Levels.{is_level}
use Rattle.texture_levels.specs.Texture.{levels_of}
use Rattle.texture_levels.proofs.Building.{each-stops, missing}
use Rattle.texture_levels.proofs.levels.Levels.has_levels.Goals as goal

pub returns-then-not-has : goal.returns-then-not-has
returns-then-not-has c =
    sym (each-stops 12 c.loop-level.level _ (omega arith)
    (missing _ _ (sym c.is_reached.ensures ∙ c.if-is_reached.true)
    (ap (λ w. is_level w (levels_of c.args.self.now c.args.face c.loop-level.level)) (sym c.level_of.ensures) ∙ sym c.has.ensures ∙ c.if-not-has.true)))
