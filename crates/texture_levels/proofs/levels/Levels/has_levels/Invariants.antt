-- The levels below this one are there, as far as they are reached.
use Rattle.std.proofs.Common.{◌≡◌, true}
use Rattle.std.specs.Prelude.{not, ◌||◌}
use Rattle.texel_rules.specs.Levels.{each_below, is_level, is_reached, level_of}
use Rattle.texture_levels.specs.Texture.{levels_of}
use Rattle.texture_levels.proofs.levels.Levels.has_levels.Given as goal

abbrev pub invariant-loop-level : goal.invariant-loop-level
invariant-loop-level l = each_below l.level (λ k. not (is_reached l.base k) || is_level (level_of l.base k) (levels_of l.self l.face k)) ≡ true
