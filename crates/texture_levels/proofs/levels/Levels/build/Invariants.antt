-- The levels below this one are built.
use Rattle.std.proofs.Common.{◌≡◌}
use Rattle.texture_levels.specs.Texture.{built_below}
use Rattle.texture_levels.proofs.levels.Levels.build.Given as goal

abbrev pub invariant-loop-level : goal.invariant-loop-level
invariant-loop-level l = l.self ≡ built_below l.level l.face l.base l.fn.self
