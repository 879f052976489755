use Rattle.std.proofs.Common.{◌≡◌, length}
use Rattle.glsl_tree.specs.Token.{plain_tokens}
use Rattle.glsl_parse.specs.Readings.{looped}
use Rattle.glsl_parse.specs.StatementReadings.{items_at, more_items}
use Rattle.glsl_parse.proofs.units.items.Given as goal

-- the declarations and functions so far, and what is left
abbrev pub invariant-loop-rest : goal.invariant-loop-rest
invariant-loop-rest l = looped (more_items 127) l.all (plain_tokens l.rest) ≡ items_at 127 (plain_tokens l.list)

abbrev pub decreases-loop-rest : goal.decreases-loop-rest
decreases-loop-rest l = length l.rest
