-- The items so far have their places, and the sheet keeps what they leave free.
use Rattle.std.proofs.Common.{map, drop}
use Rattle.varying_pack.specs.Sheets.{listed}
use Rattle.varying_pack.proofs.Placed.{SoFar}
use Rattle.varying_pack.proofs.packing.pack.Given as goal

abbrev pub invariant-loop-turn : goal.invariant-loop-turn
invariant-loop-turn l = SoFar l.rows l.items (map listed (drop l.turn-index l.turn-items)) l.sheet l.places.items
