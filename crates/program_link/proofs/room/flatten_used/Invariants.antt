-- The uniforms so far are flattened.
use Rattle.std.proofs.Common.{◌≡◌, ◌++◌, drop, map}
use Rattle.program_link.specs.Items.{leaves, used}
use Rattle.program_link.specs.Kept.{kept_leaf}
use Rattle.program_link.proofs.room.flatten_used.Given as goal

abbrev pub invariant-loop-item : goal.invariant-loop-item
invariant-loop-item l =
    map kept_leaf (leaves l.structures (used l.items))
    ≡ l.flat.items ++ map kept_leaf (leaves l.structures (used (drop l.item-index l.items)))
