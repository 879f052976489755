-- What was added and what stands for all that is pending is what the uniform stands for.
use Rattle.std.proofs.Common.{◌≡◌, ◌++◌, map}
use Rattle.std.specs.Prelude.{reverse}
use Rattle.program_link.specs.Flattening.{flattened}
use Rattle.program_link.specs.Kept.{kept_leaf}
use Rattle.program_link.specs.Standing.{standing, weight}
use Rattle.program_link.proofs.flattening.Structures.flatten.Given as goal

abbrev pub invariant-loop-top : goal.invariant-loop-top
invariant-loop-top l =
    l.leaves.items ++ standing l.self (reverse l.pending.items)
    ≡ l.initial.leaves.items ++ map kept_leaf (flattened l.self l.item.name l.item.kind)

abbrev pub decreases-loop-top : goal.decreases-loop-top
decreases-loop-top l = weight l.self (reverse l.pending.items)
