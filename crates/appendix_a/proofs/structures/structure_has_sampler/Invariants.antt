-- What is found so far is right of the declarations and functions so far.
use Rattle.std.proofs.Common.{◌≡◌, [], take}
use Rattle.appendix_a.specs.Names.{structure_sampler}
use Rattle.appendix_a.specs.Structures.{structures_after}
use Rattle.appendix_a.proofs.structures.structure_has_sampler.Given as goal

abbrev pub invariant-loop-n : goal.invariant-loop-n
invariant-loop-n l = l.found ≡ structure_sampler (structures_after [] (take l.n l.before.items.now)) l.name
