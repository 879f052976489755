-- The search for a name.
use Rattle.appendix_a.proofs.StructureTurns.{found-turn}
use Rattle.appendix_a.proofs.structures.structure_has_sampler.Goals as goal

pub loop-n-preserved : goal.loop-n-preserved
loop-n-preserved c =
    found-turn c.args.before.now.items.now c.args.before.now.samplers.now c.loop-n.n c.index-items-n.result c.args.name.now c.loop-n.found
    c.found_so_far-found.result c.loop-n-test.true c.requires c.index-items-n.is c.found_so_far-found.ensures c.loop-n.invariant
