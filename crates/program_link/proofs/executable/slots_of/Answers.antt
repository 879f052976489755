-- One more uniform has its slots by name.
use Rattle.program_link.proofs.ByBytes.{numbers-start, slots-end, slots-step}
use Rattle.program_link.proofs.executable.slots_of.Goals as goal

pub loop-uniform-init : goal.loop-uniform-init
loop-uniform-init c = numbers-start c.new-slots.result.entries c.new-slots.ensures.empty

pub loop-uniform-preserved : goal.loop-uniform-preserved
loop-uniform-preserved c =
    slots-step c.loop-uniform.slots.entries c.add_slots.new.slots.entries c.args.uniforms.now c.loop-uniform.uniform-index
    c.uniform-item.result c.loop-uniform-test.true c.uniform-item.is c.in_ok-add_slots.ensures c.loop-uniform.invariant

pub returns : goal.returns
returns c =
    slots-end c.loop-uniform.slots.entries c.args.uniforms.now c.loop-uniform.uniform-index c.loop-uniform-test.false
    c.loop-uniform.invariant
