-- One more uniform has its slots.
use Rattle.std.proofs.Common.{◌∙◌, ◌+◌, ap, arith, sym}
use Rattle.uniform_values.specs.Layout.{elements}
use Rattle.program_link.specs.declared.active.Uniform.{Uniform}
use Rattle.program_link.specs.declared.leaves.Leaf.{Leaf}
use Rattle.program_link.proofs.Slots.{rest-elements, slot-end, slot-step}
use Rattle.program_link.proofs.linking.active_uniforms.Goals as goal

pub loop-leaf-preserved : goal.loop-leaf-preserved
loop-leaf-preserved c =
    let next = ap (λ n. c.loop-leaf.first + n) (c.elements.ensures ∙ ap (λ (l : Leaf). elements l.kind) c.leaf-item.is) in
    record {
      within = omega (
        arith,
        next,
        c.loop-leaf.invariant.within,
        rest-elements c.args.leaves.now c.loop-leaf.leaf-index c.leaf-item.result c.loop-leaf-test.true,
      );
      slots =
          slot-step c.args.leaves.now c.loop-leaf.leaf-index c.leaf-item.result c.loop-leaf.first
          (c.loop-leaf.first + c.elements.result)
          (let a : Uniform = record {
            name = c.in_ok-from_slice.field-0;
            kind = c.leaf-item.result.kind;
            first = c.loop-leaf.first;
          } in a)
          c.loop-leaf.uniforms.items c.push.new.self.items _ c.loop-leaf-test.true
          (λ i. (let a : Uniform = record {
            name = (c.in_ok-from_slice.ensures ∙ c.as_slice.ensures ∙ ap (λ (l : Leaf). l.name) c.leaf-item.is) i;
            kind = (c.leaf-item.is i).kind;
            first = c.loop-leaf.first;
          } in a))
          next c.in_ok-push.ensures.items c.loop-leaf.invariant.slots;
    }

pub returns : goal.returns
returns c =
    sym (slot-end c.args.leaves.now c.loop-leaf.leaf-index c.loop-leaf.first c.loop-leaf.uniforms.items _ c.loop-leaf-test.false
    c.loop-leaf.invariant.slots)
