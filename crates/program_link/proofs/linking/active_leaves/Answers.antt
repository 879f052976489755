-- The active uniforms, once no rule on them is broken.
use Rattle.std.proofs.Common.{◌∙◌, Some, subst, sym}
use Rattle.program_link.specs.Answers.{FoundRoom}
use Rattle.program_link.specs.Rules.{exceed_samplers, samplers_among}
use Rattle.program_link.proofs.Broken.{active-few, active-found, broken-none}
use Rattle.program_link.proofs.linking.active_leaves.Goals as goal

pub returns : goal.returns
returns c =
    let first : FoundRoom 256 c.args.vertex.now (Some c.in-Some.in_vertex) =
    subst (FoundRoom 256 c.args.vertex.now) c.in-Some.is c.in_ok-in_vertex.ensures in
    let second : FoundRoom 224 c.args.fragment.now (Some c.in-Some-2.in_fragment) =
    subst (FoundRoom 224 c.args.fragment.now) c.in-Some-2.is c.in_ok-in_fragment.ensures in
    let few = (λ i. exceed_samplers (samplers_among (sym c.deref.ensures.value i)) (samplers_among (sym c.deref-2.ensures.value i)))
    ∙ sym c.has_too_many_samplers.ensures ∙ c.if-has_too_many_samplers.false in
    let theirs = c.in_ok-structures-2.ensures ∙ c.as_slice-2.ensures in (
      broken-none c.args.vertex.now c.args.fragment.now c.in-Some.in_vertex.items c.in-Some-2.in_fragment.items first.0 second.0 first.1
          second.1 few,
      active-found c.args.vertex.now c.args.fragment.now c.args.declared.now c.in_ok-structures-2.structures
          c.as_slice-uniforms.result.now c.in-Some.in_vertex.items c.in_ok-active.active.items c.requires theirs c.as_slice-uniforms.ensures
          first.1 c.in_ok-active.ensures,
      active-few c.args.fragment.now c.args.declared.now c.as_slice-uniforms.result.now c.in_ok-structures-2.structures
          c.in-Some.in_vertex.items c.in-Some-2.in_fragment.items c.in_ok-active.active.items theirs c.as_slice-uniforms.ensures first.2
          second.2 second.1 c.in_ok-active.ensures,
    )
