-- One more structure is counted.
use Rattle.std.proofs.Common.{◌∙◌, ap, min}
use Rattle.std.specs.List.{sum_by}
use Rattle.glsl_types.specs.declared.types.Struct.{Struct}
use Rattle.program_link.specs.Counted.{counted}
use Rattle.program_link.proofs.Counting.{counted-step}
use Rattle.program_link.proofs.flattening.Structures.of.Goals as goal

pub loop-structure-preserved : goal.loop-structure-preserved
loop-structure-preserved c =
    counted-step c.args.structs.now c.loop-structure.structure-index c.structure-item.result c.loop-structure.counts.items
    c.push.new.self.items c.count_fields-count.result c.loop-structure-test.true
    (c.count_fields-count.ensures
    ∙ (λ i. min 65536 (sum_by (λ f. counted (c.deref.ensures.value i) f.kind)
    ((c.as_slice.ensures ∙ ap (λ (s : Struct). s.fields) c.structure-item.is) i))))
    c.in_ok-push.ensures.items c.loop-structure.invariant
