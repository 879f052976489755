-- The name of the uniform of this turn is too long, or it isn't.
use Rattle.std.proofs.Common.{◌≡◌, ap, arith, length}
use Rattle.std.specs.Prelude.{◌==◌, if◌then◌else◌}
use Rattle.std.proofs.lemmas.Grind.{common_steps}
use Rattle.program_link.specs.Items.{used}
use Rattle.program_link.proofs.Slots.{long-found, short-more, suffix-long, suffix-short}
use Rattle.program_link.proofs.linking.has_long_name.Goals.{then-leaf-eq0, else-leaf-eq0}
use Rattle.program_link.proofs.linking.has_long_name.Goals as goal

pub returns-then-as_slice-suffix-gt-NAME_BYTES_MAX : goal.returns-then-as_slice-suffix-gt-NAME_BYTES_MAX
returns-then-as_slice-suffix-gt-NAME_BYTES_MAX c =
    let suffix : c.if-leaf-eq0.suffix ≡ (if c.leaf-item.result.kind.array == 0 then 0 else 3) =
    elim c.if-leaf-eq0.branch [
      | then-leaf-eq0 w ↦ grind (arith, common_steps, w.if-leaf-eq0, w.suffix-is)
      | else-leaf-eq0 w ↦ grind (arith, common_steps, w.if-leaf-eq0, w.suffix-is)
    ] in
    long-found (used c.args.attributes.now) c.args.uniforms.now c.loop-leaf.leaf-index c.leaf-item.result c.loop-leaf-test.true
    c.leaf-item.is
    (suffix-long c.leaf-item.result (length c.as_slice-in-loop-leaf.result.now) c.if-leaf-eq0.suffix
    (ap length c.as_slice-in-loop-leaf.ensures) suffix c.if-as_slice-suffix-gt-NAME_BYTES_MAX.true)

pub loop-leaf-preserved : goal.loop-leaf-preserved
loop-leaf-preserved c =
    let suffix : c.if-leaf-eq0.suffix ≡ (if c.leaf-item.result.kind.array == 0 then 0 else 3) =
    elim c.if-leaf-eq0.branch [
      | then-leaf-eq0 w ↦ grind (arith, common_steps, w.if-leaf-eq0, w.suffix-is)
      | else-leaf-eq0 w ↦ grind (arith, common_steps, w.if-leaf-eq0, w.suffix-is)
    ] in
    record {
      attributes = c.loop-leaf.invariant.attributes;
      uniforms =
          short-more c.args.uniforms.now c.loop-leaf.leaf-index c.leaf-item.result c.loop-leaf-test.true c.leaf-item.is
          (suffix-short c.leaf-item.result (length c.as_slice-in-loop-leaf.result.now) c.if-leaf-eq0.suffix
          (ap length c.as_slice-in-loop-leaf.ensures) suffix c.if-as_slice-suffix-gt-NAME_BYTES_MAX.false)
          c.loop-leaf.invariant.uniforms;
    }
