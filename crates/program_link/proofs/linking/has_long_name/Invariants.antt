-- No name so far is too long.
use Rattle.std.proofs.Common.{◌≡◌, false, drop, take}
use Rattle.std.specs.List.{list_any}
use Rattle.program_link.specs.Flattening.{full_name}
use Rattle.program_link.specs.Items.{used}
use Rattle.program_link.specs.Rules.{is_too_long}
use Rattle.program_link.proofs.linking.has_long_name.Given as goal

abbrev pub invariant-loop-item : goal.invariant-loop-item
invariant-loop-item l =
    list_any (λ item. is_too_long item.name) (used l.attributes)
    ≡ list_any (λ item. is_too_long item.name) (used (drop l.item-index l.attributes))

abbrev pub invariant-loop-leaf : goal.invariant-loop-leaf
invariant-loop-leaf l = record {
  attributes : list_any (λ item. is_too_long item.name) (used l.attributes) ≡ false;
  uniforms : list_any (λ leaf. is_too_long (full_name leaf.name leaf.kind)) (take l.leaf-index l.uniforms) ≡ false;
}
