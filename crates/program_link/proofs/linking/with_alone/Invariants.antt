-- The uniforms so far are added.
use Rattle.std.proofs.Common.{◌≡◌, ◌++◌, drop, filter, map}
use Rattle.program_link.specs.Items.{is_alone, leaves}
use Rattle.program_link.specs.Kept.{kept_leaf}
use Rattle.program_link.proofs.linking.with_alone.Given as goal

abbrev pub invariant-loop-item : goal.invariant-loop-item
invariant-loop-item l =
    l.initial.active.items ++ map kept_leaf (leaves l.structures (filter (is_alone l.declared) l.uniforms))
    ≡ l.active.items ++ map kept_leaf (leaves l.structures (filter (is_alone l.declared) (drop l.item-index l.uniforms)))
