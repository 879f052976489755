-- None of the lines so far has one.
use Rattle.std.proofs.Common.{◌≡◌, [], map, drop}
use Rattle.std.specs.List.{list_any}
use Rattle.appendix_a.specs.Names.{member_has_sampler}
use Rattle.appendix_a.specs.Structures.{structures_after}
use Rattle.appendix_a.proofs.structures.+sampler.Given as goal

abbrev pub invariant-any_has_sampler-loop-line : goal.invariant-any_has_sampler-loop-line
invariant-any_has_sampler-loop-line l =
    list_any (λ has. has) (map (member_has_sampler (structures_after [] l.before.items.now)) (drop l.line-index l.members))
    ≡ list_any (λ has. has) (map (member_has_sampler (structures_after [] l.before.items.now)) l.members)
