-- What is left comes to the same end as all.
use Rattle.std.proofs.Common.{◌≡◌, map, drop}
use Rattle.appendix_a.specs.Ahead.{ahead_of}
use Rattle.appendix_a.specs.Site.{site_of}
use Rattle.appendix_a.specs.Declarations.{in_order}
use Rattle.appendix_a.specs.Limits.{item_passage}
use Rattle.appendix_a.proofs.limits.each_item.Given as goal

abbrev pub invariant-loop-i : goal.invariant-loop-i
invariant-loop-i l =
    in_order (map item_passage (drop l.i-index l.all)) (site_of l.site) (ahead_of l.ahead) ≡ in_order (map item_passage l.all) (site_of l.site) (ahead_of l.fn.ahead)
