-- What is left comes to the same end as all.
use Rattle.std.proofs.Common.{◌≡◌, map, drop}
use Rattle.appendix_a.specs.Ahead.{ahead_of}
use Rattle.appendix_a.specs.Site.{site_of}
use Rattle.appendix_a.specs.Declarations.{in_order, declarator_passage}
use Rattle.appendix_a.proofs.declarations.each_declarator.Given as goal

abbrev pub invariant-loop-d : goal.invariant-loop-d
invariant-loop-d l =
    in_order (map declarator_passage (drop l.d-index l.all)) (site_of l.site) (ahead_of l.ahead) ≡ in_order (map declarator_passage l.all) (site_of l.site) (ahead_of l.fn.ahead)
