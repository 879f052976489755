-- What is left comes to the same end as all.
use Rattle.std.proofs.Common.{◌≡◌, map, drop}
use Rattle.appendix_a.specs.Ahead.{ahead_of}
use Rattle.appendix_a.specs.Site.{site_of}
use Rattle.appendix_a.specs.Declarations.{in_order, parameter_passage}
use Rattle.appendix_a.proofs.declarations.each_parameter.Given as goal

abbrev pub invariant-loop-p : goal.invariant-loop-p
invariant-loop-p l =
    in_order (map parameter_passage (drop l.p-index l.all)) (site_of l.site) (ahead_of l.ahead) ≡ in_order (map parameter_passage l.all) (site_of l.site) (ahead_of l.fn.ahead)
