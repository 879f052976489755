-- What is left comes to the same end as all.
use Rattle.std.proofs.Common.{◌≡◌, map, drop}
use Rattle.appendix_a.specs.Ahead.{ahead_of}
use Rattle.appendix_a.specs.Site.{site_of}
use Rattle.appendix_a.specs.Declarations.{in_order, optional}
use Rattle.appendix_a.proofs.types.sizes.Given as goal

abbrev pub invariant-loop-sized : goal.invariant-loop-sized
invariant-loop-sized l =
    in_order (map (λ sized. optional sized.size) (drop l.sized-index l.names)) (site_of l.site) (ahead_of l.ahead) ≡ in_order (map (λ sized. optional sized.size) l.names) (site_of l.site) (ahead_of l.fn.ahead)
