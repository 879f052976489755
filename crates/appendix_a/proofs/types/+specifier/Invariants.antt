-- What is left comes to the same end as all.
use Rattle.std.proofs.Common.{◌≡◌, map, drop}
use Rattle.appendix_a.specs.Ahead.{ahead_of}
use Rattle.appendix_a.specs.Site.{site_of}
use Rattle.appendix_a.specs.Declarations.{in_order, member}
use Rattle.appendix_a.proofs.types.+specifier.Given as goal

abbrev pub invariant-each_member-loop-line : goal.invariant-each_member-loop-line
invariant-each_member-loop-line l =
    in_order (map member (drop l.line-index l.members)) (site_of l.site) (ahead_of l.ahead) ≡ in_order (map member l.members) (site_of l.site) (ahead_of l.fn.ahead)
