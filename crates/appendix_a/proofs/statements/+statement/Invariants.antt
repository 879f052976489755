-- What is left comes to the same end as all.
use Rattle.std.proofs.Common.{◌≡◌, map, drop}
use Rattle.appendix_a.specs.Ahead.{ahead_of}
use Rattle.appendix_a.specs.Site.{site_of}
use Rattle.appendix_a.specs.Declarations.{in_order}
use Rattle.appendix_a.specs.Statements.{statement}
use Rattle.appendix_a.proofs.statements.+statement.Given as goal

abbrev pub invariant-each_statement-loop-s : goal.invariant-each_statement-loop-s
invariant-each_statement-loop-s l =
    in_order (map statement (drop l.s-index l.all)) (site_of l.site) (ahead_of l.ahead) ≡ in_order (map statement l.all) (site_of l.site) (ahead_of l.fn.ahead)
