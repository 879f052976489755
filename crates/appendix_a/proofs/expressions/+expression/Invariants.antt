-- The arguments so far, and then what is left, are all.
use Rattle.std.proofs.Common.{◌≡◌, map, drop}
use Rattle.appendix_a.specs.Ahead.{ahead_of}
use Rattle.appendix_a.specs.Expressions.{part, arguments_outcome, called_parameters}
use Rattle.appendix_a.specs.Site.{site_of}
use Rattle.appendix_a.proofs.Arguments.{added}
use Rattle.appendix_a.proofs.expressions.+expression.Given as goal

abbrev pub invariant-each_argument-loop-place : goal.invariant-each_argument-loop-place
invariant-each_argument-loop-place l =
    added l.found (arguments_outcome (site_of l.site) (drop l.place (called_parameters (site_of l.site) l.callee l.number)) (map part (drop l.place l.arguments)) (ahead_of l.ahead))
    ≡ arguments_outcome (site_of l.site) (called_parameters (site_of l.site) l.callee l.number) (map part l.arguments) (ahead_of l.fn.ahead)
