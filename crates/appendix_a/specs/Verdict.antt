-- The result of the code as a rule.
use Rattle.std.specs.Prelude.{ℕ, Option, Some, None, Result, Ok, Err}
use Rattle.appendix_a.specs.declared.rule.Rule.{Rule}

-- the rule that is broken, by its number, if one is
abbrev pub rule_of : Result (Unit {0}) Rule → Option ℕ
rule_of (Ok _) = None
rule_of (Err broken) = Some broken.0
