-- Rules in order: nothing is refused exactly where no rule applies.
use Rattle.std.proofs.Common.{◌≡◌, Bool, true, false, None, Some, List, [], ◌∷◌, refl}
use Rattle.gl_numbers.specs.declared.errors.GlError.{GlError}
use Rattle.gl_numbers.specs.declared.errors.GlError.TheVariants.{Memory}
use Rattle.gl_numbers.specs.Refusals.{Code, invalid_enum, invalid_value, invalid_operation, invalid_framebuffer_operation, error_of, Rule, first_refusal}

-- no rule applies
abbrev pub NoneApplies : List Rule → Type 0
NoneApplies [] = Unit {0}
NoneApplies (rule ∷ rules) = (rule.applies ≡ false) × NoneApplies rules

-- a rule and others, none of which refuses
pub one-passes : (applies : Bool) (raises : Code) (rules : List Rule) → applies ≡ false → first_refusal rules ≡ None
    → first_refusal (record { applies = applies; raises = raises } ∷ rules) ≡ None
one-passes true raises rules e rest = absurd cc
one-passes false raises rules e rest = rest

-- where no rule applies, nothing is refused
pub passes : (rules : List Rule) → NoneApplies rules → first_refusal rules ≡ None
passes [] none = refl
passes (rule ∷ rules) none = one-passes rule.applies rule.raises rules none.0 (passes rules none.1)

-- a first rule that refused nothing didn't apply
pub one-passed : (applies : Bool) (raises : Code) (rules : List Rule) → first_refusal (record { applies = applies; raises = raises } ∷ rules) ≡ None
    → (applies ≡ false) × (first_refusal rules ≡ None)
one-passed true raises rules e = absurd cc
one-passed false raises rules e = (refl, e)

-- where nothing is refused, no rule applies
pub passed : (rules : List Rule) → first_refusal rules ≡ None → NoneApplies rules
passed [] e = tt
passed (rule ∷ rules) e = let one = one-passed rule.applies rule.raises rules e in (one.0, passed rules one.1)

-- two values that are there
some-one : (a b : GlError) → Some a ≡ Some b → a ≡ b
some-one a b e = cc e

-- no rule raises OUT_OF_MEMORY
code-not_memory : (code : Code) → error_of code ≡ Memory → ⊥
code-not_memory invalid_enum e = absurd cc
code-not_memory invalid_value e = absurd cc
code-not_memory invalid_operation e = absurd cc
code-not_memory invalid_framebuffer_operation e = absurd cc

rule-not_memory : (applies : Bool) (raises : Code) (rules : List Rule) → (first_refusal rules ≡ Some Memory → ⊥)
    → first_refusal (record { applies = applies; raises = raises } ∷ rules) ≡ Some Memory → ⊥
rule-not_memory true raises rules rest e = code-not_memory raises (some-one (error_of raises) Memory e)
rule-not_memory false raises rules rest e = rest e

pub never_memory : (rules : List Rule) → first_refusal rules ≡ Some Memory → ⊥
never_memory [] e = absurd cc
never_memory (rule ∷ rules) e = rule-not_memory rule.applies rule.raises rules (never_memory rules) e
