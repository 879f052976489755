-- How a shader is judged: the first rule that is broken ends it.
use Rattle.std.specs.Prelude.{◌≡◌, ℕ, Bool, if◌then◌else◌, Option, Some, None, Result, Ok, Err}
use Rattle.appendix_a.specs.declared.rule.Rule.{Rule}
use Rattle.appendix_a.specs.declared.ahead.Ahead as code
use Rattle.appendix_a.specs.Ahead.{Ahead, ahead_of}

-- what is found, and the facts of what comes after it, or the rule that is broken
abbrev pub Outcome : Type 0 → Type 0
Outcome A = Result (A × Ahead) ℕ

-- the rule of a number, where it is broken
abbrev pub rule : ℕ → Bool → Option ℕ
rule number is_broken = if is_broken then Some number else None

-- what is found where no rule is broken
abbrev pub unless : {A : Type 0} → Option ℕ → A → Result A ℕ
unless None found = Ok found
unless (Some number) found = Err number

-- what comes after a part
abbrev pub and_then : {A B : Type 0} → Result A ℕ → (A → Result B ℕ) → Result B ℕ
and_then (Ok found) next = next found
and_then (Err number) next = Err number

-- the code comes to this
abbrev pub Comes : {A : Type 0} → Outcome A → code.Ahead → Result A Rule → Type 0
Comes outcome ahead (Ok found) = outcome ≡ Ok (found, ahead_of ahead)
Comes outcome ahead (Err broken) = outcome ≡ Err broken.0

-- the code goes on to what comes next
abbrev pub Goes : Result Ahead ℕ → code.Ahead → Result (Unit {0}) Rule → Type 0
Goes outcome ahead (Ok _) = outcome ≡ Ok (ahead_of ahead)
Goes outcome ahead (Err broken) = outcome ≡ Err broken.0
