-- What can be told of the objects that a run reads from and writes to.
use Rattle.std.specs.Prelude.{ℕ, Option, List}

-- what the two sinks hold, where they tell it
pub record Sinks : Type 0 where
  pub out : Option (List ℕ)
  pub stream : Option (List ℕ)

-- what is held by two sinks
abbrev pub sinks : Option (List ℕ) → Option (List ℕ) → Sinks
sinks out stream = record { out = out; stream = stream }

-- what the source has left, and what the two sinks hold
pub record Ends : Type 0 where
  pub left : Option (List ℕ)
  pub both : Sinks

-- what is left in a source, and what is held by two sinks
abbrev pub ends : Option (List ℕ) → Option (List ℕ) → Option (List ℕ) → Ends
ends left out stream = record { left = left; both = sinks out stream }

-- how many faults the source and the two sinks have had
pub record Faults : Type 0 where
  pub input : ℕ
  pub out : ℕ
  pub stream : ℕ

-- the numbers of faults of a source and of two sinks
abbrev pub faults_of : ℕ → ℕ → ℕ → Faults
faults_of input out stream = record { input = input; out = out; stream = stream }
