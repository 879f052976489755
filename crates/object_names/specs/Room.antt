-- What the names keep true of their memory.
use Rattle.std.specs.Prelude.{◌≡◌, ℕ, ◌<◌, ◌≤◌, Option, Some}
use Rattle.gl_numbers.specs.declared.kinds.Kind.{Kind}
use Rattle.gl_numbers.specs.Limits.{handles_max}

-- of so many objects that were given, in memory of this length and capacity
pub record HasRoom (given len capacity : ℕ) (room : Option Kind) : Type 0 where
  pub within : given ≤ handles_max
  pub one_more : (kind : Kind) → room ≡ Some kind → (len < capacity) × (given < handles_max)
