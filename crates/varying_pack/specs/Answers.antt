-- What `pack` returns.
use Rattle.std.specs.Prelude.{◌≡◌, ℕ, List, Option, Some, None, Result, Ok, Err, Vec}
use Rattle.std.specs.declared.alloc.Global.{Global}
use Rattle.varying_pack.specs.declared.errors.Pack.{Pack}
use Rattle.varying_pack.specs.declared.errors.Pack.TheVariants as pack

-- the places are those that items have, and there is no room exactly where an item has none; memory may run out
abbrev pub Answers : Option (List (ℕ × ℕ)) → Result (Vec (ℕ × ℕ) Global) Pack → Type 0
Answers places (Ok found) = places ≡ Some found.items
Answers places (Err pack.NoRoom) = places ≡ None
Answers places (Err pack.Memory) = Unit {0}
