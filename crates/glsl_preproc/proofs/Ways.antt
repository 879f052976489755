-- A test is true or false.
use Rattle.std.proofs.Common.{◌≡◌, ◌⊎◌, Bool, true, false, refl, inl, inr}

pub two_ways : (x : Bool) → (x ≡ true) ⊎ (x ≡ false)
two_ways true = inl refl
two_ways false = inr refl
