-- What a write adds to a sink's bytes, where it is known what the sink holds.
use Rattle.std.specs.Prelude.{◌≡◌, ℕ, ◌<◌, ◌≤◌, List, length, take, Option, Result, Ok, Err}
use Rattle.std.specs.Io.KnownBytes.{append_known}

-- one write took a prefix of the piece, of one byte at least where there is one, and nothing where it failed
abbrev pub Writes : {E : Type 0} → Option (List ℕ) → Option (List ℕ) → Result ℕ E → List ℕ → Type 0
Writes old new (Ok n) piece = (n ≤ length piece) × (new ≡ append_known old (take n piece)) × (0 < length piece → 0 < n)
Writes old new (Err e) piece = new ≡ old

-- all of the bytes were added, or a prefix of them where a write failed
abbrev pub Sends : {T E : Type 0} → Option (List ℕ) → Option (List ℕ) → Result T E → List ℕ → Type 0
Sends old new (Ok x) bytes = new ≡ append_known old bytes
Sends old new (Err e) bytes = (n : ℕ) × (n ≤ length bytes) × (new ≡ append_known old (take n bytes))
