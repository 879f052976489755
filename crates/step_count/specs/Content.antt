-- What index bytes hold.
use Rattle.std.specs.Prelude.{ℕ, List}
use Rattle.step_count.specs.declared.bytes.Bytes.{Bytes}

-- all the bytes, in order
abbrev pub content : Bytes → List ℕ
content b = b.bytes.now
