-- What the code returns of the header of a loop.
use Rattle.std.specs.Prelude.{◌≡◌, ℕ, List, Result, Ok, Err}
use Rattle.std.specs.Borrow.{Bor}
use Rattle.appendix_a.specs.declared.ahead.Ahead as code
use Rattle.appendix_a.specs.declared.headers.Index.{Index}
use Rattle.appendix_a.specs.declared.rule.Rule.{Rule}
use Rattle.appendix_a.specs.Ahead.{ahead_of}
use Rattle.appendix_a.specs.Statements.{Begun, Declared}

-- the index that a loop declares
abbrev pub declared_of : Index → Declared
declared_of i = record { name = i.name.now; value = i.value.now }

-- the name of the index of a loop that begins as it should, or the rule that is broken
abbrev pub Begins : Result Begun ℕ → code.Ahead → Result (Bor (List ℕ)) Rule → Type 0
Begins outcome ahead (Ok name) = outcome ≡ Ok (record { name = name.now; after = ahead_of ahead })
Begins outcome ahead (Err broken) = outcome ≡ Err broken.0
