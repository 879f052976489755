-- The table has an operation at its number, and a command's words are its values.
use Rattle.std.proofs.Common.{◌≡◌, ℕ, zero, suc, ◌<◌, ◌^◌, List, [], ◌∷◌, Some}
use Rattle.gl_numbers.specs.Fields.{Value, Word}
use Rattle.command_stream.specs.declared.operation.Operation.{Operation}
use Rattle.command_stream.specs.Operations.{number_of, operation_numbered}

-- an operation is the one of its number, which is a word
pub record IsInTable (operation : Operation) : Type 0 where
  pub numbered : operation_numbered (number_of operation) ≡ Some operation
  pub word : number_of operation < 2 ^ 32

-- the word of a value, 0 where it is none
abbrev pub word_in : Value → ℕ
word_in (Word n) = n
word_in _ = 0

-- the word at a place among values, 0 where there is none
abbrev pub word_at : List Value → ℕ → ℕ
word_at [] k = 0
word_at (value ∷ values) zero = word_in value
word_at (value ∷ values) (suc k) = word_at values k
