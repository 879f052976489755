-- What a decoder stands for: whether it has taken the stream's header, and what it has taken of what comes next.
use Rattle.std.specs.Prelude.{◌≡◌, ℕ, ◌+◌, ◌-◌, ◌<◌, ◌≤◌, ◌^◌, ◌⊎◌, Bool, false, true, List, [], ◌++◌, length, take}
use Rattle.gl_numbers.specs.Bytes.{le32}
use Rattle.command_stream.specs.declared.operation.TheConstants.{START_BYTES, HEADER_BYTES}
use Rattle.command_stream.specs.declared.taking.TheConstants.{COMMAND_MAX}
use Rattle.command_stream.specs.declared.operation.Operation.{Operation}
use Rattle.command_stream.specs.Operations.{number_of, allows, has_shape}
use Rattle.command_stream.specs.Commands.{stream_start}

-- whether the stream's header was taken whole, the bytes taken of the header or else of the command begun, and how
-- many bytes were taken in all
pub record DecoderState : Type 0 where
  pub started : Bool
  pub begun : List ℕ
  pub taken : ℕ

-- a command's header that the table allows, and less than the whole body
pub record IsPartOfBody (bytes : List ℕ) : Type 0 where
  pub operation : Operation
  pub len : ℕ
  pub part : List ℕ
  pub are : bytes ≡ le32 (number_of operation) ++ (le32 len ++ part)
  pub allowed : allows operation len ≡ true
  pub short : length part < len

-- a proper part of a command: less than a header, or a header and less than its body
abbrev pub IsPartOfCommand : List ℕ → Type 0
IsPartOfCommand bytes = (length bytes < HEADER_BYTES) ⊎ IsPartOfBody bytes

-- a command's header that is refused, and what follows it: its operation isn't in the table, or not of this length
pub record IsRefused (bytes : List ℕ) : Type 0 where
  pub number : ℕ
  pub len : ℕ
  pub rest : List ℕ
  pub number_fits : number < 2 ^ 32
  pub len_fits : len < 2 ^ 32
  pub are : bytes ≡ le32 number ++ (le32 len ++ rest)
  pub refused : has_shape number len ≡ false

-- a proper part of the stream's header, or after it of a command
abbrev pub IsPart : Bool → List ℕ → Type 0
IsPart false bytes = length bytes < START_BYTES
IsPart true bytes = IsPartOfCommand bytes

-- the stream's header, once it was taken whole
abbrev pub start_taken : Bool → List ℕ
start_taken false = []
start_taken true = stream_start

-- the stream's first bytes are whole with this piece, and are none of its header
pub record HasBadStart (started : Bool) (begun piece : List ℕ) : Type 0 where
  pub first : List ℕ
  pub rest : List ℕ
  pub early : started ≡ false
  pub are : begun ++ piece ≡ first ++ rest
  pub size : length first ≡ START_BYTES
  pub other : first ≡ stream_start → ⊥

-- the next command's header is whole with this piece, and is refused
pub record HasBadCommand (started : Bool) (begun piece : List ℕ) : Type 0 where
  pub bytes : List ℕ
  pub are : start_taken started ++ (begun ++ piece) ≡ stream_start ++ bytes
  pub refused : IsRefused bytes

-- the count of what was taken has room for what was begun, and for the stream's header before it
abbrev pub IsCounted : Bool → List ℕ → ℕ → Type 0
IsCounted false begun taken = taken ≡ length begun
IsCounted true begun taken = START_BYTES + length begun ≤ taken

-- where the next command begins, or the one begun: its first byte's offset in the stream
abbrev pub command_at : Bool → List ℕ → ℕ → ℕ
command_at false begun taken = START_BYTES
command_at true begun taken = taken - length begun

-- what a decoder keeps of what it has taken: room for the longest command, the bytes of it that were reached, and in them
-- what was begun
pub record IsDecoder (started : Bool) (items : List ℕ) (capacity held taken : ℕ) : Type 0 where
  pub room : COMMAND_MAX ≤ capacity
  pub reached : length items ≤ COMMAND_MAX
  pub within : held ≤ length items
  pub part : IsPart started (take held items)
  pub counted : IsCounted started (take held items) taken
