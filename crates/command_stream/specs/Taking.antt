-- What the parts of the decoder do: a header that is judged, and bytes that are taken after those that are held.
use Rattle.std.specs.Prelude.{◌≡◌, ℕ, ◌+◌, ◌<◌, ◌≤◌, ◌^◌, Bool, true, false, List, ◌++◌, length, take, drop, Option, None, Some}
use Rattle.gl_numbers.specs.Bytes.{le32}
use Rattle.command_stream.specs.declared.operation.TheConstants.{START_BYTES, HEADER_BYTES}
use Rattle.command_stream.specs.declared.operation.Operation.{Operation}
use Rattle.command_stream.specs.declared.taking.Taken as Takens
use Rattle.command_stream.specs.declared.taking.Taken.TheVariants.{OtherStart, OtherCommand, Part, Whole}
use Rattle.command_stream.specs.declared.taking.Start as Starts
use Rattle.command_stream.specs.declared.taking.Start.TheVariants as start
use Rattle.command_stream.specs.Operations.{number_of, allows, has_shape}
use Rattle.command_stream.specs.Commands.{stream_start}
use Rattle.command_stream.specs.DecoderState.{IsPart, start_taken, HasBadStart, HasBadCommand}

-- the first eight bytes of two lists one after the other, if there are so many
abbrev pub AreFirst : List ℕ → List ℕ → Option (List ℕ) → Type 0
AreFirst begun piece None = length begun + length piece < HEADER_BYTES
AreFirst begun piece (Some first) =
    (begun ++ piece ≡ first ++ drop HEADER_BYTES (begun ++ piece)) × (HEADER_BYTES ≤ length begun + length piece)

-- a command's header that is refused
pub record IsRefusedHeader (header : List ℕ) : Type 0 where
  pub number : ℕ
  pub len : ℕ
  pub number_fits : number < 2 ^ 32
  pub len_fits : len < 2 ^ 32
  pub are : header ≡ le32 number ++ le32 len
  pub refused : has_shape number len ≡ false

-- how a command's header is judged
abbrev pub Judges : List ℕ → Option (Operation × ℕ) → Type 0
Judges header None = IsRefusedHeader header
Judges header (Some (operation, len)) = (header ≡ le32 (number_of operation) ++ le32 len) × (allows operation len ≡ true)

-- a whole command's bytes
pub record IsWhole (operation : Operation) (bytes : List ℕ) : Type 0 where
  pub size : HEADER_BYTES ≤ length bytes
  pub are : bytes ≡ le32 (number_of operation) ++ (le32 (length (drop HEADER_BYTES bytes)) ++ drop HEADER_BYTES bytes)
  pub allowed : allows operation (length (drop HEADER_BYTES bytes)) ≡ true

-- a whole command stands at the head of a piece, in so many bytes
pub record Stands (piece : List ℕ) (operation : Operation) (size : ℕ) : Type 0 where
  pub within : size ≤ length piece
  pub some : 0 < size
  pub whole : IsWhole operation (take size piece)

-- all of a piece is taken, and no command ends in it
pub record TakesPart (started : Bool) (begun piece : List ℕ) (now_started : Bool) (now_begun : List ℕ) : Type 0 where
  pub bytes : start_taken started ++ (begun ++ piece) ≡ start_taken now_started ++ now_begun
  pub rest : IsPart now_started now_begun

-- so many bytes of a piece are taken, up to the end of this command
pub record TakesWhole (started : Bool) (begun piece command : List ℕ) (operation : Operation) (taken : ℕ) : Type 0 where
  pub within : taken ≤ length piece
  pub some : 0 < taken
  pub bytes : start_taken started ++ (begun ++ take taken piece) ≡ stream_start ++ command
  pub whole : IsWhole operation command

-- what is taken of a piece after the bytes that are held, whose first ones were begun
abbrev pub TakesIn : Bool → List ℕ → ℕ → List ℕ → List ℕ → Takens.Taken → Type 0
TakesIn started old held piece new OtherStart = (new ≡ old) × HasBadStart started (take held old) piece
TakesIn started old held piece new OtherCommand = (new ≡ old) × HasBadCommand started (take held old) piece
TakesIn started old held piece new (Part now_started now_held) =
    (length new ≡ length old) × (now_held ≤ length new) × TakesPart started (take held old) piece now_started (take now_held new)
TakesIn started old held piece new (Whole operation taken size) =
    (length new ≡ length old) × (size ≤ length new) × TakesWhole started (take held old) piece (take size new) operation taken

-- what a piece brings of the stream's header
abbrev pub StartsIn : List ℕ → List ℕ → Starts.Start → Type 0
StartsIn begun piece start.Other = HasBadStart false begun piece
StartsIn begun piece start.Unfinished = length begun + length piece < START_BYTES
StartsIn begun piece (start.Finished n) = (n ≤ length piece) × (begun ++ take n piece ≡ stream_start)
