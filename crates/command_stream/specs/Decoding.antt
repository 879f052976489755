-- A stream in pieces: what each piece brings, and that the commands are the stream's, however it was cut.
use Rattle.std.specs.Prelude.{◌≡◌, ℕ, ◌+◌, ◌≤◌, false, true, List, [], ◌++◌, length, take, Option, None, Some, Result, Ok, Err}
use Rattle.std.specs.List.{All, flat_map}
use Rattle.command_stream.specs.declared.command.Command.{Command}
use Rattle.command_stream.specs.declared.bad.Bad.{Bad}
use Rattle.command_stream.specs.declared.bad.Bad.TheVariants as bad
use Rattle.command_stream.specs.Commands.{command_encoding, Fits}
use Rattle.command_stream.specs.DecoderState.{DecoderState, IsPart, start_taken, HasBadStart, HasBadCommand, command_at}

-- the bytes of a command that was found, if any
abbrev pub found_encoding : Option Command → List ℕ
found_encoding None = []
found_encoding (Some c) = command_encoding c

-- how far a piece is taken: all of it, or up to the end of the first whole command
abbrev pub EndsAt : List ℕ → ℕ → DecoderState → Option Command → Type 0
EndsAt piece n new None = n ≡ length piece
EndsAt piece n new (Some c) = Fits c × (new.started ≡ true) × (new.begun ≡ [])

-- this many bytes of a piece are taken, and with them this command, if any
pub record Takes (old : DecoderState) (piece : List ℕ) (new : DecoderState) (n : ℕ) (found : Option Command) : Type 0 where
  pub within : n ≤ length piece
  pub bytes : start_taken old.started ++ (old.begun ++ take n piece)
      ≡ start_taken new.started ++ (found_encoding found ++ new.begun)
  pub rest : IsPart new.started new.begun
  pub ends : EndsAt piece n new found
  pub counted : new.taken ≡ old.taken + n

-- what a decoder answers to a piece, and what it is afterwards
abbrev pub Feeds : DecoderState → List ℕ → DecoderState → Result (ℕ × Option Command) Bad → Type 0
Feeds old piece new (Ok (n, found)) = Takes old piece new n found
Feeds old piece new (Err bad.Version) = (new ≡ old) × HasBadStart old.started old.begun piece
Feeds old piece new (Err (bad.Command at)) =
    (new ≡ old) × HasBadCommand old.started old.begun piece × (at ≡ command_at old.started old.begun old.taken)

-- after these bytes of a stream a decoder has given these commands, and is this one
pub record Decoded (all : List ℕ) (commands : List Command) (state : DecoderState) : Type 0 where
  pub bytes : all ≡ start_taken state.started ++ (flat_map command_encoding commands ++ state.begun)
  pub each : All Fits commands
  pub early : state.started ≡ false → commands ≡ []
  pub rest : IsPart state.started state.begun
  pub counted : state.taken ≡ length all
