-- A stream that is replayed while it comes: the commands so far, and what each piece brings.
use Rattle.std.specs.Prelude.{◌≡◌, ℕ, ◌+◌, ◌<◌, ◌≤◌, ◌⊎◌, true, Option, Some, List, [], ◌++◌, length, take, codes, Result, Ok, Err}
use Rattle.std.specs.Io.KnownBytes.{prepend_known, append_known, IsAtEnd}
use Rattle.wire_io.specs.Faults.{Rose}
use Rattle.wire_io.specs.declared.status.Status as Statuses
use Rattle.wire_io.specs.declared.status.Status.TheVariants as Status
use Rattle.call_records.specs.Numbers.{input_max}
use Rattle.command_stream.specs.declared.operation.TheConstants.{START_BYTES, HEADER_BYTES, BODY_MAX}
use Rattle.command_stream.specs.declared.command.Command.{Command}
use Rattle.command_stream.specs.Commands.{stream}
use Rattle.command_stream.specs.DecoderState.{DecoderState}
use Rattle.command_stream.specs.Decoding.{Decoded}
use Rattle.gl_model.specs.DriverState.{first_driver}
use Rattle.gl_model.specs.DriverStep.{Fault}
use Rattle.gl_model.specs.Replay.{replay, clean, fault_of}
use Rattle.gl_model.specs.Shot as Model
use Rattle.es2_replay.specs.declared.faults.Shot.{Shot}
use Rattle.es2_replay.specs.Kept.{Kept, state_of}
use Rattle.es2_replay.specs.Applied.{Applies}
use Rattle.session_run.specs.Tallies.{add, tally_of}
use Rattle.session_run.specs.ReplayOutcomes.{HeadersWithin, HasOtherStart, HasBadHeader, HasLateHeader, HasFault, Stops, fault_code}
use Rattle.session_run.specs.declared.tally.Tally.{Tally}
use Rattle.session_run.specs.declared.replay_end.ReplayEnd.{ReplayEnd}
use Rattle.session_run.specs.declared.replay_end.ReplayEnd.TheVariants.{Truncated, Magic, Version, Refused, Late, Faults, Memory, Read}

-- these bytes were taken: they are commands that the machine applied without a fault and counted, and a part of the next
pub record SoFar (all : List ℕ) (decoder : DecoderState) (kept : Kept) (tally : Tally) : Type 0 where
  pub commands : List Command
  pub made : List Model.Shot
  pub decoded : Decoded all commands decoder
  pub replayed : replay first_driver commands ≡ clean (state_of kept) made commands
  pub counted : kept.count ≡ length commands
  pub tallied : tally ≡ tally_of made
  pub within : HeadersWithin commands
  pub room : 0 < length decoder.begun → decoder.started ≡ true → length (stream commands) + HEADER_BYTES ≤ input_max
  pub ended : length (stream commands) ≤ input_max + BODY_MAX

-- some bytes were taken so
pub record Playing (decoder : DecoderState) (kept : Kept) (tally : Tally) : Type 0 where
  pub all : List ℕ
  pub so_far : SoFar all decoder kept tally

-- one command was applied and counted
pub record OnePlayed (command : Command) (old : Kept) (before : Tally) (new : Kept) (now : Tally) : Type 0 where
  pub made : Option Shot
  pub applied : Applies (state_of old) command (state_of new) (Ok made)
  pub counted : new.count ≡ old.count + 1
  pub tallied : now ≡ add before made

-- one command has a fault of this code, and this number
pub record OneFaulted (command : Command) (old : Kept) (number code : ℕ) : Type 0 where
  pub fault : Fault
  pub has : fault_of (state_of old) command ≡ Some fault
  pub place : number ≡ old.count + 1
  pub code_is : code ≡ fault_code fault

-- what became of one command
abbrev pub PlaysOne : Command → Kept → Tally → Kept → Tally → Result (Unit {0}) ReplayEnd → Type 0
PlaysOne command old before new now (Ok _) = OnePlayed command old before new now
PlaysOne command old before new now (Err (Truncated at)) = ⊥
PlaysOne command old before new now (Err Magic) = ⊥
PlaysOne command old before new now (Err Version) = ⊥
PlaysOne command old before new now (Err (Refused at)) = ⊥
PlaysOne command old before new now (Err (Late at)) = ⊥
PlaysOne command old before new now (Err (Faults number code)) = OneFaulted command old number code
PlaysOne command old before new now (Err Memory) = Unit {0}
PlaysOne command old before new now (Err Read) = ⊥

-- the bytes so far, with a piece's after them, stop the replay so
abbrev pub PieceStops : List ℕ → ReplayEnd → Type 0
PieceStops bytes (Truncated at) = ⊥
PieceStops bytes Magic = ⊥
PieceStops bytes Version = HasOtherStart bytes
PieceStops bytes (Refused at) = HasBadHeader bytes at
PieceStops bytes (Late at) = HasLateHeader bytes at
PieceStops bytes (Faults number code) = HasFault bytes number code
PieceStops bytes Memory = Unit {0}
PieceStops bytes Read = ⊥

-- some bytes of a piece were taken, or it stops the replay
abbrev pub StepsOn : List ℕ → List ℕ → DecoderState → Kept → Tally → Result ℕ ReplayEnd → Type 0
StepsOn all piece decoder kept tally (Ok n) = (0 < n) × (n ≤ length piece) × SoFar (all ++ take n piece) decoder kept tally
StepsOn all piece decoder kept tally (Err end) = PieceStops (all ++ piece) end

-- a whole piece was taken, or it stops the replay
abbrev pub TakesPiece : List ℕ → List ℕ → DecoderState → Kept → Tally → Result (Unit {0}) ReplayEnd → Type 0
TakesPiece all piece decoder kept tally (Ok _) = SoFar (all ++ piece) decoder kept tally
TakesPiece all piece decoder kept tally (Err end) = PieceStops (all ++ piece) end

-- eight bytes, of which the first four are `ESCS`
abbrev pub HasMagic : List ℕ → Type 0
HasMagic all = (START_BYTES ≤ length all) × (take 4 all ≡ codes "ESCS")

-- more bytes were read and taken
pub record ReadSoFar (all : List ℕ) (left0 left : Option (List ℕ)) (decoder : DecoderState) (kept : Kept) (tally : Tally) : Type 0 where
  pub got : List ℕ
  pub took : left0 ≡ prepend_known got left
  pub so_far : SoFar (all ++ got) decoder kept tally

-- all bytes were read, and they end between two commands
pub record ReadWhole (all : List ℕ) (left0 left : Option (List ℕ)) (decoder : DecoderState) (kept : Kept) (tally : Tally) : Type 0 where
  pub read : ReadSoFar all left0 left decoder kept tally
  pub ended : IsAtEnd left
  pub started : decoder.started ≡ true
  pub idle : decoder.begun ≡ []

-- where the bytes ended early, nothing is left
abbrev pub IsEndedBy : ReplayEnd → Option (List ℕ) → Type 0
IsEndedBy (Truncated at) left = IsAtEnd left
IsEndedBy Magic left = Unit {0}
IsEndedBy Version left = Unit {0}
IsEndedBy (Refused at) left = Unit {0}
IsEndedBy (Late at) left = Unit {0}
IsEndedBy (Faults number code) left = Unit {0}
IsEndedBy Memory left = Unit {0}
IsEndedBy Read left = Unit {0}

-- the bytes that were read stop the replay so
pub record ReadUntil (end : ReplayEnd) (all : List ℕ) (left0 left : Option (List ℕ)) : Type 0 where
  pub got : List ℕ
  pub took : left0 ≡ prepend_known got left
  pub ended : IsEndedBy end left
  pub stops : Stops (all ++ got) end

-- bytes were read up to their end, or to where the replay stops
abbrev pub ReadsOn : List ℕ → Option (List ℕ) → Option (List ℕ) → DecoderState → Kept → Tally → Result (Unit {0}) ReplayEnd → Type 0
ReadsOn all left0 left decoder kept tally (Ok _) = ReadWhole all left0 left decoder kept tally
ReadsOn all left0 left decoder kept tally (Err end) = ReadUntil end all left0 left

-- the source's number of faults hasn't fallen, and a read fault comes only where it rose
pub record StreamCause {T : Type 0} (input0 input : ℕ) (result : Result T ReplayEnd) : Type 0 where
  pub later : input0 ≤ input
  pub read : result ≡ Err Read → Rose input0 input

-- the sink's number of faults hasn't fallen, and either the status stands and all was handed on, or a flush failed
pub record FinishesOne (HandedOn : Type 0) (out0 out : ℕ) (status result : Statuses.Status) : Type 0 where
  pub later : out0 ≤ out
  pub cases : ((result ≡ status) × HandedOn) ⊎ ((result ≡ Status.WriteFault) × Rose out0 out)

-- a line was added, or a prefix of it where a write failed, or nothing where memory ran out
abbrev pub TellsLine : List ℕ → Option (List ℕ) → Option (List ℕ) → Statuses.Status → Type 0
TellsLine line out0 out Status.Ok = out ≡ append_known out0 line
TellsLine line out0 out Status.OutOfMemory = out ≡ out0
TellsLine line out0 out Status.Usage = ⊥
TellsLine line out0 out (Status.BadInput at kind) = ⊥
TellsLine line out0 out (Status.Truncated at) = ⊥
TellsLine line out0 out Status.ReadFault = ⊥
TellsLine line out0 out Status.WriteFault = (n : ℕ) × (n ≤ length line) × (out ≡ append_known out0 (take n line))
TellsLine line out0 out (Status.ReplayFault number code) = ⊥
