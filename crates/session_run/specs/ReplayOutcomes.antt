-- What a replay did with all the bytes that it was given, by its status.
use Rattle.std.specs.Prelude.{◌≡◌, ℕ, ◌+◌, ◌<◌, ◌≤◌, ◌⊎◌, Option, Some, None, List, [], ◌∷◌, ◌++◌, length, take, map, codes, Result, Ok, Err, All}
use Rattle.std.specs.Io.KnownBytes.{append_known}
use Rattle.gl_numbers.specs.Errors.{code_of}
use Rattle.wire_io.specs.Faults.{Rose}
use Rattle.wire_io.specs.declared.status.Status as Statuses
use Rattle.wire_io.specs.declared.status.Status.TheVariants as Status
use Rattle.call_records.specs.Numbers.{input_max}
use Rattle.command_stream.specs.declared.operation.TheConstants.{START_BYTES, HEADER_BYTES}
use Rattle.command_stream.specs.declared.command.Command.{Command}
use Rattle.command_stream.specs.Commands.{command_encoding, stream_start, stream}
use Rattle.command_stream.specs.Commands.{Fits, parts_of}
use Rattle.command_stream.specs.DecoderState.{IsPartOfCommand, IsRefused}
use Rattle.gl_model.specs.DriverState.{first_driver}
use Rattle.gl_model.specs.DriverStep.{Fault, gl_error, outside_fetch}
use Rattle.gl_model.specs.Replay.{Replayed, replay}
use Rattle.session_run.specs.Outcomes.{ReplaysTo}
use Rattle.session_run.specs.Statuses.{status_of_end}
use Rattle.session_run.specs.Tallies.{tally_of, line_of}
use Rattle.session_run.specs.declared.tally.Tally.{Tally}
use Rattle.session_run.specs.declared.replay_end.ReplayEnd.{ReplayEnd}
use Rattle.session_run.specs.declared.replay_end.ReplayEnd.TheVariants.{Truncated, Magic, Version, Refused, Late, Faults, Memory, Read}

-- the header of each of these commands ends by byte 2^62 of their stream
abbrev pub HeadersWithin : List Command → Type 0
HeadersWithin commands = (k : ℕ) → k < length commands → length (stream (take k commands)) + HEADER_BYTES ≤ input_max

-- the bytes begin with the stream of commands that replay without a fault, each with its header within the bound
pub record Begins (bytes : List ℕ) : Type 0 where
  pub commands : List Command
  pub rest : List ℕ
  pub are : bytes ≡ stream commands ++ rest
  pub fits : All Fits commands
  pub faultless : (replay first_driver commands).fault ≡ None
  pub within : HeadersWithin commands

-- the first eight bytes aren't a stream's header
pub record HasOtherStart (bytes : List ℕ) : Type 0 where
  pub first : List ℕ
  pub rest : List ℕ
  pub are : bytes ≡ first ++ rest
  pub size : length first ≡ START_BYTES
  pub other : first ≡ stream_start → ⊥

-- there are eight bytes, and the first four aren't `ESCS`
pub record HasOtherMagic (bytes : List ℕ) : Type 0 where
  pub whole : START_BYTES ≤ length bytes
  pub other : take 4 bytes ≡ codes "ESCS" → ⊥

-- `ESCS`, and four bytes that aren't the stream's version
pub record HasOtherVersion (bytes : List ℕ) : Type 0 where
  pub start : HasOtherStart bytes
  pub magic : take 4 bytes ≡ codes "ESCS"

-- after such commands stands a header that is refused, at this byte
pub record HasBadHeader (bytes : List ℕ) (at : ℕ) : Type 0 where
  pub begins : Begins bytes
  pub place : at ≡ length (stream begins.commands)
  pub room : at + HEADER_BYTES ≤ input_max
  pub refused : IsRefused begins.rest

-- after such commands a header begins at this byte that would end past byte 2^62
pub record HasLateHeader (bytes : List ℕ) (at : ℕ) : Type 0 where
  pub begins : Begins bytes
  pub place : at ≡ length (stream begins.commands)
  pub late : input_max < at + HEADER_BYTES
  pub begun : 0 < length begins.rest

-- after such commands the bytes end inside a command
pub record EndsInCommand (bytes : List ℕ) : Type 0 where
  pub begins : Begins bytes
  pub room : length (stream begins.commands) + HEADER_BYTES ≤ input_max
  pub begun : 0 < length begins.rest
  pub part : IsPartOfCommand begins.rest

-- the code of a fault: that of its GL error, or 1 for a fetch outside a buffer
abbrev pub fault_code : Fault → ℕ
fault_code (gl_error error) = code_of error
fault_code outside_fetch = 1

-- a replay ended in a fault of this code, at the command of this number, counted from 1
pub record FaultsAt (replayed : Replayed) (number code : ℕ) : Type 0 where
  pub fault : Fault
  pub has : replayed.fault ≡ Some fault
  pub place : number ≡ replayed.count + 1
  pub code_is : code ≡ fault_code fault

-- after such commands the next one has a fault, whatever follows it
pub record HasFault (bytes : List ℕ) (number code : ℕ) : Type 0 where
  pub begins : Begins bytes
  pub room : length (stream begins.commands) + HEADER_BYTES ≤ input_max
  pub command : Command
  pub fits : Fits command
  pub more : List ℕ
  pub next : begins.rest ≡ command_encoding command ++ more
  pub faults : (later : List Command) → FaultsAt (replay first_driver (begins.commands ++ command ∷ later)) number code

-- a replay of these bytes stops so; out of memory and the source's failure are no matter of the bytes
abbrev pub Stops : List ℕ → ReplayEnd → Type 0
Stops bytes (Truncated at) = (at ≡ length bytes) × ((length bytes < START_BYTES) ⊎ EndsInCommand bytes)
Stops bytes Magic = HasOtherMagic bytes
Stops bytes Version = HasOtherVersion bytes
Stops bytes (Refused at) = HasBadHeader bytes at
Stops bytes (Late at) = HasLateHeader bytes at
Stops bytes (Faults number code) = HasFault bytes number code
Stops bytes Memory = Unit {0}
Stops bytes Read = Unit {0}

-- where the bytes ended early, nothing is left
abbrev pub IsLeft : ReplayEnd → List ℕ → Type 0
IsLeft (Truncated at) left = left ≡ []
IsLeft Magic left = Unit {0}
IsLeft Version left = Unit {0}
IsLeft (Refused at) left = Unit {0}
IsLeft (Late at) left = Unit {0}
IsLeft (Faults number code) left = Unit {0}
IsLeft Memory left = Unit {0}
IsLeft Read left = Unit {0}

-- all bytes were taken, and they are the stream of commands that replay without a fault; no others have these bytes
pub record WholeStream (input left : List ℕ) : Type 0 where
  pub commands : List Command
  pub fits : All Fits commands
  pub whole : input ≡ stream commands
  pub only : (others : List Command) → All Fits others → input ≡ stream others → map parts_of others ≡ map parts_of commands
  pub within : HeadersWithin commands
  pub faultless : (replay first_driver commands).fault ≡ None
  pub from_bytes : ReplaysTo input (replay first_driver commands).shots
  pub nothing : left ≡ []

-- a whole stream, and the numbers of its replay
pub record CountedStream (count : ℕ) (tally : Tally) (input left : List ℕ) : Type 0 where
  pub stream_is : WholeStream input left
  pub count_is : count ≡ (replay first_driver stream_is.commands).count
  pub tally_is : tally ≡ tally_of (replay first_driver stream_is.commands).shots

-- a whole stream, and the line of its replay was added
pub record ToldStream (out0 out : Option (List ℕ)) (input left : List ℕ) : Type 0 where
  pub stream_is : WholeStream input left
  pub told : out ≡ append_known out0 (line_of (replay first_driver stream_is.commands))

-- a whole stream, and a prefix of the line of its replay was added
pub record PartlyToldStream (out0 out : Option (List ℕ)) (input left : List ℕ) : Type 0 where
  pub stream_is : WholeStream input left
  pub said : ℕ
  pub said_within : said ≤ length (line_of (replay first_driver stream_is.commands))
  pub told : out ≡ append_known out0 (take said (line_of (replay first_driver stream_is.commands)))

-- a replay stopped in a way that has this status
pub record StoppedAs (status : Statuses.Status) (input left : List ℕ) : Type 0 where
  pub end : ReplayEnd
  pub is : status_of_end end ≡ status
  pub stops : Stops input end
  pub are_left : IsLeft end left

-- what a replay read, by how it ended
abbrev pub Played : Result (ℕ × Tally) ReplayEnd → List ℕ → List ℕ → Type 0
Played (Ok (count, tally)) input left = CountedStream count tally input left
Played (Err end) input left = Stops input end × IsLeft end left

-- what a replay did, by its status
abbrev pub ReplayOutcome : Statuses.Status → Option (List ℕ) → Option (List ℕ) → List ℕ → List ℕ → Type 0
ReplayOutcome Status.Ok out0 out input left = ToldStream out0 out input left
ReplayOutcome Status.OutOfMemory out0 out input left = Unit {0}
ReplayOutcome Status.Usage out0 out input left = ⊥
ReplayOutcome (Status.BadInput at kind) out0 out input left = StoppedAs (Status.BadInput at kind) input left
ReplayOutcome (Status.Truncated at) out0 out input left = StoppedAs (Status.Truncated at) input left
ReplayOutcome Status.ReadFault out0 out input left = Unit {0}
ReplayOutcome Status.WriteFault out0 out input left = (out ≡ out0) ⊎ PartlyToldStream out0 out input left
ReplayOutcome (Status.ReplayFault number code) out0 out input left = StoppedAs (Status.ReplayFault number code) input left

-- at each status but Ok and WriteFault nothing was added
abbrev pub IsSilent : Statuses.Status → Option (List ℕ) → Option (List ℕ) → Type 0
IsSilent Status.Ok out0 out = Unit {0}
IsSilent Status.OutOfMemory out0 out = out ≡ out0
IsSilent Status.Usage out0 out = ⊥
IsSilent (Status.BadInput at kind) out0 out = out ≡ out0
IsSilent (Status.Truncated at) out0 out = out ≡ out0
IsSilent Status.ReadFault out0 out = out ≡ out0
IsSilent Status.WriteFault out0 out = Unit {0}
IsSilent (Status.ReplayFault number code) out0 out = out ≡ out0

-- a read fault comes only where the source's number of faults rose, a write fault only where the sink's did; at every other
-- status the sink handed on all that it took
pub record ReplayCause (HandedOn : Type 0) (input0 input out0 out : ℕ) (result : Statuses.Status) : Type 0 where
  pub input_later : input0 ≤ input
  pub out_later : out0 ≤ out
  pub read_fault : result ≡ Status.ReadFault → Rose input0 input
  pub write_fault : result ≡ Status.WriteFault → Rose out0 out
  pub handed_on : (result ≡ Status.WriteFault → ⊥) → HandedOn

-- the statuses that the replay of these commands can end with where no object fails
abbrev pub IsReplayed : List Command → Statuses.Status → Type 0
IsReplayed commands Status.Ok = (replay first_driver commands).fault ≡ None
IsReplayed commands Status.OutOfMemory = Unit {0}
IsReplayed commands Status.Usage = ⊥
IsReplayed commands (Status.BadInput at kind) = ⊥
IsReplayed commands (Status.Truncated at) = ⊥
IsReplayed commands Status.ReadFault = ⊥
IsReplayed commands Status.WriteFault = ⊥
IsReplayed commands (Status.ReplayFault number code) = FaultsAt (replay first_driver commands) number code
