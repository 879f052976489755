-- Calls that are served: their replies, and the commands that a driver takes for them.
use Rattle.std.specs.Prelude.{◌≡◌, ℕ, ◌+◌, ◌<◌, ◌≤◌, List, length, take, map, All}
use Rattle.std.specs.List.{flat_map}
use Rattle.std.specs.Io.KnownBytes.{append_known}
use Rattle.call_records.specs.Numbers.{header_bytes, input_max}
use Rattle.call_records.specs.declared.calls.Call.{Call}
use Rattle.call_records.specs.declared.replies.Reply.{Reply}
use Rattle.call_records.specs.Records.{encoding, Fits}
use Rattle.call_records.specs.Replies.{reply_encoding}
use Rattle.command_stream.specs.declared.command.Command.{Command}
use Rattle.command_stream.specs.Commands as Commands
use Rattle.gl_model.specs.PageState.{first_page}
use Rattle.gl_model.specs.DriverState.{DriverState, first_driver}
use Rattle.gl_model.specs.Replay.{replay, clean}
use Rattle.gl_model.specs.Shot.{Shot}
use Rattle.gl_context.specs.PageStep.{is_out_of_memory}
use Rattle.gl_context.specs.PageRun.{Taken, replies, shots, OutOfMemoryAllowed, all_sent}
use Rattle.gl_context.specs.Sent.{bytes_of}
use Rattle.session_run.specs.Ends.{Sinks}

-- the calls that were taken
abbrev pub calls_of : List Taken → List Call
calls_of taken = map (λ t. t.call) taken

-- the records of calls
abbrev pub records_of : List Call → List ℕ
records_of calls = flat_map encoding calls

-- the bytes of replies
abbrev pub answers_of : List Reply → List ℕ
answers_of answers = flat_map reply_encoding answers

-- the bytes of the replies of calls that a page takes from its start
abbrev pub answered_by : List Taken → List ℕ
answered_by taken = answers_of (replies first_page taken)

-- the byte of a session at which the record after these calls' begins
abbrev pub place_after : List Call → ℕ
place_after calls = 8 + length (records_of calls)

-- the header of the record after these calls' ends by byte 2^62
abbrev pub HasRoomAfter : List Call → Type 0
HasRoomAfter calls = place_after calls + header_bytes ≤ input_max

-- so does the header of each of these calls' records
abbrev pub HeadersWithin : List Call → Type 0
HeadersWithin calls = (k : ℕ) → k < length calls → HasRoomAfter (take k calls)

-- calls with records, for which memory ran out where the replies say so, and that may be
pub record AreTaken (taken : List Taken) : Type 0 where
  pub fits : All (λ t. Fits t.call) taken
  pub headers : HeadersWithin (calls_of taken)
  pub out_of_memory : map (λ t. t.out_of_memory) taken ≡ map is_out_of_memory (replies first_page taken)
  pub allowed : OutOfMemoryAllowed first_page taken

-- a driver takes these commands, each with an encoding, from one state to another without a fault, and makes these Shots
pub record Drives (before : DriverState) (commands : List Command) (made : List Shot) (after : DriverState) : Type 0 where
  pub fits : All Commands.Fits commands
  pub replayed : replay before commands ≡ clean after made commands

-- these calls were answered, and these commands sent, with which a driver comes from its start to this state and makes
-- exactly the calls' Shots
pub record Progress (old new : Sinks) (taken : List Taken) (commands : List Command) (driver : DriverState) : Type 0 where
  pub are : AreTaken taken
  pub drives : Drives first_driver commands (shots first_page taken) driver
  pub answered : new.out ≡ append_known old.out (answered_by taken)
  pub sends : new.stream ≡ append_known old.stream (bytes_of commands)
  -- and they are exactly the commands of these calls
  pub exact : commands ≡ all_sent first_page taken
