-- The loop over the records of a session: one call, and the calls so far.
use Rattle.std.specs.Prelude.{◌≡◌, ℕ, ◌<◌, ◌≤◌, Bool, true, List, [], ◌++◌, length, take, Result, Ok, Err}
use Rattle.std.specs.Option.{option_to_list}
use Rattle.std.specs.Io.KnownBytes.{prepend_known, append_known}
use Rattle.wire_io.specs.Sources.{WhereTold}
use Rattle.wire_io.specs.declared.status.Failed.{Failed}
use Rattle.call_records.specs.declared.calls.Call.{Call}
use Rattle.call_records.specs.declared.operations.Operation.{Operation}
use Rattle.call_records.specs.declared.reading.Step.{Step}
use Rattle.call_records.specs.declared.reading.ReadEnd.{ReadEnd}
use Rattle.call_records.specs.Records.{encoding, closing_record, operation_of, body_of, Fits}
use Rattle.call_records.specs.Replies.{reply_encoding}
use Rattle.call_records.specs.Reading.{Refuses, HasRoom, IsRecordEnd}
use Rattle.command_stream.specs.declared.command.Command.{Command}
use Rattle.gl_model.specs.PageState.{PageState, first_page}
use Rattle.gl_model.specs.DriverState.{DriverState}
use Rattle.gl_context.specs.PageStep.{step, MayBeOutOfMemory, is_out_of_memory}
use Rattle.gl_context.specs.PageRun.{Taken, page_after}
use Rattle.gl_context.specs.Sent.{sent, bytes_of}
use Rattle.gl_context.specs.Stands.{Kept, Stands}
use Rattle.session_run.specs.Ends.{Sinks, Ends}
use Rattle.session_run.specs.Serving.{calls_of, records_of, place_after, HasRoomAfter, Drives, Progress}
use Rattle.session_run.specs.declared.records.RunEnd.{RunEnd}
use Rattle.session_run.specs.declared.records.RunEnd.TheVariants.{Read, Write}

-- what a driver was sent for one call: commands that it takes without a fault, and that make exactly the call's Shot
pub record OneDriven (w : PageState) (g : DriverState) (call : Call) (out_of_memory : Bool) : Type 0 where
  pub commands : List Command
  pub driver : DriverState
  pub drives : Drives g commands (option_to_list (step w call out_of_memory).made) driver
  pub exact : commands ≡ sent w call out_of_memory

-- one call was answered, and its commands sent before
pub record OneAnswered (w : PageState) (g : DriverState) (call : Call) (kept : Kept) (old new : Sinks) : Type 0 where
  pub out_of_memory : Bool
  pub allowed : out_of_memory ≡ true → MayBeOutOfMemory w call
  pub said : out_of_memory ≡ is_out_of_memory (step w call out_of_memory).reply
  pub driven : OneDriven w g call out_of_memory
  pub stands : Stands kept (step w call out_of_memory).page driven.driver
  pub answered : new.out ≡ append_known old.out (reply_encoding (step w call out_of_memory).reply)
  pub sends : new.stream ≡ append_known old.stream (bytes_of driven.commands)

-- a write failed in one call's commands, or in its reply, of which the first byte was written after all of its commands
pub record OneCut (w : PageState) (g : DriverState) (call : Call) (old new : Sinks) : Type 0 where
  pub out_of_memory : Bool
  pub allowed : out_of_memory ≡ true → MayBeOutOfMemory w call
  pub driven : OneDriven w g call out_of_memory
  pub said : ℕ
  pub done : ℕ
  pub said_within : said ≤ length (reply_encoding (step w call out_of_memory).reply)
  pub done_within : done ≤ length (bytes_of driven.commands)
  pub answered : new.out ≡ append_known old.out (take said (reply_encoding (step w call out_of_memory).reply))
  pub sends : new.stream ≡ append_known old.stream (take done (bytes_of driven.commands))
  pub after : 0 < said → done ≡ length (bytes_of driven.commands)

-- one call was answered, or a write failed
abbrev pub AnswersOne : PageState → DriverState → Call → Kept → Sinks → Sinks → Result (Unit {0}) Failed → Type 0
AnswersOne w g call kept old new (Ok _) = OneAnswered w g call kept old new
AnswersOne w g call kept old new (Err _) = OneCut w g call old new

-- the one call of this operation and this body was answered, or a write failed
pub record Serves (operation : Operation) (body : List ℕ) (before after : Kept) (old new : Sinks)
    (result : Result (Unit {0}) Failed) : Type 0 where
  pub call : Call
  pub fits : Fits call
  pub operation_is : operation_of call ≡ operation
  pub body_is : body_of call ≡ body
  pub answers : (w : PageState) (g : DriverState) → Stands before w g → AnswersOne w g call after old new result

-- the calls so far were answered, and what is kept stands for the page after them and for the driver after their commands
pub record SoFar (old new : Ends) (kept : Kept) (at : ℕ) : Type 0 where
  pub taken : List Taken
  pub commands : List Command
  pub driver : DriverState
  pub progress : Progress old.both new.both taken commands driver
  pub stands : Stands kept (page_after first_page taken) driver
  pub read : old.left ≡ prepend_known (records_of (calls_of taken)) new.left
  pub counted : at ≡ place_after (calls_of taken)

-- a session was read to its end: records of calls, the closing record, and nothing more
pub record ReadWhole (taken : List Taken) (old new : List ℕ) : Type 0 where
  pub whole : old ≡ records_of (calls_of taken) ++ closing_record
  pub nothing : new ≡ []
  pub room : HasRoomAfter (calls_of taken)

-- the record after those of calls was refused, or the source failed in it; past byte 2^62 nothing but kind 9 refuses it
pub record ReadRefused (taken : List Taken) (end : ReadEnd) (old new : List ℕ) : Type 0 where
  pub rest : List ℕ
  pub before : old ≡ records_of (calls_of taken) ++ rest
  pub refused : Refuses (place_after (calls_of taken)) rest new end
  pub room : HasRoom {T = Step} (place_after (calls_of taken)) (Err end)

-- calls that were taken up to an end
pub record RanTo (Ended : List Taken → List ℕ → List ℕ → Type 0) (old new : Ends) : Type 0 where
  pub taken : List Taken
  pub commands : List Command
  pub driver : DriverState
  pub progress : Progress old.both new.both taken commands driver
  pub read : WhereTold (Ended taken) old.left new.left

-- calls that were answered, and one more, in which a write failed; these were taken, and nothing more
pub record RanUntilCut (old new : Ends) : Type 0 where
  pub taken : List Taken
  pub commands : List Command
  pub driver : DriverState
  pub mid : Sinks
  pub progress : Progress old.both mid taken commands driver
  pub call : Call
  pub fits : Fits call
  pub room : HasRoomAfter (calls_of taken)
  pub cut : OneCut (page_after first_page taken) driver call mid new.both
  pub read : old.left ≡ prepend_known (records_of (calls_of taken) ++ encoding call) new.left

-- what the loop over records did
abbrev pub RunsRecords : Ends → Ends → Result (Unit {0}) RunEnd → Type 0
RunsRecords old new (Ok _) = RanTo ReadWhole old new
RunsRecords old new (Err (Read end)) = RanTo (λ taken. ReadRefused taken end) old new
RunsRecords old new (Err Write) = RanUntilCut old new

-- an end of the loop over records
abbrev pub IsRecordsEnd : RunEnd → Type 0
IsRecordsEnd (Read end) = IsRecordEnd end
IsRecordsEnd Write = Unit {0}
