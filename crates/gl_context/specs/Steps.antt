-- What the context does with one call, seen from the page's and the driver's states that it stands for.
use Rattle.std.specs.Prelude.{◌≡◌, ◌⊎◌, ℕ, true, false, Option, List, Result, Ok, Err, All}
use Rattle.std.specs.Option.{option_to_list}
use Rattle.std.specs.Io.KnownBytes.{append_known}
use Rattle.wire_io.specs.Sinks.{Sends}
use Rattle.wire_io.specs.declared.status.Failed.{Failed}
use Rattle.call_records.specs.Replies.{reply_encoding}
use Rattle.call_records.specs.declared.calls.Call.{Call}
use Rattle.call_records.specs.declared.replies.Reply.{Reply}
use Rattle.command_stream.specs.declared.command.Command.{Command}
use Rattle.command_stream.specs.Commands.{Fits}
use Rattle.gl_model.specs.PageState.{PageState}
use Rattle.gl_model.specs.DriverState.{DriverState}
use Rattle.gl_model.specs.Replay.{replay, clean}
use Rattle.gl_context.specs.PageStep.{step, MayBeOutOfMemory, is_out_of_memory}
use Rattle.gl_context.specs.Sent.{sent, bytes_of}
use Rattle.gl_context.specs.Stands.{Kept, Stands}
use Rattle.gl_context.specs.declared.context.WriteFault.{WriteFault}

-- the page's step gave the reply, its commands replay without a fault to exactly its Shot, and what is kept stands afterwards
pub record Steps (w : PageState) (g : DriverState) (call : Call) (kept : Kept) (old new : Option (List ℕ)) (reply : Reply) : Type 0 where
  pub commands : List Command
  pub driver : DriverState
  pub allowed : is_out_of_memory reply ≡ true → MayBeOutOfMemory w call
  pub replied : reply ≡ (step w call (is_out_of_memory reply)).reply
  pub sends : new ≡ append_known old (bytes_of commands)
  pub fit : All Fits commands
  pub replayed : replay g commands ≡ clean driver (option_to_list (step w call (is_out_of_memory reply)).made) commands
  pub stands : Stands kept (step w call (is_out_of_memory reply)).page driver
  pub exact : commands ≡ sent w call (is_out_of_memory reply)

-- a write failed: a prefix was sent of commands that replay without a fault to exactly the Shot of a step with memory enough
pub record Stops (w : PageState) (g : DriverState) (call : Call) (old new : Option (List ℕ)) (failed : WriteFault) : Type 0 where
  pub commands : List Command
  pub driver : DriverState
  pub sends : Sends {T = Unit {0}} old new (Err failed) (bytes_of commands)
  pub fit : All Fits commands
  pub replayed : replay g commands ≡ clean driver (option_to_list (step w call false).made) commands
  pub exact : commands ≡ sent w call false

-- a call was answered so, or a write failed
abbrev pub StepsOrStops : PageState → DriverState → Call → Kept → Option (List ℕ) → Option (List ℕ) → Result Reply WriteFault → Type 0
StepsOrStops w g call kept old new (Ok reply) = Steps w g call kept old new reply
StepsOrStops w g call kept old new (Err failed) = Stops w g call old new failed

-- a call was answered by the page's step, its commands were sent, and its reply was written, or a prefix of it where a write failed
pub record Replies (w : PageState) (g : DriverState) (call : Call) (kept : Kept) (stream0 stream out0 out : Option (List ℕ))
    (result : Result (Unit {0}) Failed) : Type 0 where
  pub reply : Reply
  pub steps : Steps w g call kept stream0 stream reply
  pub written : Sends out0 out result (reply_encoding reply)

-- a write of the commands failed, and nothing was written of the reply
pub record StopsUnreplied (w : PageState) (g : DriverState) (call : Call) (stream0 stream out0 out : Option (List ℕ)) : Type 0 where
  pub failed : WriteFault
  pub stops : Stops w g call stream0 stream failed
  pub unwritten : out ≡ out0

-- a call was answered and its reply written, or a write failed
abbrev pub RepliesOrStops : PageState → DriverState → Call → Kept → Option (List ℕ) → Option (List ℕ) → Option (List ℕ) → Option (List ℕ)
    → Result (Unit {0}) Failed → Type 0
RepliesOrStops w g call kept stream0 stream out0 out (Ok done) = Replies w g call kept stream0 stream out0 out (Ok done)
RepliesOrStops w g call kept stream0 stream out0 out (Err failed) =
    Replies w g call kept stream0 stream out0 out (Err failed) ⊎ StopsUnreplied w g call stream0 stream out0 out
