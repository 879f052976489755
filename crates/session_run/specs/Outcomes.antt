-- What a run did with all the bytes that it was given, by its status.
use Rattle.std.specs.Prelude.{◌≡◌, ℕ, ◌<◌, ◌≤◌, ◌⊎◌, true, Some, None, List, [], ◌∷◌, ◌++◌, length, take, map, Result, Ok, Err, All}
use Rattle.wire_io.specs.declared.status.Status as Statuses
use Rattle.wire_io.specs.declared.status.Status.TheVariants as Status
use Rattle.call_records.specs.declared.reading.Step.{Step}
use Rattle.call_records.specs.declared.reading.ReadEnd.{ReadEnd}
use Rattle.call_records.specs.declared.calls.Call.{Call}
use Rattle.call_records.specs.Records.{encoding, session, session_start, Fits, parts_of}
use Rattle.call_records.specs.Replies.{reply_encoding}
use Rattle.call_records.specs.Reading.{StartRefuses, Refuses, HasRoom}
use Rattle.command_stream.specs.Commands.{stream, stream_start}
use Rattle.command_stream.specs.declared.command.Command.{Command}
use Rattle.command_stream.specs.Commands as Commands
use Rattle.gl_model.specs.Shot.{Shot}
use Rattle.gl_model.specs.PageState.{first_page}
use Rattle.gl_model.specs.DriverState.{first_driver}
use Rattle.gl_model.specs.Replay.{replay}
use Rattle.gl_context.specs.PageStep.{MayBeOutOfMemory}
use Rattle.gl_context.specs.PageRun.{Taken, step_taken, page_after, replies, shots, all_sent}
use Rattle.gl_context.specs.Sent.{sent, bytes_of}
use Rattle.session_run.specs.Ends.{Ends}
use Rattle.session_run.specs.Unchanged.{ErrorsChangeNothing}
use Rattle.session_run.specs.Serving.{calls_of, records_of, answered_by, place_after, HasRoomAfter, AreTaken}
use Rattle.session_run.specs.Statuses.{status_of}
use Rattle.session_run.specs.declared.records.RunEnd.{RunEnd}
use Rattle.session_run.specs.declared.records.RunEnd.TheVariants.{Read, Write}

-- what a run was given to read and left of it, and what it added to the replies and to the stream
pub record Transcript : Type 0 where
  pub input : List ℕ
  pub left : List ℕ
  pub answered : List ℕ
  pub sends : List ℕ

-- the bytes of a stream replay without a fault to these Shots: so do all commands whose bytes they are
abbrev pub ReplaysTo : List ℕ → List Shot → Type 0
ReplaysTo bytes made =
    (commands : List Command) → All Commands.Fits commands → bytes ≡ stream commands
    → ((replay first_driver commands).fault ≡ None) × ((replay first_driver commands).shots ≡ made)

-- these calls were answered, each by one reply that is the page machine's; what was sent are whole commands, and the
-- driver's machine takes them without a fault and makes exactly the calls' Shots
pub record Served (taken : List Taken) (answered sends : List ℕ) : Type 0 where
  -- what binds the program
  pub are : AreTaken taken
  pub replied : answered ≡ answered_by taken
  pub commands : List Command
  pub sent : sends ≡ stream commands
  pub commands_fit : All Commands.Fits commands
  pub faultless : (replay first_driver commands).fault ≡ None
  pub drawn : (replay first_driver commands).shots ≡ shots first_page taken
  -- the commands are exactly those of the calls
  pub exact : commands ≡ all_sent first_page taken
  -- what follows from the definitions alone: one reply for each call, an error changes its flag alone, and the bytes sent
  -- are no other commands' that replay otherwise
  pub one_each : length (replies first_page taken) ≡ length taken
  pub errors : ErrorsChangeNothing first_page taken
  pub from_bytes : ReplaysTo sends (shots first_page taken)

-- the session was read to its end, and all its calls were served
pub record Headline (run : Transcript) : Type 0 where
  pub taken : List Taken
  pub served : Served taken run.answered run.sends
  pub whole : run.input ≡ session (calls_of taken)
  pub nothing : run.left ≡ []
  pub room : HasRoomAfter (calls_of taken)
  -- by the definitions alone no other calls have these bytes
  pub only : (calls : List Call) → All Fits calls → run.input ≡ session calls → map parts_of calls ≡ map parts_of (calls_of taken)

-- the session's header was refused, or the source failed in it: no call was taken
pub record EndedInStart (end : ReadEnd) (run : Transcript) : Type 0 where
  pub refused : StartRefuses run.input run.left end
  pub served : Served [] run.answered run.sends

-- a record was refused, or the source failed in it: the calls before it were served; past byte 2^62 nothing but kind 9
-- refuses it
pub record EndedInRecord (end : ReadEnd) (run : Transcript) : Type 0 where
  pub taken : List Taken
  pub rest : List ℕ
  pub before : run.input ≡ session_start ++ (records_of (calls_of taken) ++ rest)
  pub refused : Refuses (place_after (calls_of taken)) rest run.left end
  pub room : HasRoom {T = Step} (place_after (calls_of taken)) (Err end)
  pub served : Served taken run.answered run.sends

-- reading ended so
abbrev pub Ended : ReadEnd → Transcript → Type 0
Ended end run = EndedInStart end run ⊎ EndedInRecord end run

-- no write was made but of a prefix of the stream's header, and nothing was read
pub record CutInHeader (run : Transcript) : Type 0 where
  pub untaken : run.left ≡ run.input
  pub unanswered : run.answered ≡ []
  pub done : ℕ
  pub done_within : done ≤ length stream_start
  pub sent_partly : run.sends ≡ take done stream_start

-- a write failed in the call after these, which were served: its record was the last that was read, its commands were sent
-- in part, and its reply was written in part, of which the first byte comes after the last of the commands
pub record CutInCall (run : Transcript) : Type 0 where
  pub taken : List Taken
  pub replied : List ℕ
  pub sent_before : List ℕ
  pub served : Served taken replied sent_before
  pub last : Taken
  pub fits : Fits last.call
  pub room : HasRoomAfter (calls_of taken)
  pub read : run.input ≡ session_start ++ (records_of (calls_of taken) ++ encoding last.call) ++ run.left
  pub allowed : last.out_of_memory ≡ true → MayBeOutOfMemory (page_after first_page taken) last.call
  pub said : ℕ
  pub said_within : said ≤ length (reply_encoding (step_taken (page_after first_page taken) last).reply)
  pub replied_partly : run.answered ≡ replied ++ take said (reply_encoding (step_taken (page_after first_page taken) last).reply)
  pub more : List Command
  pub done : ℕ
  pub done_within : done ≤ length (bytes_of more)
  pub sent_partly : run.sends ≡ sent_before ++ take done (bytes_of more)
  pub after : 0 < said → done ≡ length (bytes_of more)
  pub more_fit : All Commands.Fits more
  pub drawn : (replay first_driver (served.commands ++ more)).shots ≡ shots first_page (taken ++ last ∷ [])
  pub faultless : (replay first_driver (served.commands ++ more)).fault ≡ None
  -- the commands are exactly those of the call
  pub exact : more ≡ sent (page_after first_page taken) last.call last.out_of_memory
  -- what follows from the definitions alone: no prefix of these commands has a fault
  pub prefixes : (k : ℕ) → (replay first_driver (take k (served.commands ++ more))).fault ≡ None

-- reading had ended, and all calls that were read were served, when a flush failed
abbrev pub CutAtEnd : Transcript → Type 0
CutAtEnd run = Headline run ⊎ ((end : ReadEnd) × Ended end run)

-- a sink failed: in the stream's header, in a call, or at the end
abbrev pub Stopped : Transcript → Type 0
Stopped run = CutInHeader run ⊎ (CutInCall run ⊎ CutAtEnd run)

-- memory ran out before the first byte was taken
pub record Unopened (run : Transcript) : Type 0 where
  pub untaken : run.left ≡ run.input
  pub unanswered : run.answered ≡ []
  pub unsent : run.sends ≡ []

-- reading ended in a way that has this status
pub record EndedAs (status : Statuses.Status) (run : Transcript) : Type 0 where
  pub end : ReadEnd
  pub is : status_of end ≡ status
  pub ended : Ended end run

-- what a run did, by its end
abbrev pub Did : Result (Unit {0}) RunEnd → Transcript → Type 0
Did (Ok _) = Headline
Did (Err (Read end)) = Ended end
Did (Err Write) = Stopped

-- what a run did, by its status
abbrev pub Outcome : Statuses.Status → Transcript → Type 0
Outcome Status.Ok = Headline
Outcome Status.OutOfMemory = Unopened
Outcome Status.Usage = λ run. ⊥
Outcome (Status.BadInput at kind) = EndedAs (Status.BadInput at kind)
Outcome (Status.Truncated at) = EndedAs (Status.Truncated at)
Outcome Status.ReadFault = EndedAs Status.ReadFault
Outcome Status.WriteFault = Stopped
Outcome (Status.ReplayFault command code) = λ run. ⊥

-- what was left, and what was added to the two sinks
pub record Told (P : Transcript → Type 0) (input held_out held_stream : List ℕ) (new : Ends) : Type 0 where
  pub rest : List ℕ
  pub answered : List ℕ
  pub sends : List ℕ
  pub left_is : new.left ≡ Some rest
  pub out_is : new.both.out ≡ Some (held_out ++ answered)
  pub stream_is : new.both.stream ≡ Some (held_stream ++ sends)
  pub did : P (record { input = input; left = rest; answered = answered; sends = sends })

-- where the source tells what is left and the sinks tell what they hold
abbrev pub WhereAllTold : (Transcript → Type 0) → Ends → Ends → Type 0
WhereAllTold P old new =
    (input held_out held_stream : List ℕ) → old.left ≡ Some input → old.both.out ≡ Some held_out → old.both.stream ≡ Some held_stream
    → Told P input held_out held_stream new

-- the statuses that a whole session can end with where no object fails
abbrev pub IsComplete : Statuses.Status → Type 0
IsComplete status = (status ≡ Status.Ok) ⊎ (status ≡ Status.OutOfMemory)

-- a status that the run of a session can have
abbrev pub IsSessionStatus : Statuses.Status → Type 0
IsSessionStatus Status.Ok = Unit {0}
IsSessionStatus Status.OutOfMemory = Unit {0}
IsSessionStatus Status.Usage = ⊥
IsSessionStatus (Status.BadInput at kind) = Unit {0}
IsSessionStatus (Status.Truncated at) = Unit {0}
IsSessionStatus Status.ReadFault = Unit {0}
IsSessionStatus Status.WriteFault = Unit {0}
IsSessionStatus (Status.ReplayFault command code) = ⊥

-- nothing was taken, and nothing was added
pub record Untouched (old new : Ends) : Type 0 where
  pub input : new.left ≡ old.left
  pub replies : new.both.out ≡ old.both.out
  pub commands : new.both.stream ≡ old.both.stream
