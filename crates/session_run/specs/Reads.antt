-- What a run read of its source, by how it ended; the sinks have no part in it.
use Rattle.std.specs.Prelude.{◌≡◌, ℕ, ◌⊎◌, Option, List, [], ◌++◌, Result, Ok, Err, All}
use Rattle.wire_io.specs.declared.status.Status as Statuses
use Rattle.wire_io.specs.declared.status.Status.TheVariants as Status
use Rattle.wire_io.specs.Sources.{WhereTold}
use Rattle.call_records.specs.declared.calls.Call.{Call}
use Rattle.call_records.specs.declared.reading.Step.{Step}
use Rattle.call_records.specs.declared.reading.ReadEnd.{ReadEnd}
use Rattle.call_records.specs.Records.{session, session_start, Fits}
use Rattle.call_records.specs.Reading.{StartRefuses, Refuses, HasRoom}
use Rattle.session_run.specs.Serving.{records_of, place_after, HasRoomAfter, HeadersWithin}
use Rattle.session_run.specs.Statuses.{status_of}
use Rattle.session_run.specs.declared.records.RunEnd.{RunEnd}
use Rattle.session_run.specs.declared.records.RunEnd.TheVariants.{Read, Write}

-- all was read, and it is a session, of which each header ends by byte 2^62
pub record WholeSession (old new : List ℕ) : Type 0 where
  pub calls : List Call
  pub fits : All Fits calls
  pub headers : HeadersWithin calls
  pub room : HasRoomAfter calls
  pub whole : old ≡ session calls
  pub nothing : new ≡ []

-- the record after those of these calls was refused, or the source failed there; each header before it ends by byte 2^62,
-- and past that it is refused for nothing else
pub record RecordRefused (end : ReadEnd) (old new : List ℕ) : Type 0 where
  pub calls : List Call
  pub fits : All Fits calls
  pub headers : HeadersWithin calls
  pub room : HasRoom {T = Step} (place_after calls) (Err end)
  pub rest : List ℕ
  pub before : old ≡ session_start ++ (records_of calls ++ rest)
  pub refused : Refuses (place_after calls) rest new end

-- the session's header or a record was refused, or the source failed there
abbrev pub RefusesReading : ReadEnd → List ℕ → List ℕ → Type 0
RefusesReading end old new = StartRefuses old new end ⊎ RecordRefused end old new

-- reading was refused in a way that has this status
pub record RefusedAs (status : Statuses.Status) (old new : List ℕ) : Type 0 where
  pub end : ReadEnd
  pub is : status_of end ≡ status
  pub refused : RefusesReading end old new

-- what was read, by how the run ended, where the source tells it
abbrev pub ReadsAs : Result (Unit {0}) RunEnd → Option (List ℕ) → Option (List ℕ) → Type 0
ReadsAs (Ok _) old new = WhereTold WholeSession old new
ReadsAs (Err (Read end)) old new = WhereTold (RefusesReading end) old new
ReadsAs (Err Write) old new = Unit {0}

-- what was read, by the status
abbrev pub SessionReads : Statuses.Status → Option (List ℕ) → Option (List ℕ) → Type 0
SessionReads Status.Ok old new = WhereTold WholeSession old new
SessionReads Status.OutOfMemory old new = new ≡ old
SessionReads Status.Usage old new = ⊥
SessionReads (Status.BadInput at kind) old new = WhereTold (RefusedAs (Status.BadInput at kind)) old new
SessionReads (Status.Truncated at) old new = WhereTold (RefusedAs (Status.Truncated at)) old new
SessionReads Status.ReadFault old new = WhereTold (RefusedAs Status.ReadFault) old new
SessionReads Status.WriteFault old new = Unit {0}
SessionReads (Status.ReplayFault command code) old new = ⊥
