-- The status of each way in which reading ends.
use Rattle.std.specs.Prelude.{ℕ}
use Rattle.wire_io.specs.declared.status.Status as Statuses
use Rattle.wire_io.specs.declared.status.Status.TheVariants as Status
use Rattle.call_records.specs.declared.reading.ReadEnd as Reading
use Rattle.call_records.specs.declared.reading.ReadEnd.TheVariants as Session
use Rattle.session_run.specs.declared.replay_end.ReplayEnd as Replaying
use Rattle.session_run.specs.declared.replay_end.ReplayEnd.TheVariants as Stream

-- the kinds of bad input by number (this project's own): other letters at the start
abbrev pub bad_magic : ℕ
bad_magic = 2

-- another version
abbrev pub bad_version : ℕ
bad_version = 3

-- a header of no operation; in a stream also one of a length that its operation doesn't allow
abbrev pub bad_operation : ℕ
bad_operation = 4

-- a body longer than a body may be
abbrev pub long_body : ℕ
long_body = 5

-- a body of a length that its operation doesn't allow
abbrev pub bad_shape : ℕ
bad_shape = 6

-- a byte after the closing record
abbrev pub byte_after_end : ℕ
byte_after_end = 7

-- a header that would end past byte 2^62
abbrev pub late_header : ℕ
late_header = 9

-- the status of an end of reading a session: its kind by number, and its place
abbrev pub status_of : Reading.ReadEnd → Statuses.Status
status_of (Session.Truncated at) = Status.Truncated at
status_of (Session.Magic at) = Status.BadInput at bad_magic
status_of (Session.Version at) = Status.BadInput at bad_version
status_of (Session.UnknownOp at) = Status.BadInput at bad_operation
status_of (Session.BodyLong at) = Status.BadInput at long_body
status_of (Session.BodyShape at) = Status.BadInput at bad_shape
status_of (Session.AfterEnd at) = Status.BadInput at byte_after_end
status_of (Session.InputLong at) = Status.BadInput at late_header
status_of Session.ReadFault = Status.ReadFault

-- the status of a replay that stopped: its kind by number, and its place
abbrev pub status_of_end : Replaying.ReplayEnd → Statuses.Status
status_of_end (Stream.Truncated at) = Status.Truncated at
status_of_end Stream.Magic = Status.BadInput 0 bad_magic
status_of_end Stream.Version = Status.BadInput 4 bad_version
status_of_end (Stream.Refused at) = Status.BadInput at bad_operation
status_of_end (Stream.Late at) = Status.BadInput at late_header
status_of_end (Stream.Faults number code) = Status.ReplayFault number code
status_of_end Stream.Memory = Status.OutOfMemory
status_of_end Stream.Read = Status.ReadFault
