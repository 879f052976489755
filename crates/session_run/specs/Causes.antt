-- Which of the three objects failed, where a run was ended by a fault.
use Rattle.std.specs.Prelude.{◌≡◌, ℕ, ◌≤◌, ◌⊎◌, Result, Err, OnErr}
use Rattle.wire_io.specs.Faults.{Rose}
use Rattle.wire_io.specs.declared.status.Status.{Status}
use Rattle.wire_io.specs.declared.status.Status.TheVariants.{WriteFault}
use Rattle.call_records.specs.declared.reading.ReadEnd.TheVariants.{ReadFault}
use Rattle.session_run.specs.Ends.{Faults}
use Rattle.session_run.specs.declared.records.RunEnd.{RunEnd}
use Rattle.session_run.specs.declared.records.RunEnd.TheVariants.{Read, Write}

-- no number of faults has fallen
pub record Later (old new : Faults) : Type 0 where
  pub input : old.input ≤ new.input
  pub out : old.out ≤ new.out
  pub stream : old.stream ≤ new.stream

-- the number of faults of one of the sinks rose
abbrev pub SinkRose : Faults → Faults → Type 0
SinkRose old new = Rose old.out new.out ⊎ Rose old.stream new.stream

-- neither number of faults has fallen, and a write failed only where one rose
pub record AnswerCause {T E : Type 0} (out0 out stream0 stream : ℕ) (result : Result T E) : Type 0 where
  pub out_later : out0 ≤ out
  pub stream_later : stream0 ≤ stream
  pub failed : OnErr result (Rose out0 out ⊎ Rose stream0 stream)

-- no number of faults has fallen; a read fault comes only where the source's rose, a write fault only where a sink's did
pub record RunCause (old new : Faults) (result : Result (Unit {0}) RunEnd) : Type 0 where
  pub later : Later old new
  pub read : result ≡ Err (Read ReadFault) → Rose old.input new.input
  pub write : result ≡ Err Write → SinkRose old new

-- neither number of faults has fallen, and either the status stands and both sinks handed on all that they took, or a
-- flush failed
pub record Finishes (HandedOut HandedStream : Type 0) (out0 out stream0 stream : ℕ) (status result : Status) : Type 0 where
  pub out_later : out0 ≤ out
  pub stream_later : stream0 ≤ stream
  pub cases : ((result ≡ status) × HandedOut × HandedStream) ⊎ ((result ≡ WriteFault) × (Rose out0 out ⊎ Rose stream0 stream))

-- a read fault comes only where the source's number of faults rose, a write fault only where a sink's did; at every other
-- status both sinks handed on all that they took
pub record SessionCause (HandedOut HandedStream : Type 0) (old new : Faults) (result : Status) : Type 0 where
  pub later : Later old new
  pub read_fault : result ≡ Status.ReadFault → Rose old.input new.input
  pub write_fault : result ≡ WriteFault → SinkRose old new
  pub handed_on : (result ≡ WriteFault → ⊥) → HandedOut × HandedStream

-- no number of faults rose
pub record Faultless (old new : Faults) : Type 0 where
  pub input_stood : Rose old.input new.input → ⊥
  pub out_stood : Rose old.out new.out → ⊥
  pub stream_stood : Rose old.stream new.stream → ⊥
