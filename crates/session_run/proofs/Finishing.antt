-- From how reading ended, and from the last flushes, to what a run did by its status.
use Rattle.std.proofs.Common.{◌≡◌, ℕ, Option, Some, List, [], refl, sym, ap, subst, ◌∙◌, arith, inl, inr, append-nil}
use Rattle.wire_io.specs.declared.status.Status as Statuses
use Rattle.wire_io.specs.declared.status.Status.TheVariants as Status
use Rattle.call_records.specs.declared.reading.ReadEnd.{ReadEnd}
use Rattle.call_records.specs.declared.reading.ReadEnd.TheVariants.{Truncated, Magic, Version, UnknownOp, BodyLong, BodyShape, AfterEnd, InputLong, ReadFault}
use Rattle.session_run.specs.Causes.{Finishes}
use Rattle.session_run.specs.Ends.{Ends, ends}
use Rattle.session_run.specs.Statuses.{status_of}
use Rattle.session_run.specs.Reads.{SessionReads}
use Rattle.session_run.specs.Outcomes.{Transcript, Ended, Stopped, Outcome, WhereAllTold, IsSessionStatus}

-- whatever a run did, a flush failed after it
pub stopped : (status : Statuses.Status) (run : Transcript) → Outcome status run → Stopped run
stopped Status.Ok run o = inr (inr (inl o))
stopped Status.OutOfMemory run o = inl (record {
  untaken = o.untaken;
  unanswered = o.unanswered;
  done = 0;
  done_within = omega arith;
  sent_partly = o.unsent;
})
stopped Status.Usage run o = absurd o
stopped (Status.BadInput at kind) run o = inr (inr (inr (o.end, o.ended)))
stopped (Status.Truncated at) run o = inr (inr (inr (o.end, o.ended)))
stopped Status.ReadFault run o = inr (inr (inr (o.end, o.ended)))
stopped Status.WriteFault run o = o
stopped (Status.ReplayFault command code) run o = absurd o

-- reading ended so, by its status
pub outcome_ended : (end : ReadEnd) (run : Transcript) → Ended end run → Outcome (status_of end) run
outcome_ended (Truncated n) run e = record { end = Truncated n; is = refl; ended = e }
outcome_ended (Magic n) run e = record { end = Magic n; is = refl; ended = e }
outcome_ended (Version n) run e = record { end = Version n; is = refl; ended = e }
outcome_ended (UnknownOp n) run e = record { end = UnknownOp n; is = refl; ended = e }
outcome_ended (BodyLong n) run e = record { end = BodyLong n; is = refl; ended = e }
outcome_ended (BodyShape n) run e = record { end = BodyShape n; is = refl; ended = e }
outcome_ended (AfterEnd n) run e = record { end = AfterEnd n; is = refl; ended = e }
outcome_ended (InputLong n) run e = record { end = InputLong n; is = refl; ended = e }
outcome_ended ReadFault run e = record { end = ReadFault; is = refl; ended = e }

-- another thing that was done with the same bytes
pub redone : (P Q : Transcript → Type 0) (old new : Ends) → ((run : Transcript) → P run → Q run) → WhereAllTold P old new → WhereAllTold Q old new
redone P Q old new turn told = λ input held_out held_stream e_in e_out e_stream.
    let t = told input held_out held_stream e_in e_out e_stream in
    record {
      rest = t.rest;
      answered = t.answered;
      sends = t.sends;
      left_is = t.left_is;
      out_is = t.out_is;
      stream_is = t.stream_is;
      did = turn (record { input = input; left = t.rest; answered = t.answered; sends = t.sends }) t.did;
    }

-- a status that stands or became WriteFault
pub turned : {HandedOut HandedStream : Type 0} (status result : Statuses.Status) (old new : Ends) (o0 o s0 s : ℕ) → WhereAllTold (Outcome status) old new
    → Finishes HandedOut HandedStream o0 o s0 s status result → WhereAllTold (Outcome result) old new
turned status result old new o0 o s0 s told f =
    elim f.cases [
      | inl stood ↦ subst (λ (r : Statuses.Status). WhereAllTold (Outcome r) old new) (sym stood.0) told
      | inr failed ↦ subst (λ (r : Statuses.Status). WhereAllTold (Outcome r) old new) (sym failed.0) (redone (Outcome status) Stopped old new (stopped status) told)
    ]

-- the same, where the last flushes left what the sinks hold
pub finished : {HandedOut HandedStream : Type 0} (status result : Statuses.Status) (old : Ends) (left outm out streamm stream : Option (List ℕ)) (o0 o s0 s : ℕ)
    → WhereAllTold (Outcome status) old (ends left outm streamm) → out ≡ outm → stream ≡ streamm → Finishes HandedOut HandedStream o0 o s0 s status result
    → WhereAllTold (Outcome result) old (ends left out stream)
finished status result old left outm out streamm stream o0 o s0 s told same_out same_stream f =
    turned status result old (ends left out stream) o0 o s0 s
    (subst (λ (x : Option (List ℕ)). WhereAllTold (Outcome status) old (ends left x stream)) (sym same_out)
    (subst (λ (x : Option (List ℕ)). WhereAllTold (Outcome status) old (ends left outm x)) (sym same_stream) told)) f

-- reading ended so, and the status says so
pub told_ended : (end : ReadEnd) (status : Statuses.Status) (old new : Ends) → status ≡ status_of end → WhereAllTold (Ended end) old new
    → WhereAllTold (Outcome status) old new
told_ended end status old new e told =
    subst (λ (r : Statuses.Status). WhereAllTold (Outcome r) old new) (sym e) (redone (Ended end) (Outcome (status_of end)) old new (outcome_ended end) told)

-- memory ran out
pub unopened : (old : Ends) → WhereAllTold (Outcome Status.OutOfMemory) old old
unopened old = λ input held_out held_stream e_in e_out e_stream. record {
  rest = input;
  answered = [];
  sends = [];
  left_is = e_in;
  out_is = e_out ∙ ap Some (sym (append-nil held_out));
  stream_is = e_stream ∙ ap Some (sym (append-nil held_stream));
  did = record { untaken = refl; unanswered = refl; unsent = refl };
}

-- an end of reading has a status of a session
pub status_of-session : (end : ReadEnd) → IsSessionStatus (status_of end)
status_of-session (Truncated n) = tt
status_of-session (Magic n) = tt
status_of-session (Version n) = tt
status_of-session (UnknownOp n) = tt
status_of-session (BodyLong n) = tt
status_of-session (BodyShape n) = tt
status_of-session (AfterEnd n) = tt
status_of-session (InputLong n) = tt
status_of-session ReadFault = tt

-- so has what the last flushes make of it
pub finished-session : {HandedOut HandedStream : Type 0} (status result : Statuses.Status) (o0 o s0 s : ℕ) → IsSessionStatus status
    → Finishes HandedOut HandedStream o0 o s0 s status result → IsSessionStatus result
finished-session status result o0 o s0 s is f =
    elim f.cases [
      | inl stood ↦ subst IsSessionStatus (sym stood.0) is
      | inr failed ↦ subst IsSessionStatus (sym failed.0) tt
    ]

-- and it was read as before
pub finished-reads : {HandedOut HandedStream : Type 0} (status result : Statuses.Status) (old new : Option (List ℕ)) (o0 o s0 s : ℕ) → SessionReads status old new
    → Finishes HandedOut HandedStream o0 o s0 s status result → SessionReads result old new
finished-reads status result old new o0 o s0 s reads f =
    elim f.cases [
      | inl stood ↦ subst (λ (r : Statuses.Status). SessionReads r old new) (sym stood.0) reads
      | inr failed ↦ subst (λ (r : Statuses.Status). SessionReads r old new) (sym failed.0) tt
    ]
