-- What the run did, and what the last flushes made of it.
use Rattle.std.proofs.Common.{Err, sym, ap, subst, ◌∙◌}
use Rattle.wire_io.specs.declared.status.Status.TheVariants as Status
use Rattle.call_records.specs.declared.reading.ReadEnd.{ReadEnd}
use Rattle.session_run.specs.declared.records.RunEnd.TheVariants.{Read}
use Rattle.session_run.specs.Outcomes.{IsSessionStatus}
use Rattle.session_run.proofs.Finishing.{finished, unopened, told_ended, finished-session, finished-reads, status_of-session}
use Rattle.session_run.proofs.Reading.{reads_end}
use Rattle.session_run.proofs.Telling.{told_header}
use Rattle.session_run.proofs.Completing.{complete_told}
use Rattle.session_run.proofs.session.run_session.Goals as goal

pub returns-in-Err-clause-outcome : goal.returns-in-Err-clause-outcome
returns-in-Err-clause-outcome g c =
    finished Status.OutOfMemory c.finish.result _ _ _ _ _ _ _ _ _ _ (unopened _) c.finish.ensures.replies c.finish.ensures.commands c.finish.ensures.finishes

pub returns-in-Err-Memory-clause-outcome : goal.returns-in-Err-Memory-clause-outcome
returns-in-Err-Memory-clause-outcome g c =
    let same = rw c.in-Err-Memory.field-0-is at c.in-Err-Memory.ensures.opens in
    finished Status.OutOfMemory c.finish-in-Err-Memory.result _ _ _ _ _ _ _ _ _ _ (unopened _) c.finish-in-Err-Memory.ensures.replies
    (c.finish-in-Err-Memory.ensures.commands ∙ same) c.finish-in-Err-Memory.ensures.finishes

pub returns-in-Err-Write-clause-outcome : goal.returns-in-Err-Write-clause-outcome
returns-in-Err-Write-clause-outcome g c =
    let part = rw c.in-Err-Write.field-0-is at c.in-Err-Write.ensures.opens in
    told_header _ _ _ _ part.0 part.1 part.2

pub returns-in_default-clause-outcome : goal.returns-in_default-clause-outcome
returns-in_default-clause-outcome g c =
    finished Status.Ok c.finish-in_default.result _ _ _ _ _ _ _ _ _ _ (c.in_default.ensures.did _ c.in-Ok-open.ensures.opens.0)
    c.finish-in_default.ensures.replies c.finish-in_default.ensures.commands c.finish-in_default.ensures.finishes

pub returns-in-Read-clause-outcome : goal.returns-in-Read-clause-outcome
returns-in-Read-clause-outcome g c =
    let did = rw c.in-Read.is at (c.in-Err-ended.ensures.did _ c.in-Ok-open.ensures.opens.0) in
    finished c.status_of.result c.finish-in-Read.result _ _ _ _ _ _ _ _ _ _ (told_ended c.in-Read.end c.status_of.result _ _ c.status_of.ensures did)
    c.finish-in-Read.ensures.replies c.finish-in-Read.ensures.commands c.finish-in-Read.ensures.finishes

pub returns-in-Read-clause-reads : goal.returns-in-Read-clause-reads
returns-in-Read-clause-reads g c =
    let reads = rw c.in-Read.is at c.in-Err-ended.ensures.reads in
    finished-reads c.status_of.result c.finish-in-Read.result _ _ _ _ _ _
    (rw c.status_of.ensures (reads_end c.in-Read.end _ _ reads)) c.finish-in-Read.ensures.finishes

pub returns-in-Read-clause-complete : goal.returns-in-Read-clause-complete
returns-in-Read-clause-complete g c = λ calls fits e short faultless.
    let reads = rw c.in-Read.is at c.in-Err-ended.ensures.reads in
    let fault = complete_told calls _ _ c.in-Read.end fits e short reads in
    absurd (faultless.input_stood (c.run_opened-ended.ensures.cause.read (c.in-Err-ended.is ∙ ap Err c.in-Read.is ∙ ap (λ (x : ReadEnd). Err (Read x)) fault)))

pub returns-clause-outcome : goal.returns-clause-outcome
returns-clause-outcome g c = rw c.in-Write.is at (c.in-Err-ended.ensures.did _ c.in-Ok-open.ensures.opens.0)

pub returns-in-Read-clause-never : goal.returns-in-Read-clause-never
returns-in-Read-clause-never g c =
    finished-session c.status_of.result c.finish-in-Read.result _ _ _ _ (subst IsSessionStatus (sym c.status_of.ensures) (status_of-session c.in-Read.end))
    c.finish-in-Read.ensures.finishes
