-- The session's header was taken, and then its records.
use Rattle.session_run.proofs.Reading.{reads_records}
use Rattle.session_run.proofs.Telling.{told_records}
use Rattle.session_run.proofs.session.run_opened.Goals as goal

pub returns-in-Ok-clause-did : goal.returns-in-Ok-clause-did
returns-in-Ok-clause-did g c = λ unopened started.
    told_records unopened _ _ _ c.run_records.result c.in-Ok.ensures.taken started c.run_records.ensures.runs

pub returns-in-Ok-clause-reads : goal.returns-in-Ok-clause-reads
returns-in-Ok-clause-reads g c = reads_records _ _ _ c.run_records.result c.in-Ok.ensures.taken c.run_records.ensures.runs
