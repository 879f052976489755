-- A call's body that was cut short.
use Rattle.std.proofs.Common.{refl}
use Rattle.call_records.proofs.Refusals.{body_refused}
use Rattle.call_records.proofs.reading.read_record.Goals as goal

pub returns-in-Err-read_body-clause-answers : goal.returns-in-Err-read_body-clause-answers
returns-in-Err-read_body-clause-answers g c =
    let head = rw c.in-Ok-Call.field-0-is at c.in-Ok-Call.ensures.taken in
    body_refused c.args.at _ _ _ _ _ _ c.in-Err-read_body.end refl head c.in-Err-read_body.ensures.short
