-- A header that was taken and judged.
use Rattle.call_records.proofs.Refusals.{head_taken, head_refused}
use Rattle.call_records.proofs.reading.read_head.Goals as goal

pub returns-in-Ok-clause-taken : goal.returns-in-Ok-clause-taken
returns-in-Ok-clause-taken g c =
    head_taken c.args.at c.in-Ok.number c.in-Ok.len _ _ c.judge.result c.in-Ok.ensures.taken c.judge.ensures

pub returns-in-Ok-clause-refused : goal.returns-in-Ok-clause-refused
returns-in-Ok-clause-refused g c =
    head_refused c.args.at c.in-Ok.number c.in-Ok.len _ _ c.judge.result c.in-Ok.ensures.range.0 c.in-Ok.ensures.range.1 c.in-Ok.ensures.taken c.judge.ensures
