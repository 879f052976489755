-- A body that was read to its end.
use Rattle.gl_numbers.proofs.OneRecord.{read_fits}
use Rattle.call_records.specs.declared.operations.TheConstants.{BODY_MAX}
use Rattle.call_records.specs.Operations.{row_of}
use Rattle.call_records.specs.Records.{parts_of}
use Rattle.call_records.proofs.subjects.call_of.Goals as goal

pub returns-clause-body : goal.returns-clause-body
returns-clause-body g c =
    let whole = rw c.new-fields.ensures at c.read.ensures in
    (read_fits row_of BODY_MAX (g.K.Subject.whole c.args.operation) c.args.body.now c.read.new.fields (parts_of (g.K.Call.SubjectCall.whole_call c.read.result)) whole c.requires).body
