-- A write that failed in the words.
use Rattle.std.proofs.Common.{refl, Result, Err}
use Rattle.gl_numbers.specs.Bytes.{le32}
use Rattle.wire_io.specs.declared.status.Failed.{Failed}
use Rattle.call_records.proofs.Sending.{three_stop}
use Rattle.call_records.proofs.replies.write_after_words.Goals as goal

pub returns-in_default-clause-bytes : goal.returns-in_default-clause-bytes
returns-in_default-clause-bytes g c =
    let sent = rw c.three_words.ensures at c.in_default.ensures.bytes in
    let failed : Result (Unit {0}) Failed = Err c.in_default.field-0 in
    three_stop _ _ failed failed (le32 c.args.first) (le32 c.args.second) (le32 c.args.third) c.args.bytes.now sent refl refl
