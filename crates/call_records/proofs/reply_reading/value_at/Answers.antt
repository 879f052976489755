-- A number that is cut short.
use Rattle.call_records.proofs.ReplyPrefixes.{no_number}
use Rattle.call_records.proofs.reply_reading.value_at.Goals as goal

pub returns-then-bytes-lt4-clause-none : goal.returns-then-bytes-lt4-clause-none
returns-then-bytes-lt4-clause-none c = λ none value rest is same e. no_number c.args.bytes.now c.args.tag c.if-bytes-lt4.true c.in-1.is value rest same e
