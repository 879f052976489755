-- The name is there, or nothing begins the bytes.
use Rattle.std.proofs.Common.{length, arith, lit<}
use Rattle.wire_io.proofs.Prefixes.{rest_of}
use Rattle.call_records.proofs.ReplyPrefixes.{no_word, no_count, no_part, name_prefix}
use Rattle.call_records.proofs.reply_reading.name_at.Goals as goal

pub returns-then-bytes-lt4-clause-none : goal.returns-then-bytes-lt4-clause-none
returns-then-bytes-lt4-clause-none c = λ none name rest within e. no_word c.args.bytes.now name rest (length name) c.if-bytes-lt4.true e

pub returns-then-count-gt-NAME_BYTES-clause-none : goal.returns-then-count-gt-NAME_BYTES-clause-none
returns-then-count-gt-NAME_BYTES-clause-none c =
    λ none name rest within e. no_count c.args.bytes.now name rest 256 c.u32_at-count.result (length name) (lit< tt) c.u32_at-count.type_inv c.u32_at-count.ensures c.if-count-gt-NAME_BYTES.true within e

pub returns-then-rest-count-clause-none : goal.returns-then-rest-count-clause-none
returns-then-rest-count-clause-none c =
    λ none name rest within e. no_part c.args.bytes.now name rest 256 c.u32_at-count.result (length name) 1 (lit< tt) c.u32_at-count.type_inv c.u32_at-count.ensures within (omega (arith, rw (rest_of 4 c.args.bytes.now) at c.if-rest-count.true)) (omega arith) e

pub returns-clause-name : goal.returns-clause-name
returns-clause-name c = name_prefix c.args.bytes.now c.in-Some.name c.u32_at-count.result c.u32_at-count.ensures (rw (rest_of 4 c.args.bytes.now) at c.if-rest-count.false) (rw (rest_of 4 c.args.bytes.now) at c.in-Some.ensures.value)
