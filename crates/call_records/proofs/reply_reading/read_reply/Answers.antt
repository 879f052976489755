-- Nothing begins the bytes.
use Rattle.std.proofs.Common.{refl, ◌∙◌}
use Rattle.wire_io.proofs.Prefixes.{rest_of}
use Rattle.call_records.specs.Replies.{tag_of, content_of}
use Rattle.call_records.proofs.ReplyPrefixes.{no_words, no_reply}
use Rattle.call_records.proofs.reply_reading.read_reply.Goals as goal

pub returns-then-bytes-lt8-clause-none : goal.returns-then-bytes-lt8-clause-none
returns-then-bytes-lt8-clause-none c =
    λ none reply rest is e. no_words c.args.bytes.now (content_of reply.value) rest reply.raised (tag_of reply.value) c.if-bytes-lt8.true e

pub returns-in_default-clause-none : goal.returns-in_default-clause-none
returns-in_default-clause-none c =
    λ none. no_reply c.args.bytes.now c.u32_at-raised.result c.u32_at-tag.result c.u32_at-tag.type_inv c.u32_at-raised.ensures (rw (rest_of 4 c.args.bytes.now) at c.u32_at-tag.ensures)
    (λ value rest is same e. c.in_default.ensures.none refl value rest is same (rest_of 8 c.args.bytes.now ∙ e))
