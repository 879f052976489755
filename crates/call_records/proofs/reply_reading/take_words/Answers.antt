-- One more word was read.
use Rattle.std.proofs.Common.{◌∙◌, ◌*◌, arith}
use Rattle.std.proofs.lemmas.List.{length-set}
use Rattle.wire_io.proofs.Prefixes.{rest_of}
use Rattle.call_records.proofs.ReplyPrefixes.{words_more}
use Rattle.call_records.proofs.reply_reading.take_words.Goals as goal

pub loop-i-preserved : goal.loop-i-preserved
loop-i-preserved c = record {
  whole = length-set c.loop-i.into c.loop-i.i c.u32_at.result ∙ c.loop-i.invariant.whole;
  words = words_more c.args.bytes.now c.loop-i.into c.loop-i.i c.u32_at.result (omega (arith, c.loop-i-test.true, c.loop-i.invariant.whole)) c.loop-i.invariant.words (rw (rest_of (4 * c.loop-i.i) c.args.bytes.now) at c.u32_at.ensures);
}
