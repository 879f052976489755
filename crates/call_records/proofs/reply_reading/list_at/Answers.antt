-- The list is there, or nothing begins the bytes.
use Rattle.std.proofs.Common.{length, lit<, ap, ◌∙◌}
use Rattle.std.specs.List.{flat_map}
use Rattle.gl_numbers.specs.Bytes.{le32}
use Rattle.wire_io.proofs.Prefixes.{rest_of}
use Rattle.call_records.proofs.ReplyPrefixes.{no_word, no_count, no_part, length-words, list_size, held_prefix}
use Rattle.call_records.proofs.reply_reading.list_at.Goals as goal

pub returns-then-bytes-lt4-clause-none : goal.returns-then-bytes-lt4-clause-none
returns-then-bytes-lt4-clause-none c = λ none words rest within e. no_word c.args.bytes.now (flat_map le32 words) rest (length words) c.if-bytes-lt4.true e

pub returns-then-count-gt-WORDS-clause-none : goal.returns-then-count-gt-WORDS-clause-none
returns-then-count-gt-WORDS-clause-none c =
    λ none words rest within e. no_count c.args.bytes.now (flat_map le32 words) rest 16 c.u32_at-count.result (length words) (lit< tt) c.u32_at-count.type_inv c.u32_at-count.ensures c.if-count-gt-WORDS.true within e

pub returns-then-rest-count-clause-none : goal.returns-then-rest-count-clause-none
returns-then-rest-count-clause-none c =
    λ none words rest within e. no_part c.args.bytes.now (flat_map le32 words) rest 16 c.u32_at-count.result (length words) 4 (lit< tt) c.u32_at-count.type_inv c.u32_at-count.ensures within (rw (rest_of 4 c.args.bytes.now) at c.if-rest-count.true) (length-words words) e

pub returns-clause-size : goal.returns-clause-size
returns-clause-size c =
    list_size c.in-Some.words c.u32_at-count.result (ap length c.in-Some.ensures.value ∙ held_prefix c.take_words.new.into _ c.u32_at-count.result c.take_words.ensures.count c.if-count-gt-WORDS.false)
