-- The value is there, or nothing begins the bytes.
use Rattle.std.proofs.Common.{◌++◌, ◌∙◌, refl, length}
use Rattle.gl_numbers.specs.Bytes.{le32}
use Rattle.wire_io.proofs.Prefixes.{rest_of}
use Rattle.call_records.proofs.ReplyPrefixes.{no_words, after_two}
use Rattle.call_records.proofs.reply_reading.active_at.Goals as goal

pub returns-then-bytes-lt8-clause-none : goal.returns-then-bytes-lt8-clause-none
returns-then-bytes-lt8-clause-none c =
    λ none size kind name rest within e. no_words c.args.bytes.now (le32 (length name) ++ name) rest size kind c.if-bytes-lt8.true e

pub returns-in_default-clause-none : goal.returns-in_default-clause-none
returns-in_default-clause-none c =
    λ none size kind name rest within e. c.in_default.ensures.none refl name rest within (rest_of 8 c.args.bytes.now ∙ after_two c.args.bytes.now (le32 (length name) ++ name) rest size kind e)
