-- The bytes filled so far are those of the words so far.
use Rattle.std.proofs.Common.{◌≡◌, ◌*◌, length, take}
use Rattle.std.specs.List.{flat_map}
use Rattle.gl_numbers.specs.Bytes.{le32}
use Rattle.call_records.proofs.replies.fill_words.Given as goal

abbrev pub invariant-loop-word : goal.invariant-loop-word
invariant-loop-word l = record {
  count : l.filled ≡ 4 * l.word-index;
  whole : length l.into ≡ 64;
  bytes : take l.filled l.into ≡ flat_map le32 (take l.word-index l.words);
}
