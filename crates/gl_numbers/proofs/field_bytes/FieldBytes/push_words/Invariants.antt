-- The bytes so far, and those of the words to come.
use Rattle.std.proofs.Common.{◌≡◌, ◌+◌, ◌*◌, ◌++◌, length, drop}
use Rattle.std.specs.List.{flat_map}
use Rattle.gl_numbers.specs.Bytes.{le32}
use Rattle.gl_numbers.proofs.field_bytes.FieldBytes.push_words.Given as goal

abbrev pub invariant-loop-word : goal.invariant-loop-word
invariant-loop-word l = record {
  size : length l.self ≡ length l.initial.self + 4 * l.word-index;
  bytes : l.initial.self ++ flat_map le32 l.words ≡ l.self ++ flat_map le32 (drop l.word-index l.words);
}
