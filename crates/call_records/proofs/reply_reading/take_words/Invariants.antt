-- The words so far are those of the bytes so far.
use Rattle.std.proofs.Common.{◌≡◌, ◌*◌, ◌++◌, length, take, drop}
use Rattle.std.specs.List.{flat_map}
use Rattle.gl_numbers.specs.Bytes.{le32}
use Rattle.call_records.proofs.reply_reading.take_words.Given as goal

abbrev pub invariant-loop-i : goal.invariant-loop-i
invariant-loop-i l = record {
  whole : length l.into ≡ length l.initial.into;
  words : l.bytes ≡ flat_map le32 (take l.i l.into) ++ drop (4 * l.i) l.bytes;
}
