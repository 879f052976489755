use Rattle.std.proofs.Common.{◌≡◌, ◌+◌, ◌*◌, ◌++◌, take}
use Rattle.std.specs.List.{flat_map}
use Rattle.gl_numbers.specs.Bytes.{le32}
use Rattle.command_stream.proofs.write.write_head.Given as goal

abbrev pub invariant-loop-word : goal.invariant-loop-word
invariant-loop-word g l = record {
  held : l.held ≡ 8 + 4 * l.word-index;
  bytes : take l.held l.head ≡ le32 l.fn.number ++ (le32 l.fn.len ++ flat_map le32 (take l.word-index l.words));
}
