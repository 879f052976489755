-- The commands written are short.
use Rattle.std.proofs.Common.{arith, length-append}
use Rattle.gl_numbers.proofs.Bytes.{length-le32}
use Rattle.command_stream.proofs.tests.write_stream.Goals as goal

pub write_command-requires : goal.write_command-requires
write_command-requires g c = simp (length-append, length-le32) (omega arith)

pub write_command-requires-2 : goal.write_command-requires-2
write_command-requires-2 g c = simp (length-append, length-le32) (omega arith)

pub write_command-requires-3 : goal.write_command-requires-3
write_command-requires-3 g c = simp (length-append, length-le32) (omega arith)

pub write_command-requires-4 : goal.write_command-requires-4
write_command-requires-4 g c = simp (length-append, length-le32) (omega arith)

pub write_command-requires-5 : goal.write_command-requires-5
write_command-requires-5 g c = simp (length-append, length-le32) (omega arith)
