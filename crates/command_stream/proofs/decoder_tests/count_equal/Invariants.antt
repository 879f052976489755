use Rattle.std.proofs.Common.{◌+◌, ◌≤◌, length}
use Rattle.command_stream.proofs.decoder_tests.count_equal.Given as goal

abbrev pub invariant-loop-rest : goal.invariant-loop-rest
invariant-loop-rest l = l.decoder.taken + length l.rest ≤ l.fn.decoder.taken + length l.bytes

abbrev pub decreases-loop-rest : goal.decreases-loop-rest
decreases-loop-rest l = length l.rest
