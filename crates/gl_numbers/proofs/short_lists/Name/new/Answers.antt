-- The array is the list at the prefix of zeros.
use Rattle.std.proofs.Common.{arith}
use Rattle.gl_numbers.specs.ShortLists.{IsPadded-prefix}
use Rattle.gl_numbers.proofs.short_lists.Name.new.Goals as goal

pub invariant_of-result : goal.invariant_of-result
invariant_of-result c = IsPadded-prefix _ c.args.bytes.now _ c.copy_from_slice.ensures.after (omega arith)
