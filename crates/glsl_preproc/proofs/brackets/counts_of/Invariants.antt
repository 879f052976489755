use Rattle.std.proofs.Common.{◌≡◌, ◌≤◌, ◌+◌, length, drop}
use Rattle.glsl_preproc.specs.Views.{plain_pieces}
use Rattle.glsl_preproc.specs.LoneClosers.{lone_closers, AreCounts}
use Rattle.glsl_preproc.proofs.brackets.counts_of.Given as goal

-- the ends that are counted, the longest of them behind the tokens that are left
abbrev pub invariant-loop-at : goal.invariant-loop-at
invariant-loop-at l = record {
  counts : AreCounts l.counts.items (plain_pieces (drop l.at l.list));
  count : l.count ≡ lone_closers (plain_pieces (drop l.at l.list));
  size : length l.counts.items + l.at ≡ length l.list + 1;
  small : l.count + l.at ≤ length l.list;
}

abbrev pub decreases-loop-at : goal.decreases-loop-at
decreases-loop-at l = l.at
