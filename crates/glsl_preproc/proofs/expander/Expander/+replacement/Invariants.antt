use Rattle.std.proofs.Common.{◌+◌, ◌-◌, ◌*◌, ◌≡◌, [], length, drop}
use Rattle.glsl_preproc.specs.Replacement.{expanded, list_from, expanded_arguments}
use Rattle.glsl_preproc.specs.LoneClosers.{AreCounts}
use Rattle.glsl_preproc.specs.Views.{plain_pieces, slices}
use Rattle.glsl_preproc.proofs.expander.Expander.+replacement.Given as goal

abbrev pub decreases-expand_list : goal.decreases-expand_list
decreases-expand_list l = 4 * l.levels

abbrev pub decreases-rescan : goal.decreases-rescan
decreases-rescan l = 4 * l.levels + 1

abbrev pub decreases-expand_object : goal.decreases-expand_object
decreases-expand_object l = 4 * l.levels + 2

abbrev pub decreases-expand_arguments : goal.decreases-expand_arguments
decreases-expand_arguments l = 4 * l.levels + 2

abbrev pub decreases-expand_call : goal.decreases-expand_call
decreases-expand_call l = 4 * l.levels + 3

-- the tokens so far, and what the rest of the list is expanded to behind them
abbrev pub invariant-expand_list-loop-at : goal.invariant-expand_list-loop-at
invariant-expand_list-loop-at l = record {
  rest : list_from (expanded l.below l.self.macros.now) l.self.macros.now l.self.hidden l.out 0 (plain_pieces (drop l.at l.list))
      ≡ expanded l.levels l.fn.self.macros.now l.fn.self.hidden l.fn.out (plain_pieces l.list);
  macros : l.self.macros.now ≡ l.fn.self.macros.now;
  hidden : l.self.hidden ≡ l.fn.self.hidden;
  levels : l.below + 1 ≡ l.levels;
  counts : AreCounts l.brackets.counts.items (plain_pieces (drop l.at l.list));
}

abbrev pub decreases-expand_list-loop-at : goal.decreases-expand_list-loop-at
decreases-expand_list-loop-at l = length l.list - l.at

-- the arguments that are expanded, and those that are left
abbrev pub invariant-expand_arguments-loop-at : goal.invariant-expand_arguments-loop-at
invariant-expand_arguments-loop-at l = record {
  rest : expanded_arguments (expanded l.levels l.fn.self.macros.now l.fn.self.hidden []) l.done.items (slices (drop l.at l.arguments))
      ≡ expanded_arguments (expanded l.levels l.fn.self.macros.now l.fn.self.hidden []) [] (slices l.arguments);
  macros : l.self.macros.now ≡ l.fn.self.macros.now;
  hidden : l.self.hidden ≡ l.fn.self.hidden;
}

abbrev pub decreases-expand_arguments-loop-at : goal.decreases-expand_arguments-loop-at
decreases-expand_arguments-loop-at l = length l.arguments - l.at
