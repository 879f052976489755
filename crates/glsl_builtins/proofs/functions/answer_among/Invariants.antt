use Rattle.std.proofs.Common.{◌≡◌, map, drop}
use Rattle.glsl_builtins.specs.Functions.{plain_row, answer_among}
use Rattle.glsl_builtins.proofs.functions.answer_among.Given as goal

-- what is left has the answer
abbrev pub invariant-loop-row : goal.invariant-loop-row
invariant-loop-row l =
    answer_among l.name l.stage l.kinds (map plain_row (drop l.row-index l.rows))
    ≡ answer_among l.name l.stage l.kinds (map plain_row l.rows)
