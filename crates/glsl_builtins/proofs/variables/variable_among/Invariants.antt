use Rattle.std.proofs.Common.{◌≡◌, map, drop}
use Rattle.glsl_builtins.specs.Variables.{plain_row, variable_among}
use Rattle.glsl_builtins.proofs.variables.variable_among.Given as goal

-- what is left has the variable
abbrev pub invariant-loop-row : goal.invariant-loop-row
invariant-loop-row l =
    variable_among l.name l.stage (map plain_row (drop l.row-index l.rows)) ≡ variable_among l.name l.stage (map plain_row l.rows)
