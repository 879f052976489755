use Rattle.std.proofs.Common.{◌≡◌, map, drop}
use Rattle.std.specs.List.{list_any}
use Rattle.glsl_builtins.specs.Functions.{plain_row, is_named}
use Rattle.glsl_builtins.proofs.functions.is_among.Given as goal

-- what is left has the answer
abbrev pub invariant-loop-row : goal.invariant-loop-row
invariant-loop-row l =
    list_any (is_named l.name l.stage) (map plain_row (drop l.row-index l.rows))
    ≡ list_any (is_named l.name l.stage) (map plain_row l.rows)
