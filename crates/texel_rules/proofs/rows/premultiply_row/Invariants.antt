-- What is written is the conversion of what was read, and whole texels are left.
use Rattle.std.proofs.Common.{◌≡◌, ◌≤◌, ◌-◌, ◌++◌, true, length, take, drop}
use Rattle.texel_rules.specs.UploadedTexels.{IsWhole, converted_row}
use Rattle.texel_rules.proofs.rows.premultiply_row.Given as goal

abbrev pub invariant-loop-at : goal.invariant-loop-at
invariant-loop-at l = record {
  within : l.at ≤ length l.from;
  whole : IsWhole l.layout (drop l.at l.from);
  done : take l.at l.into ++ converted_row l.layout true (drop l.at l.from) ≡ converted_row l.layout true l.from;
}

abbrev pub decreases-loop-at : goal.decreases-loop-at
decreases-loop-at l = length l.from - l.at
