-- The fields so far are counted.
use Rattle.std.proofs.Common.{◌≡◌, min, take}
use Rattle.std.specs.List.{sum_by}
use Rattle.program_link.specs.Counted.{counted}
use Rattle.program_link.proofs.flattening.count_fields.Given as goal

abbrev pub invariant-loop-field : goal.invariant-loop-field
invariant-loop-field l = l.sum ≡ min 65536 (sum_by (λ f. counted l.counts f.kind) (take l.field-index l.fields))
