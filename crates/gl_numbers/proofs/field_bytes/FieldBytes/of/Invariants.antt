-- The bytes so far, and those of the fields to come.
use Rattle.std.proofs.Common.{◌≡◌, ◌+◌, ◌++◌, length, drop, []}
use Rattle.gl_numbers.specs.Fields.{body_encoding, values_of, values_size}
use Rattle.gl_numbers.proofs.field_bytes.FieldBytes.of.Given as goal

abbrev pub invariant-loop-field : goal.invariant-loop-field
invariant-loop-field l = record {
  size : length l.all + values_size (values_of (drop l.field-index l.fields)) ≡ values_size (values_of l.fields);
  bytes : body_encoding (values_of l.fields) [] ≡ l.all ++ body_encoding (values_of (drop l.field-index l.fields)) [];
}
