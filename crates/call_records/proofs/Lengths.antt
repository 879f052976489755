-- How long encodings are.
use Rattle.std.proofs.Common.{◌≡◌, ℕ, ◌+◌, ◌<◌, ◌≤◌, ◌^◌, List, [], ◌++◌, length, length-append, arith, refl, sym, ap, ◌∙◌}
use Rattle.gl_numbers.specs.Bytes.{le32}
use Rattle.gl_numbers.specs.Fields.{fields_size, body_encoding}
use Rattle.gl_numbers.proofs.Bytes.{length-le32, length-le64}
use Rattle.gl_numbers.proofs.Bodies.{length-body, length-le32_signed, values_size-fits, body-tail}
use Rattle.gl_numbers.proofs.OneRecord.{length-record}
use Rattle.call_records.specs.declared.operations.TheConstants.{BODY_MAX}
use Rattle.call_records.specs.declared.calls.Call.{Call}
use Rattle.call_records.specs.Operations.{row_of}
use Rattle.call_records.specs.Records.{closing_record, encoding, parts_of, operation_of, op_of, body_of, Fits}

pub length-closing_record : length closing_record ≡ 8
unfolding closing_record le32
length-closing_record = refl

pub length-encoding : (call : Call) → length (encoding call) ≡ 8 + length (body_of call)
length-encoding call = length-record row_of (parts_of call)

pub ruleset lengths = (length-le32, length-le32_signed, length-le64, length-append, length-closing_record, length-encoding)

-- how long the record of a call is, by its row and its tail
pub record LengthByRow (call : Call) : Type 0 where
  pub whole : length (encoding call) ≡ 8 + (fields_size (row_of (operation_of call)).letters + length (parts_of call).tail)
  pub within : fields_size (row_of (operation_of call)).letters + length (parts_of call).tail ≤ BODY_MAX

pub length_fits : (call : Call) → Fits call → LengthByRow call
length_fits call fits =
    let size : length (body_of call) ≡ fields_size (row_of (operation_of call)).letters + length (parts_of call).tail =
    length-body (parts_of call).values (parts_of call).tail ∙ ap (λ n. n + length (parts_of call).tail) (values_size-fits (row_of (operation_of call)).letters (parts_of call).values fits.values) in
    let within = fits.body in
    record { whole = length-encoding call ∙ ap (λ n. 8 + n) size; within = omega (arith, size) }

-- the record of a call in parts: its number, its body's length, its fields and its tail
pub record InParts (call : Call) (fields : List ℕ) : Type 0 where
  pub encoding : encoding call ≡ le32 (op_of call) ++ (le32 (length fields + length (parts_of call).tail) ++ (fields ++ (parts_of call).tail))
  pub within : length fields + length (parts_of call).tail < 2 ^ 32

pub in_parts : (call : Call) (fields : List ℕ) → Fits call → fields ≡ body_encoding (parts_of call).values [] → InParts call fields
in_parts call fields fits e =
    let joined : body_of call ≡ fields ++ (parts_of call).tail =
    body-tail (parts_of call).values (parts_of call).tail ∙ ap (λ (all : List ℕ). all ++ (parts_of call).tail) (sym e) in
    let size : length (body_of call) ≡ length fields + length (parts_of call).tail = ap length joined ∙ length-append fields (parts_of call).tail in
    let within = fits.body in
    let header : List ℕ = le32 (op_of call) in
    record {
      encoding = ap (λ n. header ++ (le32 n ++ body_of call)) size ∙ ap (λ (body : List ℕ). header ++ (le32 (length fields + length (parts_of call).tail) ++ body)) joined;
      within = omega (arith, size);
    }
