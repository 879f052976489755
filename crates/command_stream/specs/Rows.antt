-- What the program keeps of a row of the command table.
use Rattle.std.specs.Prelude.{◌≡◌}
use Rattle.gl_numbers.specs.Fields.{TableRow, fields_size}
use Rattle.command_stream.specs.declared.row.Row.{Row}

-- a row's number, the bytes of its fields, and what follows them
pub record IsRow (row : Row) (is : TableRow) : Type 0 where
  pub number : row.number ≡ is.number
  pub size : row.field_bytes ≡ fields_size is.letters
  pub tail : row.tail ≡ is.tail
