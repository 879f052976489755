-- A stream's bytes: its header, and then each command as its operation, its body's length and its body.
use Rattle.std.specs.Prelude.{ℕ, ◌≤◌, List, ◌++◌, length, map, codes}
use Rattle.std.specs.List.{flat_map}
use Rattle.gl_numbers.specs.Bytes.{le32}
use Rattle.gl_numbers.specs.Fields.{Parts, Word, body, record_encoding, FitsRow}
use Rattle.command_stream.specs.declared.operation.Operation.{Operation}
use Rattle.command_stream.specs.declared.command.Command.{Command}
use Rattle.command_stream.specs.declared.command.Command.TheVariants.{Object, Buffer}
use Rattle.command_stream.specs.Operations.{row_of, number_of, body_max}
use Rattle.command_stream.specs.ObjectCommands.{object_parts}
use Rattle.command_stream.specs.BufferCommands.{buffer_parts}

-- what a command says, apart from where its tail lies
abbrev pub parts_of : Command → Parts Operation
parts_of (Object command) = object_parts command
parts_of (Buffer command) = buffer_parts command

-- what a command asks for
abbrev pub operation_of : Command → Operation
operation_of c = (parts_of c).operation

-- the number of its operation
abbrev pub op_of : Command → ℕ
op_of c = number_of (operation_of c)

-- its fields in order, and then its tail
abbrev pub body_of : Command → List ℕ
body_of c = body (parts_of c)

-- an operation, fields that are words, and a tail
abbrev pub with_words : Operation → List ℕ → List ℕ → Parts Operation
with_words operation words tail = record { operation = operation; values = map Word words; tail = tail }

-- the bytes of a command that says this
abbrev pub encoding_of : Parts Operation → List ℕ
encoding_of parts = record_encoding row_of parts

-- the bytes of a command
abbrev pub command_encoding : Command → List ℕ
command_encoding c = encoding_of (parts_of c)

-- the body is no longer than a command's may be
abbrev pub Allowed : Command → Type 0
Allowed c = length (body_of c) ≤ body_max

-- a command that a stream can hold: its fields and its tail are of its operation's row, and its body is allowed
abbrev pub Fits : Command → Type 0
Fits c = FitsRow row_of body_max (parts_of c)

-- the bytes that every stream begins with: `ESCS`, and version 1
abbrev pub stream_start : List ℕ
stream_start = codes "ESCS" ++ le32 1

-- the bytes of a list of commands
abbrev pub stream : List Command → List ℕ
stream commands = stream_start ++ flat_map command_encoding commands
