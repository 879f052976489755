-- The bytes of few commands, and which commands are short enough.
use Rattle.std.proofs.Common.{◌≡◌, ℕ, ℤ, ◌+◌, ◌≤◌, ◌<◌, ◌^◌, Option, Some, None, Result, List, [], ◌∷◌, ◌++◌, length, refl, subst, sym, ap, append-nil, length-append, arith}
use Rattle.std.specs.Borrow.{Bor}
use Rattle.gl_numbers.specs.Bytes.{le32, le64}
use Rattle.gl_numbers.proofs.Bytes.{length-le32, length-le64}
use Rattle.wire_io.specs.Sinks.{Sends}
use Rattle.std.specs.Io.KnownBytes.{append_known}
use Rattle.command_stream.specs.declared.command.Command.{Command}
use Rattle.command_stream.specs.declared.command.Command.TheVariants as command
use Rattle.command_stream.specs.declared.object_commands.ObjectCommand.TheVariants.{MakeBuffer, DropBuffer}
use Rattle.command_stream.specs.declared.buffer_commands.BufferCommand.TheVariants.{BindBuffer, BufferSize, BufferBytes}
use Rattle.command_stream.specs.Commands.{command_encoding, Allowed}
use Rattle.call_records.specs.declared.calls.Call.TheVariants.{Buffer}
use Rattle.call_records.specs.declared.buffer_calls.BufferCall.TheVariants.{BindBuffer as BindBufferCall, BufferData, BufferSubData}
use Rattle.call_records.specs.declared.buffer_calls.Fill.{Fill}
use Rattle.call_records.specs.declared.buffer_calls.Fill.TheVariants.{Size, Bytes}
use Rattle.command_stream.specs.Commands as Stream
use Rattle.call_records.specs.Records.{Fits}
use Rattle.gl_context.specs.Sent.{bytes_of}

-- sending one command is sending a list of one
pub sends_one : {T E : Type 0} (old new : Option (List ℕ)) (result : Result T E) (command : Command) → Sends old new result (command_encoding command)
    → Sends old new result (bytes_of (command ∷ []))
sends_one old new result command h = subst (Sends old new result) (sym (append-nil (command_encoding command))) h

-- no command adds no byte
pub nothing_sent : (old : Option (List ℕ)) → old ≡ append_known old (bytes_of [])
nothing_sent None = refl
nothing_sent (Some held) = ap Some (sym (append-nil held))

-- a size's body is short
pub allowed_size : (target usage size : ℕ) → Allowed (command.Buffer (BufferSize target usage size))
allowed_size target usage size = simp (length-append, length-le32) (omega arith)

-- the body of bytes is two words longer than they are
pub allowed_bytes : (target offset : ℕ) (part : Bor (List ℕ)) → 8 + length part.now ≤ 16777280 → Allowed (command.Buffer (BufferBytes target offset part))
allowed_bytes target offset part short = simp (length-append, length-le32) (omega arith)

-- a name's body is short
pub allowed_make : (name : ℕ) → Allowed (command.Object (MakeBuffer name))
allowed_make name = simp (length-append, length-le32) (omega arith)

pub allowed_drop : (name : ℕ) → Allowed (command.Object (DropBuffer name))
allowed_drop name = simp (length-append, length-le32) (omega arith)

-- a target's and a name's body is short
pub allowed_bind : (target name : ℕ) → Allowed (command.Buffer (BindBuffer target name))
allowed_bind target name = simp (length-append, length-le32) (omega arith)

-- the bytes of a call that has a record are two words shorter than its body
pub bytes_fit : (target usage : ℕ) (tail : Bor (List ℕ)) → Fits (Buffer (BufferData target usage (Bytes tail))) → 8 + length tail.now ≤ 16777280
bytes_fit target usage tail fits =
    let body : length (le32 target ++ (le32 usage ++ tail.now)) ≤ 16777280 = fits.body in
    omega (arith, simp (length-append, length-le32) at body)

-- the bytes of a bufferSubData are three words shorter, so that they fit a command too
pub part_fit : (target : ℕ) (offset : ℤ) (tail : Bor (List ℕ)) → Fits (Buffer (BufferSubData target offset tail)) → 8 + length tail.now ≤ 16777280
part_fit target offset tail fits =
    let body : length (le32 target ++ (le64 offset ++ tail.now)) ≤ 16777280 = fits.body in
    omega (arith, simp (length-append, length-le32, length-le64) at body)

-- which commands fit a stream, by their words
pub fits_make : (name : ℕ) → name < 2 ^ 32 → Stream.Fits (command.Object (MakeBuffer name))
fits_make name small = record { values = (small, tt); tail = refl; body = allowed_make name }

pub fits_drop : (name : ℕ) → name < 2 ^ 32 → Stream.Fits (command.Object (DropBuffer name))
fits_drop name small = record { values = (small, tt); tail = refl; body = allowed_drop name }

pub fits_bind : (target name : ℕ) → target < 2 ^ 32 → name < 2 ^ 32 → Stream.Fits (command.Buffer (BindBuffer target name))
fits_bind target name t n = record { values = (t, (n, tt)); tail = refl; body = allowed_bind target name }

pub fits_size : (target usage size : ℕ) → target < 2 ^ 32 → usage < 2 ^ 32 → size < 2 ^ 32 → Stream.Fits (command.Buffer (BufferSize target usage size))
fits_size target usage size t u s = record { values = (t, (u, (s, tt))); tail = refl; body = allowed_size target usage size }

pub fits_bytes : (target offset : ℕ) (part : Bor (List ℕ)) → target < 2 ^ 32 → offset < 2 ^ 32 → 8 + length part.now ≤ 16777280
    → Stream.Fits (command.Buffer (BufferBytes target offset part))
fits_bytes target offset part t o short = record { values = (t, (o, tt)); tail = tt; body = allowed_bytes target offset part short }

-- the words of calls that have records
pub bind_words : (target handle : ℕ) → Fits (Buffer (BindBufferCall target handle)) → target < 2 ^ 32
bind_words target handle fits = fits.values.0

pub data_words : (target usage : ℕ) (fill : Fill) → Fits (Buffer (BufferData target usage fill)) → (target < 2 ^ 32) × (usage < 2 ^ 32)
data_words target usage (Size size) fits = (fits.values.0, fits.values.1.0)
data_words target usage (Bytes bytes) fits = (fits.values.0, fits.values.1.0)

pub part_words : (target : ℕ) (offset : ℤ) (tail : Bor (List ℕ)) → Fits (Buffer (BufferSubData target offset tail)) → target < 2 ^ 32
part_words target offset tail fits = fits.values.0
