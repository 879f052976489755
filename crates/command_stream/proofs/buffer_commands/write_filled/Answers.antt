-- The head of the second command goes with the first.
use Rattle.std.proofs.Common.{◌+◌, Err, [], ◌∷◌, length, refl}
use Rattle.wire_io.proofs.Known.{sends_then, sends_stop}
use Rattle.command_stream.specs.declared.operation.Operation.TheVariants.{Buffer}
use Rattle.command_stream.specs.declared.buffer_commands.BufferOperation.TheVariants.{BufferSize, BufferBytes}
use Rattle.command_stream.proofs.Heads.{sends-joined}
use Rattle.command_stream.proofs.buffer_commands.write_filled.Goals as goal

pub returns-in_default-clause-bytes : goal.returns-in_default-clause-bytes
returns-in_default-clause-bytes g c =
    let len = length c.args.bytes.now in
    sends-joined {E = Unit {0}} _ _ (Err tt) (Buffer BufferSize) c.number-2.result 12 (c.args.target ∷ c.args.usage ∷ len ∷ [])
    (Buffer BufferBytes) c.number.result (8 + len) (c.args.target ∷ 0 ∷ []) c.args.bytes.now c.number-2.ensures c.number.ensures refl refl
    (sends_stop {T = Unit {0}} {U = Unit {0}} {E = Unit {0}} {F = Unit {0}} _ _ (Err tt) (Err tt) _ c.args.bytes.now c.in_default.ensures.bytes refl refl)

pub returns-clause-bytes : goal.returns-clause-bytes
returns-clause-bytes g c =
    let len = length c.args.bytes.now in
    sends-joined _ _ c.write_all.result (Buffer BufferSize) c.number-2.result 12 (c.args.target ∷ c.args.usage ∷ len ∷ [])
    (Buffer BufferBytes) c.number.result (8 + len) (c.args.target ∷ 0 ∷ []) c.args.bytes.now c.number-2.ensures c.number.ensures refl refl
    (sends_then _ _ _ c.write_all.result _ c.args.bytes.now c.in-Ok.ensures.bytes c.write_all.ensures.bytes)
