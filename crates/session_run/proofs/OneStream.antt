-- The bytes of a stream are of one list of commands, and replay to one end.
use Rattle.std.proofs.Common.{◌≡◌, None, Some, List, [], ◌∷◌, map, refl, sym, ap, ◌∙◌}
use Rattle.std.specs.Prelude.{All, Option}
use Rattle.std.specs.Option.{option_map_or}
use Rattle.command_stream.specs.declared.command.Command.{Command}
use Rattle.command_stream.specs.declared.command.Command.TheVariants.{Object, Buffer}
use Rattle.command_stream.specs.declared.object_commands.ObjectCommand.TheVariants.{MakeBuffer, DropBuffer}
use Rattle.command_stream.specs.declared.buffer_commands.BufferCommand.TheVariants.{BindBuffer, BufferSize, BufferBytes}
use Rattle.command_stream.specs.Commands.{Fits, parts_of, stream}
use Rattle.command_stream.proofs.Alike.{command_in}
use Rattle.command_stream.proofs.OneEncoding.{stream-one}
use Rattle.gl_model.specs.DriverState.{DriverState, first_driver}
use Rattle.gl_model.specs.DriverStep as Driver
use Rattle.gl_model.specs.DriverStep.{Fault, gl_error}
use Rattle.gl_numbers.specs.Refusals.{Rule, first_refusal}
use Rattle.gl_model.specs.Replay.{Replayed, replay, fault_of, after, ended}

-- a command with its tail at no place
abbrev placeless : Command → Command
placeless command = command_in (parts_of command)

-- where a command's bytes lie means nothing to the driver
pub placeless-rules : (g : DriverState) (command : Command) → Driver.rules g (placeless command) ≡ Driver.rules g command
placeless-rules g (Object (MakeBuffer name)) = refl
placeless-rules g (Object (DropBuffer name)) = refl
placeless-rules g (Buffer (BindBuffer target name)) = refl
placeless-rules g (Buffer (BufferSize target usage size)) = refl
placeless-rules g (Buffer (BufferBytes target offset part)) = refl

pub placeless-effect : (g : DriverState) (command : Command) → Driver.effect g (placeless command) ≡ Driver.effect g command
placeless-effect g (Object (MakeBuffer name)) = refl
placeless-effect g (Object (DropBuffer name)) = refl
placeless-effect g (Buffer (BindBuffer target name)) = refl
placeless-effect g (Buffer (BufferSize target usage size)) = refl
placeless-effect g (Buffer (BufferBytes target offset part)) = refl

-- nor to the replay
pub placeless-replay : (g : DriverState) (commands : List Command) → replay g (map placeless commands) ≡ replay g commands
unfolding replay
placeless-replay g [] = refl
placeless-replay g (command ∷ commands) =
    let rest : replay (Driver.effect g (placeless command)) (map placeless commands) ≡ replay (Driver.effect g command) commands =
    ap (λ (s : DriverState). replay s (map placeless commands)) (placeless-effect g command) ∙ placeless-replay (Driver.effect g command) commands in
    let judged : fault_of g (placeless command) ≡ fault_of g command = ap (λ (rules : List Rule). option_map_or (λ error. Some (gl_error error)) (first_refusal rules) None) (placeless-rules g command) in
    ap (λ (fault : Option Fault). option_map_or (λ f. ended g (Some f)) fault (after None (replay (Driver.effect g (placeless command)) (map placeless commands)))) judged
    ∙ ap (λ (r : Replayed). option_map_or (λ f. ended g (Some f)) (fault_of g command) (after None r)) rest

-- what commands say is what they say at no place
placeless-said : (commands : List Command) → map placeless commands ≡ map command_in (map parts_of commands)
placeless-said [] = refl
placeless-said (command ∷ commands) = ap (λ l. placeless command ∷ l) (placeless-said commands)

-- two lists of commands that say the same replay alike
pub said-replay : (g : DriverState) (a b : List Command) → map parts_of a ≡ map parts_of b → replay g a ≡ replay g b
said-replay g a b e =
    sym (placeless-replay g a) ∙ ap (replay g) (placeless-said a ∙ ap (map command_in) e ∙ sym (placeless-said b)) ∙ placeless-replay g b

-- so do two lists of commands with the bytes of one stream
pub one-replay : (a b : List Command) → All Fits a → All Fits b → stream a ≡ stream b → replay first_driver a ≡ replay first_driver b
one-replay a b fits_a fits_b e = said-replay first_driver a b (stream-one a b fits_a fits_b e)
