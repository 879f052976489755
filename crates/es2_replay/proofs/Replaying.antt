-- Commands that are applied one after another are replayed in order.
use Rattle.std.proofs.Common.{◌≡◌, ◌+◌, Option, Some, None, Ok, List, [], ◌∷◌, ◌++◌, length, refl, sym, ap, ◌∙◌, arith, length-append, append-nil}
use Rattle.std.specs.Option.{option_to_list}
use Rattle.command_stream.specs.declared.command.Command.{Command}
use Rattle.gl_model.specs.DriverState.{DriverState}
use Rattle.gl_model.specs.DriverStep.{Fault, shot}
use Rattle.gl_model.specs.Replay.{replay, clean, ended, fault_of}
use Rattle.gl_model.specs.Shot as Model
use Rattle.gl_model.proofs.Replaying.{resumed, replay-append, replay-one}
use Rattle.es2_replay.specs.declared.faults.Shot.{Shot}
use Rattle.es2_replay.specs.Applied.{Applies}

-- a command that has a fault, whatever follows
pub replay-fault : (g : DriverState) (command : Command) (rest : List Command) (fault : Fault) → fault_of g command ≡ Some fault
    → replay g (command ∷ rest) ≡ ended g (Some fault)
unfolding replay
replay-fault g command rest fault e = rw e refl

-- after commands without a fault the machine applied one more: their replay ends in the state that it leaves
pub replayed_more : (first g new : DriverState) (made : List Model.Shot) (commands : List Command) (command : Command) (kind : Option Shot)
    → replay first commands ≡ clean g made commands → Applies g command new (Ok kind)
    → replay first (commands ++ command ∷ []) ≡ clean new (made ++ option_to_list (shot g command)) (commands ++ command ∷ [])
replayed_more first g new made commands command kind before applied =
    let count : length commands + 1 ≡ length (commands ++ command ∷ []) = omega (arith, length-append commands (command ∷ [])) in
    replay-append first g made commands (command ∷ []) before
    ∙ ap (resumed made commands) (replay-one g command applied.0)
    ∙ (λ i. record { state = sym applied.1 i; shots = made ++ option_to_list (shot g command); count = count i; fault = None })

-- after commands without a fault the next has one: the replay ends there, whatever follows
pub replayed_fault : (first g : DriverState) (made : List Model.Shot) (commands rest : List Command) (command : Command) (fault : Fault)
    → replay first commands ≡ clean g made commands → fault_of g command ≡ Some fault
    → replay first (commands ++ command ∷ rest) ≡ record { state = g; shots = made; count = length commands; fault = Some fault }
replayed_fault first g made commands rest command fault before e =
    let count : length commands + 0 ≡ length commands = omega arith in
    replay-append first g made commands (command ∷ rest) before
    ∙ ap (resumed made commands) (replay-fault g command rest fault e)
    ∙ (λ i. record { state = g; shots = append-nil made i; count = count i; fault = Some fault })
