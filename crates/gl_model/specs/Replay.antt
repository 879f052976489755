-- Commands in order, up to the first fault.
use Rattle.std.specs.Prelude.{ℕ, ◌+◌, Option, Some, None, List, [], ◌∷◌, ◌++◌, length, if◌then◌else◌}
use Rattle.std.specs.Option.{option_map_or, option_to_list}
use Rattle.command_stream.specs.declared.command.Command.{Command}
use Rattle.gl_model.specs.DriverState.{DriverState}
use Rattle.gl_model.specs.DriverStep.{Fault, gl_error, outside_fetch, refusal, outside, effect, shot}
use Rattle.gl_model.specs.Shot.{Shot}

-- the fault of one command, if it has one
abbrev pub fault_of : DriverState → Command → Option Fault
fault_of g command =
    option_map_or (λ error. Some (gl_error error)) (refusal g command) (if outside g command then Some outside_fetch else None)

-- what a replay gives: the state, the Shots, the number of commands that had no fault, and the fault that ended it
pub record Replayed : Type 0 where
  pub state : DriverState
  pub shots : List Shot
  pub count : ℕ
  pub fault : Option Fault

-- a replay that has no command left
abbrev pub ended : DriverState → Option Fault → Replayed
ended g fault = record { state = g; shots = []; count = 0; fault = fault }

-- one command without a fault before the others
abbrev pub after : Option Shot → Replayed → Replayed
after made rest = record rest { shots = option_to_list made ++ rest.shots; count = rest.count + 1 }

-- the commands in order, up to the first fault
unfoldable pub replay : DriverState → List Command → Replayed
replay g [] = ended g None
replay g (command ∷ commands) =
    option_map_or (λ fault. ended g (Some fault)) (fault_of g command) (after (shot g command) (replay (effect g command) commands))

-- what the replay of all of these commands without a fault gives
abbrev pub clean : DriverState → List Shot → List Command → Replayed
clean g made commands = record { state = g; shots = made; count = length commands; fault = None }
