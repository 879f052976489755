-- What the calls of a page send to the driver.
use Rattle.std.specs.Prelude.{ℕ, Bool, List}
use Rattle.std.specs.List.{flat_map}
use Rattle.call_records.specs.declared.calls.Call.{Call}
use Rattle.command_stream.specs.declared.command.Command.{Command}
use Rattle.command_stream.specs.Commands.{command_encoding}
use Rattle.gl_model.specs.PageState.{PageState}
use Rattle.gl_context.specs.PageStep.{step}

-- the commands of a call: none where it is refused or memory ran out
abbrev pub sent : PageState → Call → Bool → List Command
sent w call out_of_memory = (step w call out_of_memory).sends

-- the bytes of commands
abbrev pub bytes_of : List Command → List ℕ
bytes_of commands = flat_map command_encoding commands
