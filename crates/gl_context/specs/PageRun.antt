-- The page's machine over a list of calls.
use Rattle.std.specs.Prelude.{◌≡◌, Bool, true, List, [], ◌∷◌, ◌++◌}
use Rattle.std.specs.Option.{option_to_list}
use Rattle.call_records.specs.declared.calls.Call.{Call}
use Rattle.call_records.specs.declared.replies.Reply.{Reply}
use Rattle.command_stream.specs.declared.command.Command.{Command}
use Rattle.gl_model.specs.PageState.{PageState}
use Rattle.gl_model.specs.Shot.{Shot}
use Rattle.gl_context.specs.Row.{Stepped}
use Rattle.gl_context.specs.PageStep.{step, MayBeOutOfMemory}

-- a call that was taken, and whether memory ran out for it
pub record Taken : Type 0 where
  pub call : Call
  pub out_of_memory : Bool

-- the step of a call that was taken
abbrev pub step_taken : PageState → Taken → Stepped
step_taken w t = step w t.call t.out_of_memory

-- the page's state after calls
unfoldable pub page_after : PageState → List Taken → PageState
page_after w [] = w
page_after w (t ∷ ts) = page_after (step_taken w t).page ts

-- the replies of calls, one for each
unfoldable pub replies : PageState → List Taken → List Reply
replies w [] = []
replies w (t ∷ ts) = (step_taken w t).reply ∷ replies (step_taken w t).page ts

-- the Shots of calls
unfoldable pub shots : PageState → List Taken → List Shot
shots w [] = []
shots w (t ∷ ts) = option_to_list (step_taken w t).made ++ shots (step_taken w t).page ts

-- the commands of calls, in their order
unfoldable pub all_sent : PageState → List Taken → List Command
all_sent w [] = []
all_sent w (t ∷ ts) = (step_taken w t).sends ++ all_sent (step_taken w t).page ts

-- memory ran out only where it may
unfoldable pub OutOfMemoryAllowed : PageState → List Taken → Type 0
OutOfMemoryAllowed w [] = Unit {0}
OutOfMemoryAllowed w (t ∷ ts) = (t.out_of_memory ≡ true → MayBeOutOfMemory w t.call) × OutOfMemoryAllowed (step_taken w t).page ts
