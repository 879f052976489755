-- What a call did: it acted by its row and sent the row's commands, or it is refused, or memory ran out, or a write failed.
use Rattle.std.specs.Prelude.{◌≡◌, ℕ, ◌≤◌, ◌⊎◌, Option, None, Some, List, [], Result, Ok, Err}
use Rattle.std.specs.Io.KnownBytes.{append_known}
use Rattle.gl_numbers.specs.declared.errors.GlError.{GlError}
use Rattle.gl_numbers.specs.declared.errors.GlError.TheVariants.{Memory}
use Rattle.wire_io.specs.Faults.{Rose}
use Rattle.wire_io.specs.Sinks.{Sends}
use Rattle.call_records.specs.declared.replies.Reply.{Reply}
use Rattle.call_records.specs.declared.replies.Value as Values
use Rattle.call_records.specs.declared.replies.Value.TheVariants as Value
use Rattle.command_stream.specs.declared.command.Command.{Command}
use Rattle.gl_model.specs.PageState.{PageState}
use Rattle.gl_context.specs.Row.{Row, refusal_of}
use Rattle.gl_context.specs.PageStep.{MayRunOut}
use Rattle.gl_context.specs.Sent.{bytes_of}
use Rattle.gl_context.specs.Stands.{Kept, Keeps}
use Rattle.gl_context.specs.declared.deed.Answer.{Answer}
use Rattle.gl_context.specs.declared.deed.Stop.{Stop}
use Rattle.gl_context.specs.declared.deed.Stop.TheVariants.{Raised, Unsent}
use Rattle.gl_context.specs.declared.deed.Told as Telling
use Rattle.gl_context.specs.declared.deed.Told.TheVariants as Told

-- the value that a call returns
abbrev pub value_in : Telling.Told → Values.Value
value_in Told.Nothing = Value.Nothing
value_in (Told.Number n) = Value.Number n
value_in (Told.Two words) = Value.List words
value_in (Told.Four words) = Value.List words

-- a result with something else in place of its value
abbrev pub map_ok : {T U E : Type 0} → (T → U) → Result T E → Result U E
map_ok f (Ok x) = Ok (f x)
map_ok f (Err e) = Err e

-- why a call raises an error: its row refuses it, or memory ran out
abbrev pub HasReason : Row → GlError → Type 0
HasReason row error = (refusal_of row ≡ Some error) ⊎ ((error ≡ Memory) × MayRunOut row)

-- what a call did to the stores: the value that it returns, and the commands that are to be sent for it
pub record Deed : Type 0 where
  pub value : Values.Value
  pub commands : List Command

-- a call acted by its row, or raises an error and nothing else was changed
abbrev pub ActsBy : Row → PageState → Kept → Result Deed GlError → Type 0
ActsBy row w kept (Ok deed) = (refusal_of row ≡ None) × Keeps kept row.next × (deed.value ≡ row.value) × (deed.commands ≡ row.commands)
ActsBy row w kept (Err error) = HasReason row error × Keeps kept w

-- what a call did that only returns a value
abbrev pub returned : Telling.Told → Deed
returned told = record { value = value_in told; commands = [] }

-- the same of a call that sends nothing
abbrev pub ReturnsBy : Row → PageState → Kept → Result Telling.Told GlError → Type 0
ReturnsBy row w kept result = ActsBy row w kept (map_ok returned result)

-- an error that a call raises is why it stopped
abbrev pub stopped : {T : Type 0} → Result T GlError → Result T Stop
stopped (Ok x) = Ok x
stopped (Err error) = Err (Raised error)

-- the same of a call whose commands were sent, or a prefix of them where a write failed
abbrev pub SendsBy : Row → PageState → Kept → Option (List ℕ) → Option (List ℕ) → Result Telling.Told Stop → Type 0
SendsBy row w kept old new (Ok told) =
    (refusal_of row ≡ None) × Keeps kept row.next × (value_in told ≡ row.value) × (new ≡ append_known old (bytes_of row.commands))
SendsBy row w kept old new (Err (Raised error)) = HasReason row error × Keeps kept w × (new ≡ old)
SendsBy row w kept old new (Err Unsent) =
    (refusal_of row ≡ None) × Sends {T = Unit {0}} {E = Unit {0}} old new (Err tt) (bytes_of row.commands)

-- the number of faults hasn't fallen, and a call is unsent only where it rose
abbrev pub SendCause : {T : Type 0} → ℕ → ℕ → Result T Stop → Type 0
SendCause before now (Ok x) = before ≤ now
SendCause before now (Err (Raised error)) = before ≤ now
SendCause before now (Err Unsent) = (before ≤ now) × Rose before now

-- the reply of an answer
abbrev pub reply_of : Answer → Reply
reply_of answer = record { raised = answer.raised; value = value_in answer.told }
