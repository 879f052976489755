-- The calls on buffers (WebGL 1.0 section 5.14.5; OpenGL ES 2.0 sections 2.9 and 6.1.3): a row each.
use Rattle.std.specs.Prelude.{ℕ, ℤ, None, List, [], ◌∷◌, length, replicate, ◌==◌, if◌then◌else◌}
use Rattle.std.specs.Borrow.{Bor}
use Rattle.std.specs.Option.{option_map_or}
use Rattle.gl_numbers.specs.BufferWords.{element_array_buffer, usage_word, buffer_size}
use Rattle.gl_numbers.specs.BufferRules.{BufferView, whole}
use Rattle.gl_numbers.specs.Refusals.{Rule}
use Rattle.gl_numbers.specs.declared.kinds.Kind.TheVariants as kind
use Rattle.call_records.specs.declared.buffer_calls.BufferCall.{BufferCall}
use Rattle.call_records.specs.declared.buffer_calls.BufferCall.TheVariants.{BindBuffer, BufferData, BufferSubData, GetBufferParameter}
use Rattle.call_records.specs.declared.buffer_calls.Fill.{Fill}
use Rattle.call_records.specs.declared.buffer_calls.Fill.TheVariants.{Size, Bytes}
use Rattle.call_records.specs.declared.replies.Value.TheVariants.{Nothing, Number}
use Rattle.command_stream.specs.declared.command.Command.{Command}
use Rattle.command_stream.specs.declared.command.Command.TheVariants.{Buffer}
use Rattle.command_stream.specs.declared.buffer_commands.BufferCommand.TheVariants as command
use Rattle.gl_model.specs.BufferState.{BufferState, bind_buffer, fill_buffer, patch_buffer, bound_view}
use Rattle.gl_model.specs.BufferRefusals.{bind_rules, signed_size_rules, data_rules, signed_part_rules, parameter_rules}
use Rattle.gl_model.specs.PageState.{PageState}
use Rattle.object_names.specs.Objects.{driver_name}
use Rattle.gl_context.specs.Row.{Row, asking, acting}

-- the driver's name of what a handle binds, 0 for none
abbrev pub bound_name : ℕ → ℕ
bound_name handle = if handle == 0 then 0 else driver_name kind.Buffer handle

-- bindBuffer
abbrev pub bind_row : PageState → ℕ → ℕ → Row
bind_row w target handle = acting
    (bind_rules w.buffers target handle)
    (record w { buffers = bind_buffer target handle w.buffers })
    (Buffer (command.BindBuffer target (bound_name handle)) ∷ [])

-- the rules of a bufferData
abbrev pub fill_rules : BufferState → ℕ → ℕ → Fill → List Rule
fill_rules s target usage (Size size) = signed_size_rules s target usage size
fill_rules s target usage (Bytes bytes) = data_rules s target usage

-- the bytes of a bufferData; a size is of zeros
abbrev pub content_of : Fill → List ℕ
content_of (Size size) = replicate (whole size) 0
content_of (Bytes bytes) = bytes.now

-- bytes are sent where there are any
abbrev pub part_sent : ℕ → ℕ → Bor (List ℕ) → List Command
part_sent target offset bytes = if length bytes.now == 0 then [] else Buffer (command.BufferBytes target offset bytes) ∷ []

-- a bufferData sends the size, and then its bytes where there are any
abbrev pub fill_sent : ℕ → ℕ → Fill → List Command
fill_sent target usage (Size size) = Buffer (command.BufferSize target usage (whole size)) ∷ []
fill_sent target usage (Bytes bytes) = Buffer (command.BufferSize target usage (length bytes.now)) ∷ part_sent target 0 bytes

-- bufferData; the bytes of an element buffer are kept, and memory may run out for them
abbrev pub data_row : PageState → ℕ → ℕ → Fill → Row
data_row w target usage fill = record {
  rules = fill_rules w.buffers target usage fill;
  may_run_out = target == element_array_buffer;
  next = record w { buffers = fill_buffer target usage (content_of fill) w.buffers };
  value = Nothing;
  commands = fill_sent target usage fill;
  made = None;
}

-- bufferSubData
abbrev pub sub_data_row : PageState → ℕ → ℤ → Bor (List ℕ) → Row
sub_data_row w target offset bytes = acting
    (signed_part_rules w.buffers target offset bytes.now)
    (record w { buffers = patch_buffer target (whole offset) bytes.now w.buffers })
    (part_sent target (whole offset) bytes)

-- a buffer's parameter: its size in bytes, or the word of its usage
abbrev pub parameter_of : ℕ → BufferView → ℕ
parameter_of name b = if name == buffer_size then b.size else usage_word b.usage

-- getBufferParameter
abbrev pub parameter_row : PageState → ℕ → ℕ → Row
parameter_row w target name =
    asking w (parameter_rules w.buffers target name) (Number (option_map_or (parameter_of name) (bound_view w.buffers target) 0))

-- the row of each call on buffers
abbrev pub buffer_row : PageState → BufferCall → Row
buffer_row w (BindBuffer target handle) = bind_row w target handle
buffer_row w (BufferData target usage fill) = data_row w target usage fill
buffer_row w (BufferSubData target offset bytes) = sub_data_row w target offset bytes
buffer_row w (GetBufferParameter target name) = parameter_row w target name
