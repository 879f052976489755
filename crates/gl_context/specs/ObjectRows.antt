-- The calls that make, delete and tell objects (WebGL 1.0 sections 5.14.5 to 5.14.9; OpenGL ES 2.0 appendix C): a row each.
use Rattle.std.specs.Prelude.{ℕ, ◌+◌, Bool, true, not, ◌&&◌, List, [], ◌∷◌, ◌++◌, None, length, ◌==◌, nat_le, if◌then◌else◌}
use Rattle.gl_numbers.specs.ByHandle.{changed}
use Rattle.gl_numbers.specs.Limits.{handles_max}
use Rattle.gl_numbers.specs.Refusals.{Rule, when, invalid_operation}
use Rattle.gl_numbers.specs.declared.kinds.Kind as Kinds
use Rattle.gl_numbers.specs.declared.kinds.Kind.TheVariants as kind
use Rattle.call_records.specs.declared.object_calls.ObjectCall.{ObjectCall}
use Rattle.call_records.specs.declared.object_calls.ObjectCall.TheVariants.{Create, Delete, IsKind}
use Rattle.call_records.specs.declared.object_calls.New.TheVariants as new
use Rattle.call_records.specs.declared.object_calls.ObjectKind.{ObjectKind}
use Rattle.call_records.specs.declared.object_calls.ObjectKind.TheVariants.{Buffer}
use Rattle.call_records.specs.declared.replies.Value.TheVariants.{Number}
use Rattle.command_stream.specs.declared.command.Command.{Command}
use Rattle.command_stream.specs.declared.command.Command.TheVariants as command
use Rattle.command_stream.specs.declared.object_commands.ObjectCommand.TheVariants.{MakeBuffer, DropBuffer}
use Rattle.attrib_state.specs.Effects.{without_buffer}
use Rattle.gl_model.specs.BufferState.{make_buffer, drop_buffer}
use Rattle.gl_model.specs.PageState.{PageState, new_object, mark, was_given, is_live}
use Rattle.object_names.specs.Objects.{driver_name}
use Rattle.gl_context.specs.Row.{Row, asking, acting, number_of_truth}

-- the kind of objects that a call speaks of
abbrev pub kind_of : ObjectKind → Kinds.Kind
kind_of Buffer = kind.Buffer

-- all handles were given (this project's own limit)
abbrev pub handles_spent : ℕ → Rule
handles_spent given = when (nat_le handles_max given) invalid_operation

-- a handle other than 0 that was never given to an object of the kind (WebGL 1.0 section 5.14)
abbrev pub never_given : ℕ → Bool → Rule
never_given handle given = when (not (handle == 0) && not given) invalid_operation

-- the handle that the next object gets
abbrev pub next_handle : PageState → ℕ
next_handle w = length w.objects + 1

-- createBuffer
abbrev pub create_row : PageState → Row
create_row w = record {
  rules = handles_spent (length w.objects) ∷ [];
  may_run_out = true;
  next = record w { objects = w.objects ++ new_object kind.Buffer ∷ []; buffers = make_buffer (next_handle w) w.buffers };
  value = Number (next_handle w);
  commands = command.Object (MakeBuffer (driver_name kind.Buffer (next_handle w))) ∷ [];
  made = None;
}

-- what the deletion of a live object of a kind does besides marking it
abbrev pub deleted : ObjectKind → ℕ → PageState → PageState
deleted Buffer handle w =
    record w { buffers = drop_buffer handle w.buffers; attributes = without_buffer w.attributes handle }

-- the commands of that deletion
abbrev pub drops : ObjectKind → ℕ → List Command
drops Buffer handle = command.Object (DropBuffer (driver_name kind.Buffer handle)) ∷ []

-- deleteBuffer and its kin: a live object is marked and let go; of null and of an object that was deleted nothing becomes
abbrev pub delete_row : PageState → ObjectKind → ℕ → Row
delete_row w kind handle = acting
    (never_given handle (was_given w (kind_of kind) handle) ∷ [])
    (if is_live w (kind_of kind) handle then deleted kind handle (record w { objects = changed w.objects handle mark }) else w)
    (if is_live w (kind_of kind) handle then drops kind handle else [])

-- isBuffer and its kin: whether the handle names an object of the kind that wasn't deleted
abbrev pub is_kind_row : PageState → ObjectKind → ℕ → Row
is_kind_row w kind handle = asking w [] (Number (number_of_truth (is_live w (kind_of kind) handle)))

-- the row of each call on objects
abbrev pub object_row : PageState → ObjectCall → Row
object_row w (Create new.Buffer) = create_row w
object_row w (Delete kind handle) = delete_row w kind handle
object_row w (IsKind kind handle) = is_kind_row w kind handle
