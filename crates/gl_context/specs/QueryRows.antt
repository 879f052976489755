-- The calls that ask for the state of the context (WebGL 1.0 section 5.14.3; OpenGL ES 2.0 sections 2.5 and 6.1.1): a row each.
use Rattle.std.specs.Prelude.{ℕ, None, [], ◌∷◌, false, not, is_some}
use Rattle.std.specs.Option.{option_map_or}
use Rattle.gl_numbers.specs.Capabilities.{capability_of}
use Rattle.gl_numbers.specs.Errors.{code_of}
use Rattle.gl_numbers.specs.Parameters.{parameter_of}
use Rattle.gl_numbers.specs.Refusals.{Rule, when, invalid_enum}
use Rattle.call_records.specs.declared.query_calls.QueryCall.{QueryCall}
use Rattle.call_records.specs.declared.query_calls.QueryCall.TheVariants.{IsEnabled, GetError, GetParameter}
use Rattle.call_records.specs.declared.replies.Value.TheVariants.{Number, Nothing}
use Rattle.raster_state.specs.Rules.{bad_capability}
use Rattle.raster_state.specs.Effects.{is_enabled}
use Rattle.gl_model.specs.Errors.{smallest, clear_one}
use Rattle.gl_model.specs.PageState.{PageState}
use Rattle.gl_context.specs.Row.{Row, asking, number_of_truth}
use Rattle.gl_context.specs.ParameterValues.{parameter_value}

-- isEnabled: whether the capability of a word is enabled
abbrev pub is_enabled_row : PageState → ℕ → Row
is_enabled_row w word =
    asking w (bad_capability word ∷ []) (Number (number_of_truth (option_map_or (λ c. is_enabled c w.raster) (capability_of word) false)))

-- getError: the smallest code whose flag is set, 0 where none is; its flag is cleared
abbrev pub error_row : PageState → Row
error_row w = record {
  rules = [];
  may_run_out = false;
  next = record w { errors = clear_one (smallest w.errors) w.errors };
  value = Number (option_map_or code_of (smallest w.errors) 0);
  commands = [];
  made = None;
}

-- the word is nothing that getParameter is asked for (WebGL 1.0 section 5.14.3)
abbrev pub no_parameter : ℕ → Rule
no_parameter word = when (not (is_some (parameter_of word))) invalid_enum

-- getParameter
abbrev pub parameter_row : PageState → ℕ → Row
parameter_row w word = asking w (no_parameter word ∷ []) (option_map_or (parameter_value w) (parameter_of word) Nothing)

-- the row of each query
abbrev pub query_row : PageState → QueryCall → Row
query_row w (IsEnabled word) = is_enabled_row w word
query_row w GetError = error_row w
query_row w (GetParameter word) = parameter_row w word
