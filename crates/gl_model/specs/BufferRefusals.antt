-- What calls and commands on buffers are refused for, over the buffers and what is bound: rules in their order (WebGL 1.0
-- sections 5.14.5 and 6.1; OpenGL ES 2.0 sections 2.9 and 6.1.3).
use Rattle.std.specs.Prelude.{ℕ, ℤ, ◌+◌, is_some, List, [], ◌∷◌, length}
use Rattle.gl_numbers.specs.BufferWords.{buffer_target_of}
use Rattle.gl_numbers.specs.BufferRules.{bad_target, bad_usage, bad_parameter, bad_size, bad_signed_size, negative_offset, no_such_buffer, other_target, nothing_bound, past_the_end, whole}
use Rattle.gl_numbers.specs.Refusals.{Rule}
use Rattle.gl_model.specs.BufferState.{BufferState, view_at, bound_view}

-- bindBuffer of a number, 0 for none
abbrev pub bind_rules : BufferState → ℕ → ℕ → List Rule
bind_rules s target number =
    bad_target target ∷ no_such_buffer number (is_some (s.contents number)) ∷ other_target (buffer_target_of target) (view_at s number) ∷ []

-- bufferData with a size that has a sign
abbrev pub signed_size_rules : BufferState → ℕ → ℕ → ℤ → List Rule
signed_size_rules s target usage size =
    bad_target target ∷ bad_usage usage ∷ bad_signed_size size ∷ nothing_bound (bound_view s target) ∷ []

-- bufferData with a size
abbrev pub size_rules : BufferState → ℕ → ℕ → ℕ → List Rule
size_rules s target usage size = bad_target target ∷ bad_usage usage ∷ bad_size size ∷ nothing_bound (bound_view s target) ∷ []

-- bufferData with bytes, of which a record has fewer than a buffer may
abbrev pub data_rules : BufferState → ℕ → ℕ → List Rule
data_rules s target usage = bad_target target ∷ bad_usage usage ∷ nothing_bound (bound_view s target) ∷ []

-- bufferSubData with an offset that has a sign
abbrev pub signed_part_rules : BufferState → ℕ → ℤ → List ℕ → List Rule
signed_part_rules s target offset part =
    bad_target target ∷ negative_offset offset ∷ nothing_bound (bound_view s target)
    ∷ past_the_end (whole offset + length part) (bound_view s target) ∷ []

-- bufferSubData with an offset
abbrev pub part_rules : BufferState → ℕ → ℕ → List ℕ → List Rule
part_rules s target offset part =
    bad_target target ∷ nothing_bound (bound_view s target) ∷ past_the_end (offset + length part) (bound_view s target) ∷ []

-- getBufferParameter
abbrev pub parameter_rules : BufferState → ℕ → ℕ → List Rule
parameter_rules s target name = bad_target target ∷ bad_parameter name ∷ nothing_bound (bound_view s target) ∷ []
