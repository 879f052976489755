-- The calls on vertex attributes (WebGL 1.0 section 5.14.10; OpenGL ES 2.0 sections 2.7, 2.8 and 6.1.8): a row each.
use Rattle.std.specs.Prelude.{ℕ, ◌/◌, ◌%◌, ◌^◌, Bool, not, ◌==◌, Option, Some, is_some, unwrap_or, List, [], ◌∷◌, slice_get}
use Rattle.std.specs.Option.{option_map_or}
use Rattle.gl_numbers.specs.AttribWords.{attrib_parameter_of, attrib_pointer, attrib_type_word}
use Rattle.gl_numbers.specs.Refusals.{Rule, when, invalid_enum}
use Rattle.gl_numbers.specs.declared.attrib_words.AttribParameter.{AttribParameter}
use Rattle.gl_numbers.specs.declared.attrib_words.AttribParameter.TheVariants.{Enabled, Size, Stride, ElementType, Current, Normalized, BufferBinding}
use Rattle.attrib_state.specs.declared.attrib.Attrib.{Attrib}
use Rattle.attrib_state.specs.declared.pointer.Pointer.{Pointer}
use Rattle.attrib_state.specs.Rules.{bad_index, index_rules, pointer_rules}
use Rattle.attrib_state.specs.Effects.{changed, with_constant, with_enabled, with_pointer}
use Rattle.call_records.specs.declared.attrib_calls.AttribCall.{AttribCall}
use Rattle.call_records.specs.declared.attrib_calls.AttribCall.TheVariants.{AttribArray, VertexAttribPointer, VertexAttrib, GetVertexAttrib, GetVertexAttribOffset}
use Rattle.call_records.specs.declared.replies.Value as Values
use Rattle.call_records.specs.declared.replies.Value.TheVariants as Value
use Rattle.gl_model.specs.PageState.{PageState}
use Rattle.gl_context.specs.Row.{Row, asking, acting, number_of_truth}

-- enableVertexAttribArray, and disableVertexAttribArray
abbrev pub array_row : PageState → ℕ → Bool → Row
array_row w index on = acting (index_rules index) (record w { attributes = changed w.attributes index (with_enabled on) }) []

-- vertexAttribPointer: the array is in the buffer that is bound to ARRAY_BUFFER
abbrev pub pointer_row : PageState → ℕ → Pointer → Row
pointer_row w index pointer = acting
    (pointer_rules w.buffers.bound.array index pointer)
    (record w { attributes = changed w.attributes index (with_pointer w.buffers.bound.array pointer) })
    []

-- vertexAttrib: the words of four floats
abbrev pub constant_row : PageState → ℕ → List ℕ → Row
constant_row w index words = acting (index_rules index) (record w { attributes = changed w.attributes index (with_constant words) }) []

-- the word is nothing that getVertexAttrib is asked for (OpenGL ES 2.0 section 6.1.8)
abbrev pub bad_parameter : ℕ → Rule
bad_parameter word = when (not (is_some (attrib_parameter_of word))) invalid_enum

-- the word isn't what getVertexAttribOffset is asked for (OpenGL ES 2.0 section 6.1.8)
abbrev pub bad_pointer : ℕ → Rule
bad_pointer word = when (not (word == attrib_pointer)) invalid_enum

-- a parameter of an attribute; no buffer is 0
abbrev pub parameter_of : AttribParameter → Attrib → Values.Value
parameter_of Enabled attribute = Value.Number (number_of_truth attribute.enabled)
parameter_of Size attribute = Value.Number attribute.size
parameter_of Stride attribute = Value.Number attribute.stride
parameter_of ElementType attribute = Value.Number (attrib_type_word attribute.kind)
parameter_of Current attribute = Value.List attribute.constant
parameter_of Normalized attribute = Value.Number (number_of_truth attribute.normalized)
parameter_of BufferBinding attribute = Value.Number (unwrap_or attribute.buffer 0)

-- the same, where there are both
abbrev pub told_parameter : Option AttribParameter → Option Attrib → Values.Value
told_parameter (Some parameter) (Some attribute) = parameter_of parameter attribute
told_parameter _ _ = Value.Nothing

-- getVertexAttrib
abbrev pub parameter_row : PageState → ℕ → ℕ → Row
parameter_row w index name =
    asking w (bad_index index ∷ bad_parameter name ∷ []) (told_parameter (attrib_parameter_of name) (slice_get w.attributes index))

-- the offset of an array: its low word, and its high word
abbrev pub offset_of : Attrib → Values.Value
offset_of attribute = Value.List ((attribute.offset % 2 ^ 32) ∷ (attribute.offset / 2 ^ 32) ∷ [])

-- getVertexAttribOffset
abbrev pub offset_row : PageState → ℕ → ℕ → Row
offset_row w index name =
    asking w (bad_index index ∷ bad_pointer name ∷ []) (option_map_or offset_of (slice_get w.attributes index) Value.Nothing)

-- the row of each call on vertex attributes; normalized is false for 0, and true for any other word
abbrev pub attrib_row : PageState → AttribCall → Row
attrib_row w (AttribArray index on) = array_row w index on
attrib_row w (VertexAttribPointer index size kind normalized stride offset) = pointer_row w index (record {
  size = size;
  kind = kind;
  normalized = not (normalized == 0);
  stride = stride;
  offset = offset;
})
attrib_row w (VertexAttrib index x y z last) = constant_row w index (x ∷ y ∷ z ∷ last ∷ [])
attrib_row w (GetVertexAttrib index name) = parameter_row w index name
attrib_row w (GetVertexAttribOffset index name) = offset_row w index name
