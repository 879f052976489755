-- What the calls on vertex attributes do where nothing refuses them (OpenGL ES 2.0 sections 2.7 to 2.9).
use Rattle.std.specs.Prelude.{ℕ, Bool, Option, Some, None, List, map, slice_get, slice_set, unwrap_or}
use Rattle.gl_numbers.specs.AttribWords.{attrib_type_of}
use Rattle.gl_numbers.specs.BufferBindings.{without}
use Rattle.gl_numbers.specs.BufferRules.{whole}
use Rattle.attrib_state.specs.declared.attrib.Attrib.{Attrib}
use Rattle.attrib_state.specs.declared.pointer.Pointer.{Pointer}
use Rattle.attrib_state.specs.Attributes.{Attributes}

-- the attributes with that of an index changed, as it was found
abbrev pub changed_at : Attributes → ℕ → (Attrib → Attrib) → Option Attrib → Attributes
changed_at attributes index change None = attributes
changed_at attributes index change (Some attribute) = slice_set attributes index (change attribute)

-- the attributes with that of an index changed, if there is one
abbrev pub changed : Attributes → ℕ → (Attrib → Attrib) → Attributes
changed attributes index change = changed_at attributes index change (slice_get attributes index)

-- the array is enabled or disabled, and keeps the rest (enableVertexAttribArray, disableVertexAttribArray)
abbrev pub with_enabled : Bool → Attrib → Attrib
with_enabled on attribute = record attribute { enabled = on }

-- the array lies there in the bound buffer, if one is bound (vertexAttribPointer)
abbrev pub with_pointer : Option ℕ → Pointer → Attrib → Attrib
with_pointer bound p attribute = record attribute {
  buffer = bound;
  size = whole p.size;
  kind = unwrap_or (attrib_type_of p.kind) attribute.kind;
  normalized = p.normalized;
  stride = whole p.stride;
  offset = whole p.offset;
}

-- the constant is of the floats of these words (vertexAttrib)
abbrev pub with_constant : List ℕ → Attrib → Attrib
with_constant words attribute = record attribute { constant = words }

-- the array isn't in this buffer any more, and all else stays
abbrev pub out_of : ℕ → Attrib → Attrib
out_of buffer attribute = record attribute { buffer = without buffer attribute.buffer }

-- no array is in this buffer any more (deleteBuffer)
abbrev pub without_buffer : Attributes → ℕ → Attributes
without_buffer attributes buffer = map (out_of buffer) attributes
