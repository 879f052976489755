-- What refuses the calls on vertex attributes (OpenGL ES 2.0 sections 2.7 and 2.8, WebGL 1.0 section 5.14.10): each rule once, in
-- the order in which they apply.
use Rattle.std.specs.Prelude.{ℕ, ℤ, pos, negsuc, ◌%◌, Bool, false, not, ◌&&◌, ◌||◌, ◌==◌, nat_le, if◌then◌else◌, Option, Some, None, is_some, List, [], ◌∷◌}
use Rattle.std.specs.Option.{option_map_or}
use Rattle.gl_numbers.specs.AttribWords.{attrib_type_of, attrib_type_size}
use Rattle.gl_numbers.specs.BufferRules.{is_negative, whole}
use Rattle.gl_numbers.specs.Limits.{vertex_attribs_max}
use Rattle.gl_numbers.specs.Refusals.{Rule, when, invalid_enum, invalid_value, invalid_operation}
use Rattle.gl_numbers.specs.declared.attrib_words.AttribType.{AttribType}
use Rattle.attrib_state.specs.declared.pointer.Pointer.{Pointer}

-- the largest stride, in bytes (WebGL 1.0 section 5.14.10)
abbrev pub stride_max : ℕ
stride_max = 255

-- whether a vertex may have so many elements: 1 to 4 (OpenGL ES 2.0 section 2.8)
abbrev pub is_element_count : ℤ → Bool
is_element_count (pos n) = nat_le 1 n && nat_le n 4
is_element_count (negsuc n) = false

-- how many elements a vertex has, if it may have so many
abbrev pub element_count_of : ℤ → Option ℕ
element_count_of size = if is_element_count size then Some (whole size) else None

-- whether a number is a stride in bytes
abbrev pub is_stride : ℤ → Bool
is_stride (pos n) = nat_le n stride_max
is_stride (negsuc n) = false

-- the bytes of a stride, if it is one
abbrev pub stride_of : ℤ → Option ℕ
stride_of stride = if is_stride stride then Some (whole stride) else None

-- the bytes of an offset, if it isn't negative
abbrev pub offset_of : ℤ → Option ℕ
offset_of offset = if is_negative offset then None else Some (whole offset)

-- whether a number of bytes is a multiple of the size of an element
abbrev pub is_multiple : AttribType → ℕ → Bool
is_multiple kind bytes = bytes % attrib_type_size kind == 0

-- there is no attribute of this index (OpenGL ES 2.0 section 2.7)
abbrev pub bad_index : ℕ → Rule
bad_index index = when (nat_le vertex_attribs_max index) invalid_value

-- a vertex may not have so many elements (OpenGL ES 2.0 section 2.8)
abbrev pub bad_size : ℤ → Rule
bad_size size = when (not (is_element_count size)) invalid_value

-- the word is no type of elements (OpenGL ES 2.0 section 2.8)
abbrev pub bad_type : ℕ → Rule
bad_type word = when (not (is_some (attrib_type_of word))) invalid_enum

-- the stride is negative or above the largest, or the offset is negative (OpenGL ES 2.0 section 2.8; WebGL 1.0 section 5.14.10)
abbrev pub bad_bytes : ℤ → ℤ → Rule
bad_bytes stride offset = when (not (is_stride stride) || is_negative offset) invalid_value

-- the offset isn't 0, and no buffer is bound to ARRAY_BUFFER (WebGL 1.0 section 5.14.10)
abbrev pub no_buffer : Option ℕ → ℤ → Rule
no_buffer bound offset = when (not (whole offset == 0) && not (is_some bound)) invalid_operation

-- the stride or the offset is no multiple of the size of an element (WebGL 1.0 section 6, Buffer Offset and Stride Requirements)
abbrev pub misaligned : Option AttribType → ℤ → ℤ → Rule
misaligned kind stride offset =
    when (option_map_or (λ k. not (is_multiple k (whole stride) && is_multiple k (whole offset))) kind false) invalid_operation

-- enableVertexAttribArray, disableVertexAttribArray, vertexAttrib
abbrev pub index_rules : ℕ → List Rule
index_rules index = bad_index index ∷ []

-- vertexAttribPointer, with the buffer that is bound to ARRAY_BUFFER
abbrev pub pointer_rules : Option ℕ → ℕ → Pointer → List Rule
pointer_rules bound index p =
    bad_index index
    ∷ bad_size p.size
    ∷ bad_type p.kind
    ∷ bad_bytes p.stride p.offset
    ∷ no_buffer bound p.offset
    ∷ misaligned (attrib_type_of p.kind) p.stride p.offset
    ∷ []
