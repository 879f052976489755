-- The words of vertex attributes: the types of an array's elements (OpenGL ES 2.0 section 2.8), and what can be asked of an
-- attribute (section 6.1.8).
use Rattle.std.specs.Prelude.{ℕ, Option, Some, None, ◌==◌, if◌then◌else◌}
use Rattle.gl_numbers.specs.declared.attrib_words.AttribType.{AttribType}
use Rattle.gl_numbers.specs.declared.attrib_words.AttribType.TheVariants.{Byte, UnsignedByte, Short, UnsignedShort, Float}
use Rattle.gl_numbers.specs.declared.attrib_words.AttribParameter as Parameters
use Rattle.gl_numbers.specs.declared.attrib_words.AttribParameter.TheVariants as parameter

-- the word of a type: BYTE 0x1400, UNSIGNED_BYTE 0x1401, SHORT 0x1402, UNSIGNED_SHORT 0x1403, FLOAT 0x1406
abbrev pub attrib_type_word : AttribType → ℕ
attrib_type_word Byte = 5120
attrib_type_word UnsignedByte = 5121
attrib_type_word Short = 5122
attrib_type_word UnsignedShort = 5123
attrib_type_word Float = 5126

-- the type of a word, if it is one
abbrev pub attrib_type_of : ℕ → Option AttribType
attrib_type_of n =
    if n == attrib_type_word Byte then Some Byte
    else (if n == attrib_type_word UnsignedByte then Some UnsignedByte
    else (if n == attrib_type_word Short then Some Short
    else (if n == attrib_type_word UnsignedShort then Some UnsignedShort
    else (if n == attrib_type_word Float then Some Float else None))))

-- the bytes of one element of a type
abbrev pub attrib_type_size : AttribType → ℕ
attrib_type_size Byte = 1
attrib_type_size UnsignedByte = 1
attrib_type_size Short = 2
attrib_type_size UnsignedShort = 2
attrib_type_size Float = 4

-- the word of what getVertexAttrib is asked for: VERTEX_ATTRIB_ARRAY_ENABLED 0x8622, _SIZE 0x8623, _STRIDE 0x8624, _TYPE 0x8625,
-- CURRENT_VERTEX_ATTRIB 0x8626, VERTEX_ATTRIB_ARRAY_NORMALIZED 0x886A and _BUFFER_BINDING 0x889F
abbrev pub attrib_parameter_word : Parameters.AttribParameter → ℕ
attrib_parameter_word parameter.Enabled = 34338
attrib_parameter_word parameter.Size = 34339
attrib_parameter_word parameter.Stride = 34340
attrib_parameter_word parameter.ElementType = 34341
attrib_parameter_word parameter.Current = 34342
attrib_parameter_word parameter.Normalized = 34922
attrib_parameter_word parameter.BufferBinding = 34975

-- what getVertexAttrib is asked for by a word, if it is anything
abbrev pub attrib_parameter_of : ℕ → Option Parameters.AttribParameter
attrib_parameter_of n =
    if n == attrib_parameter_word parameter.Enabled then Some parameter.Enabled
    else (if n == attrib_parameter_word parameter.Size then Some parameter.Size
    else (if n == attrib_parameter_word parameter.Stride then Some parameter.Stride
    else (if n == attrib_parameter_word parameter.ElementType then Some parameter.ElementType
    else (if n == attrib_parameter_word parameter.Current then Some parameter.Current
    else (if n == attrib_parameter_word parameter.Normalized then Some parameter.Normalized
    else (if n == attrib_parameter_word parameter.BufferBinding then Some parameter.BufferBinding else None))))))

-- VERTEX_ATTRIB_ARRAY_POINTER, 0x8645: what getVertexAttribOffset is asked for
abbrev pub attrib_pointer : ℕ
attrib_pointer = 34373
