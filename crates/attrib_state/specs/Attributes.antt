-- The vertex attributes of a page and their values at the start (OpenGL ES 2.0 sections 2.7, 2.8 and 6.2).
use Rattle.std.specs.Prelude.{ℕ, false, None, List, [], ◌∷◌, replicate}
use Rattle.gl_numbers.specs.Limits.{vertex_attribs_max}
use Rattle.gl_numbers.specs.declared.attrib_words.AttribType.TheVariants.{Float}
use Rattle.attrib_state.specs.declared.attrib.Attrib.{Attrib}

-- the attributes, by index
abbrev pub Attributes : Type 0
Attributes = List Attrib

-- the word of the float 1.0, 0x3F800000 (IEEE 754 single)
abbrev pub one : ℕ
one = 1065353216

-- an attribute at the start: its array is disabled, four floats a vertex from offset 0 on in no buffer; its constant is 0, 0, 0, 1
abbrev pub first_attribute : Attrib
first_attribute = record {
  enabled = false;
  buffer = None;
  size = 4;
  kind = Float;
  normalized = false;
  stride = 0;
  offset = 0;
  constant = 0 ∷ 0 ∷ 0 ∷ one ∷ [];
}

-- all attributes at the start
abbrev pub first_attributes : Attributes
first_attributes = replicate vertex_attribs_max first_attribute
