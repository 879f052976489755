-- How attributes are told apart: each is a tuple of its parts.
use Rattle.std.specs.Prelude.{◌≡◌, ℕ, ◌==◌, if◌then◌else◌, Bool, Option, List, refl}
use Rattle.std.specs.Coded.{Coded, code_by, coded_bool, coded_list, coded_option, coded×, coded_ℕ}
use Rattle.gl_numbers.specs.AttribWords.{attrib_type_word}
use Rattle.gl_numbers.specs.declared.attrib_words.AttribType.{AttribType}
use Rattle.gl_numbers.specs.declared.attrib_words.AttribType.TheVariants.{Byte, UnsignedByte, Short, UnsignedShort, Float}
use Rattle.attrib_state.specs.declared.attrib.Attrib.{Attrib}
use Rattle.attrib_state.specs.Attributes.{Attributes}

-- a type of elements, by its word
abbrev type_of_word : ℕ → AttribType
type_of_word n =
    if n == attrib_type_word Byte then Byte
    else (if n == attrib_type_word UnsignedByte then UnsignedByte
    else (if n == attrib_type_word Short then Short
    else (if n == attrib_type_word UnsignedShort then UnsignedShort else Float)))

-- each type again, by its word
pub type_again : (t : AttribType) → type_of_word (attrib_type_word t) ≡ t
type_again Byte = refl
type_again UnsignedByte = refl
type_again Short = refl
type_again UnsignedShort = refl
type_again Float = refl

-- a type of elements
abbrev pub type_code : Coded AttribType
type_code = code_by ℕ coded_ℕ attrib_type_word type_of_word type_again

-- an attribute
abbrev pub attribute_code : Coded Attrib
attribute_code =
    code_by ((Bool × Option ℕ) × ((ℕ × AttribType) × (Bool × (ℕ × (ℕ × List ℕ)))))
    (coded× (coded× coded_bool (coded_option coded_ℕ))
    (coded× (coded× coded_ℕ type_code) (coded× coded_bool (coded× coded_ℕ (coded× coded_ℕ (coded_list coded_ℕ))))))
    (λ a. ((a.enabled, a.buffer), ((a.size, a.kind), (a.normalized, (a.stride, (a.offset, a.constant))))))
    (λ p. record {
      enabled = p.0.0;
      buffer = p.0.1;
      size = p.1.0.0;
      kind = p.1.0.1;
      normalized = p.1.1.0;
      stride = p.1.1.1.0;
      offset = p.1.1.1.1.0;
      constant = p.1.1.1.1.1;
    }) (λ _. refl)

-- all attributes
abbrev pub attributes_code : Coded Attributes
attributes_code = coded_list attribute_code
