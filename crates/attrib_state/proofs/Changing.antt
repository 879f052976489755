-- What the change of one attribute makes of all of them.
use Rattle.std.proofs.Common.{◌≡◌, ◌<◌, ℕ, Bool, true, false, Option, Some, None, length, get_or, set, refl, sym, ap}
use Rattle.std.specs.Prelude.{if◌then◌else◌}
use Rattle.std.proofs.lemmas.Option.{slice_get-get_or}
use Rattle.gl_numbers.specs.AttribWords.{attrib_type_of}
use Rattle.gl_numbers.specs.BufferRules.{is_negative, whole}
use Rattle.gl_numbers.specs.declared.attrib_words.AttribType.{AttribType}
use Rattle.attrib_state.specs.declared.attrib.Attrib.{Attrib}
use Rattle.attrib_state.specs.declared.pointer.Pointer.{Pointer}
use Rattle.attrib_state.specs.Attributes.{Attributes}
use Rattle.attrib_state.specs.Rules.{is_element_count, element_count_of, is_stride, stride_of, offset_of}
use Rattle.attrib_state.specs.Effects.{changed, changed_at, with_pointer}

-- an attribute that is there was changed in its place
changed-there : (attributes : Attributes) (index : ℕ) (change : Attrib → Attrib) (d : Attrib) → index < length attributes
    → changed attributes index change ≡ set attributes index (change (get_or attributes index d))
changed-there attributes index change d within = ap (changed_at attributes index change) (slice_get-get_or attributes index d within)

-- a number that is given where a test passes
given-where : (test : Bool) (n given : ℕ) → Some n ≡ (if test then Some given else None) → n ≡ given
given-where true n given e = cc
given-where false n given e = absurd cc

-- a number that is given where a test fails
given-unless : (test : Bool) (n given : ℕ) → Some n ≡ (if test then None else Some given) → n ≡ given
given-unless true n given e = absurd cc
given-unless false n given e = cc

-- an attribute that got a pointer of which nothing is refused
pub pointed : (attributes : Attributes) (index : ℕ) (bound : Option ℕ) (p : Pointer) (size : ℕ) (kind : AttribType) (stride offset : ℕ) (d : Attrib)
    → index < length attributes → Some size ≡ element_count_of p.size → Some kind ≡ attrib_type_of p.kind → Some stride ≡ stride_of p.stride
    → Some offset ≡ offset_of p.offset
    → set attributes index (record (get_or attributes index d) { buffer = bound; size = size; kind = kind; normalized = p.normalized; stride = stride; offset = offset })
    ≡ changed attributes index (with_pointer bound p)
pointed attributes index bound p size kind stride offset d within sized typed strode placed =
    let n : size ≡ whole p.size = given-where (is_element_count p.size) size (whole p.size) sized in
    let s : stride ≡ whole p.stride = given-where (is_stride p.stride) stride (whole p.stride) strode in
    let o : offset ≡ whole p.offset = given-unless (is_negative p.offset) offset (whole p.offset) placed in
    let k : attrib_type_of p.kind ≡ Some kind = sym typed in
    rw (changed-there attributes index (with_pointer bound p) d within, n, s, o, k) refl
