-- How what is kept of two pages is told apart: it is a tuple of its parts.
use Rattle.std.specs.Prelude.{◌≡◌, ℕ, ◌==◌, if◌then◌else◌, Bool, Option, List, refl}
use Rattle.std.specs.Coded.{Coded, code_by, coded_list, coded_option, coded×, coded_ℕ, coded_bool}
use Rattle.gl_numbers.specs.declared.kinds.Kind as Kinds
use Rattle.gl_numbers.specs.declared.kinds.Kind.TheVariants.{Buffer, Texture, Renderbuffer, Framebuffer, Shader, Program}
use Rattle.object_names.specs.Objects as Names
use Rattle.buffer_store.specs.Stored.{Stored}
use Rattle.buffer_store.specs.Codes.{stored_code}
use Rattle.attrib_state.specs.Attributes.{Attributes}
use Rattle.attrib_state.specs.Codes.{attributes_code}
use Rattle.raster_state.specs.declared.words.RasterWords.{RasterWords}
use Rattle.raster_state.specs.Codes.{words_code}
use Rattle.gl_model.specs.Errors.{ErrorSet}
use Rattle.gl_model.specs.PixelStore.{PixelStore}
use Rattle.gl_context.specs.Stands.{Kept}

-- a number for each kind of object
abbrev number_of_kind : Kinds.Kind → ℕ
number_of_kind Buffer = 0
number_of_kind Texture = 1
number_of_kind Renderbuffer = 2
number_of_kind Framebuffer = 3
number_of_kind Shader = 4
number_of_kind Program = 5

-- the kind of object of a number
abbrev kind_of_number : ℕ → Kinds.Kind
kind_of_number n =
    if n == 0 then Buffer
    else (if n == 1 then Texture
    else (if n == 2 then Renderbuffer
    else (if n == 3 then Framebuffer
    else (if n == 4 then Shader else Program))))

-- the number of a kind gives the kind again
pub kind_again : (k : Kinds.Kind) → kind_of_number (number_of_kind k) ≡ k
kind_again Buffer = refl
kind_again Texture = refl
kind_again Renderbuffer = refl
kind_again Framebuffer = refl
kind_again Shader = refl
kind_again Program = refl

-- a kind is coded by its number
abbrev pub kind_code : Coded Kinds.Kind
kind_code = code_by ℕ coded_ℕ number_of_kind kind_of_number kind_again

-- an object is coded by its kind, whether it was deleted, and how many hold it
abbrev pub object_code : Coded Names.Object
object_code =
    code_by (Kinds.Kind × (Bool × ℕ)) (coded× kind_code (coded× coded_bool coded_ℕ)) (λ o. (o.kind, (o.marked, o.holds)))
    (λ p. record { kind = p.0; marked = p.1.0; holds = p.1.1 }) (λ _. refl)

-- the names that were given are coded by their objects and the kind that there is room for
abbrev pub given_code : Coded Names.Given
given_code =
    code_by (List Names.Object × Option Kinds.Kind) (coded× (coded_list object_code) (coded_option kind_code)) (λ g. (g.objects, g.room))
    (λ p. record { objects = p.0; room = p.1 }) (λ _. refl)

-- the error flags are coded by the flag of each error (OpenGL ES 2.0 section 2.5)
abbrev pub errors_code : Coded ErrorSet
errors_code =
    code_by (Bool × (Bool × (Bool × (Bool × Bool))))
    (coded× coded_bool (coded× coded_bool (coded× coded_bool (coded× coded_bool coded_bool))))
    (λ e. (e.invalid_enum, (e.invalid_value, (e.invalid_operation, (e.out_of_memory, e.invalid_framebuffer_operation)))))
    (λ p. record {
      invalid_enum = p.0;
      invalid_value = p.1.0;
      invalid_operation = p.1.1.0;
      out_of_memory = p.1.1.1.0;
      invalid_framebuffer_operation = p.1.1.1.1;
    }) (λ _. refl)

-- the pixel store is coded by its parts
abbrev pub pixels_code : Coded PixelStore
pixels_code =
    code_by (ℕ × (ℕ × (Bool × (Bool × ℕ)))) (coded× coded_ℕ (coded× coded_ℕ (coded× coded_bool (coded× coded_bool coded_ℕ))))
    (λ s. (s.unpack_alignment, (s.pack_alignment, (s.flip_y, (s.premultiply_alpha, s.colorspace_conversion)))))
    (λ p. record {
      unpack_alignment = p.0;
      pack_alignment = p.1.0;
      flip_y = p.1.1.0;
      premultiply_alpha = p.1.1.1.0;
      colorspace_conversion = p.1.1.1.1;
    }) (λ _. refl)

-- what a context keeps is coded by its names, its buffers, its attributes, its pixel store, its error flags, its raster state, and
-- whether a write failed
abbrev pub kept_code : Coded Kept
kept_code =
    code_by (Names.Given × (Stored × (Attributes × (PixelStore × (ErrorSet × (RasterWords × Bool))))))
    (coded× given_code
    (coded× stored_code (coded× attributes_code (coded× pixels_code (coded× errors_code (coded× words_code coded_bool))))))
    (λ k. (k.names, (k.buffers, (k.attributes, (k.pixels, (k.errors, (k.raster, k.failed)))))))
    (λ p. record {
      names = p.0;
      buffers = p.1.0;
      attributes = p.1.1.0;
      pixels = p.1.1.1.0;
      errors = p.1.1.1.1.0;
      raster = p.1.1.1.1.1.0;
      failed = p.1.1.1.1.1.1;
    }) (λ _. refl)
