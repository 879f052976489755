-- What stands at the start.
use Rattle.std.proofs.Common.{false, refl, arith, inl, inr}
use Rattle.std.specs.FinMap.{get-empty}
use Rattle.std.specs.Ordering.{nat_cmp}
use Rattle.std.proofs.lemmas.Bool.Decides.{eqb_tells}
use Rattle.gl_numbers.specs.BufferBindings.{binding}
use Rattle.gl_numbers.specs.declared.buffer_words.BufferTarget.TheVariants.{Array, ElementArray}
use Rattle.object_names.specs.Objects as Names
use Rattle.buffer_store.specs.Stored.{nothing_stored}
use Rattle.attrib_state.specs.Attributes.{first_attributes}
use Rattle.raster_state.specs.FirstWords.{first_words}
use Rattle.gl_model.specs.Errors.{no_errors}
use Rattle.gl_model.specs.BufferState.{no_buffers}
use Rattle.gl_model.specs.PixelStore.{first_pixels}
use Rattle.gl_model.specs.PageState.{first_page}
use Rattle.gl_model.specs.DriverState.{first_driver}
use Rattle.gl_context.specs.Stands.{IsBoundTo, Stands}

-- what is kept at the start stands for the first page and the first driver
pub stands-first : Stands (record {
  names = Names.no_names;
  buffers = nothing_stored;
  attributes = first_attributes;
  pixels = first_pixels;
  errors = no_errors;
  raster = first_words;
  failed = false;
}) first_page first_driver
stands-first = record {
  working = refl;
  keeps = record {
    names = record {
      count = refl;
      each = λ h. elim (eqb_tells h 0) [ inl null ↦ rw null.0 refl | inr given ↦ rw given.0 refl ];
    };
    buffers = record { each = λ h. get-empty nat_cmp h; bound = refl };
    attributes = refl;
    pixels = refl;
    errors = refl;
    raster = refl;
  };
  sound = record {
    objects = record {
      count = omega arith;
      buffers = λ handle. elim (eqb_tells handle 0) [ inl null ↦ rw null.0 refl | inr given ↦ rw given.0 refl ];
    };
    buffers = record {
      each = λ number. tt;
      bound = λ target. elim target as (λ t. IsBoundTo no_buffers t (binding no_buffers.bound t)) [ Array ↦ tt | ElementArray ↦ tt ];
    };
  };
  agrees = record { buffers = record { made = λ h. refl; others = λ name low. refl; array = refl; element_array = refl } };
}
