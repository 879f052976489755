-- What the stores of a context keep true of one another.
use Rattle.std.specs.Prelude.{◌≡◌, ℕ, Bool, false, not, ◌&&◌, is_some, List}
use Rattle.std.specs.Option.{option_map_or}
use Rattle.std.specs.FinMap.{get}
use Rattle.gl_numbers.specs.ByHandle.{object_at}
use Rattle.gl_numbers.specs.declared.kinds.Kind.{Kind}
use Rattle.gl_numbers.specs.declared.kinds.Kind.TheVariants as kind
use Rattle.object_names.specs.Objects as Names
use Rattle.buffer_store.specs.Stored.{Stored}
use Rattle.gl_model.specs.PageState.{same_kind}

-- whether a handle names an object of a kind that wasn't deleted
abbrev pub names_live : List Names.Object → Kind → ℕ → Bool
names_live objects kind handle = option_map_or (λ o. same_kind kind o.kind && not o.marked) (object_at objects handle) false

-- a buffer is stored for each live object that is one, and for no other handle
abbrev pub AreTied : Names.Given → Stored → Type 0
AreTied names stored = (handle : ℕ) → is_some (get stored.buffers handle) ≡ names_live names.objects kind.Buffer handle
