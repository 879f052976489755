-- Objects in the order of their handles, 1, 2, 3, ..: that of handle h stands at place h - 1 (WebGL 1.0 section 5.14).
use Rattle.std.specs.Prelude.{ℕ, ◌-◌, Option, Some, None, List, slice_get, slice_set, ◌==◌, if◌then◌else◌}

-- the object of a handle, if the handle was given; 0 is no handle
abbrev pub object_at : {A : Type 0} → List A → ℕ → Option A
object_at objects handle = if handle == 0 then None else slice_get objects (handle - 1)

-- the objects with that of a handle changed, as it was found
abbrev pub changed_at : {A : Type 0} → List A → ℕ → (A → A) → Option A → List A
changed_at objects handle change None = objects
changed_at objects handle change (Some object) = slice_set objects (handle - 1) (change object)

-- the objects with that of a handle changed, if the handle was given
abbrev pub changed : {A : Type 0} → List A → ℕ → (A → A) → List A
changed objects handle change = changed_at objects handle change (object_at objects handle)
