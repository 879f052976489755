-- The objects that were given a handle, their marks and their holds (WebGL 1.0 sections 5.14.5 to 5.14.9, OpenGL
-- ES 2.0 sections 2.10.1 and 2.10.3 and appendix C).
use Rattle.std.specs.Prelude.{◌≡◌, ◌≢◌, ℕ, ◌+◌, ◌-◌, ◌<◌, Bool, true, false, ◌⊎◌, Option, None, List, [], length, IfSome, IsSomeAnd}
use Rattle.gl_numbers.specs.ByHandle.{object_at}
use Rattle.gl_numbers.specs.declared.kinds.Kind.{Kind}
use Rattle.gl_numbers.specs.declared.kinds.Kind.TheVariants.{Buffer, Texture, Renderbuffer, Framebuffer, Shader, Program}
use Rattle.object_names.specs.declared.entry.Find.{Find}
use Rattle.object_names.specs.declared.entry.Find.TheVariants.{Null, Stranger, Gone, Marked, Live}

-- an object: its kind, whether it was deleted, and how often it is held
pub record Object : Type 0 where
  pub kind : Kind
  pub marked : Bool
  pub holds : ℕ

-- the object of handle h is entry h - 1; and the kind of which one more can be made
pub record Given : Type 0 where
  pub objects : List Object
  pub room : Option Kind

-- no handle was given
abbrev pub no_names : Given
no_names = record { objects = []; room = None }

-- an object that was just made
abbrev pub new_object : Kind → Object
new_object kind = record { kind = kind; marked = false; holds = 0 }

-- the handle that comes next
abbrev pub next_handle : Given → ℕ
next_handle g = length g.objects + 1

-- the driver's name of an object
abbrev pub driver_name : Kind → ℕ → ℕ
driver_name Buffer h = h + 2
driver_name Texture h = h + 2
driver_name Renderbuffer h = h + 2
driver_name Framebuffer h = h + 2
driver_name Shader h = 0
driver_name Program h = 0

-- an object that was deleted is gone where nothing holds it
abbrev pub IsOfState : Find → Object → Type 0
IsOfState Null o = ⊥
IsOfState Stranger o = ⊥
IsOfState Gone o = (o.marked ≡ true) × (o.holds ≡ 0)
IsOfState Marked o = (o.marked ≡ true) × (0 < o.holds)
IsOfState Live o = o.marked ≡ false

-- an object of the kind in this state
pub record IsOne (kind : Kind) (state : Find) (o : Object) : Type 0 where
  pub same_kind : o.kind ≡ kind
  pub in_state : IsOfState state o

-- what a handle names, for a call that wants an object of the kind
abbrev pub Finds : List Object → ℕ → Kind → Find → Type 0
Finds objects h kind Null = h ≡ 0
Finds objects h kind Stranger = (0 < h) × IfSome (object_at objects h) (λ o. o.kind ≢ kind)
Finds objects h kind Gone = IsSomeAnd (object_at objects h) (IsOne kind Gone)
Finds objects h kind Marked = IsSomeAnd (object_at objects h) (IsOne kind Marked)
Finds objects h kind Live = IsSomeAnd (object_at objects h) (IsOne kind Live)

-- an object that isn't gone, and that can be held once more
pub record IsHoldable (o : Object) : Type 0 where
  pub there : (o.marked ≡ false) ⊎ (0 < o.holds)
  pub few : o.holds < 4294967295

-- the same object, deleted (OpenGL ES 2.0 appendix C)
abbrev pub marked : Object → Object
marked o = record o { marked = true }

-- the same object, held once more
abbrev pub held_once_more : Object → Object
held_once_more o = record o { holds = o.holds + 1 }

-- the same object, held once less
abbrev pub held_once_less : Object → Object
held_once_less o = record o { holds = o.holds - 1 }
