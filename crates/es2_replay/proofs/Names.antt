-- The driver's state, where the buffer of one name is changed.
use Rattle.std.proofs.Common.{◌≡◌, ℕ, Bool, true, false, Option, Some, None, refl, ap}
use Rattle.std.specs.Prelude.{IfSome, is_some, ◌==◌, ◌||◌, if◌then◌else◌}
use Rattle.gl_numbers.specs.declared.errors.GlError.{GlError}
use Rattle.command_stream.specs.declared.command.Command.TheVariants.{Object}
use Rattle.command_stream.specs.declared.object_commands.ObjectCommand.TheVariants.{MakeBuffer}
use Rattle.gl_numbers.specs.BufferBindings.{Bindings, bound_to, bind, non_zero}
use Rattle.gl_numbers.specs.BufferWords.{buffer_target_of}
use Rattle.gl_numbers.specs.declared.buffer_words.BufferTarget.{BufferTarget}
use Rattle.gl_model.specs.Buffers.{Buffer, take_target}
use Rattle.gl_model.specs.BufferState.{BufferState, with_buffer, changed_bound, bind_buffer}
use Rattle.gl_model.specs.DriverState.{DriverState}
use Rattle.gl_model.specs.DriverStep.{refusal}
use Rattle.es2_replay.specs.Named.{named, placed, changed}
use Rattle.es2_replay.specs.Kept.{Kept, state_of}

-- what holds of every buffer holds of the one that there may be
pub for-any : {P : Buffer → Type 0} (found : Option Buffer) → ((buffer : Buffer) → P buffer) → IfSome found P
for-any None every = tt
for-any (Some buffer) every = every buffer

-- the driver's state of these buffers
abbrev only_buffers : BufferState → DriverState
only_buffers s = record { buffers = s }

-- the driver's state, where the buffer that is bound to the target of a word was changed
pub state-changed_bound : (change : Buffer → Buffer) (target name : ℕ) (old new : Kept) → bound_to old.bound target ≡ Some name
    → named new.made ≡ changed change name (named old.made) → new.bound ≡ old.bound
    → state_of new ≡ record { buffers = changed_bound change target (state_of old).buffers }
state-changed_bound change target name old new bound made same =
    rw bound (ap only_buffers (λ i. record { contents = made i; bound = same i }))

-- the driver's state, where a name was bound to a target and its buffer took the target
pub state-bound : (target name : ℕ) (wanted : BufferTarget) (old new : Kept) → buffer_target_of target ≡ Some wanted
    → named new.made ≡ changed (take_target (Some wanted)) name (named old.made)
    → new.bound ≡ bind (Some wanted) (non_zero name) old.bound
    → state_of new ≡ record { buffers = bind_buffer target name (state_of old).buffers }
state-bound target name wanted old new is made bound =
    rw is (ap only_buffers (λ i. record { contents = made i; bound = bound i }))

-- the driver's state, where a name has a buffer or none, and other bindings stand
pub state-placed : (found : Option Buffer) (name : ℕ) (old new : Kept) (bound : Bindings)
    → named new.made ≡ placed found name (named old.made) → new.bound ≡ bound
    → state_of new ≡ record { buffers = record (with_buffer name found (state_of old).buffers) { bound = bound } }
state-placed found name old new bound made same = ap only_buffers (λ i. record { contents = made i; bound = same i })

-- a name that no rule refuses isn't made
absent : (zero : Bool) (found : Option Buffer) (error : GlError) → (if zero || is_some found then Some error else None) ≡ None
    → found ≡ None
absent zero None error is = refl
absent true (Some buffer) error is = absurd cc
absent false (Some buffer) error is = absurd cc

pub not-made : (kept : Kept) (name : ℕ) → refusal (state_of kept) (Object (MakeBuffer name)) ≡ None → named kept.made name ≡ None
not-made kept name is = absent (name == 0) (named kept.made name) _ is
