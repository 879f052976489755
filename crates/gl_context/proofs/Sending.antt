-- What a call did and sent, from what it did to the stores and what was sent for it.
use Rattle.std.proofs.Common.{◌≡◌, ℕ, Option, List, Result, Ok, Err, refl, ap, subst, ◌∙◌, arith}
use Rattle.std.specs.Io.KnownBytes.{append_known}
use Rattle.gl_numbers.specs.declared.errors.GlError.{GlError}
use Rattle.wire_io.specs.Sinks.{Sends}
use Rattle.gl_model.specs.PageState.{PageState}
use Rattle.gl_context.specs.Row.{Row}
use Rattle.gl_context.specs.Sent.{bytes_of}
use Rattle.gl_context.specs.Stands.{Kept}
use Rattle.gl_context.specs.Deeds.{Deed, ActsBy, ReturnsBy, SendsBy, SendCause, stopped, value_in}
use Rattle.gl_context.specs.declared.deed.Told.{Told}
use Rattle.gl_context.specs.declared.deed.Stop.TheVariants.{Unsent}
use Rattle.gl_context.proofs.SentBytes.{nothing_sent}

module _ (row : Row) (w : PageState) (kept : Kept) (old new : Option (List ℕ)) where
  -- all of its commands were sent
  pub sends_all : (deed : Deed) (told : Told) → ActsBy row w kept (Ok deed) → value_in told ≡ deed.value → new ≡ append_known old (bytes_of deed.commands)
      → SendsBy row w kept old new (Ok told)
  sends_all deed told acts value sent = (acts.0, acts.1, value ∙ acts.2, sent ∙ ap (λ c. append_known old (bytes_of c)) acts.3)

  -- a prefix of them was
  pub sends_part : (deed : Deed) → ActsBy row w kept (Ok deed) → Sends {T = Unit {0}} {E = Unit {0}} old new (Err tt) (bytes_of deed.commands)
      → SendsBy row w kept old new (Err Unsent)
  sends_part deed acts sent = (acts.0, subst (λ c. Sends {T = Unit {0}} {E = Unit {0}} old new (Err tt) (bytes_of c)) acts.3 sent)

-- nothing is to be sent
pub sends_quiet : (row : Row) (w : PageState) (kept : Kept) (old : Option (List ℕ)) (result : Result Told GlError) → ReturnsBy row w kept result
    → SendsBy row w kept old old (stopped result)
sends_quiet row w kept old (Ok told) acts = (acts.0, acts.1, acts.2, nothing_sent old ∙ ap (λ c. append_known old (bytes_of c)) acts.3)
sends_quiet row w kept old (Err error) acts = (acts.0, acts.1, refl)

-- no fault is counted where nothing is sent
pub quiet_cause : (before : ℕ) (result : Result Told GlError) → SendCause before before (stopped result)
quiet_cause before (Ok told) = omega arith
quiet_cause before (Err error) = omega arith
