-- What a call that raises an error leaves alone.
use Rattle.std.specs.Prelude.{◌≡◌, true, Some, List, [], ◌∷◌}
use Rattle.gl_numbers.specs.Errors.{code_of}
use Rattle.gl_numbers.specs.declared.errors.GlError.{GlError}
use Rattle.gl_numbers.specs.declared.errors.GlError.TheVariants.{Memory}
use Rattle.call_records.specs.declared.replies.Value.TheVariants.{Nothing}
use Rattle.gl_model.specs.Errors.{raise}
use Rattle.gl_model.specs.PageState.{PageState}
use Rattle.gl_context.specs.Row.{refusal_of}
use Rattle.gl_context.specs.PageStep.{row_of, is_out_of_memory}
use Rattle.gl_context.specs.PageRun.{Taken, step_taken}
use Rattle.gl_context.specs.Sent.{sent}

-- the call answers the error with no value, changes the error flags alone, and sends nothing (WebGL 1.0 section 5.14)
pub record RaisesAlone (w : PageState) (t : Taken) (error : GlError) : Type 0 where
  pub reply : (step_taken w t).reply ≡ record { raised = code_of error; value = Nothing }
  pub page : (step_taken w t).page ≡ record w { errors = raise error w.errors }
  pub commands : sent w t.call t.out_of_memory ≡ []

-- so does each of these calls that is refused, and each that is answered OUT_OF_MEMORY
unfoldable pub ErrorsChangeNothing : PageState → List Taken → Type 0
ErrorsChangeNothing w [] = Unit {0}
ErrorsChangeNothing w (t ∷ ts) =
    ((error : GlError) → refusal_of (row_of w t.call) ≡ Some error → RaisesAlone w t error)
    × (is_out_of_memory (step_taken w t).reply ≡ true → RaisesAlone w t Memory)
    × ErrorsChangeNothing (step_taken w t).page ts
