-- A call that raises an error leaves all else alone.
use Rattle.std.proofs.Common.{◌≡◌, Bool, true, false, Option, Some, None, List, [], ◌∷◌, refl, ap}
use Rattle.gl_numbers.specs.declared.errors.GlError.{GlError}
use Rattle.gl_numbers.specs.declared.errors.GlError.TheVariants as Error
use Rattle.call_records.specs.declared.calls.Call.{Call}
use Rattle.gl_model.specs.PageState.{PageState}
use Rattle.gl_context.specs.Row.{refusal_of, step_judged}
use Rattle.gl_context.specs.PageStep.{row_of, is_out_of_memory}
use Rattle.gl_context.specs.PageRun.{Taken, step_taken}
use Rattle.session_run.specs.Unchanged.{RaisesAlone, ErrorsChangeNothing}

-- a call that is refused
refused-alone : (w : PageState) (t : Taken) (error : GlError) → refusal_of (row_of w t.call) ≡ Some error → RaisesAlone w t error
refused-alone w t error e = record {
  reply = ap (λ (r : Option GlError). (step_judged w (row_of w t.call) t.out_of_memory r).reply) e;
  page = ap (λ (r : Option GlError). (step_judged w (row_of w t.call) t.out_of_memory r).page) e;
  commands = ap (λ (r : Option GlError). (step_judged w (row_of w t.call) t.out_of_memory r).sends) e;
}

-- a call that is answered OUT_OF_MEMORY
out_of_memory-alone : (w : PageState) (call : Call) (out_of_memory : Bool) (refused : Option GlError) → refusal_of (row_of w call) ≡ refused
    → is_out_of_memory (step_judged w (row_of w call) out_of_memory refused).reply ≡ true
    → RaisesAlone w (record { call = call; out_of_memory = out_of_memory }) Error.Memory
out_of_memory-alone w call out_of_memory (Some Error.Enum) e said = absurd cc
out_of_memory-alone w call out_of_memory (Some Error.Value) e said = absurd cc
out_of_memory-alone w call out_of_memory (Some Error.Operation) e said = absurd cc
out_of_memory-alone w call out_of_memory (Some Error.Framebuffer) e said = absurd cc
out_of_memory-alone w call out_of_memory (Some Error.Memory) e said = refused-alone w (record { call = call; out_of_memory = out_of_memory }) Error.Memory e
out_of_memory-alone w call false None e said = absurd cc
out_of_memory-alone w call true None e said = record {
  reply = ap (λ (r : Option GlError). (step_judged w (row_of w call) true r).reply) e;
  page = ap (λ (r : Option GlError). (step_judged w (row_of w call) true r).page) e;
  commands = ap (λ (r : Option GlError). (step_judged w (row_of w call) true r).sends) e;
}

-- each of these calls
pub errors-change-nothing : (w : PageState) (taken : List Taken) → ErrorsChangeNothing w taken
unfolding ErrorsChangeNothing
errors-change-nothing w [] = tt
errors-change-nothing w (t ∷ taken) =
    (refused-alone w t, out_of_memory-alone w t.call t.out_of_memory (refusal_of (row_of w t.call)) refl, errors-change-nothing (step_taken w t).page taken)
