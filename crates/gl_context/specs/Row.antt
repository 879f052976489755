-- What one call does: a row. The page's step is the same for every row: the first rule that applies refuses the call; else it
-- may run out of memory; else it acts.
use Rattle.std.specs.Prelude.{ℕ, Bool, true, false, Option, Some, None, List, [], if◌then◌else◌}
use Rattle.gl_numbers.specs.Errors.{code_of, no_error}
use Rattle.gl_numbers.specs.Refusals.{Rule, first_refusal}
use Rattle.gl_numbers.specs.declared.errors.GlError.{GlError}
use Rattle.gl_numbers.specs.declared.errors.GlError.TheVariants.{Memory}
use Rattle.call_records.specs.declared.replies.Reply.{Reply}
use Rattle.call_records.specs.declared.replies.Value as Values
use Rattle.call_records.specs.declared.replies.Value.TheVariants.{Nothing}
use Rattle.command_stream.specs.declared.command.Command.{Command}
use Rattle.gl_model.specs.Errors.{raise}
use Rattle.gl_model.specs.PageState.{PageState}
use Rattle.gl_model.specs.Shot.{Shot}

-- what a call does: its rules in order, whether memory may run out, and where it acts the next state, value, commands and Shot
pub record Row : Type 0 where
  pub rules : List Rule
  pub may_run_out : Bool
  pub next : PageState
  pub value : Values.Value
  pub commands : List Command
  pub made : Option Shot

-- a call that asks: it changes nothing and sends nothing
abbrev pub asking : PageState → List Rule → Values.Value → Row
asking w rules value = record { rules = rules; may_run_out = false; next = w; value = value; commands = []; made = None }

-- a call that acts and returns nothing, and takes no memory
abbrev pub acting : List Rule → PageState → List Command → Row
acting rules next commands = record { rules = rules; may_run_out = false; next = next; value = Nothing; commands = commands; made = None }

-- 1 for what is so, 0 for what isn't
abbrev pub number_of_truth : Bool → ℕ
number_of_truth truth = if truth then 1 else 0

-- why the call is refused, if it is
abbrev pub refusal_of : Row → Option GlError
refusal_of row = first_refusal row.rules

-- what a step gives: the page's next state, the reply, the commands sent and the Shot
pub record Stepped : Type 0 where
  pub page : PageState
  pub reply : Reply
  pub sends : List Command
  pub made : Option Shot

-- an error joins the set, and all else stays (OpenGL ES 2.0 section 2.5)
abbrev pub raised : PageState → GlError → Stepped
raised w error = record {
  page = record w { errors = raise error w.errors };
  reply = record { raised = code_of error; value = Nothing };
  sends = [];
  made = None;
}

-- a call acts
abbrev pub acted : Row → Stepped
acted row = record { page = row.next; reply = record { raised = no_error; value = row.value }; sends = row.commands; made = row.made }

-- the step of a call that was judged, and whether memory ran out
abbrev pub step_judged : PageState → Row → Bool → Option GlError → Stepped
step_judged w row out_of_memory (Some error) = raised w error
step_judged w row true None = raised w Memory
step_judged w row false None = acted row

-- the step of a row
abbrev pub step_by : PageState → Row → Bool → Stepped
step_by w row out_of_memory = step_judged w row out_of_memory (refusal_of row)
