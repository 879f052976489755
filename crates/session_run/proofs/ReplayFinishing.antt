-- From a whole stream and the line that was written to what a replay did by its status.
use Rattle.std.proofs.Common.{◌≡◌, ℕ, ◌≤◌, Option, Some, None, List, length, take, ap, subst, ◌∙◌, inr}
use Rattle.std.specs.Io.KnownBytes.{append_known}
use Rattle.wire_io.specs.Sources.{WhereTold}
use Rattle.wire_io.specs.declared.status.Status as Statuses
use Rattle.wire_io.specs.declared.status.Status.TheVariants as Status
use Rattle.gl_model.specs.DriverState.{first_driver}
use Rattle.gl_model.specs.Replay.{replay}
use Rattle.session_run.specs.Tallies.{counts, line_of}
use Rattle.session_run.specs.Playing.{TellsLine}
use Rattle.session_run.specs.ReplayOutcomes.{CountedStream, ReplayOutcome}
use Rattle.session_run.specs.declared.tally.Tally.{Tally}

-- what follows from a fact, where it is told
pub told_so : (P Q : List ℕ → List ℕ → Type 0) (old new : Option (List ℕ)) → ((input left : List ℕ) → P input left → Q input left) → WhereTold P old new → WhereTold Q old new
told_so P Q None new f w = tt
told_so P Q (Some input) None f w = w
told_so P Q (Some input) (Some left) f w = f input left w

-- the line of a whole stream's replay
line-is : (count : ℕ) (tally : Tally) (input left : List ℕ) → (w : CountedStream count tally input left) → counts count tally ≡ line_of (replay first_driver w.stream_is.commands)
line-is count tally input left w =
    ap (λ n. counts n tally) w.count_is ∙ ap (counts (replay first_driver w.stream_is.commands).count) w.tally_is

-- a whole stream, and what became of the line
told-by : (count : ℕ) (tally : Tally) (status : Statuses.Status) (out0 out : Option (List ℕ)) (input left : List ℕ) → TellsLine (counts count tally) out0 out status
    → CountedStream count tally input left → ReplayOutcome status out0 out input left
told-by count tally Status.Ok out0 out input left tells w = record {
  stream_is = w.stream_is;
  told = tells ∙ ap (append_known out0) (line-is count tally input left w);
}
told-by count tally Status.OutOfMemory out0 out input left tells w = tt
told-by count tally Status.Usage out0 out input left tells w = tells
told-by count tally (Status.BadInput at kind) out0 out input left tells w = absurd tells
told-by count tally (Status.Truncated at) out0 out input left tells w = absurd tells
told-by count tally Status.ReadFault out0 out input left tells w = absurd tells
told-by count tally Status.WriteFault out0 out input left tells w = inr (record {
  stream_is = w.stream_is;
  said = tells.0;
  said_within = subst (λ l. tells.0 ≤ length l) (line-is count tally input left w) tells.1;
  told = tells.2 ∙ ap (λ l. append_known out0 (take tells.0 l)) (line-is count tally input left w);
})
told-by count tally (Status.ReplayFault number code) out0 out input left tells w = absurd tells

pub told_line : (count : ℕ) (tally : Tally) (status : Statuses.Status) (out0 out left0 left : Option (List ℕ)) → TellsLine (counts count tally) out0 out status
    → WhereTold (CountedStream count tally) left0 left → WhereTold (ReplayOutcome status out0 out) left0 left
told_line count tally status out0 out left0 left tells w =
    told_so (CountedStream count tally) (ReplayOutcome status out0 out) left0 left (λ input rest. told-by count tally status out0 out input rest tells) w
