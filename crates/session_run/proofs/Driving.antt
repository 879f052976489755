-- Commands that a driver takes without a fault, one list after another.
use Rattle.std.proofs.Common.{◌≡◌, ℕ, ◌+◌, None, List, [], ◌++◌, length, take, ap, ◌∙◌, arith, length-append}
use Rattle.std.proofs.lemmas.List.Elements.{All-append}
use Rattle.command_stream.specs.declared.command.Command.{Command}
use Rattle.command_stream.specs.Commands as Commands
use Rattle.gl_model.specs.DriverState.{DriverState}
use Rattle.gl_model.specs.Replay.{Replayed, replay, clean}
use Rattle.gl_model.specs.Shot.{Shot}
use Rattle.gl_model.proofs.Replaying.{replay-none, replay-append, replay-prefix, resumed}
use Rattle.session_run.specs.Serving.{Drives}

-- no command
pub drives-none : (g : DriverState) → Drives g [] [] g
drives-none g = record { fits = λ k d within. absurd (omega arith); replayed = replay-none g }

-- the count of two lists of commands
counted : (first second : List Command) (made more : List Shot) (g : DriverState) → resumed made first (clean g more second) ≡ clean g (made ++ more) (first ++ second)
counted first second made more g =
    let count : length first + length second ≡ length (first ++ second) = omega (arith, length-append first second) in
    λ i. record { state = g; shots = made ++ more; count = count i; fault = None }

-- commands and then others
pub drives-then : (g mid g1 : DriverState) (first second : List Command) (made more : List Shot) → Drives g first made mid → Drives mid second more g1
    → Drives g (first ++ second) (made ++ more) g1
drives-then g mid g1 first second made more d e = record {
  fits = All-append Commands.Fits first second d.fits e.fits;
  replayed = replay-append g mid made first second d.replayed ∙ ap (resumed made first) e.replayed ∙ counted first second made more g1;
}

-- they have no fault, and make these Shots
pub driven-faultless : (g g1 : DriverState) (commands : List Command) (made : List Shot) → Drives g commands made g1 → (replay g commands).fault ≡ None
driven-faultless g g1 commands made d = ap (λ (r : Replayed). r.fault) d.replayed

pub driven-shots : (g g1 : DriverState) (commands : List Command) (made : List Shot) → Drives g commands made g1 → (replay g commands).shots ≡ made
driven-shots g g1 commands made d = ap (λ (r : Replayed). r.shots) d.replayed

-- nor have the first of them a fault
pub driven-prefixes : (g g1 : DriverState) (commands : List Command) (made : List Shot) → Drives g commands made g1
    → (k : ℕ) → (replay g (take k commands)).fault ≡ None
driven-prefixes g g1 commands made d k = replay-prefix g commands k (driven-faultless g g1 commands made d)
