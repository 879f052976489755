-- The replay of commands, one after another.
use Rattle.std.proofs.Common.{◌≡◌, ℕ, zero, suc, ◌+◌, Bool, false, Option, Some, None, List, [], ◌∷◌, ◌++◌, length, take, refl, sym, ap, ◌∙◌, arith, append_assoc, append-nil}
use Rattle.std.specs.Option.{option_map_or, option_to_list}
use Rattle.std.specs.Prelude.{if◌then◌else◌}
use Rattle.gl_numbers.specs.declared.errors.GlError.{GlError}
use Rattle.command_stream.specs.declared.command.Command.{Command}
use Rattle.gl_model.specs.DriverState.{DriverState}
use Rattle.gl_model.specs.DriverStep.{Fault, gl_error, outside_fetch, refusal, outside, effect, shot}
use Rattle.gl_model.specs.Replay.{Replayed, replay, clean, ended, after, fault_of}
use Rattle.gl_model.specs.Shot.{Shot}

-- no command
pub replay-none : (g : DriverState) → replay g [] ≡ ended g None
unfolding replay
replay-none g = refl

-- what is neither refused nor fetches outside has no fault
fault-judged : (refused : Option GlError) (fetches : Bool) → refused ≡ None → fetches ≡ false
    → option_map_or (λ error. Some (gl_error error)) refused (if fetches then Some outside_fetch else None) ≡ None
fault-judged refused fetches e f = rw (e, f) refl

-- a command that isn't refused and fetches nothing that isn't there has no fault
pub fault-none : (g : DriverState) (command : Command) → refusal g command ≡ None → outside g command ≡ false → fault_of g command ≡ None
fault-none g command e inside = fault-judged (refusal g command) (outside g command) e inside

-- one command without a fault, and then the others
pub replay-step : (g : DriverState) (command : Command) (commands : List Command) → fault_of g command ≡ None
    → replay g (command ∷ commands) ≡ after (shot g command) (replay (effect g command) commands)
unfolding replay
replay-step g command commands e = rw e refl

-- one command without a fault
pub replay-one : (g : DriverState) (command : Command) → fault_of g command ≡ None
    → replay g (command ∷ []) ≡ clean (effect g command) (option_to_list (shot g command)) (command ∷ [])
replay-one g command e =
    let shots : option_to_list (shot g command) ++ [] ≡ option_to_list (shot g command) = append-nil (option_to_list (shot g command)) in
    replay-step g command [] e ∙ ap (after (shot g command)) (replay-none (effect g command))
    ∙ (λ i. record { state = effect g command; shots = shots i; count = 1; fault = None })

-- two commands without a fault
pub replay-two : (g : DriverState) (first second : Command) → fault_of g first ≡ None → fault_of (effect g first) second ≡ None
    → replay g (first ∷ second ∷ [])
    ≡ clean (effect (effect g first) second) (option_to_list (shot g first) ++ option_to_list (shot (effect g first) second)) (first ∷ second ∷ [])
replay-two g first second e f = replay-step g first (second ∷ []) e ∙ ap (after (shot g first)) (replay-one (effect g first) second f)

-- what a replay gives after commands that had no fault
abbrev pub resumed : List Shot → List Command → Replayed → Replayed
resumed made commands rest = record rest { shots = made ++ rest.shots; count = length commands + rest.count }

-- the parts of a replay whose first command had no fault
pub record Stepped (g1 : DriverState) (made : List Shot) (commands : List Command) (rest : Replayed) (first : Option Shot) : Type 0 where
  pub replayed : rest ≡ clean g1 rest.shots commands
  pub shots : made ≡ option_to_list first ++ rest.shots

-- the rest of a replay without a fault has none
pub stepped : (g1 : DriverState) (made : List Shot) (command : Command) (commands : List Command) (rest : Replayed) (first : Option Shot)
    → after first rest ≡ clean g1 made (command ∷ commands) → Stepped g1 made commands rest first
stepped g1 made command commands rest first e =
    let count : rest.count ≡ length commands = omega (arith, ap (λ (r : Replayed). r.count) e) in
    record {
      replayed = λ i. record { state = (ap (λ (r : Replayed). r.state) e) i; shots = rest.shots; count = count i; fault = (ap (λ (r : Replayed). r.fault) e) i };
      shots = sym (ap (λ (r : Replayed). r.shots) e);
    }

-- a replay with other Shots before its own and a greater count
pub resumed-more : (first : Option Shot) (made more : List Shot) (command : Command) (commands : List Command) (rest : Replayed)
    → made ≡ option_to_list first ++ more → after first (resumed more commands rest) ≡ resumed made (command ∷ commands) rest
resumed-more first made more command commands rest e =
    let shots : option_to_list first ++ (more ++ rest.shots) ≡ made ++ rest.shots = sym (append_assoc (option_to_list first) more rest.shots) ∙ ap (λ l. l ++ rest.shots) (sym e) in
    let count : length commands + rest.count + 1 ≡ length (command ∷ commands) + rest.count = omega arith in
    λ i. record { state = rest.state; shots = shots i; count = count i; fault = rest.fault }

-- a replay that begins anew
pub resumed-none : (made : List Shot) (g g1 : DriverState) (commands : List Command) → g ≡ g1 → [] ≡ made
    → replay g commands ≡ resumed made [] (replay g1 commands)
resumed-none made g g1 commands same none =
    let count : (replay g1 commands).count ≡ 0 + (replay g1 commands).count = omega arith in
    ap (λ (s : DriverState). replay s commands) same
    ∙ (λ i. record { state = (replay g1 commands).state; shots = none i ++ (replay g1 commands).shots; count = count i; fault = (replay g1 commands).fault })

-- one more command in prefix of others, by its fault
pub append-judged : (g g1 : DriverState) (made : List Shot) (command : Command) (commands second : List Command) (fault : Option Fault)
    → ((more : List Shot) → replay (effect g command) commands ≡ clean g1 more commands → replay (effect g command) (commands ++ second) ≡ resumed more commands (replay g1 second))
    → option_map_or (λ f. ended g (Some f)) fault (after (shot g command) (replay (effect g command) commands)) ≡ clean g1 made (command ∷ commands)
    → option_map_or (λ f. ended g (Some f)) fault (after (shot g command) (replay (effect g command) (commands ++ second))) ≡ resumed made (command ∷ commands) (replay g1 second)
append-judged g g1 made command commands second (Some f) shorter e =
    let no : ◌≡◌ {A = Option Fault} (Some f) None = ap (λ (r : Replayed). r.fault) e in absurd cc
append-judged g g1 made command commands second None shorter e =
    let rest = stepped g1 made command commands (replay (effect g command) commands) (shot g command) e in
    ap (after (shot g command)) (shorter (replay (effect g command) commands).shots rest.replayed)
    ∙ resumed-more (shot g command) made (replay (effect g command) commands).shots command commands (replay g1 second) rest.shots

-- commands after others that had no fault
pub replay-append : (g g1 : DriverState) (made : List Shot) (first second : List Command) → replay g first ≡ clean g1 made first
    → replay g (first ++ second) ≡ resumed made first (replay g1 second)
unfolding replay
replay-append g g1 made [] second e =
    resumed-none made g g1 second (ap (λ (r : Replayed). r.state) e) (ap (λ (r : Replayed). r.shots) e)
replay-append g g1 made (command ∷ commands) second e =
    append-judged g g1 made command commands second (fault_of g command)
    (λ more clear. replay-append (effect g command) g1 more commands second clear) e

-- where one more command in prefix of others has no fault, neither do the others after it
pub prefix-judged : (g : DriverState) (first : Option Shot) (some all : Replayed) (fault : Option Fault)
    → (option_map_or (λ f. ended g (Some f)) fault (after first all)).fault ≡ None → (all.fault ≡ None → some.fault ≡ None)
    → (option_map_or (λ f. ended g (Some f)) fault (after first some)).fault ≡ None
prefix-judged g first some all (Some f) e shorter = absurd cc
prefix-judged g first some all None e shorter = shorter e

-- the first commands of some that have no fault have none
pub replay-prefix : (g : DriverState) (commands : List Command) (k : ℕ) → (replay g commands).fault ≡ None → (replay g (take k commands)).fault ≡ None
unfolding replay
replay-prefix g [] zero e = refl
replay-prefix g [] (suc k) e = refl
replay-prefix g (command ∷ commands) zero e = refl
replay-prefix g (command ∷ commands) (suc k) e =
    prefix-judged g (shot g command) (replay (effect g command) (take k commands)) (replay (effect g command) commands) (fault_of g command) e
    (replay-prefix (effect g command) commands k)
