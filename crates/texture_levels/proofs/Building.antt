-- Levels built and tested one after another.
use Rattle.std.proofs.Common.{◌≡◌, ◌<◌, ◌+◌, ℕ, zero, suc, Bool, true, false, refl, sym, ap, ◌∙◌, arith, add-one}
use Rattle.std.specs.Prelude.{◌==◌, ◌&&◌, ◌||◌, not, nat_lt, if◌then◌else◌}
use Rattle.std.proofs.lemmas.Bool.{eqb-false, eqb-true}
use Rattle.gl_numbers.specs.declared.texture_words.Face.{Face}
use Rattle.texel_rules.specs.declared.layouts.LevelInfo.{LevelInfo}
use Rattle.texel_rules.specs.Levels.{each_below, is_reached, level_of}
use Rattle.texture_levels.specs.Texture.{Slots, built_below, with_level}

pub built-none : (face : Face) (base : LevelInfo) (slots : Slots) → built_below 0 face base slots ≡ slots
unfolding built_below
built-none face base slots = refl

pub built-more : (n : ℕ) (face : Face) (base : LevelInfo) (slots : Slots) → built_below (n + 1) face base slots
    ≡ (if nat_lt 0 n && is_reached base n then with_level face n (level_of base n) (built_below n face base slots) else built_below n face base slots)
unfolding built_below
built-more n face base slots = rw add-one refl

pub each-none : (test : ℕ → Bool) → each_below 0 test ≡ true
unfolding each_below
each-none test = refl

pub each-more : (n : ℕ) (test : ℕ → Bool) → each_below (n + 1) test ≡ (each_below n test && test n)
unfolding each_below
each-more n test = rw add-one refl

-- what the loops need
pub ruleset of_building = (built-none, built-more)

pub ruleset of_testing = (each-none, each-more)

and-false : (a b : Bool) → b ≡ false → (a && b) ≡ false
and-false true b e = e
and-false false b e = refl

false-and : (a b : Bool) → a ≡ false → (a && b) ≡ false
false-and true b e = absurd cc
false-and false b e = refl

stops_at : (n k : ℕ) (test : ℕ → Bool) → k < n + 1 → test k ≡ false → (k < n → each_below n test ≡ false) → (s : Bool) → (k == n) ≡ s
    → (each_below n test && test n) ≡ false
stops_at n k test within fails before true same = and-false _ _ (ap test (sym (eqb-true k n same)) ∙ fails)
stops_at n k test within fails before false apart =
    let earlier : k < n = omega (arith, within, eqb-false k n apart) in false-and _ _ (before earlier)

-- a test that fails somewhere below n
pub each-stops : (n k : ℕ) (test : ℕ → Bool) → k < n → test k ≡ false → each_below n test ≡ false
unfolding each_below
each-stops zero k test within fails = absurd (omega (arith, within))
each-stops (suc n) k test within fails = stops_at n k test (omega (arith, within)) fails (λ earlier. each-stops n k test earlier fails) (k == n) refl

-- a level that is reached and isn't there
pub missing : (reached there : Bool) → reached ≡ true → there ≡ false → (not reached || there) ≡ false
missing true there a b = b
missing false there a b = absurd cc
