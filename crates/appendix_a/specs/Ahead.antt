-- The facts of a shader, read in source order, parts before the whole: what is known of its names and of its expressions.
use Rattle.std.specs.Prelude.{ℕ, Bool, true, false, List, [], ◌∷◌, drop, slice_index_or, None}
use Rattle.glsl_types.specs.declared.facts.Facts.{Facts}
use Rattle.glsl_types.specs.declared.facts.Known.{Known}
use Rattle.appendix_a.specs.declared.ahead.Ahead as code

-- the facts of what comes next
pub record Ahead : Type 0 where
  pub places : List ℕ
  pub exprs : List Known

-- what the code keeps of them
abbrev pub ahead_of : code.Ahead → Ahead
ahead_of a = record { places = a.places.now; exprs = a.exprs.now }

-- all of a shader's facts
abbrev pub facts_ahead : Facts → Ahead
facts_ahead facts = record { places = facts.places; exprs = facts.exprs }

-- what is known where the facts have come to an end
abbrev pub unknown : Known
unknown = record { kind = None; constant = [] }

-- the number of the next name, and what comes after it
abbrev pub place_next : Ahead → ℕ
place_next a = slice_index_or a.places 0 0

abbrev pub past_place : Ahead → Ahead
past_place a = record a { places = drop 1 a.places }

-- what is known of the next expression, and what comes after it
abbrev pub known_next : Ahead → Known
known_next a = slice_index_or a.exprs 0 unknown

abbrev pub past_known : Ahead → Ahead
past_known a = record a { exprs = drop 1 a.exprs }

-- whether a list has an element
abbrev pub is_any : {X : Type 0} → List X → Bool
is_any [] = false
is_any (x ∷ xs) = true

-- whether an expression is constant: its components are known (section 5.10)
abbrev pub is_constant : Known → Bool
is_constant k = is_any k.constant
