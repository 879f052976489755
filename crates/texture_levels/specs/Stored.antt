-- All textures, by handle (OpenGL ES 2.0 section 3.7.13).
use Rattle.std.specs.Prelude.{ℕ, Bool, false, Option, Some, None}
use Rattle.std.specs.Option.{option_and_then, option_map_or}
use Rattle.std.specs.Ordering.{nat_cmp}
use Rattle.std.specs.FinMap.{FinMap, get, insert}
use Rattle.gl_numbers.specs.declared.texture_words.TexTarget.{TexTarget}
use Rattle.gl_numbers.specs.declared.texture_words.Face.{Face}
use Rattle.texel_rules.specs.declared.layouts.LevelInfo.{LevelInfo}
use Rattle.texture_levels.specs.Texture.{Texture, is_complete, levels_of}

-- the textures that are there, by handle
abbrev pub Stored : Type 0
Stored = FinMap nat_cmp Texture

-- the textures with one changed, as it was found
abbrev pub changed_at : Stored → ℕ → (Texture → Texture) → Option Texture → Stored
changed_at stored h change None = stored
changed_at stored h change (Some texture) = insert stored h (change texture)

-- the textures with one changed, if it is there
abbrev pub changed : Stored → ℕ → (Texture → Texture) → Stored
changed stored h change = changed_at stored h change (get stored h)

-- the target that a texture took, if it is there and took one
abbrev pub target_at : Stored → ℕ → Option TexTarget
target_at stored h = option_and_then (λ t. t.target) (get stored h)

-- a level of a texture, if it is there
abbrev pub level_at : Stored → ℕ → Face → ℕ → Option LevelInfo
level_at stored h face level = option_and_then (λ t. levels_of t.slots face level) (get stored h)

-- whether a texture is there and complete
abbrev pub is_complete_at : Stored → ℕ → Bool
is_complete_at stored h = option_map_or is_complete (get stored h) false
