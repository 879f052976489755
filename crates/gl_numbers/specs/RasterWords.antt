-- The words of raster state that calls set (OpenGL ES 2.0 sections 3.5.1 and 4.1.4 to 4.1.6).
use Rattle.std.specs.Prelude.{ℕ, Bool, Option, Some, None, ◌==◌, ◌||◌, ◌&&◌, nat_le, if◌then◌else◌}
use Rattle.gl_numbers.specs.declared.raster_words.Side.{Side}
use Rattle.gl_numbers.specs.declared.raster_words.Side.TheVariants.{Front, Back, FrontAndBack}

-- the word of sides of polygons: FRONT 0x0404, BACK 0x0405, FRONT_AND_BACK 0x0408
abbrev pub side_word : Side → ℕ
side_word Front = 1028
side_word Back = 1029
side_word FrontAndBack = 1032

-- the sides of a word, if it names any
unfoldable pub side_of : ℕ → Option Side
side_of n =
    if n == side_word Front then Some Front
    else (if n == side_word Back then Some Back
    else (if n == side_word FrontAndBack then Some FrontAndBack else None))

-- CW, 0x0900
abbrev pub clockwise : ℕ
clockwise = 2304

-- CCW, 0x0901
abbrev pub counter_clockwise : ℕ
counter_clockwise = 2305

-- whether the word is a winding
unfoldable pub is_winding : ℕ → Bool
is_winding n = (n == clockwise) || (n == counter_clockwise)

-- LESS, 0x0201
abbrev pub less : ℕ
less = 513

-- ALWAYS, 0x0207
abbrev pub always : ℕ
always = 519

-- whether the word is a comparison: NEVER 0x0200 to ALWAYS
unfoldable pub is_comparison : ℕ → Bool
is_comparison n = nat_le 512 n && nat_le n always

-- FUNC_ADD, 0x8006
abbrev pub func_add : ℕ
func_add = 32774

-- whether the word is a blend equation: FUNC_ADD, FUNC_SUBTRACT 0x800A or FUNC_REVERSE_SUBTRACT 0x800B
unfoldable pub is_blend_equation : ℕ → Bool
is_blend_equation n = (n == func_add) || (n == 32778) || (n == 32779)

-- ZERO, 0, as a blend factor and as a stencil operation
abbrev pub zero : ℕ
zero = 0

-- ONE, 1
abbrev pub one : ℕ
one = 1

-- whether the word is a factor of the blend colour's colours: CONSTANT_COLOR 0x8001 or ONE_MINUS_CONSTANT_COLOR 0x8002
unfoldable pub is_constant_color : ℕ → Bool
is_constant_color n = (n == 32769) || (n == 32770)

-- whether the word is a factor of the blend colour's alpha value: CONSTANT_ALPHA 0x8003 or ONE_MINUS_CONSTANT_ALPHA 0x8004
unfoldable pub is_constant_alpha : ℕ → Bool
is_constant_alpha n = (n == 32771) || (n == 32772)

-- whether the word is a blend factor of the destination: ZERO or ONE, SRC_COLOR 0x0300 to ONE_MINUS_DST_COLOR 0x0307, or
-- CONSTANT_COLOR 0x8001 to ONE_MINUS_CONSTANT_ALPHA 0x8004
unfoldable pub is_destination_factor : ℕ → Bool
is_destination_factor n = nat_le n one || (nat_le 768 n && nat_le n 775) || (nat_le 32769 n && nat_le n 32772)

-- whether the word is a blend factor of the source: one of the destination's, or SRC_ALPHA_SATURATE 0x0308
unfoldable pub is_source_factor : ℕ → Bool
is_source_factor n = is_destination_factor n || (n == 776)

-- KEEP, 0x1E00
abbrev pub keep : ℕ
keep = 7680

-- whether the word is a stencil operation: ZERO, KEEP to DECR 0x1E03, INVERT 0x150A, INCR_WRAP 0x8507 or DECR_WRAP 0x8508
unfoldable pub is_stencil_operation : ℕ → Bool
is_stencil_operation n = (n == zero) || (nat_le keep n && nat_le n 7683) || (n == 5386) || (n == 34055) || (n == 34056)
