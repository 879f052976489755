-- The characters of a shader (GLSL ES 1.00.17 section 3.1).
use Rattle.std.specs.Prelude.{ℕ, Bool, ◌||◌, ◌&&◌, ◌==◌, List, nat_le, codes}
use Rattle.std.specs.List.{list_any}

-- whether a byte is one of those of a text
unfoldable pub is_among : List ℕ → ℕ → Bool
is_among text b = list_any (λ c. c == b) text

-- a letter, or the underscore
unfoldable pub is_letter : ℕ → Bool
is_letter b = (nat_le 97 b && nat_le b 122) || (nat_le 65 b && nat_le b 90) || b == 95

unfoldable pub is_digit : ℕ → Bool
is_digit b = nat_le 48 b && nat_le b 57

unfoldable pub is_octal_digit : ℕ → Bool
is_octal_digit b = nat_le 48 b && nat_le b 55

unfoldable pub is_hexadecimal_digit : ℕ → Bool
is_hexadecimal_digit b = is_digit b || (nat_le 97 b && nat_le b 102) || (nat_le 65 b && nat_le b 70)

-- space, tab, vertical tab, form feed
unfoldable pub is_blank : ℕ → Bool
is_blank b = b == 32 || b == 9 || b == 11 || b == 12

-- line feed, carriage return
unfoldable pub is_line_break : ℕ → Bool
is_line_break b = b == 10 || b == 13

-- the marks that a shader may have outside comments
unfoldable pub is_mark : ℕ → Bool
is_mark b = is_among (codes ".+-/*%<>[](){}^|&~=!:;,?#") b

-- each character that a shader may have outside comments
unfoldable pub is_character : ℕ → Bool
is_character b = is_letter b || is_digit b || is_mark b || is_blank b || is_line_break b
