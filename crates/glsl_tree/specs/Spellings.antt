-- How tokens are spelled: names and keywords (GLSL ES 1.00.17 sections 3.7 and 3.8), numbers (4.1.2 and 4.1.3), and
-- operators and marks (3.6 and 5.1).
use Rattle.std.specs.Prelude.{ℕ, ◌+◌, ◌-◌, ◌*◌, ◌==◌, Bool, true, false, ◌&&◌, ◌||◌, if◌then◌else◌, List, [], ◌∷◌, length, drop, slice_get, nat_le, codes, Option, Some, None}
use Rattle.std.specs.List.{list_any, list_all, prefix_len}
use Rattle.std.specs.Str.{bytes_eq}
use Rattle.std.specs.Borrow.{Bor}
use Rattle.glsl_tree.specs.Characters.{is_among, is_letter, is_digit, is_octal_digit, is_hexadecimal_digit}
use Rattle.glsl_tree.specs.declared.keywords.TheConstants.{KEYWORDS, LONGEST_NAME, LARGEST_INT}
use Rattle.glsl_tree.specs.declared.token.Class.{Class}
use Rattle.glsl_tree.specs.declared.token.Class.TheVariants.{Identifier, Keyword, Int, Float, Punct, Hash}

-- letters and digits, the first of them a letter
abbrev pub is_name_character : ℕ → Bool
is_name_character b = is_letter b || is_digit b

unfoldable pub is_name : List ℕ → Bool
is_name [] = false
is_name (b ∷ text) = is_letter b && list_all is_name_character text

unfoldable pub is_keyword : List ℕ → Bool
is_keyword text = list_any (λ words. list_any (λ word. bytes_eq word.now text) words.now) KEYWORDS

-- whether the name stands in the row of this number, if there is one
unfoldable pub stands_in_row : List (Bor (List (Bor (List ℕ)))) → ℕ → List ℕ → Bool
stands_in_row rows number name = elim (slice_get rows number) [
  | None ↦ false
  | Some row ↦ list_any (λ word. bytes_eq word.now name) row.now
]

-- digits, of which the first is not 0
unfoldable pub is_decimal : List ℕ → Bool
is_decimal [] = false
is_decimal (b ∷ text) = is_digit b && (if b == 48 then false else list_all is_digit text)

-- 0, and octal digits or none
unfoldable pub is_octal : List ℕ → Bool
is_octal [] = false
is_octal (b ∷ text) = b == 48 && list_all is_octal_digit text

-- one byte or more, all of a kind
abbrev pub is_run : (ℕ → Bool) → List ℕ → Bool
is_run kind [] = false
is_run kind (b ∷ text) = kind b && list_all kind text

-- 0x or 0X, and hexadecimal digits
unfoldable pub is_hexadecimal : List ℕ → Bool
is_hexadecimal (a ∷ b ∷ text) = a == 48 && (b == 120 || b == 88) && is_run is_hexadecimal_digit text
is_hexadecimal _ = false

unfoldable pub is_int : List ℕ → Bool
is_int text = is_decimal text || is_octal text || is_hexadecimal text

-- what follows the digits at the front, of which there may be none
abbrev pub after_digits : List ℕ → List ℕ
after_digits text = drop (prefix_len is_digit text) text

abbrev pub begins_with_digit : List ℕ → Bool
begins_with_digit [] = false
begins_with_digit (b ∷ text) = is_digit b

abbrev pub without_sign : List ℕ → List ℕ
without_sign [] = []
without_sign (b ∷ text) = if b == 43 || b == 45 then text else b ∷ text

-- e or E, a sign or none, and digits
unfoldable pub is_exponent : List ℕ → Bool
is_exponent [] = false
is_exponent (b ∷ text) = (b == 101 || b == 69) && is_run is_digit (without_sign text)

abbrev pub is_exponent_or_nothing : List ℕ → Bool
is_exponent_or_nothing [] = true
is_exponent_or_nothing (b ∷ text) = is_exponent (b ∷ text)

-- what makes a number a float, behind its first digits: a point, with digits before it or after it, and then an exponent or
-- none; or an exponent, with digits before it
unfoldable pub is_float_behind : Bool → List ℕ → Bool
is_float_behind digits [] = false
is_float_behind digits (b ∷ text) =
    if b == 46 then (digits || begins_with_digit text) && is_exponent_or_nothing (after_digits text)
    else digits && is_exponent (b ∷ text)

unfoldable pub is_float : List ℕ → Bool
is_float text = is_float_behind (begins_with_digit text) (after_digits text)

-- a mark alone; one of some twice; one of some and `=`; `<<=` and `>>=`
unfoldable pub is_punctuator : List ℕ → Bool
is_punctuator (a ∷ []) = is_among (codes ".+-/*%<>[](){}^|&~=!:;,?") a
is_punctuator (a ∷ b ∷ []) = (a == b && is_among (codes "+-<>&|^") a) || (b == 61 && is_among (codes "+-*/%<>=!&|^") a)
is_punctuator (a ∷ b ∷ c ∷ []) = a == b && c == 61 && is_among (codes "<>") a
is_punctuator _ = false

-- the class of the token that a whole text spells, if it spells one
unfoldable pub class_of : List ℕ → Option Class
class_of text =
    if is_name text then Some (if is_keyword text then Keyword else Identifier)
    else (if is_int text then Some Int
    else (if is_float text then Some Float
    else (if is_punctuator text then Some Punct
    else (if bytes_eq text (codes "#") then Some Hash else None))))

-- the number that digits stand for in a base, behind digits that stand for n
unfoldable pub digit_of : ℕ → ℕ
digit_of b = if is_digit b then b - 48 else (if nat_le 97 b then b - 87 else b - 55)

abbrev pub number_from : ℕ → ℕ → List ℕ → ℕ
number_from base n [] = n
number_from base n (b ∷ digits) = number_from base (n * base + digit_of b) digits

-- the number that an int spells: behind 0x or 0X in base 16, else behind a 0 in base 8, else in base 10
unfoldable pub int_of : List ℕ → ℕ
int_of (a ∷ b ∷ text) =
    if a == 48 then (if b == 120 || b == 88 then number_from 16 0 text else number_from 8 0 (b ∷ text))
    else number_from 10 0 (a ∷ b ∷ text)
int_of text = number_from 10 0 text

-- a name has at most 256 characters, and an int is at most 2,147,483,647
unfoldable pub is_within_limits : Class → List ℕ → Bool
is_within_limits Identifier text = nat_le (length text) LONGEST_NAME
is_within_limits Int text = nat_le (int_of text) LARGEST_INT
is_within_limits _ text = true
