-- How the scanner finds the longest token: what it counts at the front of a text.
use Rattle.std.specs.Prelude.{ℕ, ◌+◌, ◌==◌, Bool, false, ◌&&◌, ◌||◌, if◌then◌else◌, List, [], ◌∷◌, take, drop, zero, suc, codes, Option, Some, None}
use Rattle.std.specs.List.{prefix_len}
use Rattle.glsl_tree.specs.Characters.{is_among, is_letter, is_digit, is_octal_digit, is_hexadecimal_digit}
use Rattle.glsl_tree.specs.Spellings.{is_name_character, is_keyword}
use Rattle.glsl_tree.specs.declared.token.Class.{Class}
use Rattle.glsl_tree.specs.declared.token.Class.TheVariants.{Identifier, Keyword, Int, Float, Punct, Hash}

-- so many bytes in front of n digits, and nothing where there is no digit
abbrev pub with_front : ℕ → ℕ → ℕ
with_front front zero = 0
with_front front (suc n) = front + suc n

abbrev pub signed_len : List ℕ → ℕ
signed_len [] = 0
signed_len (b ∷ text) =
    if b == 43 || b == 45 then with_front 2 (prefix_len is_digit text) else with_front 1 (prefix_len is_digit (b ∷ text))

-- how many bytes the exponent at the front has
unfoldable pub exponent_len : List ℕ → ℕ
exponent_len [] = 0
exponent_len (b ∷ text) = if b == 101 || b == 69 then signed_len text else 0

-- how many bytes the hexadecimal number at the front has
unfoldable pub hexadecimal_len : List ℕ → ℕ
hexadecimal_len (a ∷ b ∷ text) = if a == 48 && (b == 120 || b == 88) then with_front 2 (prefix_len is_hexadecimal_digit text) else 0
hexadecimal_len _ = 0

-- how many bytes the int at the front has, where so many digits stand there
unfoldable pub int_len : List ℕ → ℕ → ℕ
int_len [] whole = whole
int_len (b ∷ text) whole = if b == 48 then 1 + prefix_len is_octal_digit text else whole

abbrev pub with_exponent : List ℕ → ℕ → ℕ → Class × ℕ
with_exponent text whole zero = (Int, int_len text whole)
with_exponent text whole (suc n) = (Float, whole + suc n)

abbrev pub behind_digits : List ℕ → ℕ → List ℕ → Class × ℕ
behind_digits text whole [] = with_exponent text whole (exponent_len [])
behind_digits text whole (b ∷ rest) =
    if b == 46 then (Float, whole + 1 + prefix_len is_digit rest + exponent_len (drop (prefix_len is_digit rest) rest))
    else with_exponent text whole (exponent_len (b ∷ rest))

-- the longest number at the front that is not hexadecimal
unfoldable pub decimal_at : List ℕ → Class × ℕ
decimal_at text = behind_digits text (prefix_len is_digit text) (drop (prefix_len is_digit text) text)

abbrev pub or_hexadecimal : List ℕ → ℕ → Class × ℕ
or_hexadecimal text zero = decimal_at text
or_hexadecimal text (suc n) = (Int, suc n)

-- the longest number at the front
unfoldable pub number_at : List ℕ → Class × ℕ
number_at text = or_hexadecimal text (hexadecimal_len text)

-- whether a number begins at the front
unfoldable pub begins_number : List ℕ → Bool
begins_number [] = false
begins_number (a ∷ []) = is_digit a
begins_number (a ∷ b ∷ text) = if a == 46 then is_digit b else is_digit a

-- how many bytes the longest operator or mark at the front of one byte or of two has
abbrev pub single_len : ℕ → ℕ
single_len a = if is_among (codes ".+-/*%<>[](){}^|&~=!:;,?") a then 1 else 0

abbrev pub pair_len : ℕ → ℕ → ℕ
pair_len a b = if (a == b && is_among (codes "+-<>&|^") a) || (b == 61 && is_among (codes "+-*/%<>=!&|^") a) then 2 else single_len a

-- the same of a text
unfoldable pub punctuator_len : List ℕ → ℕ
punctuator_len [] = 0
punctuator_len (a ∷ []) = single_len a
punctuator_len (a ∷ b ∷ []) = pair_len a b
punctuator_len (a ∷ b ∷ c ∷ text) = if c == 61 && (a == b && is_among (codes "<>") a) then 3 else pair_len a b

-- the name at the front
abbrev pub name_at : List ℕ → Class × ℕ
name_at text =
    (if is_keyword (take (prefix_len is_name_character text) text) then Keyword else Identifier, prefix_len is_name_character text)

abbrev pub mark_of : ℕ → ℕ → Option (Class × ℕ)
mark_of b zero = if b == 35 then Some (Hash, 1) else None
mark_of b (suc n) = Some (Punct, suc n)

-- the longest token at the front of a text that begins with b
unfoldable pub first_token : ℕ → List ℕ → Option (Class × ℕ)
first_token b text = if is_letter b then Some (name_at text)
    else (if begins_number text then Some (number_at text) else mark_of b (punctuator_len text))
