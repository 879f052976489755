-- The values of an `#if` (GLSL ES 1.00.17 section 3.4): whole numbers of 32 bits with sign, and none where evaluation fails.
use Rattle.std.specs.Prelude.{ℕ, ℤ, pos, negsuc, ◌+ℤ◌, ◌-ℤ◌, ◌*ℤ◌, neg_ℤ, ◌^◌, ◌==◌, Bool, not, if◌then◌else◌, nat_lt, Option, Some, None, int_lt, int_le, int_div, int_rem, bit_and, bit_or, bit_xor, List, [], ◌∷◌}
use Rattle.std.specs.Int.{int_shr, cast_signed, cast_unsigned}
use Rattle.std.specs.Ordering.{int_eq}
use mir.Syntax.{w32}
use Rattle.glsl_preproc.specs.declared.operators.Operator.{Operator}
use Rattle.glsl_preproc.specs.declared.operators.Operator.TheVariants.{Multiply, Divide, Remainder, Add, Subtract, ShiftLeft, ShiftRight, Less, Greater, AtMost, AtLeast, Equal, NotEqual, BitAnd, BitXor, BitOr, And, Or}

abbrev pub fits : ℤ → Bool
fits (pos n) = nat_lt n 2147483648
fits (negsuc n) = nat_lt n 2147483648

-- the number, where it has 32 bits
unfoldable pub fitting : ℤ → Option ℤ
fitting z = if fits z then Some z else None

abbrev pub is_zero : ℤ → Bool
is_zero z = int_eq z (pos 0)

abbrev pub truth : Bool → Option ℤ
truth b = if b then Some (pos 1) else Some (pos 0)

-- a shift count is a number from 0 to 31
unfoldable pub shift_count : ℤ → Option ℕ
shift_count (pos n) = if nat_lt n 32 then Some n else None
shift_count (negsuc n) = None

-- v << n is v * 2 ^ n, and v >> n keeps the sign
abbrev pub left_by : ℤ → Option ℕ → Option ℤ
left_by a None = None
left_by a (Some n) = fitting (a *ℤ pos (2 ^ n))

abbrev pub right_by : ℤ → Option ℕ → Option ℤ
right_by a None = None
right_by a (Some n) = Some (int_shr a n)

-- division toward 0, which a divisor of 0 has not
unfoldable pub divided : ℤ → ℤ → Option ℤ
divided a b = if is_zero b then None else fitting (int_div a b)

unfoldable pub remainder : ℤ → ℤ → Option ℤ
remainder a b = if is_zero b then None else Some (int_rem a b)

abbrev pub by_bits : (ℕ → ℕ → ℕ) → ℤ → ℤ → Option ℤ
by_bits f a b = Some (cast_signed w32 (f (cast_unsigned w32 a) (cast_unsigned w32 b)))

-- what an operator makes of two numbers: none where it overflows
unfoldable pub computed : Operator → ℤ → ℤ → Option ℤ
computed Multiply a b = fitting (a *ℤ b)
computed Divide a b = divided a b
computed Remainder a b = remainder a b
computed Add a b = fitting (a +ℤ b)
computed Subtract a b = fitting (a -ℤ b)
computed ShiftLeft a b = left_by a (shift_count b)
computed ShiftRight a b = right_by a (shift_count b)
computed Less a b = truth (int_lt a b)
computed Greater a b = truth (int_lt b a)
computed AtMost a b = truth (int_le a b)
computed AtLeast a b = truth (int_le b a)
computed Equal a b = truth (int_eq a b)
computed NotEqual a b = truth (not (int_eq a b))
computed BitAnd a b = by_bits bit_and a b
computed BitXor a b = by_bits bit_xor a b
computed BitOr a b = by_bits bit_or a b
computed And a b = truth (not (is_zero b))
computed Or a b = truth (not (is_zero b))

abbrev pub both : Operator → ℤ → Option ℤ → Option ℤ
both op a None = None
both op a (Some b) = computed op a b

-- The same of two operands. `&&` with a false left side and `||` with a true one do not ask for the right side.
abbrev pub applied_to : Operator → ℤ → Option ℤ → Option ℤ
applied_to And a w = if is_zero a then Some (pos 0) else both And a w
applied_to Or a w = if is_zero a then both Or a w else Some (pos 1)
applied_to op a w = both op a w

unfoldable pub applied : Operator → Option ℤ → Option ℤ → Option ℤ
applied op None w = None
applied op (Some a) w = applied_to op a w

-- the operators before one operand: + - ~ !
abbrev pub negated : Option ℤ → Option ℤ
negated None = None
negated (Some a) = fitting (neg_ℤ a)

abbrev pub complemented : Option ℤ → Option ℤ
complemented None = None
complemented (Some a) = Some (negsuc 0 -ℤ a)

abbrev pub inverted : Option ℤ → Option ℤ
inverted None = None
inverted (Some a) = truth (is_zero a)

-- the operator that a text spells
unfoldable pub single_operator : ℕ → Option Operator
single_operator a =
    if a == 42 then Some Multiply
    else (if a == 47 then Some Divide
    else (if a == 37 then Some Remainder
    else (if a == 43 then Some Add
    else (if a == 45 then Some Subtract
    else (if a == 60 then Some Less
    else (if a == 62 then Some Greater
    else (if a == 38 then Some BitAnd
    else (if a == 94 then Some BitXor
    else (if a == 124 then Some BitOr else None)))))))))

unfoldable pub double_operator : ℕ → ℕ → Option Operator
double_operator a b =
    if b == 61 then
    (if a == 60 then Some AtMost
    else (if a == 62 then Some AtLeast
    else (if a == 61 then Some Equal
    else (if a == 33 then Some NotEqual else None))))
    else (if a == b then
    (if a == 60 then Some ShiftLeft
    else (if a == 62 then Some ShiftRight
    else (if a == 38 then Some And
    else (if a == 124 then Some Or else None))))
    else None)

unfoldable pub operator_of : List ℕ → Option Operator
operator_of (a ∷ []) = single_operator a
operator_of (a ∷ b ∷ []) = double_operator a b
operator_of _ = None

-- how tightly an operator binds, from 1, the tightest, to 10
abbrev pub level_of : Operator → ℕ
level_of Multiply = 1
level_of Divide = 1
level_of Remainder = 1
level_of Add = 2
level_of Subtract = 2
level_of ShiftLeft = 3
level_of ShiftRight = 3
level_of Less = 4
level_of Greater = 4
level_of AtMost = 4
level_of AtLeast = 4
level_of Equal = 5
level_of NotEqual = 5
level_of BitAnd = 6
level_of BitXor = 7
level_of BitOr = 8
level_of And = 9
level_of Or = 10
