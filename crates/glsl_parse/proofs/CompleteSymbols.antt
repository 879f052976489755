-- The symbol that is found in a token of a spelling.
use Rattle.std.proofs.Common.{◌≡◌, ◌<◌, ◌≤◌, Bool, false, Some, None, codes, refl, ap, arith}
use Rattle.glsl_tree.specs.declared.operators.BinaryOperator.{BinaryOperator}
use Rattle.glsl_tree.specs.declared.operators.BinaryOperator.TheVariants as binary
use Rattle.glsl_tree.specs.declared.operators.AssignmentOperator.TheVariants as assignment
use Rattle.glsl_tree.specs.declared.operators.PrefixOperator.{PrefixOperator}
use Rattle.glsl_tree.specs.declared.operators.PrefixOperator.TheVariants as prefix
use Rattle.glsl_tree.specs.declared.operators.PostfixOperator.TheVariants as postfix
use Rattle.glsl_tree.specs.declared.qualifiers.Basic.{Basic}
use Rattle.glsl_tree.specs.declared.qualifiers.Basic.TheVariants as basic
use Rattle.glsl_tree.specs.Operators.{binary_text, prefix_text, any_level, conditional_level, prefix_level}
use Rattle.glsl_tree.specs.Qualifiers.{basic_text}
use Rattle.glsl_tree.specs.Expressions.{mark, word}
use Rattle.glsl_parse.specs.declared.symbols.Infix.{Infix}
use Rattle.glsl_parse.specs.declared.symbols.Infix.TheVariants as join
use Rattle.glsl_parse.specs.declared.symbols.Suffix.{Suffix}
use Rattle.glsl_parse.specs.declared.symbols.Suffix.TheVariants as suffix
use Rattle.glsl_parse.specs.Symbols.{is_mark, is_word, binary_of, assignment_of, prefix_of, postfix_of, basic_of, infix_of, suffix_of, infix_level, level_before}
use Rattle.glsl_parse.proofs.SoundSymbols.{infix_text, suffix_text}

pub binary_is : (a : BinaryOperator) → binary_of (mark (binary_text a)) ≡ Some a
unfolding binary_of
binary_is binary.Comma = refl
binary_is binary.Or = refl
binary_is binary.Xor = refl
binary_is binary.And = refl
binary_is binary.Equal = refl
binary_is binary.NotEqual = refl
binary_is binary.Less = refl
binary_is binary.Greater = refl
binary_is binary.LessEqual = refl
binary_is binary.GreaterEqual = refl
binary_is binary.Add = refl
binary_is binary.Subtract = refl
binary_is binary.Multiply = refl
binary_is binary.Divide = refl

pub infix_is : (a : Infix) → infix_of (mark (infix_text a)) ≡ Some a
unfolding infix_of binary_of assignment_of is_mark
infix_is (join.Binary binary.Comma) = refl
infix_is (join.Binary binary.Or) = refl
infix_is (join.Binary binary.Xor) = refl
infix_is (join.Binary binary.And) = refl
infix_is (join.Binary binary.Equal) = refl
infix_is (join.Binary binary.NotEqual) = refl
infix_is (join.Binary binary.Less) = refl
infix_is (join.Binary binary.Greater) = refl
infix_is (join.Binary binary.LessEqual) = refl
infix_is (join.Binary binary.GreaterEqual) = refl
infix_is (join.Binary binary.Add) = refl
infix_is (join.Binary binary.Subtract) = refl
infix_is (join.Binary binary.Multiply) = refl
infix_is (join.Binary binary.Divide) = refl
infix_is join.Conditional = refl
infix_is (join.Assign assignment.Assign) = refl
infix_is (join.Assign assignment.Add) = refl
infix_is (join.Assign assignment.Subtract) = refl
infix_is (join.Assign assignment.Multiply) = refl
infix_is (join.Assign assignment.Divide) = refl

pub suffix_is : (a : Suffix) → suffix_of (mark (suffix_text a)) ≡ Some a
unfolding suffix_of postfix_of is_mark
suffix_is suffix.Index = refl
suffix_is suffix.Field = refl
suffix_is (suffix.Step postfix.Increment) = refl
suffix_is (suffix.Step postfix.Decrement) = refl

pub prefix_is : (a : PrefixOperator) → prefix_of (mark (prefix_text a)) ≡ Some a
unfolding prefix_of
prefix_is prefix.Increment = refl
prefix_is prefix.Decrement = refl
prefix_is prefix.Plus = refl
prefix_is prefix.Minus = refl
prefix_is prefix.Not = refl

pub basic_is : (a : Basic) → basic_of (word (basic_text a)) ≡ Some a
unfolding basic_of
basic_is basic.Float = refl
basic_is basic.Int = refl
basic_is basic.Bool = refl
basic_is basic.Vec2 = refl
basic_is basic.Vec3 = refl
basic_is basic.Vec4 = refl
basic_is basic.IVec2 = refl
basic_is basic.IVec3 = refl
basic_is basic.IVec4 = refl
basic_is basic.BVec2 = refl
basic_is basic.BVec3 = refl
basic_is basic.BVec4 = refl
basic_is basic.Mat2 = refl
basic_is basic.Mat3 = refl
basic_is basic.Mat4 = refl
basic_is basic.Sampler2D = refl
basic_is basic.SamplerCube = refl

-- no basic type is the word of a truth
pub basic_no_truth : (a : Basic) → (is_word (codes "true") (word (basic_text a)) ≡ false)
    × (is_word (codes "false") (word (basic_text a)) ≡ false)
unfolding is_word
basic_no_truth basic.Float = (refl, refl)
basic_no_truth basic.Int = (refl, refl)
basic_no_truth basic.Bool = (refl, refl)
basic_no_truth basic.Vec2 = (refl, refl)
basic_no_truth basic.Vec3 = (refl, refl)
basic_no_truth basic.Vec4 = (refl, refl)
basic_no_truth basic.IVec2 = (refl, refl)
basic_no_truth basic.IVec3 = (refl, refl)
basic_no_truth basic.IVec4 = (refl, refl)
basic_no_truth basic.BVec2 = (refl, refl)
basic_no_truth basic.BVec3 = (refl, refl)
basic_no_truth basic.BVec4 = (refl, refl)
basic_no_truth basic.Mat2 = (refl, refl)
basic_no_truth basic.Mat3 = (refl, refl)
basic_no_truth basic.Mat4 = (refl, refl)
basic_no_truth basic.Sampler2D = (refl, refl)
basic_no_truth basic.SamplerCube = (refl, refl)

-- what joins expressions is no suffix and no opening bracket
pub record JoinsOnly (a : Infix) : Type 0 where
  pub no_suffix : suffix_of (mark (infix_text a)) ≡ None
  pub no_bracket : is_mark (codes "(") (mark (infix_text a)) ≡ false

pub joins_only : (a : Infix) → JoinsOnly a
unfolding suffix_of postfix_of is_mark
joins_only (join.Binary binary.Comma) = record { no_suffix = refl; no_bracket = refl }
joins_only (join.Binary binary.Or) = record { no_suffix = refl; no_bracket = refl }
joins_only (join.Binary binary.Xor) = record { no_suffix = refl; no_bracket = refl }
joins_only (join.Binary binary.And) = record { no_suffix = refl; no_bracket = refl }
joins_only (join.Binary binary.Equal) = record { no_suffix = refl; no_bracket = refl }
joins_only (join.Binary binary.NotEqual) = record { no_suffix = refl; no_bracket = refl }
joins_only (join.Binary binary.Less) = record { no_suffix = refl; no_bracket = refl }
joins_only (join.Binary binary.Greater) = record { no_suffix = refl; no_bracket = refl }
joins_only (join.Binary binary.LessEqual) = record { no_suffix = refl; no_bracket = refl }
joins_only (join.Binary binary.GreaterEqual) = record { no_suffix = refl; no_bracket = refl }
joins_only (join.Binary binary.Add) = record { no_suffix = refl; no_bracket = refl }
joins_only (join.Binary binary.Subtract) = record { no_suffix = refl; no_bracket = refl }
joins_only (join.Binary binary.Multiply) = record { no_suffix = refl; no_bracket = refl }
joins_only (join.Binary binary.Divide) = record { no_suffix = refl; no_bracket = refl }
joins_only join.Conditional = record { no_suffix = refl; no_bracket = refl }
joins_only (join.Assign assignment.Assign) = record { no_suffix = refl; no_bracket = refl }
joins_only (join.Assign assignment.Add) = record { no_suffix = refl; no_bracket = refl }
joins_only (join.Assign assignment.Subtract) = record { no_suffix = refl; no_bracket = refl }
joins_only (join.Assign assignment.Multiply) = record { no_suffix = refl; no_bracket = refl }
joins_only (join.Assign assignment.Divide) = record { no_suffix = refl; no_bracket = refl }

pub basic_no_void : (a : Basic) → is_word (codes "void") (word (basic_text a)) ≡ false
unfolding is_word
basic_no_void basic.Float = refl
basic_no_void basic.Int = refl
basic_no_void basic.Bool = refl
basic_no_void basic.Vec2 = refl
basic_no_void basic.Vec3 = refl
basic_no_void basic.Vec4 = refl
basic_no_void basic.IVec2 = refl
basic_no_void basic.IVec3 = refl
basic_no_void basic.IVec4 = refl
basic_no_void basic.BVec2 = refl
basic_no_void basic.BVec3 = refl
basic_no_void basic.BVec4 = refl
basic_no_void basic.Mat2 = refl
basic_no_void basic.Mat3 = refl
basic_no_void basic.Mat4 = refl
basic_no_void basic.Sampler2D = refl
basic_no_void basic.SamplerCube = refl

-- the levels of what joins expressions
pub record HasLevels (a : Infix) : Type 0 where
  pub before : infix_level a ≤ level_before a
  pub low : infix_level a < prefix_level
  pub gap : level_before a ≤ conditional_level → level_before a ≤ any_level

pub has_levels : (a : Infix) → HasLevels a
has_levels (join.Binary binary.Comma) = record { before = omega arith; low = omega arith; gap = omega arith }
has_levels (join.Binary binary.Or) = record { before = omega arith; low = omega arith; gap = omega arith }
has_levels (join.Binary binary.Xor) = record { before = omega arith; low = omega arith; gap = omega arith }
has_levels (join.Binary binary.And) = record { before = omega arith; low = omega arith; gap = omega arith }
has_levels (join.Binary binary.Equal) = record { before = omega arith; low = omega arith; gap = omega arith }
has_levels (join.Binary binary.NotEqual) = record { before = omega arith; low = omega arith; gap = omega arith }
has_levels (join.Binary binary.Less) = record { before = omega arith; low = omega arith; gap = omega arith }
has_levels (join.Binary binary.Greater) = record { before = omega arith; low = omega arith; gap = omega arith }
has_levels (join.Binary binary.LessEqual) = record { before = omega arith; low = omega arith; gap = omega arith }
has_levels (join.Binary binary.GreaterEqual) = record { before = omega arith; low = omega arith; gap = omega arith }
has_levels (join.Binary binary.Add) = record { before = omega arith; low = omega arith; gap = omega arith }
has_levels (join.Binary binary.Subtract) = record { before = omega arith; low = omega arith; gap = omega arith }
has_levels (join.Binary binary.Multiply) = record { before = omega arith; low = omega arith; gap = omega arith }
has_levels (join.Binary binary.Divide) = record { before = omega arith; low = omega arith; gap = omega arith }
has_levels join.Conditional = record { before = omega arith; low = omega arith; gap = omega arith }
has_levels (join.Assign assignment.Assign) = record { before = omega arith; low = omega arith; gap = omega arith }
has_levels (join.Assign assignment.Add) = record { before = omega arith; low = omega arith; gap = omega arith }
has_levels (join.Assign assignment.Subtract) = record { before = omega arith; low = omega arith; gap = omega arith }
has_levels (join.Assign assignment.Multiply) = record { before = omega arith; low = omega arith; gap = omega arith }
has_levels (join.Assign assignment.Divide) = record { before = omega arith; low = omega arith; gap = omega arith }
