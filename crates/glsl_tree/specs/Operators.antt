-- The operators of expressions: their texts (GLSL ES 1.00.17 section 3.6) and how tightly they bind (section 5.1).
use Rattle.std.specs.Prelude.{ℕ, List, codes}
use Rattle.glsl_tree.specs.declared.operators.BinaryOperator.{BinaryOperator}
use Rattle.glsl_tree.specs.declared.operators.BinaryOperator.TheVariants as binary
use Rattle.glsl_tree.specs.declared.operators.AssignmentOperator.{AssignmentOperator}
use Rattle.glsl_tree.specs.declared.operators.AssignmentOperator.TheVariants as assignment
use Rattle.glsl_tree.specs.declared.operators.PrefixOperator.{PrefixOperator}
use Rattle.glsl_tree.specs.declared.operators.PrefixOperator.TheVariants as prefix
use Rattle.glsl_tree.specs.declared.operators.PostfixOperator.{PostfixOperator}
use Rattle.glsl_tree.specs.declared.operators.PostfixOperator.TheVariants as postfix

-- the text of an operator between two operands
abbrev pub binary_text : BinaryOperator → List ℕ
binary_text binary.Comma = codes ","
binary_text binary.Or = codes "||"
binary_text binary.Xor = codes "^^"
binary_text binary.And = codes "&&"
binary_text binary.Equal = codes "=="
binary_text binary.NotEqual = codes "!="
binary_text binary.Less = codes "<"
binary_text binary.Greater = codes ">"
binary_text binary.LessEqual = codes "<="
binary_text binary.GreaterEqual = codes ">="
binary_text binary.Add = codes "+"
binary_text binary.Subtract = codes "-"
binary_text binary.Multiply = codes "*"
binary_text binary.Divide = codes "/"

-- the text of an assignment (section 5.8)
abbrev pub assignment_text : AssignmentOperator → List ℕ
assignment_text assignment.Assign = codes "="
assignment_text assignment.Add = codes "+="
assignment_text assignment.Subtract = codes "-="
assignment_text assignment.Multiply = codes "*="
assignment_text assignment.Divide = codes "/="

-- the text of an operator before its operand
abbrev pub prefix_text : PrefixOperator → List ℕ
prefix_text prefix.Increment = codes "++"
prefix_text prefix.Decrement = codes "--"
prefix_text prefix.Plus = codes "+"
prefix_text prefix.Minus = codes "-"
prefix_text prefix.Not = codes "!"

-- the text of an operator after its operand
abbrev pub postfix_text : PostfixOperator → List ℕ
postfix_text postfix.Increment = codes "++"
postfix_text postfix.Decrement = codes "--"

-- The levels of section 5.1, from the comma up. An expression of a level stands where that level or a lower one is asked for.
abbrev pub any_level : ℕ
any_level = 0

-- an expression without a comma
abbrev pub assignment_level : ℕ
assignment_level = 1

-- `?:`
abbrev pub conditional_level : ℕ
conditional_level = 2

-- `||`, the lowest level of a condition
abbrev pub or_level : ℕ
or_level = 3

-- an operator before its operand
abbrev pub prefix_level : ℕ
prefix_level = 10

-- an index, a field, or an operator after its operand
abbrev pub postfix_level : ℕ
postfix_level = 11

-- names, numbers, brackets and calls
abbrev pub primary_level : ℕ
primary_level = 12

-- the level of an operator between two operands
abbrev pub binary_level : BinaryOperator → ℕ
binary_level binary.Comma = 0
binary_level binary.Or = 3
binary_level binary.Xor = 4
binary_level binary.And = 5
binary_level binary.Equal = 6
binary_level binary.NotEqual = 6
binary_level binary.Less = 7
binary_level binary.Greater = 7
binary_level binary.LessEqual = 7
binary_level binary.GreaterEqual = 7
binary_level binary.Add = 8
binary_level binary.Subtract = 8
binary_level binary.Multiply = 9
binary_level binary.Divide = 9
