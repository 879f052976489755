-- Macros (GLSL ES 1.00.17 section 3.4).
use Rattle.std.specs.Prelude.{ℕ, ◌==◌, Bool, true, false, ◌&&◌, ◌||◌, List, [], ◌∷◌, codes, Option, Some, None, is_some}
use Rattle.std.specs.Map.{lookup, remove_entry}
use Rattle.std.specs.BTreeMap.{is_at, insert_entry}
use Rattle.std.specs.Ordering.{nat_cmp}
use Rattle.std.specs.Cmp.Lexicographic.{slice_cmp}
use Rattle.std.specs.Str.{bytes_eq}
use Rattle.glsl_tree.specs.Token.{PlainToken}
use Rattle.glsl_tree.specs.SourceTokens.{is_word}
use Rattle.glsl_tree.specs.declared.token.Class.{Class}
use Rattle.glsl_tree.specs.declared.token.Class.TheVariants.{Identifier, Keyword, Int, Float, Punct, Hash, NewLine, Params}

-- a macro: its name, the names of its parameters where it takes a list of them, and its replacement
pub record PlainMacro : Type 0 where
  pub name : List ℕ
  pub parameters : Option (List (List ℕ))
  pub body : List PlainToken

abbrev pub is_text : List ℕ → PlainToken → Bool
is_text text token = bytes_eq token.text text

-- a name, as directives take it: an identifier or a word of the language
abbrev pub is_name_token : PlainToken → Bool
is_name_token token = is_word token.class

-- the macros that are defined, each under its name, in the order of the names' bytes
abbrev pub MacroMap : Type 0
MacroMap = List (List ℕ × PlainMacro)

unfoldable pub find_macro : MacroMap → List ℕ → Option PlainMacro
find_macro macros name = lookup (is_at (slice_cmp nat_cmp name)) macros

unfoldable pub with_macro : MacroMap → PlainMacro → MacroMap
with_macro macros m = insert_entry (slice_cmp nat_cmp) macros m.name m

unfoldable pub without_macro : MacroMap → List ℕ → MacroMap
without_macro macros name = remove_entry (is_at (slice_cmp nat_cmp name)) macros

abbrev pub is_defined : MacroMap → List ℕ → Bool
is_defined macros name = is_some (find_macro macros name)

-- the names that no directive defines or undefines: those with `__`, and those that begin with `GL_`
unfoldable pub has_double_underscore : List ℕ → Bool
has_double_underscore [] = false
has_double_underscore (a ∷ []) = false
has_double_underscore (a ∷ b ∷ text) = (a == 95 && b == 95) || has_double_underscore (b ∷ text)

unfoldable pub begins_with_gl : List ℕ → Bool
begins_with_gl (a ∷ b ∷ c ∷ text) = a == 71 && b == 76 && c == 95
begins_with_gl _ = false

abbrev pub is_reserved : List ℕ → Bool
is_reserved name = has_double_underscore name || begins_with_gl name

-- the same macro: the same parameters, and the same texts and classes in the replacement
abbrev pub class_number : Class → ℕ
class_number Identifier = 0
class_number Keyword = 1
class_number Int = 2
class_number Float = 3
class_number Punct = 4
class_number Hash = 5
class_number NewLine = 6
class_number Params = 7

abbrev pub same_token : PlainToken → PlainToken → Bool
same_token a b = bytes_eq a.text b.text && class_number a.class == class_number b.class

unfoldable pub same_body : List PlainToken → List PlainToken → Bool
same_body [] [] = true
same_body [] (b ∷ ys) = false
same_body (a ∷ xs) [] = false
same_body (a ∷ xs) (b ∷ ys) = same_token a b && same_body xs ys

unfoldable pub same_names : List (List ℕ) → List (List ℕ) → Bool
same_names [] [] = true
same_names [] (b ∷ ys) = false
same_names (a ∷ xs) [] = false
same_names (a ∷ xs) (b ∷ ys) = bytes_eq a b && same_names xs ys

abbrev pub same_parameters : Option (List (List ℕ)) → Option (List (List ℕ)) → Bool
same_parameters None None = true
same_parameters None (Some ys) = false
same_parameters (Some xs) None = false
same_parameters (Some xs) (Some ys) = same_names xs ys

abbrev pub same_macro : PlainMacro → PlainMacro → Bool
same_macro a b = same_parameters a.parameters b.parameters && same_body a.body b.body

-- The macros before the first directive. `__LINE__` stands for the line of its token.
abbrev pub number_token : List ℕ → PlainToken
number_token text = record { text = text; class = Int; line = 0 }

abbrev pub constant_macro : List ℕ → List PlainToken → PlainMacro
constant_macro name body = record { name = name; parameters = None; body = body }

unfoldable pub first_macros : MacroMap
first_macros =
    with_macro
    (with_macro
    (with_macro
    (with_macro
    (with_macro [] (constant_macro (codes "__LINE__") []))
    (constant_macro (codes "__FILE__") (number_token (codes "0") ∷ [])))
    (constant_macro (codes "__VERSION__") (number_token (codes "100") ∷ [])))
    (constant_macro (codes "GL_ES") (number_token (codes "1") ∷ [])))
    (constant_macro (codes "GL_FRAGMENT_PRECISION_HIGH") (number_token (codes "1") ∷ []))
