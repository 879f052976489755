-- Directives (GLSL ES 1.00.17 section 3.4).
use Rattle.std.specs.Prelude.{ℕ, ◌+◌, Bool, true, false, not, ◌&&◌, ◌||◌, if◌then◌else◌, List, [], ◌∷◌, ◌++◌, drop, codes, Option, Some, None}
use Rattle.std.specs.List.{list_any}
use Rattle.std.specs.Str.{bytes_eq}
use Rattle.glsl_tree.specs.Token.{PlainToken}
use Rattle.glsl_tree.specs.declared.token.Class.{Class}
use Rattle.glsl_tree.specs.declared.token.Class.TheVariants.{Int, Hash, Params}
use Rattle.glsl_preproc.specs.Macros.{MacroMap, PlainMacro, is_text, is_name_token, is_reserved, is_defined, find_macro, with_macro, without_macro, same_macro}
use Rattle.glsl_preproc.specs.Replacement.{closes, is_comma}
use Rattle.glsl_preproc.specs.declared.kinds.Kind.{Kind}
use Rattle.glsl_preproc.specs.declared.kinds.Kind.TheVariants.{Empty, Define, Undef, If, Ifdef, Ifndef, Elif, Else, Endif, Error, Pragma, Extension, Version, Line, Unknown}

-- which directive a name makes
unfoldable pub kind_of_name : List ℕ → Kind
kind_of_name name =
    if bytes_eq name (codes "define") then Define
    else (if bytes_eq name (codes "undef") then Undef
    else (if bytes_eq name (codes "if") then If
    else (if bytes_eq name (codes "ifdef") then Ifdef
    else (if bytes_eq name (codes "ifndef") then Ifndef
    else (if bytes_eq name (codes "elif") then Elif
    else (if bytes_eq name (codes "else") then Else
    else (if bytes_eq name (codes "endif") then Endif
    else (if bytes_eq name (codes "error") then Error
    else (if bytes_eq name (codes "pragma") then Pragma
    else (if bytes_eq name (codes "extension") then Extension
    else (if bytes_eq name (codes "version") then Version
    else (if bytes_eq name (codes "line") then Line
    else Unknown))))))))))))

-- which directive stands behind a `#`
unfoldable pub kind_of : List PlainToken → Kind
kind_of [] = Empty
kind_of (t ∷ rest) = if is_name_token t then kind_of_name t.text else Unknown

abbrev pub is_hash_token : PlainToken → Bool
is_hash_token t = is_hash_class t.class
  where
    is_hash_class : Class → Bool
    is_hash_class Hash = true
    is_hash_class _ = false

-- The parameters of a macro, and how many tokens they take behind the `(`, the `)` among them: different names parted by commas.
unfoldable pub parameters_from : List (List ℕ) → ℕ → List PlainToken → Option (List (List ℕ) × ℕ)
parameters_from done count (name ∷ separator ∷ rest) =
    if is_name_token name && not (list_any (λ p. bytes_eq p name.text) done) then
    (if closes separator then Some (done ++ name.text ∷ [], count + 2)
    else (if is_comma separator then parameters_from (done ++ name.text ∷ []) (count + 2) rest else None))
    else None
parameters_from done count (name ∷ []) = None
parameters_from done count [] = None

unfoldable pub parameters_at : List PlainToken → Option (List (List ℕ) × ℕ)
parameters_at [] = None
parameters_at (t ∷ rest) = if closes t then Some ([], 1) else parameters_from [] 0 (t ∷ rest)

abbrev pub is_params : Class → Bool
is_params Params = true
is_params _ = false

abbrev pub with_parameters : List ℕ → List PlainToken → Option (List (List ℕ) × ℕ) → Option PlainMacro
with_parameters name rest None = None
with_parameters name rest (Some found) = Some (record { name = name; parameters = Some found.0; body = drop found.1 rest })

abbrev pub macro_of : List ℕ → List PlainToken → Option PlainMacro
macro_of name [] = Some (record { name = name; parameters = None; body = [] })
macro_of name (t ∷ rest) =
    if is_params t.class then with_parameters name rest (parameters_at rest)
    else Some (record { name = name; parameters = None; body = t ∷ rest })

-- the macro that stands behind `#define`
unfoldable pub definition_of : List PlainToken → Option PlainMacro
definition_of [] = None
definition_of (t ∷ rest) = if is_name_token t && not (is_reserved t.text) then macro_of t.text rest else None

-- a macro may be defined again as it is
abbrev pub defined_again : MacroMap → PlainMacro → Option PlainMacro → Option MacroMap
defined_again macros m None = Some (with_macro macros m)
defined_again macros m (Some old) = if same_macro old m then Some macros else None

abbrev pub after_definition : MacroMap → Option PlainMacro → Option MacroMap
after_definition macros None = None
after_definition macros (Some m) = defined_again macros m (find_macro macros m.name)

-- the macros behind a `#define`, and behind an `#undef`
unfoldable pub after_define : MacroMap → List PlainToken → Option MacroMap
after_define macros list = after_definition macros (definition_of list)

unfoldable pub after_undef : MacroMap → List PlainToken → Option MacroMap
after_undef macros (t ∷ []) =
    if is_name_token t && not (is_reserved t.text) then Some (without_macro macros t.text) else None
after_undef macros _ = None

-- whether the one name behind an `#ifdef` is defined
unfoldable pub asked_defined : MacroMap → List PlainToken → Option Bool
asked_defined macros (t ∷ []) = if is_name_token t then Some (is_defined macros t.text) else None
asked_defined macros _ = None

abbrev pub is_int_class : Class → Bool
is_int_class Int = true
is_int_class _ = false

-- `#version 100`
unfoldable pub is_version : List PlainToken → Bool
is_version (t ∷ []) = is_text (codes "100") t
is_version _ = false

-- `#extension N : B`, which asks for no extension that is not there
abbrev pub is_offered : List ℕ → List ℕ → Bool
is_offered name behavior =
    bytes_eq behavior (codes "warn") || bytes_eq behavior (codes "disable")
    || (bytes_eq behavior (codes "enable") && not (bytes_eq name (codes "all")))

unfoldable pub is_extension : List PlainToken → Bool
is_extension (name ∷ colon ∷ behavior ∷ []) = is_name_token name && is_text (codes ":") colon && is_offered name.text behavior.text
is_extension _ = false

-- behind `#line`: one int or two
unfoldable pub are_line_numbers : List PlainToken → Bool
are_line_numbers (a ∷ []) = is_int_class a.class
are_line_numbers (a ∷ b ∷ []) = is_int_class a.class && is_int_class b.class
are_line_numbers _ = false
