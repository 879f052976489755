-- What the tokens behind the directives and macros may be (GLSL ES 1.00.17 section 3.4).
use Rattle.std.specs.Prelude.{◌≡◌, ℕ, ◌==◌, Bool, true, false, not, ◌&&◌, ◌||◌, if◌then◌else◌, List, [], ◌∷◌, codes}
use Rattle.glsl_tree.specs.Token.{PlainToken}
use Rattle.glsl_tree.specs.declared.token.Class.{Class}
use Rattle.glsl_tree.specs.declared.token.Class.TheVariants.{Hash, NewLine, Params}
use Rattle.glsl_preproc.specs.Macros.{is_text, is_name_token}
use Rattle.glsl_preproc.specs.Directives.{is_hash_token, is_params}

-- neither `#`, nor a line end, nor the `(` of a macro's parameters
abbrev pub is_text_class : Class → Bool
is_text_class Hash = false
is_text_class NewLine = false
is_text_class Params = false
is_text_class _ = true

abbrev pub IsTextToken : PlainToken → Type 0
IsTextToken t = is_text_class t.class ≡ true

-- how many of `#`, `define` and a name stand one behind the other up to a token, where k of them stand before it
unfoldable pub defining : ℕ → PlainToken → ℕ
defining k t =
    if is_hash_token t then 1
    else (if k == 1 && is_name_token t && is_text (codes "define") t then 2
    else (if k == 2 && is_name_token t then 3 else 0))

-- whether each `(` of the class Params stands behind the three
unfoldable pub are_params_behind : ℕ → List PlainToken → Bool
are_params_behind k [] = true
are_params_behind k (t ∷ rest) = (not (is_params t.class) || k == 3) && are_params_behind (defining k t) rest

-- each `(` of the class Params stands directly behind `#`, `define` and a name
abbrev pub ParamsBehindDefine : List PlainToken → Type 0
ParamsBehindDefine tokens = are_params_behind 0 tokens ≡ true
