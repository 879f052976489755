-- Line ends (GLSL ES 1.00.17 section 3.2) and comments (section 3.5).
use Rattle.std.specs.Prelude.{ℕ, ◌+◌, ◌-◌, ◌==◌, Bool, not, ◌&&◌, ◌||◌, if◌then◌else◌, List, [], ◌∷◌, length, zero, suc}
use Rattle.std.specs.List.{prefix_len, list_all}
use Rattle.glsl_tree.specs.Characters.{is_line_break, is_character}

-- whether two bytes end one line together: CR LF or LF CR
unfoldable pub is_line_end_pair : ℕ → ℕ → Bool
is_line_end_pair a b = (a == 13 && b == 10) || (a == 10 && b == 13)

-- how many bytes the line end at the front of a text has: two of a pair, one of a CR or LF alone, and 0 where none stands there
unfoldable pub line_end_len : List ℕ → ℕ
line_end_len [] = 0
line_end_len (a ∷ []) = if is_line_break a then 1 else 0
line_end_len (a ∷ b ∷ bytes) = if is_line_end_pair a b then 2 else (if is_line_break a then 1 else 0)

-- how many lines end in a text, where each pair is taken first, from the left
unfoldable pub line_ends : List ℕ → ℕ
line_ends [] = 0
line_ends (a ∷ []) = if is_line_break a then 1 else 0
line_ends (a ∷ b ∷ bytes) =
    if is_line_end_pair a b then line_ends bytes + 1 else (if is_line_break a then line_ends (b ∷ bytes) + 1 else line_ends (b ∷ bytes))

-- how many bytes come before the next line end
abbrev pub before_line_end : List ℕ → ℕ
before_line_end bytes = prefix_len (λ b. not (is_line_break b)) bytes

-- how many bytes come before the first `*/`, and all of them where none comes
unfoldable pub before_close : List ℕ → ℕ
before_close [] = 0
before_close (a ∷ []) = 1
before_close (a ∷ b ∷ bytes) = if a == 42 && b == 47 then 0 else before_close (b ∷ bytes) + 1

-- what comment stands at the front of a text, and how many bytes it has
pub data Comment : Type 0 where
  NoComment : Comment
  LineComment : ℕ → Comment
  BlockComment : ℕ → Comment
  OpenComment : Comment

-- `//` and the bytes before the next line end; or `/*` and the bytes up to the first `*/` behind it, without which it is not closed
unfoldable pub comment_at : List ℕ → Comment
comment_at [] = NoComment
comment_at (a ∷ []) = NoComment
comment_at (a ∷ b ∷ bytes) =
    if a == 47 && b == 47 then LineComment (2 + before_line_end bytes)
    else (if a == 47 && b == 42 then (if before_close bytes == length bytes then OpenComment else BlockComment (4 + before_close bytes))
    else NoComment)

-- a text with each comment as one space, of which the first k bytes belong to a comment already. One that is not closed reaches to the end.
abbrev pub without_comments_from : ℕ → List ℕ → List ℕ
without_comments_from k [] = []
without_comments_from (suc k) (b ∷ bytes) = without_comments_from k bytes
without_comments_from zero (b ∷ bytes) = elim (comment_at (b ∷ bytes)) [
  | NoComment ↦ b ∷ without_comments_from 0 bytes
  | LineComment n ↦ 32 ∷ without_comments_from (n - 1) bytes
  | BlockComment n ↦ 32 ∷ without_comments_from (n - 1) bytes
  | OpenComment ↦ 32 ∷ []
]

abbrev pub without_comments : List ℕ → List ℕ
without_comments bytes = without_comments_from 0 bytes

-- whether no byte outside comments is foreign (section 3.1)
unfoldable pub is_in_charset : List ℕ → Bool
is_in_charset source = list_all is_character (without_comments source)
