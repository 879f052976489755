-- A text with each comment as one space, from its front on.
use Rattle.std.proofs.Common.{◌≡◌, ℕ, zero, suc, ◌-◌, ◌<◌, Bool, true, ◌&&◌, List, [], ◌∷◌, length, drop, get_or, refl, ap, ◌∙◌, arith}
use Rattle.std.specs.List.{list_all}
use Rattle.glsl_tree.specs.Characters.{is_character, is_letter, is_digit, is_mark, is_among, is_blank, is_line_break}
use Rattle.glsl_tree.specs.Comments.{Comment, NoComment, LineComment, BlockComment, OpenComment, comment_at, without_comments_from}

-- whether the text has no foreign byte outside comments
abbrev pub is_clean : List ℕ → Bool
is_clean text = list_all is_character (without_comments_from 0 text)

skipped : (k : ℕ) (text : List ℕ) → without_comments_from k text ≡ without_comments_from 0 (drop k text)
skipped zero text = refl
skipped (suc k) [] = refl
skipped (suc k) (b ∷ text) = skipped k text

abbrev left : ℕ → List ℕ → Comment → List ℕ
left b text NoComment = b ∷ without_comments_from 0 text
left b text (LineComment n) = 32 ∷ without_comments_from (n - 1) text
left b text (BlockComment n) = 32 ∷ without_comments_from (n - 1) text
left b text OpenComment = 32 ∷ []

left_is : (b : ℕ) (text : List ℕ) → without_comments_from 0 (b ∷ text) ≡ left b text (comment_at (b ∷ text))
left_is b text = by_comment (comment_at (b ∷ text))
  where
    by_comment : (c : Comment) → elim c [
      | NoComment ↦ b ∷ without_comments_from 0 text
      | LineComment n ↦ 32 ∷ without_comments_from (n - 1) text
      | BlockComment n ↦ 32 ∷ without_comments_from (n - 1) text
      | OpenComment ↦ 32 ∷ []
    ] ≡ left b text c
    by_comment NoComment = refl
    by_comment (LineComment n) = refl
    by_comment (BlockComment n) = refl
    by_comment OpenComment = refl

space_is : is_character 32 ≡ true
unfolding is_character is_letter is_digit is_mark is_among is_blank is_line_break
space_is = refl

pub clean_none : (text : List ℕ) → 0 < length text → comment_at text ≡ NoComment → is_clean text ≡ (is_character (get_or text 0 0) && is_clean (drop 1 text))
clean_none [] h e = absurd (omega arith)
clean_none (b ∷ text) h e = ap (list_all is_character) (left_is b text ∙ ap (left b text) e)

behind : (b n : ℕ) (text : List ℕ) → 0 < n → is_character 32 ≡ true → list_all is_character (32 ∷ without_comments_from (n - 1) text) ≡ is_clean (drop n (b ∷ text))
behind b zero text h s = absurd (omega arith)
behind b (suc n) text h s = ap (λ x. x && list_all is_character (without_comments_from (suc n - 1) text)) s
    ∙ ap (λ k. list_all is_character (without_comments_from k text)) (omega arith) ∙ ap (list_all is_character) (skipped n text)

pub clean_line : (text : List ℕ) (n : ℕ) → 0 < length text → 0 < n → comment_at text ≡ LineComment n → is_clean text ≡ is_clean (drop n text)
clean_line [] n h k e = absurd (omega arith)
clean_line (b ∷ text) n h k e = ap (list_all is_character) (left_is b text ∙ ap (left b text) e) ∙ behind b n text k space_is

pub clean_block : (text : List ℕ) (n : ℕ) → 0 < length text → 0 < n → comment_at text ≡ BlockComment n → is_clean text ≡ is_clean (drop n text)
clean_block [] n h k e = absurd (omega arith)
clean_block (b ∷ text) n h k e = ap (list_all is_character) (left_is b text ∙ ap (left b text) e) ∙ behind b n text k space_is

pub clean_open : (text : List ℕ) → 0 < length text → comment_at text ≡ OpenComment → is_clean text ≡ true
clean_open [] h e = absurd (omega arith)
clean_open (b ∷ text) h e = ap (list_all is_character) (left_is b text ∙ ap (left b text) e) ∙ ap (λ x. x && true) space_is
