-- The `)` that close no `(`, counted from the end of a list.
use Rattle.std.proofs.Common.{◌≡◌, ◌<◌, ◌≤◌, ◌+◌, ◌-◌, ◌++◌, ℕ, zero, suc, Bool, true, false, cond, eqb, ◌&&◌, List, [], ◌∷◌, length, take, drop, get_or, Some, None, refl, sym, ap, subst, ◌∙◌, arith}
use Rattle.std.proofs.lemmas.Bool.{eqb-true}
use Rattle.std.proofs.lemmas.List.{get_or_append_left, get_or_push, length-map, length-drop, take_all, drop-drop}
use Rattle.glsl_tree.specs.Token.{PlainToken}
use Rattle.glsl_preproc.specs.Views.{plain_piece, plain_pieces}
use Rattle.glsl_preproc.specs.declared.pieces.Piece.{Piece}
use Rattle.glsl_preproc.specs.Replacement.{arguments_from, opens, closes, is_comma}
use Rattle.glsl_preproc.specs.LoneClosers.{lone_closers, AreCounts}

-- Nothing is kept at first.
pub no_counts : (counts : List ℕ) (list : List PlainToken) → counts ≡ [] → AreCounts counts list
unfolding AreCounts
no_counts [] [] e = λ h. absurd (omega arith)
no_counts [] (t ∷ rest) e = ((λ h. absurd (omega arith)), no_counts [] rest refl)
no_counts (c ∷ counts) list e = absurd cc

pub is_count : (counts : List ℕ) (list : List PlainToken) → AreCounts counts list → length list < length counts → get_or counts (length list) 0 ≡ lone_closers list
unfolding AreCounts
is_count counts [] known h = known h
is_count counts (t ∷ rest) known h = known.0 h

pub counts_behind : (counts : List ℕ) (k : ℕ) (list : List Piece) → AreCounts counts (plain_pieces list) → AreCounts counts (plain_pieces (drop k list))
unfolding AreCounts
counts_behind counts zero list known = known
counts_behind counts (suc k) [] known = known
counts_behind counts (suc k) (t ∷ list) known = counts_behind counts k list known.1

-- the same by places
pub counts_later : (counts : List ℕ) (at k next : ℕ) (list : List Piece) → next ≡ at + k → AreCounts counts (plain_pieces (drop at list)) → AreCounts counts (plain_pieces (drop next list))
counts_later counts at k next list e known =
    let P : List Piece → Type 0 = λ l. AreCounts counts (plain_pieces l) in
    subst P (drop-drop k at list ∙ ap (λ i. drop i list) (sym e)) (counts_behind counts k (drop at list) known)

pub counts_behind_bracket : (counts : List ℕ) (list : List Piece) → AreCounts counts (plain_pieces list) → AreCounts counts (plain_pieces (take (length list - 1) (drop 1 list)))
counts_behind_bracket counts list known =
    let dropped = length-drop 1 list in
    let P : List Piece → Type 0 = λ l. AreCounts counts (plain_pieces l) in
    subst P (sym (take_all (length list - 1) (drop 1 list) (omega arith))) (counts_behind counts 1 list known)

-- a count more says nothing of the shorter ends
kept : (counts : List ℕ) (c : ℕ) (list : List PlainToken) → length list < length counts → AreCounts counts list → AreCounts (counts ++ c ∷ []) list
unfolding AreCounts
kept counts c [] h known = λ g. get_or_append_left counts (c ∷ []) 0 0 h ∙ known h
kept counts c (t ∷ rest) h known = ((λ g. get_or_append_left counts (c ∷ []) 0 (length (t ∷ rest)) h ∙ known.0 h), kept counts c rest (omega arith) known.1)

pub one_more : (counts : List ℕ) (c : ℕ) (t : PlainToken) (rest : List PlainToken) → length counts ≡ length rest + 1 → AreCounts counts rest → c ≡ lone_closers (t ∷ rest) → AreCounts (counts ++ c ∷ []) (t ∷ rest)
unfolding AreCounts
one_more counts c t rest size known e =
    let at : length counts ≡ length (t ∷ rest) = omega arith in
    ((λ g. get_or_push counts c 0 (length (t ∷ rest)) at ∙ e), kept counts c rest (omega arith) known)

pub counted : (t : PlainToken) (rest : List PlainToken) (count : ℕ) → count ≡ lone_closers rest → cond (opens t) (count - 1) (cond (closes t) (count + 1) count) ≡ lone_closers (t ∷ rest)
unfolding lone_closers
counted t rest count e = ap (λ n. cond (opens t) (n - 1) (cond (closes t) (n + 1) n)) e

-- before the first token that is counted
pub at_end : (counts : List ℕ) (rest : List Piece) → counts ≡ 0 ∷ [] → rest ≡ [] → AreCounts counts (plain_pieces rest)
unfolding AreCounts lone_closers
at_end counts [] e f = λ h. ap (λ l. get_or l 0 0) e
at_end counts (t ∷ rest) e f = absurd cc

pub none_at_end : (rest : List Piece) → rest ≡ [] → 0 ≡ lone_closers (plain_pieces rest)
unfolding lone_closers
none_at_end [] e = refl
none_at_end (t ∷ rest) e = absurd cc

pub asked : (counts : List ℕ) (rest : List Piece) → AreCounts counts (plain_pieces rest) → length rest < length counts → get_or counts (length rest) 0 ≡ lone_closers (plain_pieces rest)
asked counts rest known h =
    let same = length-map rest plain_piece in
    ap (λ n. get_or counts n 0) (sym same) ∙ is_count counts (plain_pieces rest) known (omega arith)

pub drop_at : {X : Type 0} (xs : List X) (k : ℕ) (x : X) → k < length xs → x ≡ get_or xs k x → drop k xs ≡ x ∷ drop (suc k) xs
drop_at [] k x h e = absurd (omega arith)
drop_at (y ∷ xs) zero x h e = λ i. sym e i ∷ xs
drop_at (y ∷ xs) (suc k) x h e = drop_at xs k x (omega arith) e

-- behind a token, where the call does not end in the rest
step : (rest : List PlainToken) (t : PlainToken) (whole : List (List PlainToken)) (current : List PlainToken) (depth count : ℕ)
    → ((w : List (List PlainToken)) (u : List PlainToken) (d n : ℕ) → lone_closers rest ≤ d → arguments_from w u d n rest ≡ None)
    → (z o c p : Bool) → z ≡ eqb depth 0 → cond o (lone_closers rest - 1) (cond c (lone_closers rest + 1) (lone_closers rest)) ≤ depth
    → cond o (arguments_from whole (current ++ t ∷ []) (depth + 1) (count + 1) rest)
    (cond (z && c) (Some (whole ++ current ∷ [], count + 1))
    (cond (z && p) (arguments_from (whole ++ current ∷ []) [] 0 (count + 1) rest)
    (arguments_from whole (current ++ t ∷ []) (cond c (depth - 1) depth) (count + 1) rest))) ≡ None
step rest t whole current depth count goes z true c p e h = goes whole (current ++ t ∷ []) (depth + 1) (count + 1) (omega arith)
step rest t whole current depth count goes true false true p e h = let zero : depth ≡ 0 = eqb-true depth 0 (sym e) in absurd (omega arith)
step rest t whole current depth count goes false false true p e h = goes whole (current ++ t ∷ []) (depth - 1) (count + 1) (omega arith)
step rest t whole current depth count goes true false false true e h = let zero : depth ≡ 0 = eqb-true depth 0 (sym e) in goes (whole ++ current ∷ []) [] 0 (count + 1) (omega arith)
step rest t whole current depth count goes true false false false e h = goes whole (current ++ t ∷ []) depth (count + 1) h
step rest t whole current depth count goes false false false p e h = goes whole (current ++ t ∷ []) depth (count + 1) h

-- The call does not end where no `)` is left for it behind what is open.
pub no_end : (whole : List (List PlainToken)) (current : List PlainToken) (depth count : ℕ) (list : List PlainToken) → lone_closers list ≤ depth → arguments_from whole current depth count list ≡ None
unfolding arguments_from lone_closers
no_end whole current depth count [] h = refl
no_end whole current depth count (t ∷ rest) h = step rest t whole current depth count (λ w u d n g. no_end w u d n rest g) (eqb depth 0) (opens t) (closes t) (is_comma t) refl h

pub call_kept : (list : List PlainToken) → lone_closers list ≡ 0 → arguments_from [] [] 0 1 list ≡ None
call_kept list h = no_end [] [] 0 1 list (omega arith)
