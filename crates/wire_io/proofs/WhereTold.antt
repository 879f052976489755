-- From what was taken of a source to facts about the bytes before and after, where they are known.
use Rattle.std.proofs.Common.{◌≡◌, ℕ, List, [], ◌++◌, Option, Some, None, sym, subst, ap, ◌∙◌, append-nil}
use Rattle.std.specs.Io.KnownBytes.{prepend_known, IsAtEnd}
use Rattle.wire_io.specs.Sources.{WhereTold}

-- what holds of the bytes taken before any rest
pub where_told : (P : List ℕ → List ℕ → Type 0) (old new : Option (List ℕ)) (got : List ℕ) → old ≡ prepend_known got new
    → ((rest : List ℕ) → P (got ++ rest) rest) → WhereTold P old new
where_told P None new got e make = tt
where_told P (Some x) None got e make = absurd cc
where_told P (Some x) (Some y) got e make =
    let whole : got ++ y ≡ x = cc in
    subst (λ l. P l y) whole (make y)

-- what holds of the bytes taken where none are left
pub where_told-end : (P : List ℕ → List ℕ → Type 0) (old new : Option (List ℕ)) (got : List ℕ) → old ≡ prepend_known got new → IsAtEnd new
    → P got [] → WhereTold P old new
where_told-end P None new got e none holds = tt
where_told-end P (Some x) None got e none holds = absurd cc
where_told-end P (Some x) (Some y) got e none holds =
    let whole : got ++ y ≡ x = cc in
    let all : got ≡ x = sym (append-nil got) ∙ ap (λ l. got ++ l) (sym none) ∙ whole in
    subst (λ l. P l y) all (subst (P got) (sym none) holds)

-- what holds where nothing was taken
pub where_told-same : (P : List ℕ → List ℕ → Type 0) (old new : Option (List ℕ)) → new ≡ old → ((rest : List ℕ) → P rest rest) → WhereTold P old new
where_told-same P None new e make = tt
where_told-same P (Some x) None e make = absurd cc
where_told-same P (Some x) (Some y) e make =
    let same : x ≡ y = cc in
    subst (P x) same (make x)

-- nothing taken
pub taken_none : (old new : Option (List ℕ)) → old ≡ prepend_known [] new → new ≡ old
taken_none None None e = sym e
taken_none None (Some y) e = absurd cc
taken_none (Some x) None e = absurd cc
taken_none (Some x) (Some y) e = sym e
