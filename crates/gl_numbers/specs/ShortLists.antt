-- Lists in an array of fixed capacity, whose rest is zero.
use Rattle.std.specs.Prelude.{◌≡◌, ℕ, ◌-◌, ◌≤◌, List, ◌++◌, length, take, drop, replicate}
use Rattle.std.proofs.Common.{arith, ◌∙◌, length-append, length-drop}
use Rattle.std.proofs.lemmas.List.{length-take-le, take-append-drop, drop-replicate, length-replicate}
use Rattle.std.proofs.Math.Seq.{drop-append_seam}

-- the first `len` of `held` are the list, and the rest is zero
pub record IsPadded (capacity len : ℕ) (held : List ℕ) : Type 0 where
  pub whole : length held ≡ capacity
  pub within : len ≤ capacity
  pub rest : drop len held ≡ replicate (capacity - len) 0

-- a list, filled up with zeros
abbrev pub padded : ℕ → List ℕ → List ℕ
padded capacity xs = xs ++ replicate (capacity - length xs) 0

-- the list gives back the array and the length
pub padded-of_prefix : (capacity len : ℕ) (held : List ℕ) → IsPadded capacity len held
    → ◌≡◌ {A = List ℕ × ℕ} (padded capacity (take len held), length (take len held)) (held, len)
padded-of_prefix capacity len held p =
    let within : len ≤ length held = omega (arith, p.whole, p.within) in
    let prefix : length (take len held) ≡ len = length-take-le len held within in
    rw prefix (rw (← p.rest) (rw take-append-drop))

-- a list written to the prefix of zeros is padded
pub IsPadded-prefix : (capacity : ℕ) (xs ys : List ℕ) → ys ≡ xs → length xs ≤ capacity
    → IsPadded capacity (length xs) (ys ++ drop (length xs) (replicate capacity 0))
IsPadded-prefix capacity xs ys same within =
    let zeros : List ℕ = replicate capacity 0 in
    rw same
    (record {
      whole = simp (length-append, length-drop, length-replicate) (omega arith);
      within = within;
      rest = drop-append_seam xs (drop (length xs) zeros) ∙ drop-replicate (length xs) capacity 0;
    })
