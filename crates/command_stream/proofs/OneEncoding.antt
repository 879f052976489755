-- A stream's bytes are those of one list of commands.
use Rattle.std.proofs.Common.{◌≡◌, ℕ, List, [], ◌∷◌, ◌++◌, length, take, drop, map, refl, sym, ap, ◌∙◌, lit<}
use Rattle.std.proofs.lemmas.List.{append_cancel_left}
use Rattle.std.proofs.lemmas.List.Elements.{All-head, All-tail}
use Rattle.std.proofs.Math.Seq.{take-append_seam, drop-append_seam}
use Rattle.std.specs.List.{All, flat_map}
use Rattle.gl_numbers.specs.Bytes.{le32}
use Rattle.gl_numbers.proofs.OneRecord.{OneRecord, record-one}
use Rattle.command_stream.specs.declared.command.Command.{Command}
use Rattle.command_stream.specs.Operations.{row_of, operation_numbered, body_max}
use Rattle.command_stream.specs.Commands.{parts_of, command_encoding, Fits, stream_start, stream}
use Rattle.command_stream.proofs.Table.{in-table, number-fits}

-- one command, and what follows it
pub record SameCommand (a b : Command) (x y : List ℕ) : Type 0 where
  pub command : parts_of a ≡ parts_of b
  pub rest : x ≡ y

-- lists of one length at the prefixes of equal lists
pub same_fronts : (xs ys x y : List ℕ) → length xs ≡ length ys → xs ++ x ≡ ys ++ y → (xs ≡ ys) × (x ≡ y)
same_fronts xs ys x y l e =
    let prefix : xs ≡ ys = sym (take-append_seam xs x) ∙ ap (take (length xs)) e ∙ ap (λ n. take n (ys ++ y)) l ∙ take-append_seam ys y in
    let back : x ≡ y = sym (drop-append_seam xs x) ∙ ap (drop (length xs)) e ∙ ap (λ n. drop n (ys ++ y)) l ∙ drop-append_seam ys y in
    (prefix, back)

-- two fitting commands whose encodings begin one list are one command
pub command_encoding-one : (a b : Command) (x y : List ℕ) → Fits a → Fits b → command_encoding a ++ x ≡ command_encoding b ++ y
    → SameCommand a b x y
command_encoding-one a b x y fits_a fits_b e =
    let one : OneRecord (parts_of a) (parts_of b) x y =
    record-one row_of body_max operation_numbered (lit< tt) number-fits (λ operation. (in-table operation).numbered) (parts_of a) (parts_of b)
    x y fits_a fits_b e in
    record { command = one.parts; rest = one.rest }

-- no encoding is empty
pub encoding-some : (c : Command) (x : List ℕ) → [] ≡ command_encoding c ++ x → ⊥
unfolding le32
encoding-some c x e = cc

-- two lists of fitting commands with one list of bytes are one list of commands
commands-one : (a b : List Command) → All Fits a → All Fits b → flat_map command_encoding a ≡ flat_map command_encoding b
    → map parts_of a ≡ map parts_of b
commands-one [] [] fits_a fits_b e = refl
commands-one [] (d ∷ b) fits_a fits_b e = absurd (encoding-some d (flat_map command_encoding b) e)
commands-one (c ∷ a) [] fits_a fits_b e = absurd (encoding-some c (flat_map command_encoding a) (sym e))
commands-one (c ∷ a) (d ∷ b) fits_a fits_b e =
    let same : SameCommand c d (flat_map command_encoding a) (flat_map command_encoding b) =
    command_encoding-one c d _ _ (All-head Fits c a fits_a) (All-head Fits d b fits_b) e in
    let more : map parts_of a ≡ map parts_of b = commands-one a b (All-tail Fits c a fits_a) (All-tail Fits d b fits_b) same.rest in
    ap (λ h. h ∷ map parts_of a) same.command ∙ ap (λ t. parts_of d ∷ t) more

-- two streams with the same bytes have the same commands
pub stream-one : (a b : List Command) → All Fits a → All Fits b → stream a ≡ stream b → map parts_of a ≡ map parts_of b
stream-one a b fits_a fits_b e =
    commands-one a b fits_a fits_b (append_cancel_left stream_start (flat_map command_encoding a) (flat_map command_encoding b) e)
