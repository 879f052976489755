-- The numbers of shapes: each has its own, which it keeps.
use Rattle.std.proofs.Common.{◌≡◌, ◌⊎◌, ℕ, ◌+◌, ◌<◌, ◌≤◌, Bool, true, false, Option, Some, None, List, [], ◌∷◌, ◌++◌, length, take, get_or, refl, sym, ap, subst, ◌∙◌, arith, inl, inr}
use Rattle.std.specs.Prelude.{Vec, if◌then◌else◌, slice_get}
use Rattle.std.specs.declared.alloc.Global.{Global}
use Rattle.std.specs.Option.{option_or}
use Rattle.std.specs.Str.{bytes_eq}
use Rattle.std.specs.Cmp.Lexicographic.{bytes_decides}
use Rattle.std.proofs.lemmas.Bool.{cases_lt}
use Rattle.std.proofs.lemmas.List.{get_or_append_left, get_or_push, length-take, length_push, take-append-le, take_all, take_at}
use Rattle.std.proofs.lemmas.Option.{same_Some, slice_get-get_or, slice_get_within}
use Rattle.glsl_types.specs.declared.types.Struct.{Struct}
use Rattle.program_link.specs.Places.{Entries, place_after, place_of_name}
use Rattle.program_link.specs.Shapes.{AreNumbered, Keeps, Numbering, shape}
use Rattle.program_link.proofs.ByBytes.{place-pushed}
use Rattle.program_link.proofs.Deep.{slice_get-take}

-- what an addition at the end finds
after-some : (o : Option ℕ) (b : Bool) (n k : ℕ) → option_or o (if b then Some n else None) ≡ Some k
    → (o ≡ Some k) ⊎ ((o ≡ None) × (b ≡ true) × (n ≡ k))
after-some (Some m) b n k e = inl e
after-some None true n k e = inr (refl, refl, same_Some _ _ e)
after-some None false n k e = absurd cc

after-was : (o : Option ℕ) (p : Option ℕ) (k : ℕ) → o ≡ Some k → option_or o p ≡ Some k
after-was (Some m) p k e = e
after-was None p k e = absurd cc

after-new : (o : Option ℕ) (b : Bool) (n : ℕ) → o ≡ None → b ≡ true → option_or o (if b then Some n else None) ≡ Some n
after-new (Some m) b n none is = absurd cc
after-new None true n none is = refl
after-new None false n none is = absurd cc

-- no shape yet
pub numbering-start : (entries : Entries) → entries ≡ [] → Numbering entries
numbering-start entries none =
    subst Numbering (sym none) (record { few = λ words n e. absurd cc; once = λ a b n e f. absurd cc })

-- a shape that had no number has the next
pub numbering-next : (entries new : Entries) (key : Vec ℕ Global) (n : ℕ) → Numbering entries → place_of_name entries key.items ≡ None
    → n ≡ length entries + 1 → new ≡ entries ++ (key, n) ∷ [] → Numbering new
numbering-next entries new key n so_far none is added =
    let longer : length new ≡ length entries + 1 = ap length added ∙ length_push entries (key, n) in
    let finds : (q : List ℕ) → place_of_name new q ≡ place_after entries key.items n q =
    λ q. ap (λ l. place_of_name l q) added ∙ place-pushed entries key n q in
    record {
      few = λ words k e.
          elim (after-some (place_of_name entries words) (bytes_eq words key.items) n k (sym (finds words) ∙ e)) [
            | inl before ↦ let own = so_far.few words k before in (own.0, omega (arith, own.1, longer))
            | inr here ↦ (omega (arith, here.2, is), omega (arith, here.2, is, longer))
          ];
      once = λ a b k e f.
          elim (after-some (place_of_name entries a) (bytes_eq a key.items) n k (sym (finds a) ∙ e)) [
            | inl first ↦
                elim (after-some (place_of_name entries b) (bytes_eq b key.items) n k (sym (finds b) ∙ f)) [
                  | inl second ↦ so_far.once a b k first second
                  | inr other ↦ absurd (omega (arith, (so_far.few a k first).1, other.2, is))
                ]
            | inr here ↦
                elim (after-some (place_of_name entries b) (bytes_eq b key.items) n k (sym (finds b) ∙ f)) [
                  | inl second ↦ absurd (omega (arith, (so_far.few b k second).1, here.2, is))
                  | inr other ↦
                      (bytes_decides a key.items).0 here.1 ∙ sym ((bytes_decides b key.items).0 other.1)
                ]
          ];
    }

pub keeps-next : (entries new : Entries) (key : Vec ℕ Global) (n : ℕ) → new ≡ entries ++ (key, n) ∷ [] → Keeps entries new
keeps-next entries new key n added =
    record {
      kept = λ words k e.
          ap (λ l. place_of_name l words) added ∙ place-pushed entries key n words
          ∙ after-was (place_of_name entries words) (if bytes_eq words key.items then Some n else None) k e;
    }

pub keeps-same : (entries new : Entries) → new ≡ entries → Keeps entries new
keeps-same entries new is = record { kept = λ words k e. ap (λ l. place_of_name l words) is ∙ e }

pub keeps-then : (a b c : Entries) → Keeps a b → Keeps b c → Keeps a c
keeps-then a b c first second = record { kept = λ words k e. second.kept words k (first.kept words k e) }

pub number-next : (entries new : Entries) (key : Vec ℕ Global) (n : ℕ) → place_of_name entries key.items ≡ None
    → new ≡ entries ++ (key, n) ∷ [] → place_of_name new key.items ≡ Some n
number-next entries new key n none added =
    ap (λ l. place_of_name l key.items) added ∙ place-pushed entries key n key.items
    ∙ after-new (place_of_name entries key.items) (bytes_eq key.items key.items) n none ((bytes_decides key.items key.items).1 refl)

pub ruleset of_number = (numbering-next, keeps-next, keeps-same, number-next)

-- the structures so far are numbered
pub numbered-start : (entries : Entries) (structs : List Struct) (numbers : List ℕ) → numbers ≡ []
    → AreNumbered entries (take 0 structs) numbers
numbered-start entries structs numbers none =
    subst (λ l. AreNumbered entries (take 0 structs) l) (sym none) (record { all = refl; each = λ place s e. absurd cc })

pub numbered-kept : (old new : Entries) (structs : List Struct) (numbers : List ℕ) → Keeps old new → AreNumbered old structs numbers
    → AreNumbered new structs numbers
numbered-kept old new structs numbers keeps are =
    record { all = are.all; each = λ place s e. keeps.kept (shape (take place numbers) s) (get_or numbers place 0) (are.each place s e) }

pub numbered-step : (old new : Entries) (structs : List Struct) (i : ℕ) (d : Struct) (numbers more words : List ℕ) (n : ℕ)
    → i < length structs → d ≡ get_or structs i d → words ≡ shape numbers d → place_of_name new words ≡ Some n → Keeps old new
    → more ≡ numbers ++ n ∷ [] → AreNumbered old (take i structs) numbers → AreNumbered new (take (i + 1) structs) more
numbered-step old new structs i d numbers more words n within is shaped found keeps added are =
    let size : length numbers ≡ i = omega (arith, are.all, length-take i structs, within) in
    let longer : length more ≡ length numbers + 1 = ap length added ∙ length_push numbers n in
    record {
      all = omega (arith, longer, size, length-take (i + 1) structs, within);
      each = λ place s e.
          elim (cases_lt place i) [
            | inl less ↦
                let there : slice_get (take i structs) place ≡ Some s =
                slice_get-take i place structs less ∙ sym (slice_get-take (i + 1) place structs (omega (arith, less))) ∙ e in
                let front : take place more ≡ take place numbers =
                ap (take place) added ∙ take-append-le place numbers (n ∷ []) (omega (arith, less, size)) in
                let same : get_or more place 0 ≡ get_or numbers place 0 =
                ap (λ l. get_or l place 0) added ∙ get_or_append_left numbers (n ∷ []) 0 place (omega (arith, less, size)) in
                (λ j. place_of_name new (shape (front j) s))
                ∙ keeps.kept (shape (take place numbers) s) (get_or numbers place 0) (are.each place s there) ∙ ap Some (sym same)
            | inr past ↦
                let bound : place < length (take (i + 1) structs) = slice_get_within (take (i + 1) structs) place s e in
                let here : i ≡ place = omega (arith, past, bound, length-take (i + 1) structs) in
                let own : d ≡ s =
                same_Some _ _ (ap Some is ∙ sym (slice_get-get_or structs i d within)
                ∙ sym (slice_get-take (i + 1) i structs (omega arith)) ∙ ap (slice_get (take (i + 1) structs)) here ∙ e) in
                let front : take place more ≡ numbers = ap (take place) added ∙ take_at numbers (n ∷ []) place (size ∙ here) in
                let same : get_or more place 0 ≡ n = ap (λ l. get_or l place 0) added ∙ get_or_push numbers n 0 place (size ∙ here) in
                (λ j. place_of_name new (shape (front j) (sym own j))) ∙ ap (place_of_name new) (sym shaped) ∙ found ∙ ap Some (sym same)
          ];
    }

pub numbered-end : (entries : Entries) (structs : List Struct) (i : ℕ) (numbers : List ℕ) → length structs ≤ i
    → AreNumbered entries (take i structs) numbers → AreNumbered entries structs numbers
numbered-end entries structs i numbers past are = subst (λ s. AreNumbered entries s numbers) (take_all i structs past) are

pub ruleset of_numbers = (numbered-start, numbered-step, numbered-end, keeps-same, keeps-then)
