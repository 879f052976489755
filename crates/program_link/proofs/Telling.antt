-- The numbers of structures tell which types of two shaders are one.
use Rattle.std.proofs.Common.{◌≡◌, ℕ, ◌+◌, ◌-◌, ◌<◌, suc, zero, Bool, true, false, Option, Some, None, List, length, take, get_or, refl, sym, ap, ◌∙◌, arith}
use Rattle.std.specs.Prelude.{◌==◌, ◌&&◌, if◌then◌else◌, slice_get}
use Rattle.std.specs.Str.{bytes_eq}
use Rattle.std.specs.Cmp.Lexicographic.{bytes_decides, pointwise}
use Rattle.std.proofs.lemmas.Grind.{common_steps}
use Rattle.std.proofs.lemmas.List.{get_or-take, get_or_past, length-take, take-take, take_all}
use Rattle.std.proofs.lemmas.Option.{same_Some}
use mathlib.Core.Path.{fun_ext}
use Rattle.glsl_types.specs.declared.bases.Base.{Base}
use Rattle.glsl_types.specs.declared.types.SlType.{SlType}
use Rattle.glsl_types.specs.declared.types.Struct.{Struct}
use Rattle.program_link.specs.Counted.{number_at}
use Rattle.program_link.specs.Places.{Entries, place_of_name}
use Rattle.program_link.specs.SameTypes.{before, same_by, same_field, same_structure, same_to_depth, structure_at, structure_of}
use Rattle.program_link.specs.Shapes.{AreNumbered, Numbering, Tell, same_base_by, same_by_numbers, shape}
use Rattle.program_link.proofs.Counting.{none-zero, past-none}
use Rattle.program_link.proofs.Deep.{slice_get-take, there-within}
use Rattle.program_link.proofs.Numbers.{numbered-kept, numbering-start}
use Rattle.program_link.proofs.SameShapes.{shape-words}

-- two tests that pass together are one
same-tests : (a b : Bool) → (a ≡ true → b ≡ true) → (b ≡ true → a ≡ true) → a ≡ b
same-tests true b there back = sym (there refl)
same-tests false true there back = back refl
same-tests false false there back = refl

eq-true : (m n : ℕ) → m ≡ n → (m == n) ≡ true
eq-true m n e = grind (arith, common_steps)

true-eq : (m n : ℕ) → (m == n) ≡ true → m ≡ n
true-eq m n e = grind (arith, common_steps)

-- shapes are one exactly where their numbers are
numbers-decide : (entries : Entries) (a b : List ℕ) (m n : ℕ) → Numbering entries → place_of_name entries a ≡ Some m
    → place_of_name entries b ≡ Some n → bytes_eq a b ≡ (m == n)
numbers-decide entries a b m n numbering first second =
    same-tests (bytes_eq a b) (m == n)
    (λ e. eq-true m n (same_Some m n (sym first ∙ ap (place_of_name entries) ((bytes_decides a b).0 e) ∙ second)))
    (λ e. (bytes_decides a b).1 (numbering.once a b m first (second ∙ ap Some (sym (true-eq m n e)))))

-- the number of a structure of a front
pub record IsAt (entries : Entries) (structs : List Struct) (numbers : List ℕ) (p number : ℕ) (s : Struct) : Type 0 where
  pub some : 0 < number
  pub below : number - 1 < p
  pub own : number_at (take p numbers) number ≡ get_or numbers (number - 1) 0
  pub front : before (take p structs) number ≡ take (number - 1) structs
  pub found : place_of_name entries (shape (take (number - 1) numbers) s) ≡ Some (get_or numbers (number - 1) 0)

is-at : (entries : Entries) (structs : List Struct) (numbers : List ℕ) (p number : ℕ) (s : Struct) → AreNumbered entries structs numbers
    → structure_at (take p structs) number ≡ Some s → IsAt entries structs numbers p number s
is-at entries structs numbers p number s are is =
    let there = there-within (take p structs) number s is in
    let less : number - 1 < p = omega (arith, there.1, length-take p structs) in
    let not : (number == 0) ≡ false = grind (arith, common_steps, there.0) in
    record {
      some = there.0;
      below = less;
      own =
          ap (λ b. if b then 0 else get_or (take p numbers) (number - 1) 0) not ∙ get_or-take p numbers (number - 1) 0 less;
      front = take-take (number - 1) p structs (omega (arith, less));
      found = are.each (number - 1) s (sym (slice_get-take p (number - 1) structs less) ∙ there.2);
    }

-- a structure that isn't there has no number
no-number : (entries : Entries) (structs : List Struct) (numbers : List ℕ) (p number : ℕ) → AreNumbered entries structs numbers
    → structure_at (take p structs) number ≡ None → number_at (take p numbers) number ≡ 0
no-number entries structs numbers p number are is =
    none-zero (number == 0) (slice_get (take p structs) (number - 1)) (get_or (take p numbers) (number - 1) 0) is
    (λ none. get_or_past (take p numbers) (number - 1) 0
    (omega (arith, past-none (take p structs) (number - 1) none, length-take p structs, length-take p numbers, are.all)))

zero-some : (a b : ℕ) → a ≡ 0 → 0 < b → (a == b) ≡ false
zero-some a b none some = grind (arith, common_steps)

some-zero : (a b : ℕ) → 0 < a → b ≡ 0 → (a == b) ≡ false
some-zero a b some none = grind (arith, common_steps)

-- structures of two fronts, where their fields are compared by the numbers before
structures-by : (entries : Entries) (ones others : List Struct) (m_numbers n_numbers : List ℕ) (p q m n : ℕ)
    (same : SlType → SlType → Bool) (o r : Option Struct) → Numbering entries → AreNumbered entries ones m_numbers
    → AreNumbered entries others n_numbers → structure_at (take p ones) m ≡ o → structure_at (take q others) n ≡ r
    → (m - 1 < p → n - 1 < q → (a b : SlType)
    → same a b ≡ same_by_numbers (take (m - 1) m_numbers) (take (n - 1) n_numbers) a b)
    → same_structure same o r ≡ (number_at (take p m_numbers) m == number_at (take q n_numbers) n)
structures-by entries ones others m_numbers n_numbers p q m n same None None numbering first second is also alike =
    sym (eq-true _ _ (no-number entries ones m_numbers p m first is ∙ sym (no-number entries others n_numbers q n second also)))
structures-by entries ones others m_numbers n_numbers p q m n same (Some s) None numbering first second is also alike =
    let at = is-at entries ones m_numbers p m s first is in
    let some : 0 < get_or m_numbers (m - 1) 0 = (numbering.few _ _ at.found).0 in
    sym (some-zero _ _ (omega (arith, at.own, some)) (no-number entries others n_numbers q n second also))
structures-by entries ones others m_numbers n_numbers p q m n same None (Some t) numbering first second is also alike =
    let at = is-at entries others n_numbers q n t second also in
    let some : 0 < get_or n_numbers (n - 1) 0 = (numbering.few _ _ at.found).0 in
    sym (zero-some _ _ (no-number entries ones m_numbers p m first is) (omega (arith, at.own, some)))
structures-by entries ones others m_numbers n_numbers p q m n same (Some s) (Some t) numbering first second is also alike =
    let at = is-at entries ones m_numbers p m s first is in
    let at_other = is-at entries others n_numbers q n t second also in
    ap (λ (h : SlType → SlType → Bool). bytes_eq s.name t.name && pointwise (same_field h) s.fields t.fields)
    (fun_ext (λ a. fun_ext (λ b. alike at.below at_other.below a b)))
    ∙ sym (shape-words (take (m - 1) m_numbers) (take (n - 1) n_numbers) s t)
    ∙ numbers-decide entries (shape (take (m - 1) m_numbers) s) (shape (take (n - 1) n_numbers) t) (get_or m_numbers (m - 1) 0)
    (get_or n_numbers (n - 1) 0) numbering at.found at_other.found
    ∙ (λ i. sym at.own i == sym at_other.own i)

bases-by : (entries : Entries) (ones others : List Struct) (m_numbers n_numbers : List ℕ) (p q : ℕ)
    (same : ℕ → ℕ → SlType → SlType → Bool) (a b : Base) (o r : Option ℕ) → Numbering entries → AreNumbered entries ones m_numbers
    → AreNumbered entries others n_numbers
    → ((m n : ℕ) → m - 1 < p → n - 1 < q → (c d : SlType)
    → same m n c d ≡ same_by_numbers (take (m - 1) m_numbers) (take (n - 1) n_numbers) c d)
    → same_by same (take p ones) (take q others) a b o r ≡ same_base_by (take p m_numbers) (take q n_numbers) a b o r
bases-by entries ones others m_numbers n_numbers p q same a b None r numbering first second alike = refl
bases-by entries ones others m_numbers n_numbers p q same a b (Some m) None numbering first second alike = refl
bases-by entries ones others m_numbers n_numbers p q same a b (Some m) (Some n) numbering first second alike =
    structures-by entries ones others m_numbers n_numbers p q m n (same m n) (structure_at (take p ones) m)
    (structure_at (take q others) n) numbering first second refl refl (alike m n)

fronts-tell : (d : ℕ) (entries : Entries) (ones others : List Struct) (m_numbers n_numbers : List ℕ) (p q : ℕ) (a b : SlType)
    → Numbering entries → AreNumbered entries ones m_numbers → AreNumbered entries others n_numbers → p < d
    → same_to_depth d (take p ones) (take q others) a b ≡ same_by_numbers (take p m_numbers) (take q n_numbers) a b
unfolding same_to_depth same_by_numbers
fronts-tell zero entries ones others m_numbers n_numbers p q a b numbering first second less = absurd (omega (arith, less))
fronts-tell (suc d) entries ones others m_numbers n_numbers p q a b numbering first second less =
    ap (λ c. a.array == b.array && c)
    (bases-by entries ones others m_numbers n_numbers p q
    (λ m n. same_to_depth d (before (take p ones) m) (before (take q others) n)) a.base b.base (structure_of a.base) (structure_of b.base)
    numbering first second
    (λ m n below also c e.
    (λ i. same_to_depth d (take-take (m - 1) p ones (omega (arith, below)) i) (take-take (n - 1) q others (omega (arith, also)) i) c e)
    ∙ fronts-tell d entries ones others m_numbers n_numbers (m - 1) (n - 1) c e numbering first second (omega (arith, below, less))))

pub numbers-tell : (entries : Entries) (ones others : List Struct) (m_numbers n_numbers : List ℕ) → Numbering entries
    → AreNumbered entries ones m_numbers → AreNumbered entries others n_numbers → Tell m_numbers n_numbers ones others
numbers-tell entries ones others m_numbers n_numbers numbering first second a b =
    (λ i. same_by_numbers (sym (take_all (length ones) m_numbers (omega (arith, first.all))) i)
    (sym (take_all (length others) n_numbers (omega (arith, second.all))) i) a b)
    ∙ sym (fronts-tell (length ones + 1) entries ones others m_numbers n_numbers (length ones) (length others) a b numbering first second
    (omega arith))
    ∙ (λ i. same_to_depth (length ones + 1) (take_all (length ones) ones (omega arith) i) (take_all (length others) others (omega arith) i)
    a b)

pub ruleset of_tell = (numbers-tell, numbered-kept, numbering-start)
