-- The spelling of a well-formed type is read as that type.
use Rattle.std.proofs.Common.{◌≡◌, ◌≤◌, ◌<◌, ◌+◌, ℕ, zero, suc, max, Bool, true, false, cond, List, [], ◌∷◌, ◌++◌, map, length, Option, Some, None, codes, refl, sym, ap, ◌∙◌, subst, append_assoc, arith}
use Rattle.std.specs.List.{list_all}
use Rattle.std.proofs.lemmas.Bool.{and_parts}
use Rattle.glsl_tree.specs.declared.declarations.SizedName.{SizedName}
use Rattle.glsl_tree.specs.declared.declarations.TypeSpecifier.{TypeSpecifier}
use Rattle.glsl_tree.specs.declared.declarations.TypeSpecifier.TheVariants as kind
use Rattle.glsl_tree.specs.declared.declarations.TypeSpecifier.TheOpen.{TypeSpecifier-F}
use Rattle.glsl_tree.specs.declared.declarations.TypeSpecifier.TheViews.{roll-TypeSpecifier, roll-Member}
use Rattle.glsl_tree.specs.declared.declarations.Member.{Member}
use Rattle.glsl_tree.specs.declared.declarations.FullType.{FullType}
use Rattle.glsl_tree.specs.declared.expressions.Expr.{Expr}
use Rattle.glsl_tree.specs.declared.qualifiers.Basic.{Basic}
use Rattle.glsl_tree.specs.declared.qualifiers.Basic.TheVariants as basic
use Rattle.glsl_tree.specs.declared.qualifiers.Precision.{Precision}
use Rattle.glsl_tree.specs.declared.qualifiers.Precision.TheVariants as precision
use Rattle.glsl_tree.specs.declared.qualifiers.Direction.{Direction}
use Rattle.glsl_tree.specs.declared.qualifiers.Direction.TheVariants as direction
use Rattle.glsl_tree.specs.declared.qualifiers.Storage.{Storage}
use Rattle.glsl_tree.specs.declared.qualifiers.Storage.TheVariants as storage
use Rattle.glsl_tree.specs.Operators.{conditional_level, prefix_level}
use Rattle.glsl_tree.specs.Qualifiers.{basic_text, precision_text, direction_text}
use Rattle.glsl_tree.specs.Expressions.{mark, word, name, separated, grade, is_expression, expression_tokens, expression_height, is_free, highest}
use Rattle.glsl_tree.specs.Types.{joined, name_tokens, precision_tokens, direction_tokens, storage_tokens, size_tokens, sized_tokens, type_tokens, member_tokens, is_free_or_absent, is_size, is_sized, is_any, is_type, is_member, size_height, type_height, member_height}
use Rattle.glsl_tree.specs.Declarations.{full_type_tokens, is_full_type, full_type_height}
use Rattle.glsl_tree.specs.Token.{PlainToken}
use Rattle.glsl_parse.specs.Readings.{Reads, after, past, made, below, Stop, Go, looped}
use Rattle.glsl_parse.specs.Symbols.{is_mark, is_word, is_name, basic_of, precision_of, direction_of, after_mark, after_word, name_at}
use Rattle.glsl_parse.specs.ExpressionReadings.{expression, listed}
use Rattle.glsl_parse.specs.TypeReadings.{or_absent, first_or_absent, precision_at, direction_at, optional_name, storage_of, after_invariant_varying, word_storage_at, storage_at, size_after, optional_size, sized, sized_name, more_members, structure, type_word, alone, type_of, member_of, type_specifier, member, qualified, full_type}
use Rattle.glsl_parse.proofs.SoundLists.{AllOf}
use Rattle.glsl_parse.proofs.SoundItems.{Fits, all_from}
use Rattle.glsl_parse.proofs.SoundTypes.{sized_height}
use Rattle.glsl_parse.proofs.CompleteLists.{listed_complete}
use Rattle.glsl_parse.proofs.CompleteJoined.{BeginsWith, begins_on, begins_as, begins_at, at_first, joined_complete}
use Rattle.glsl_parse.proofs.CompleteExpressions.{EndsAll, ends_all, below_all, ends_at_square, expression_complete}
use Rattle.glsl_parse.proofs.ExpressionStarts.{stood}
use Rattle.glsl_parse.proofs.TypeNodes.{tokens_of, fits_of, height_of, from_layers, has_height, line}
use Rattle.glsl_parse.proofs.TypeStarts.{BeginsType, type_starts, type_plain, NoStorage, precision_plain, without_storage}

-- an expression before a token that ends it
pub expression_closed : (n level : ℕ) (e : Expr) (m : PlainToken) (rest : List PlainToken) → level ≤ prefix_level → EndsAll m
    → is_expression level e ≡ true → expression_height e ≤ n
    → expression n level (expression_tokens e ++ (m ∷ rest)) ≡ Some (e, m ∷ rest)
expression_closed n level e m rest low ends fits high =
    let k = stood level e fits in
    expression_complete n level e (m ∷ rest) low k.fits k.high high (ends_all m (grade e).level rest ends) (below_all m level rest ends)

pub precision_is : (p : Precision) → precision_of (word (precision_text p)) ≡ Some p
unfolding precision_of
precision_is precision.Low = refl
precision_is precision.Medium = refl
precision_is precision.High = refl

direction_is : (p : Direction) → direction_of (word (direction_text p)) ≡ Some p
unfolding direction_of
direction_is direction.In = refl
direction_is direction.Out = refl
direction_is direction.InOut = refl

-- a precision that may be left out, before a token that is none
pub record NoPrecision (t : PlainToken) : Type 0 where
  pub is : precision_of t ≡ None

pub precision_complete : (p : Option Precision) (list : List PlainToken) → BeginsWith NoPrecision list
    → ◌≡◌ {A = Option Precision × List PlainToken} (precision_at (precision_tokens p ++ list)) (p, list)
unfolding precision_at
precision_complete (Some p) list b = ap (λ o. first_or_absent o (word (precision_text p)) list) (precision_is p)
precision_complete None list b = at_first NoPrecision (λ w. ◌≡◌ {A = Option Precision × List PlainToken} (precision_at w) (None, w))
    list b (λ t more absent. ap (λ o. first_or_absent o t more) absent.is)

pub record NoDirection (t : PlainToken) : Type 0 where
  pub is : direction_of t ≡ None

pub direction_complete : (p : Option Direction) (list : List PlainToken) → BeginsWith NoDirection list
    → ◌≡◌ {A = Option Direction × List PlainToken} (direction_at (direction_tokens p ++ list)) (p, list)
unfolding direction_at
direction_complete (Some p) list b = ap (λ o. first_or_absent o (word (direction_text p)) list) (direction_is p)
direction_complete None list b = at_first NoDirection (λ w. ◌≡◌ {A = Option Direction × List PlainToken} (direction_at w) (None, w))
    list b (λ t more absent. ap (λ o. first_or_absent o t more) absent.is)

abbrev stored : List PlainToken → Option (List PlainToken) → Option Storage × List PlainToken
stored list o = elim o [ Some rest ↦ (Some storage.InvariantVarying, rest) | None ↦ word_storage_at list ]

no_storage : (t : PlainToken) (more : List PlainToken) → NoStorage t
    → ◌≡◌ {A = Option Storage × List PlainToken} (storage_at (t ∷ more)) (None, t ∷ more)
unfolding storage_at after_invariant_varying after_word
no_storage t more absent =
    ap (λ b. stored (t ∷ more) (elim (cond b (Some more) None) [ Some rest ↦ after_word (codes "varying") rest | None ↦ None ]))
    absent.no_invariant
    ∙ ap (λ o. first_or_absent o t more) absent.no_storage

pub storage_complete : (s : Option Storage) (list : List PlainToken) → BeginsWith NoStorage list
    → ◌≡◌ {A = Option Storage × List PlainToken} (storage_at (storage_tokens s ++ list)) (s, list)
unfolding storage_at after_invariant_varying after_word is_word storage_of
storage_complete (Some storage.Const) list b = refl
storage_complete (Some storage.Attribute) list b = refl
storage_complete (Some storage.Varying) list b = refl
storage_complete (Some storage.InvariantVarying) list b = refl
storage_complete (Some storage.Uniform) list b = refl
storage_complete None list b = at_first NoStorage (λ w. ◌≡◌ {A = Option Storage × List PlainToken} (storage_at w) (None, w)) list b
    no_storage

pub name_complete : (text : List ℕ) (rest : List PlainToken) → is_free text ≡ true → name_at (name text ∷ rest) ≡ Some (text, rest)
unfolding name_at is_name
name_complete text rest free = ap (λ b. cond {A = Option (List ℕ × List PlainToken)} b (Some (text, rest)) None) free

-- a list that begins with no name
pub optional_name_complete : (text : Option (List ℕ)) (list : List PlainToken) → is_free_or_absent text ≡ true → name_at list ≡ None
    → ◌≡◌ {A = Option (List ℕ) × List PlainToken} (optional_name (name_tokens text ++ list)) (text, list)
unfolding optional_name
optional_name_complete None list free none = ap (λ o. or_absent o list) none
optional_name_complete (Some text) list free none = ap (λ o. or_absent o (name text ∷ list)) (name_complete text list free)

pub size_after_complete : (n : ℕ) (e : Expr) (rest : List PlainToken) → is_expression conditional_level e ≡ true
    → expression_height e ≤ n → size_after n ((expression_tokens e ++ mark (codes "]") ∷ []) ++ rest) ≡ Some (e, rest)
unfolding size_after after_mark is_mark
size_after_complete n e rest fits high =
    ap (λ list. after (expression n conditional_level list)
    (λ size rest. past (after_mark (codes "]") rest) (λ rest. Some (size, rest))))
    (append_assoc (expression_tokens e) (mark (codes "]") ∷ []) rest)
    ∙ ap (λ r. after r (λ size rest. past (after_mark (codes "]") rest) (λ rest. Some (size, rest))))
    (expression_closed n conditional_level e (mark (codes "]")) rest (omega arith) ends_at_square fits high)

sizeless : (room : ℕ) (rest : List PlainToken) → after_mark (codes "[") rest ≡ None → optional_size room rest ≡ Some (None, rest)
unfolding optional_size
sizeless room rest none =
    ap (λ o. elim o [ None ↦ Some (None, rest) | Some rest ↦ below room (λ n. made Some (size_after n rest)) ]) none

pub optional_size_complete : (room : ℕ) (size : Option Expr) (rest : List PlainToken) → is_size size ≡ true → size_height size ≤ room
    → after_mark (codes "[") rest ≡ None
    → optional_size room (size_tokens size ++ rest) ≡ Some (size, rest)
unfolding optional_size after_mark is_mark
optional_size_complete room None rest fits high none = sizeless room rest none
optional_size_complete zero (Some e) rest fits high none = absurd (omega arith)
optional_size_complete (suc n) (Some e) rest fits high none = ap (made Some) (size_after_complete n e rest fits (omega arith))

-- no size follows
pub record NoSize (rest : List PlainToken) : Type 0 where
  pub is : after_mark (codes "[") rest ≡ None

pub sized_name_complete : (n : ℕ) (s : SizedName) (rest : List PlainToken) → Fits is_sized sized_height n s → NoSize rest
    → sized_name n (sized_tokens s ++ rest) ≡ Some (s, rest)
unfolding sized_name
sized_name_complete n s rest fit none =
    let both = and_parts _ _ fit.fits in
    ap (λ r. after r (λ text rest. made (sized text) (optional_size n rest))) (name_complete s.name (size_tokens s.size ++ rest) both.0)
    ∙ ap (made (sized s.name)) (optional_size_complete n s.size rest both.1 fit.high none.is)

pub no_size_at : (m : PlainToken) (rest : List PlainToken) → is_mark (codes "[") m ≡ false → NoSize (m ∷ rest)
unfolding after_mark
no_size_at m rest e = record { is = ap (λ b. cond b (Some rest) None) e }

comma_no_size : (rest : List PlainToken) → NoSize (mark (codes ",") ∷ rest)
unfolding is_mark
comma_no_size rest = no_size_at (mark (codes ",")) rest refl

semicolon_no_size : (rest : List PlainToken) → NoSize (mark (codes ";") ∷ rest)
unfolding is_mark
semicolon_no_size rest = no_size_at (mark (codes ";")) rest refl

sized_names_complete : (n : ℕ) (names : List SizedName) (rest : List PlainToken) → is_any names ≡ true
    → AllOf (Fits is_sized sized_height n) names
    → listed (sized_name n) (separated (map sized_tokens names) ++ (mark (codes ";") ∷ rest)) ≡ Some (names, mark (codes ";") ∷ rest)
unfolding after_mark is_mark
sized_names_complete n [] rest any fit = absurd cc
sized_names_complete n (first ∷ others) rest any fit =
    listed_complete (sized_name n) sized_tokens (Fits is_sized sized_height n) NoSize (sized_name_complete n) comma_no_size first
    others (mark (codes ";") ∷ rest) fit (semicolon_no_size rest) refl

-- what reads each type, or line of members, of at most this height whole
abbrev pub CompleteTypes : ℕ → Reads TypeSpecifier → Type 0
CompleteTypes n reads = (k : TypeSpecifier) (rest : List PlainToken) → Fits is_type type_height n k → reads (type_tokens k ++ rest)
    ≡ Some (k, rest)

abbrev pub CompleteLines : ℕ → Reads Member → Type 0
CompleteLines n reads = (m : Member) (rest : List PlainToken) → Fits is_member member_height n m → reads (member_tokens m ++ rest)
    ≡ Some (m, rest)

no_precision_before : (p : Option Precision) (t : PlainToken) → BeginsType t → NoPrecision t
no_precision_before p t b = record { is = (type_plain t b).no_precision }

-- the tokens of a line are those of its precision and its type first
pub qualified_starts : (p : Option Precision) (k : TypeSpecifier) (more : List PlainToken) → is_type k ≡ true
    → BeginsWith NoStorage (precision_tokens p ++ (type_tokens k ++ more))
qualified_starts None k more fits = begins_as BeginsType NoStorage _ without_storage
    (begins_on BeginsType (type_tokens k) more (type_starts k fits))
qualified_starts (Some p) k more fits = begins_at NoStorage _ _ (precision_plain p)

line_read : (n : ℕ) (kinds : Reads TypeSpecifier) → CompleteTypes n kinds → (m : Member) (rest : List PlainToken)
    → Fits is_member member_height (suc n) m
    → member_of n kinds (precision_tokens m.precision
    ++ (type_tokens m.kind ++ (separated (map sized_tokens m.names) ++ (mark (codes ";") ∷ rest)))) ≡ Some (m, rest)
unfolding member_of after_mark is_mark
line_read n kinds complete m rest fit =
    let k = line m in
    let fits = and_parts _ _ (sym k.fits ∙ fit.fits) in
    let named = and_parts _ _ fits.1 in
    let high : max (type_height m.kind) (highest (map sized_height m.names)) + 1 ≤ suc n = subst (λ h. h ≤ suc n) k.high fit.high in
    let begins = begins_as BeginsType NoPrecision _ (no_precision_before m.precision)
    (begins_on BeginsType (type_tokens m.kind) (separated (map sized_tokens m.names) ++ (mark (codes ";") ∷ rest))
    (type_starts m.kind fits.0)) in
    ap (λ (p : Option Precision × List PlainToken). after (kinds p.1)
    (λ k rest. after (listed (sized_name n) rest) (λ names rest. past (after_mark (codes ";") rest) (λ rest.
    Some (roll-Member (record { precision = p.0; kind = k; names = names }), rest)))))
    (precision_complete m.precision (type_tokens m.kind ++ (separated (map sized_tokens m.names) ++ (mark (codes ";") ∷ rest))) begins)
    ∙ ap (λ r. after r (λ k rest. after (listed (sized_name n) rest) (λ names rest. past (after_mark (codes ";") rest) (λ rest.
    Some (roll-Member (record { precision = m.precision; kind = k; names = names }), rest)))))
    (complete m.kind (separated (map sized_tokens m.names) ++ (mark (codes ";") ∷ rest))
    (record { fits = fits.0; high = omega (arith, high) }))
    ∙ ap (λ r. after r (λ names rest. past (after_mark (codes ";") rest)
    (λ rest. Some (roll-Member (record { precision = m.precision; kind = m.kind; names = names }), rest))))
    (sized_names_complete n m.names rest named.0 (all_from is_sized sized_height n m.names named.1 (omega (arith, high))))

member_of_complete : (n : ℕ) (kinds : Reads TypeSpecifier) → CompleteTypes n kinds → CompleteLines (suc n) (member_of n kinds)
member_of_complete n kinds complete m rest fit = ap (member_of n kinds) spelled ∙ read
  where
    names : List PlainToken
    names = separated (map sized_tokens m.names)

    spelled : member_tokens m ++ rest ≡ precision_tokens m.precision
        ++ (type_tokens m.kind ++ (separated (map sized_tokens m.names) ++ (mark (codes ";") ∷ rest)))
    spelled =
        ap (λ w. w ++ rest) (line m).spelled
        ∙ append_assoc (precision_tokens m.precision)
        (type_tokens m.kind ++ (separated (map sized_tokens m.names) ++ mark (codes ";") ∷ [])) rest
        ∙ ap (λ w. precision_tokens m.precision ++ w)
        (append_assoc (type_tokens m.kind) (separated (map sized_tokens m.names) ++ mark (codes ";") ∷ []) rest
        ∙ ap (λ w. type_tokens m.kind ++ w) (append_assoc (separated (map sized_tokens m.names)) (mark (codes ";") ∷ []) rest))

    read : member_of n kinds (precision_tokens m.precision
        ++ (type_tokens m.kind ++ (separated (map sized_tokens m.names) ++ (mark (codes ";") ∷ rest)))) ≡ Some (m, rest)
    read = line_read n kinds complete m rest fit

module _ (n : ℕ) (reads : Reads Member) (complete : CompleteLines n reads) where
  line_starts : (m : Member) → Fits is_member member_height n m → BeginsWith NoStorage (member_tokens m)
  line_starts m fit =
      let k = line m in
      subst (BeginsWith NoStorage) (sym k.spelled)
      (qualified_starts m.precision m.kind (separated (map sized_tokens m.names) ++ mark (codes ";") ∷ [])
      (and_parts _ _ (sym k.fits ∙ fit.fits)).0)

  line_goes : (done : List Member) (m : Member) (rest : List PlainToken) → Fits is_member member_height n m
      → more_members reads done (member_tokens m ++ rest) ≡ Go (made (λ b. done ++ b ∷ []) (reads (member_tokens m ++ rest)))
  unfolding more_members
  line_goes done m rest fit = at_first NoStorage (λ w. more_members reads done w ≡ Go (made (λ b. done ++ b ∷ []) (reads w)))
      (member_tokens m ++ rest) (begins_on NoStorage (member_tokens m) rest (line_starts m fit))
      (λ t more absent. ap (λ b. cond b Stop (Go (made (λ b. done ++ b ∷ []) (reads (t ∷ more))))) absent.no_brace)

  line_longer : (m : Member) → Fits is_member member_height n m → 0 < length (member_tokens m)
  line_longer m fit = at_first NoStorage (λ w. 0 < length w) (member_tokens m) (line_starts m fit) (λ t more absent. omega arith)

  all_lines : (all : List Member) → list_all (λ fits. fits) (map is_member all) ≡ true → highest (map member_height all) ≤ n
      → AllOf (Fits is_member member_height n) all
  unfolding highest
  all_lines [] f h = tt
  all_lines (m ∷ all) f h =
      let both = and_parts _ _ f in
      (record { fits = both.0; high = omega (arith, h) }, all_lines all both.1 (omega (arith, h)))

  brace_stops : (rest : List PlainToken) (done : List Member) → more_members reads done (mark (codes "}") ∷ rest) ≡ Stop
  unfolding more_members is_mark
  brace_stops rest done = refl

  no_name_brace : (rest : List PlainToken) → name_at (mark (codes "{") ∷ rest) ≡ None
  unfolding name_at is_name
  no_name_brace rest = refl

  structure_complete : (text : Option (List ℕ)) (members : List Member) (rest : List PlainToken) → is_free_or_absent text ≡ true
      → AllOf (Fits is_member member_height n) members
      → structure reads ((name_tokens text ++ (mark (codes "{") ∷ (joined (map member_tokens members) ++ mark (codes "}") ∷ [])))
      ++ rest) ≡ Some (kind.Struct text members, rest)
  unfolding structure after_mark is_mark
  structure_complete text members rest free fit =
      ap (structure reads) (append_assoc (name_tokens text)
      (mark (codes "{") ∷ (joined (map member_tokens members) ++ mark (codes "}") ∷ [])) rest
      ∙ ap (λ w. name_tokens text ++ (mark (codes "{") ∷ w))
      (append_assoc (joined (map member_tokens members)) (mark (codes "}") ∷ []) rest))
      ∙ ap (λ (p : Option (List ℕ) × List PlainToken). past (after_mark (codes "{") p.1)
      (λ rest. after (looped (more_members reads) [] rest)
      (λ members rest. past (after_mark (codes "}") rest) (λ rest. Some (kind.Struct p.0 members, rest)))))
      (optional_name_complete text (mark (codes "{") ∷ (joined (map member_tokens members) ++ (mark (codes "}") ∷ rest))) free
      (no_name_brace (joined (map member_tokens members) ++ (mark (codes "}") ∷ rest))))
      ∙ ap (λ r. after r (λ members rest. past (after_mark (codes "}") rest) (λ rest. Some (kind.Struct text members, rest))))
      (joined_complete reads (more_members reads) member_tokens (Fits is_member member_height n) (λ list. Unit {0})
      (λ m rest fit any. complete m rest fit) (λ m rest fit. tt) line_longer line_goes members (mark (codes "}") ∷ rest) fit tt
      (brace_stops rest))

  abbrev ReadsType : List PlainToken → Bool → ℕ → TypeSpecifier → Type 0
  ReadsType tokens fits height k = fits ≡ true → height ≤ suc n → (rest : List PlainToken) → type_of reads (tokens ++ rest)
      ≡ Some (k, rest)

  rolled_as : (r : Option (TypeSpecifier × List PlainToken)) (k j : TypeSpecifier) (rest : List PlainToken) → j ≡ k → r
      ≡ Some (k, rest) → r ≡ Some (j, rest)
  rolled_as r k j rest same is = is ∙ ap (λ x. Some (x, rest)) (sym same)

  basic_complete : (a : Basic) (rest : List PlainToken) → type_of reads (word (basic_text a) ∷ rest) ≡ Some (kind.Basic a, rest)
  unfolding type_of is_word type_word basic_of
  basic_complete basic.Float rest = refl
  basic_complete basic.Int rest = refl
  basic_complete basic.Bool rest = refl
  basic_complete basic.Vec2 rest = refl
  basic_complete basic.Vec3 rest = refl
  basic_complete basic.Vec4 rest = refl
  basic_complete basic.IVec2 rest = refl
  basic_complete basic.IVec3 rest = refl
  basic_complete basic.IVec4 rest = refl
  basic_complete basic.BVec2 rest = refl
  basic_complete basic.BVec3 rest = refl
  basic_complete basic.BVec4 rest = refl
  basic_complete basic.Mat2 rest = refl
  basic_complete basic.Mat3 rest = refl
  basic_complete basic.Mat4 rest = refl
  basic_complete basic.Sampler2D rest = refl
  basic_complete basic.SamplerCube rest = refl

  void_complete : (rest : List PlainToken) → type_of reads (word (codes "void") ∷ rest) ≡ Some (kind.Void, rest)
  unfolding type_of is_word type_word basic_of
  void_complete rest = refl

  named_complete : (text : List ℕ) (rest : List PlainToken) → is_free text ≡ true → type_of reads (name text ∷ rest)
      ≡ Some (kind.Name text, rest)
  unfolding type_of is_word type_word basic_of is_name
  named_complete text rest free = ap (λ b. alone (cond b (Some (kind.Name text)) None) rest) free

  struct_complete : (list : List PlainToken) → type_of reads (word (codes "struct") ∷ list) ≡ structure reads list
  unfolding type_of is_word
  struct_complete list = refl

  type_layer : (x : TypeSpecifier-F TypeSpecifier Member) → ReadsType (tokens_of x) (fits_of x) (height_of x) (roll-TypeSpecifier x)
  type_layer (TypeSpecifier-F.Basic a) fits high rest = rolled_as _ (kind.Basic a) _ rest (kind.rolls-Basic a) (basic_complete a rest)
  type_layer TypeSpecifier-F.Void fits high rest = rolled_as _ kind.Void _ rest kind.rolls-Void (void_complete rest)
  type_layer (TypeSpecifier-F.Name text) fits high rest =
      rolled_as _ (kind.Name text) _ rest (kind.rolls-Name text) (named_complete text rest fits)
  type_layer (TypeSpecifier-F.Struct text members) fits high rest =
      rolled_as _ (kind.Struct text members) _ rest (kind.rolls-Struct text members)
      (struct_complete _ ∙ structure_complete text members rest (and_parts _ _ fits).0
      (all_lines members (and_parts _ _ fits).1 (omega (arith, high))))

  type_of_complete : CompleteTypes (suc n) (type_of reads)
  type_of_complete k rest fit = from_layers ReadsType type_layer k fit.fits fit.high rest

line_has_height : (m : Member) → 1 ≤ member_height m
line_has_height m = omega (arith, (line m).high)

-- each well-formed type, and each line of members, of at most this height is read whole
pub record TypesComplete (n : ℕ) : Type 0 where
  pub types : CompleteTypes n (type_specifier n)
  pub lines : CompleteLines n (member n)

pub types_complete : (n : ℕ) → TypesComplete n
unfolding type_specifier member
types_complete zero = record {
  types = λ k rest fit. absurd (omega (arith, fit.high, has_height k));
  lines = λ m rest fit. absurd
      (omega (arith, fit.high, line_has_height m));
}
types_complete (suc n) = record {
  types = type_of_complete n (member n) (types_complete n).lines;
  lines = member_of_complete n
      (type_specifier n) (types_complete n).types;
}

pub full_type_complete : (room : ℕ) (full : FullType) (rest : List PlainToken) → Fits is_full_type full_type_height room full
    → full_type room (full_type_tokens full ++ rest) ≡ Some (full, rest)
unfolding full_type
full_type_complete zero full rest fit = absurd (omega (arith, fit.high))
full_type_complete (suc n) full rest fit =
    ap (full_type (suc n)) (append_assoc (storage_tokens full.storage) (precision_tokens full.precision ++ type_tokens full.kind) rest
    ∙ ap (λ w. storage_tokens full.storage ++ w) (append_assoc (precision_tokens full.precision) (type_tokens full.kind) rest))
    ∙ ap (λ (s : Option Storage × List PlainToken). made (qualified s.0 (precision_at s.1).0) (type_specifier n (precision_at s.1).1))
    (storage_complete full.storage (precision_tokens full.precision ++ (type_tokens full.kind ++ rest))
    (qualified_starts full.precision full.kind rest fit.fits))
    ∙ ap (λ (p : Option Precision × List PlainToken). made (qualified full.storage p.0) (type_specifier n p.1))
    (precision_complete full.precision (type_tokens full.kind ++ rest)
    (begins_as BeginsType NoPrecision _ (no_precision_before full.precision)
    (begins_on BeginsType (type_tokens full.kind) rest (type_starts full.kind fit.fits))))
    ∙ ap (made (qualified full.storage full.precision))
    ((types_complete n).types full.kind rest (record { fits = fit.fits; high = omega (arith, fit.high) }))
