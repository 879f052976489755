-- What is read as a type is a well-formed type that spells the tokens.
use Rattle.std.proofs.Common.{◌≡◌, ◌≤◌, ◌⊎◌, inl, inr, ◌+◌, ℕ, zero, suc, Bool, true, false, cond, List, [], ◌∷◌, ◌++◌, map, Option, Some, None, codes, refl, sym, ap, ◌∙◌, subst, append_assoc, arith}
use Rattle.std.specs.List.{list_all}
use Rattle.std.proofs.lemmas.Bool.{and_from}
use Rattle.glsl_tree.specs.declared.declarations.SizedName.{SizedName}
use Rattle.glsl_tree.specs.declared.declarations.TypeSpecifier.{TypeSpecifier}
use Rattle.glsl_tree.specs.declared.declarations.TypeSpecifier.TheVariants as kind
use Rattle.glsl_tree.specs.declared.declarations.TypeSpecifier.TheOpen.{TypeSpecifier-F}
use Rattle.glsl_tree.specs.declared.declarations.TypeSpecifier.TheViews.{roll-TypeSpecifier, roll-Member}
use Rattle.glsl_tree.specs.declared.declarations.Member.{Member}
use Rattle.glsl_tree.specs.declared.expressions.Expr.{Expr}
use Rattle.glsl_tree.specs.declared.qualifiers.Basic.{Basic}
use Rattle.glsl_tree.specs.declared.qualifiers.Precision.{Precision}
use Rattle.glsl_tree.specs.declared.qualifiers.Direction.{Direction}
use Rattle.glsl_tree.specs.declared.qualifiers.Storage.{Storage}
use Rattle.glsl_tree.specs.declared.qualifiers.Storage.TheVariants as storage
use Rattle.glsl_tree.specs.Operators.{conditional_level, prefix_level}
use Rattle.glsl_tree.specs.Expressions.{mark, word, name, separated, grade, is_expression, expression_tokens, expression_height}
use Rattle.glsl_tree.specs.Types.{joined, name_tokens, precision_tokens, direction_tokens, storage_words, storage_tokens, size_tokens, sized_tokens, type_tokens, member_tokens, is_free_or_absent, is_size, is_sized, is_type, is_member, size_height, type_height, member_height}
use Rattle.glsl_tree.specs.Declarations.{full_type_tokens, is_full_type, full_type_height}
use Rattle.glsl_tree.specs.Token.{PlainToken}
use Rattle.glsl_tree.specs.Statements.{without_line}
use Rattle.glsl_parse.specs.Readings.{Reads, made, Stop, Go, looped}
use Rattle.glsl_parse.specs.Symbols.{is_word, is_name, basic_of, precision_of, direction_of, after_mark, after_word, begins_with_mark, name_at}
use Rattle.glsl_parse.specs.ExpressionReadings.{expression, listed}
use Rattle.glsl_parse.specs.TypeReadings.{or_absent, first_or_absent, precision_at, direction_at, optional_name, storage_of, after_invariant_varying, word_storage_at, storage_at, size_after, optional_size, sized, sized_name, more_members, structure, type_word, alone, type_of, member_of, type_specifier, member, qualified, full_type}
use Rattle.glsl_parse.proofs.SoundReadings.{bare, OnRead, on_none, on_some, sound_after, sound_past, sound_made, sound_either, sound_found, sound_below}
use Rattle.glsl_parse.proofs.SoundSymbols.{is_word-true, is_name-true, is_name-free, mark_read, word_read, name_read, IsNameRead, basic_found, precision_found, direction_found}
use Rattle.glsl_parse.proofs.SoundLists.{AllOf, closed_by, IsItem, AreItems, listed_sound}
use Rattle.glsl_parse.proofs.SoundItems.{Fits, Sound, all_fit, all_high, any_of_items, AreJoined, joined_sound}
use Rattle.glsl_parse.proofs.SoundExpressions.{expression_sound, stands_is}
use Rattle.glsl_parse.proofs.TypeNodes.{tokens_of, fits_of, height_of, node, line}

-- an expression of a level, and of at most this height
pub expression_item : (n level : ℕ) → level ≤ prefix_level
    → Sound expression_tokens (is_expression level) expression_height n (expression n level)
expression_item n level low list = record {
  given = λ e rest f.
      let r = (expression_sound n level list low).given e rest f in
      record { spelled = r.spelled; good = record { fits = stands_is level (grade e) r.fits r.level; high = r.high } };
}

pub precision_allowed : (list : List PlainToken) → bare list ≡ precision_tokens (precision_at list).0 ++ bare (precision_at list).1
unfolding precision_at
precision_allowed [] = refl
precision_allowed (t ∷ rest) = go (precision_of t) refl
  where
    go : (o : Option Precision) → precision_of t ≡ o → bare (t ∷ rest)
        ≡ precision_tokens (first_or_absent o t rest).0 ++ bare (first_or_absent o t rest).1
    go None e = refl
    go (Some p) e = ap (λ w. w ∷ bare rest) (precision_found t p e)

pub direction_allowed : (list : List PlainToken) → bare list ≡ direction_tokens (direction_at list).0 ++ bare (direction_at list).1
unfolding direction_at
direction_allowed [] = refl
direction_allowed (t ∷ rest) = go (direction_of t) refl
  where
    go : (o : Option Direction) → direction_of t ≡ o → bare (t ∷ rest)
        ≡ direction_tokens (first_or_absent o t rest).0 ++ bare (first_or_absent o t rest).1
    go None e = refl
    go (Some p) e = ap (λ w. w ∷ bare rest) (direction_found t p e)

-- a name that may be left out
pub record NameAllowed (list : List PlainToken) (text : Option (List ℕ)) (rest : List PlainToken) : Type 0 where
  pub spelled : bare list ≡ name_tokens text ++ bare rest
  pub free : is_free_or_absent text ≡ true

pub name_allowed : (list : List PlainToken) → NameAllowed list (optional_name list).0 (optional_name list).1
unfolding optional_name
name_allowed list = go (name_at list) refl
  where
    go : (o : Option (List ℕ × List PlainToken)) → name_at list ≡ o → NameAllowed list (or_absent o list).0 (or_absent o list).1
    go None e = record { spelled = refl; free = refl }
    go (Some found) e = let k = name_read list found.0 found.1 e in record { spelled = k.spelled; free = k.free }

storage_found : (t : PlainToken) (s : Storage) → storage_of t ≡ Some s → without_line t ∷ [] ≡ storage_words s
unfolding storage_of
storage_found t s e = go (is_word (codes "const") t) refl (is_word (codes "attribute") t) refl (is_word (codes "varying") t) refl
    (is_word (codes "uniform") t) refl e
  where
    found : (text : List ℕ) (r : Storage) → is_word text t ≡ true → Some r ≡ Some s → word text ∷ [] ≡ storage_words r
        → without_line t ∷ [] ≡ storage_words s
    found text r m f words = let same : r ≡ s = cc in ap (λ w. w ∷ []) (is_word-true text t m) ∙ words ∙ ap storage_words same

    go : (a : Bool) → is_word (codes "const") t ≡ a → (b : Bool) → is_word (codes "attribute") t ≡ b → (c : Bool)
        → is_word (codes "varying") t ≡ c → (d : Bool) → is_word (codes "uniform") t ≡ d
        → cond a (Some storage.Const) (cond b (Some storage.Attribute)
        (cond c (Some storage.Varying) (cond d (Some storage.Uniform) None))) ≡ Some s
        → without_line t ∷ [] ≡ storage_words s
    go true m b n c o d p e = found (codes "const") storage.Const m e refl
    go false m true n c o d p e = found (codes "attribute") storage.Attribute n e refl
    go false m false n true o d p e = found (codes "varying") storage.Varying o e refl
    go false m false n false o true p e = found (codes "uniform") storage.Uniform p e refl
    go false m false n false o false p e = absurd cc

word_storage_allowed : (list : List PlainToken) → bare list ≡ storage_tokens (word_storage_at list).0 ++ bare (word_storage_at list).1
word_storage_allowed [] = refl
word_storage_allowed (t ∷ rest) = go (storage_of t) refl
  where
    go : (o : Option Storage) → storage_of t ≡ o → bare (t ∷ rest)
        ≡ storage_tokens (first_or_absent o t rest).0 ++ bare (first_or_absent o t rest).1
    go None e = refl
    go (Some s) e = ap (λ w. w ++ bare rest) (storage_found t s e)

invariant_varying : (list rest : List PlainToken) → after_invariant_varying list ≡ Some rest → bare list
    ≡ word (codes "invariant") ∷ word (codes "varying") ∷ bare rest
unfolding after_invariant_varying
invariant_varying list rest e = go (after_word (codes "invariant") list) refl e
  where
    go : (o : Option (List PlainToken)) → after_word (codes "invariant") list ≡ o
        → elim o [ Some rest ↦ after_word (codes "varying") rest | None ↦ None ] ≡ Some rest
        → bare list ≡ word (codes "invariant") ∷ word (codes "varying") ∷ bare rest
    go None f e = absurd cc
    go (Some mid) f e = word_read (codes "invariant") list mid f
        ∙ ap (λ w. word (codes "invariant") ∷ w) (word_read (codes "varying") mid rest e)

pub storage_allowed : (list : List PlainToken) → bare list ≡ storage_tokens (storage_at list).0 ++ bare (storage_at list).1
unfolding storage_at
storage_allowed list = go (after_invariant_varying list) refl
  where
    both : Option (List PlainToken) → Option Storage × List PlainToken
    both o = elim o [ Some rest ↦ (Some storage.InvariantVarying, rest) | None ↦ word_storage_at list ]

    go : (o : Option (List PlainToken)) → after_invariant_varying list ≡ o
        → bare list ≡ storage_tokens (elim o as (λ x. Option Storage × List PlainToken)
        [ Some rest ↦ (Some storage.InvariantVarying, rest) | None ↦ word_storage_at list ]).0
        ++ bare (elim o as (λ x. Option Storage × List PlainToken) [
          | Some rest ↦ (Some storage.InvariantVarying, rest)
          | None ↦ word_storage_at list
        ]).1
    go None e = word_storage_allowed list
    go (Some rest) e = invariant_varying list rest e

-- a size, after its bracket
pub size_after_sound : (n : ℕ) (list : List PlainToken)
    → OnRead (λ e rest. IsItem size_tokens (Fits is_size size_height (suc n)) (mark (codes "[") ∷ bare list) (Some e) rest)
    (size_after n list)
unfolding size_after
size_after_sound n list = sound_after (IsItem expression_tokens (Fits (is_expression conditional_level) expression_height n)
    (bare list)) Q (expression n conditional_level list) _
    (expression_item n conditional_level (omega arith) list)
    (λ size mid i. sound_past Q (after_mark (codes "]") mid) _ (λ rest f. on_some Q size rest (record {
      spelled = ap (λ w. mark (codes "[") ∷ w)
          (closed_by (bare list) (expression_tokens size) (bare mid) (bare rest) (mark (codes "]")) i.spelled
          (mark_read (codes "]") mid rest f));
      good = record { fits = i.good.fits; high = omega (arith, i.good.high) };
    })))
  where
    Q : Expr → List PlainToken → Type 0
    Q e rest = IsItem size_tokens (Fits is_size size_height (suc n)) (mark (codes "[") ∷ bare list) (Some e) rest

pub optional_size_sound : (room : ℕ) → Sound size_tokens is_size size_height room (optional_size room)
unfolding optional_size
optional_size_sound room list = sound_found P (after_mark (codes "[") list) _ _
    (λ mid e. sound_below P room _ (λ n f. sound_made P Some (size_after n mid) (record {
      given = λ size rest g.
          let r = (size_after_sound n mid).given size rest g in
          record {
            spelled = mark_read (codes "[") list mid e
                ∙ r.spelled;
            good = record { fits = r.good.fits; high = subst (λ m. size_height (Some size) ≤ m) (sym f) r.good.high };
          };
    })))
    (λ none. on_some P None list (record { spelled = refl; good = record { fits = refl; high = omega arith } }))
  where
    P : Option Expr → List PlainToken → Type 0
    P size rest = IsItem size_tokens (Fits is_size size_height room) (bare list) size rest

abbrev pub sized_height : SizedName → ℕ
sized_height s = size_height s.size

pub sized_name_sound : (n : ℕ) → Sound sized_tokens is_sized sized_height n (sized_name n)
unfolding sized_name
sized_name_sound n list = sound_after (IsNameRead list) (IsItem sized_tokens (Fits is_sized sized_height n) (bare list))
    (name_at list) _ (record { given = λ text rest f. name_read list text rest f }) (λ text mid k.
    sound_made (IsItem sized_tokens (Fits is_sized sized_height n) (bare list)) (sized text) (optional_size n mid)
    (record {
      given = λ size rest f.
          let r = (optional_size_sound n mid).given size rest f in
          record {
            spelled = k.spelled ∙ ap (λ w. name text ∷ w) r.spelled;
            good = record
                { fits = and_from _ _ k.free r.good.fits; high = r.good.high };
          };
    }))

module _ (n : ℕ) (reads : Reads Member) (sound : Sound member_tokens is_member member_height n reads) where
  members_take : (done : List Member) (list : List PlainToken)
      → (more_members reads done list ≡ Stop) ⊎ (more_members reads done list ≡ Go (made (λ m. done ++ m ∷ []) (reads list)))
  unfolding more_members
  members_take done list = go (begins_with_mark (codes "}") list)
    where
      go : (b : Bool) → (cond b Stop (Go (made (λ m. done ++ m ∷ []) (reads list))) ≡ Stop)
          ⊎ (cond b Stop (Go (made (λ m. done ++ m ∷ []) (reads list))) ≡ Go (made (λ m. done ++ m ∷ []) (reads list)))
      go true = inl refl
      go false = inr refl

  lines_fit : (all : List Member) → AllOf (Fits is_member member_height n) all → list_all (λ fits. fits) (map is_member all) ≡ true
  lines_fit [] h = refl
  lines_fit (m ∷ all) h = and_from _ _ h.0.fits (lines_fit all h.1)

  abbrev IsType : List PlainToken → TypeSpecifier → List PlainToken → Type 0
  IsType all k rest = IsItem type_tokens (Fits is_type type_height (suc n)) all k rest

  is_item : (all rest : List PlainToken) (x : TypeSpecifier-F TypeSpecifier Member) (k : TypeSpecifier) → roll-TypeSpecifier x ≡ k
      → all ≡ tokens_of x ++ bare rest → fits_of x ≡ true → height_of x ≤ suc n → IsType all k rest
  is_item all rest x k is spelled fits high =
      let m = node x k is in
      record {
        spelled = spelled ∙ ap (λ w. w ++ bare rest) (sym m.spelled);
        good = record {
          fits = m.fits
              ∙ fits;
          high = subst (λ h. h ≤ suc n) (sym m.high) high;
        };
      }

  structure_sound : (list : List PlainToken) → OnRead (IsType (word (codes "struct") ∷ bare list)) (structure reads list)
  unfolding structure
  structure_sound list =
      let named = name_allowed list in
      sound_past (IsType (word (codes "struct") ∷ bare list)) (after_mark (codes "{") (optional_name list).1) _ (λ mid e.
      sound_after (AreJoined member_tokens (Fits is_member member_height n) (bare mid)) (IsType (word (codes "struct") ∷ bare list))
      (looped (more_members reads) [] mid) _
      (joined_sound member_tokens (Fits is_member member_height n) reads (more_members reads) members_take sound mid)
      (λ members end r.
      sound_past (IsType (word (codes "struct") ∷ bare list)) (after_mark (codes "}") end) _ (λ rest f.
      on_some (IsType (word (codes "struct") ∷ bare list)) (kind.Struct (optional_name list).0 members) rest
      (is_item (word (codes "struct") ∷ bare list) rest (TypeSpecifier-F.Struct (optional_name list).0 members)
      (kind.Struct (optional_name list).0 members) (kind.rolls-Struct (optional_name list).0 members)
      (ap (λ w. word (codes "struct") ∷ w) (named.spelled
      ∙ ap (λ w. name_tokens (optional_name list).0 ++ w) (mark_read (codes "{") (optional_name list).1 mid e
      ∙ ap (λ w. mark (codes "{") ∷ w) (closed_by (bare mid) (joined (map member_tokens members)) (bare end) (bare rest)
      (mark (codes "}")) r.spelled (mark_read (codes "}") end rest f)))
      ∙ sym (append_assoc (name_tokens (optional_name list).0)
      (mark (codes "{") ∷ (joined (map member_tokens members) ++ mark (codes "}") ∷ [])) (bare rest))))
      (and_from _ _ named.free (lines_fit members r.good))
      (omega (arith, all_high is_member member_height n members r.good))))))

  alone_sound : (t : PlainToken) (list : List PlainToken) → OnRead (IsType (without_line t ∷ bare list)) (alone (type_word t) list)
  unfolding type_word
  alone_sound t list = go (basic_of t) refl (is_word (codes "void") t) refl (is_name t) refl
    where
      go : (o : Option Basic) → basic_of t ≡ o → (v : Bool) → is_word (codes "void") t ≡ v → (m : Bool) → is_name t ≡ m
          → OnRead (IsType (without_line t ∷ bare list)) (alone (elim o [
            | Some basic ↦ Some (kind.Basic basic)
            | None ↦ cond v (Some kind.Void) (cond m (Some (kind.Name t.text)) None)
          ]) list)
      go (Some basic) e v f m g = on_some (IsType (without_line t ∷ bare list)) (kind.Basic basic) list
          (is_item (without_line t ∷ bare list) list (TypeSpecifier-F.Basic basic) (kind.Basic basic) (kind.rolls-Basic basic)
          (ap (λ w. w ∷ bare list) (basic_found t basic e)) refl (omega arith))
      go None e true f m g = on_some (IsType (without_line t ∷ bare list)) kind.Void list
          (is_item (without_line t ∷ bare list) list TypeSpecifier-F.Void kind.Void kind.rolls-Void
          (ap (λ w. w ∷ bare list) (is_word-true (codes "void") t f)) refl (omega arith))
      go None e false f true g = on_some (IsType (without_line t ∷ bare list)) (kind.Name t.text) list
          (is_item (without_line t ∷ bare list) list (TypeSpecifier-F.Name t.text) (kind.Name t.text) (kind.rolls-Name t.text)
          (ap (λ w. w ∷ bare list) (is_name-true t g)) (is_name-free t g) (omega arith))
      go None e false f false g = on_none (IsType (without_line t ∷ bare list))

  pub type_of_sound : Sound type_tokens is_type type_height (suc n) (type_of reads)
  unfolding type_of
  type_of_sound [] = on_none (IsType [])
  type_of_sound (t ∷ list) = sound_either (IsType (bare (t ∷ list))) (is_word (codes "struct") t) (structure reads list)
      (alone (type_word t) list)
      (λ e. record {
        given = λ k rest f.
            let r = (structure_sound list).given k rest f in
            record { spelled = ap (λ w. w ∷ bare list) (is_word-true (codes "struct") t e) ∙ r.spelled; good = r.good };
      })
      (λ e. alone_sound t list)

-- a line of members
pub member_of_sound : (n : ℕ) (kinds : Reads TypeSpecifier) → Sound type_tokens is_type type_height n kinds
    → Sound member_tokens is_member member_height (suc n) (member_of n kinds)
unfolding member_of
member_of_sound n kinds sound list =
    sound_after (IsItem type_tokens (Fits is_type type_height n) (bare (precision_at list).1)) P (kinds (precision_at list).1) _
    (sound (precision_at list).1) (λ k mid i.
    sound_after (AreItems sized_tokens (Fits is_sized sized_height n) (bare mid)) P (listed (sized_name n) mid) _
    (listed_sound sized_tokens (Fits is_sized sized_height n) (sized_name n) (sized_name_sound n) mid) (λ names end r.
    sound_past P (after_mark (codes ";") end) _
    (λ rest f. on_some P (line_of (precision_at list).0 k names) rest (made_line k mid i names end r rest f))))
  where
    P : Member → List PlainToken → Type 0
    P m rest = IsItem member_tokens (Fits is_member member_height (suc n)) (bare list) m rest

    line_of : Option Precision → TypeSpecifier → List SizedName → Member
    line_of precision k names = roll-Member (record { precision = precision; kind = k; names = names })

    made_line : (k : TypeSpecifier) (mid : List PlainToken)
        → IsItem type_tokens (Fits is_type type_height n) (bare (precision_at list).1) k mid
        → (names : List SizedName) (end : List PlainToken) → AreItems sized_tokens (Fits is_sized sized_height n) (bare mid) names end
        → (rest : List PlainToken) → after_mark (codes ";") end ≡ Some rest
        → IsItem member_tokens (Fits is_member member_height (suc n)) (bare list) (line_of (precision_at list).0 k names) rest
    made_line k mid i names end r rest f =
        let m = line (line_of (precision_at list).0 k names) in
        record {
          spelled = precision_allowed list
              ∙ ap (λ w. precision_tokens (precision_at list).0 ++ w) (i.spelled
              ∙ ap (λ w. type_tokens k ++ w) (closed_by (bare mid) (separated (map sized_tokens names)) (bare end) (bare rest)
              (mark (codes ";")) r.spelled (mark_read (codes ";") end rest f))
              ∙ sym (append_assoc (type_tokens k) (separated (map sized_tokens names) ++ mark (codes ";") ∷ []) (bare rest)))
              ∙ sym (append_assoc (precision_tokens (precision_at list).0)
              (type_tokens k ++ (separated (map sized_tokens names) ++ mark (codes ";") ∷ [])) (bare rest))
              ∙ ap (λ w. w ++ bare rest) (sym m.spelled);
          good = record {
            fits = m.fits ∙ and_from _ _ i.good.fits
                (and_from _ _ (any_of_items sized_tokens (Fits is_sized sized_height n) (bare mid) names end r)
                (all_fit is_sized sized_height n names r.good));
            high = omega (arith, m.high, i.good.high, all_high is_sized sized_height n names r.good);
          };
        }

-- what is read as a type or as a line of members is one
pub record TypesSound (n : ℕ) : Type 0 where
  pub types : Sound type_tokens is_type type_height n (type_specifier n)
  pub lines : Sound member_tokens is_member member_height n (member n)

pub types_sound : (n : ℕ) → TypesSound n
unfolding type_specifier member
types_sound zero = record { types = λ list. on_none _; lines = λ list. on_none _ }
types_sound (suc n) = record {
  types = type_of_sound n (member n) (types_sound n).lines;
  lines = member_of_sound n (type_specifier n)
      (types_sound n).types;
}

pub full_type_sound : (room : ℕ) → Sound full_type_tokens is_full_type full_type_height room (full_type room)
unfolding full_type
full_type_sound room list =
    let storage = storage_at list in
    let precision = precision_at storage.1 in
    sound_below (IsItem full_type_tokens (Fits is_full_type full_type_height room) (bare list)) room _ (λ n e.
    sound_made (IsItem full_type_tokens (Fits is_full_type full_type_height room) (bare list)) (qualified storage.0 precision.0)
    (type_specifier n precision.1) (record {
      given = λ k rest f.
          let r = ((types_sound n).types precision.1).given k rest f in
          record {
            spelled = storage_allowed list
                ∙ ap (λ w. storage_tokens (storage_at list).0 ++ w) (precision_allowed (storage_at list).1
                ∙ ap (λ w. precision_tokens (precision_at (storage_at list).1).0 ++ w) r.spelled
                ∙ sym (append_assoc (precision_tokens (precision_at (storage_at list).1).0) (type_tokens k) (bare rest)))
                ∙ sym (append_assoc (storage_tokens (storage_at list).0) (precision_tokens (precision_at (storage_at list).1).0
                ++ type_tokens k) (bare rest));
            good = record { fits = r.good.fits; high = subst (λ m. type_height k + 1 ≤ m) (sym e) (omega (arith, r.good.high)) };
          };
    }))
