-- What is read as a declaration is a well-formed declaration that spells the tokens.
use Rattle.std.proofs.Common.{◌≡◌, ◌≤◌, ◌+◌, ℕ, suc, max, Bool, true, false, not, ◌||◌, cond, List, [], ◌∷◌, ◌++◌, map, Option, Some, None, codes, refl, sym, ap, ◌∙◌, subst, append_assoc, arith}
use Rattle.std.specs.List.{list_all}
use Rattle.std.proofs.lemmas.Bool.{and_from, leb-true}
use Rattle.glsl_tree.specs.declared.declarations.TypeSpecifier.{TypeSpecifier}
use Rattle.glsl_tree.specs.declared.declarations.FullType.{FullType}
use Rattle.glsl_tree.specs.declared.declarations.Declarator.{Declarator}
use Rattle.glsl_tree.specs.declared.declarations.Declarator.TheVariants as declarator
use Rattle.glsl_tree.specs.declared.declarations.Parameter.{Parameter}
use Rattle.glsl_tree.specs.declared.declarations.Parameters.{Parameters}
use Rattle.glsl_tree.specs.declared.declarations.Parameters.TheVariants as parameters
use Rattle.glsl_tree.specs.declared.declarations.Head.{Head}
use Rattle.glsl_tree.specs.declared.declarations.Decl.{Decl}
use Rattle.glsl_tree.specs.declared.declarations.Decl.TheVariants as declaration
use Rattle.glsl_tree.specs.declared.expressions.Expr.{Expr}
use Rattle.glsl_tree.specs.declared.qualifiers.Precision.{Precision}
use Rattle.glsl_tree.specs.declared.qualifiers.Direction.{Direction}
use Rattle.glsl_tree.specs.Operators.{assignment_level}
use Rattle.glsl_tree.specs.Qualifiers.{precision_text}
use Rattle.glsl_tree.specs.Expressions.{mark, word, name, separated, is_free, highest}
use Rattle.glsl_tree.specs.Types.{name_tokens, precision_tokens, direction_tokens, size_tokens, type_tokens, is_size, is_any, is_type, size_height, type_height}
use Rattle.glsl_tree.specs.Declarations.{full_type_tokens, declarator_tokens, constant_tokens, parameter_tokens, parameters_tokens, head_tokens, one_name, declaration_tokens, is_full_type, is_declarator, is_void_alone, is_parameter, are_parameters, is_head, begins_with_name, is_declaration, full_type_height, declarator_height, parameter_height, parameters_height, head_height, declaration_height}
use Rattle.glsl_tree.specs.Token.{PlainToken}
use Rattle.glsl_parse.specs.declared.symbols.Begun.{Begun}
use Rattle.glsl_parse.specs.declared.symbols.Begun.TheVariants as begun
use Rattle.glsl_parse.specs.Readings.{after}
use Rattle.glsl_parse.specs.Symbols.{precision_of, after_mark, after_word, begins_with_mark, name_at}
use Rattle.glsl_parse.specs.ExpressionReadings.{expression, listed}
use Rattle.glsl_parse.specs.TypeReadings.{precision_at, direction_at, optional_name, size_after, optional_size, type_specifier, full_type}
use Rattle.glsl_parse.specs.DeclarationReadings.{declarator_of, declarator_at, declarators, constant_at, unless_void, parameter_of, parameter_at, after_void, listed_parameters, parameters_at, begins_head, full_fits, headed, parameters_after, head_after, is_declared, variables_after, begun_after, precision_declared, invariant_declared, after_invariant, begun_at, ended, declaration_at}
use Rattle.glsl_parse.proofs.SoundReadings.{bare, OnRead, on_none, on_some, sound_after, sound_past, sound_made, sound_chosen, sound_either, sound_found, sound_below}
use Rattle.glsl_parse.proofs.SoundSymbols.{mark_read, word_read, name_read, IsNameRead, precision_found}
use Rattle.glsl_parse.proofs.SoundLists.{closed_by, IsItem, AreItems, listed_sound}
use Rattle.glsl_parse.proofs.SoundItems.{Fits, Sound, all_fit, all_high, any_of_items}
use Rattle.glsl_parse.proofs.SoundTypes.{expression_item, precision_allowed, direction_allowed, name_allowed, size_after_sound, optional_size_sound, types_sound, full_type_sound}

declarator_of_sound : (n : ℕ) (text : List ℕ) (list : List PlainToken) → is_free text ≡ true
    → OnRead (IsItem declarator_tokens (Fits is_declarator declarator_height (suc n)) (name text ∷ bare list)) (declarator_of n text list)
unfolding declarator_of
declarator_of_sound n text list free =
    sound_found P (after_mark (codes "[") list) _ _
    (λ mid e. sound_below P n _ (λ m f. sound_made P (declarator.Array text) (size_after m mid) (record {
      given = λ size rest g.
          let r = (size_after_sound m mid).given size rest g in
          record {
            spelled = ap (λ w. name text ∷ w) (mark_read (codes "[") list mid e ∙ r.spelled);
            good = record {
              fits = and_from _ _ free r.good.fits;
              high = subst (λ k. size_height (Some size) + 1 ≤ suc k) (sym f)
                  (omega (arith, r.good.high));
            };
          };
    })))
    (λ none. sound_found P (after_mark (codes "=") list) _ _
    (λ mid e. sound_made P (declarator.Initialized text) (expression n assignment_level mid) (record {
      given = λ value rest g.
          let r = (expression_item n assignment_level (omega arith) mid).given value rest g in
          record {
            spelled = ap (λ w. name text ∷ w) (mark_read (codes "=") list mid e ∙ ap (λ w. mark (codes "=") ∷ w) r.spelled);
            good = record { fits = and_from _ _ free r.good.fits; high = omega (arith, r.good.high) };
          };
    }))
    (λ nor. on_some P (declarator.Name text) list (record { spelled = refl; good = record { fits = free; high = omega arith } })))
  where
    P : Declarator → List PlainToken → Type 0
    P d rest = IsItem declarator_tokens (Fits is_declarator declarator_height (suc n)) (name text ∷ bare list) d rest

declarator_sound : (n : ℕ) → Sound declarator_tokens is_declarator declarator_height (suc n) (declarator_at n)
unfolding declarator_at
declarator_sound n list = sound_after (IsNameRead list)
    (IsItem declarator_tokens (Fits is_declarator declarator_height (suc n)) (bare list)) (name_at list) (declarator_of n)
    (record { given = λ text rest f. name_read list text rest f }) (λ text mid k. record {
      given = λ d rest g.
          let r = (declarator_of_sound n text mid k.free).given d rest g in
          record { spelled = k.spelled ∙ r.spelled; good = r.good };
    })

-- the tokens, the fitness and the height of the declarators of a declaration
abbrev pub all_declarator_tokens : List Declarator → List PlainToken
all_declarator_tokens all = separated (map declarator_tokens all)

abbrev pub are_declarators : List Declarator → Bool
are_declarators all = list_all is_declarator all

abbrev pub declarators_height : List Declarator → ℕ
declarators_height all = highest (map declarator_height all)

declarators_sound : (room : ℕ) → Sound all_declarator_tokens are_declarators declarators_height room (declarators room)
unfolding declarators highest
declarators_sound room list = sound_either P (begins_with_mark (codes ";") list) _ _
    (λ e. on_some P [] list (record { spelled = refl; good = record { fits = refl; high = omega arith } }))
    (λ e. sound_below P room _ (λ n f. record {
      given = λ all rest g.
          let r = (listed_sound declarator_tokens (Fits is_declarator declarator_height (suc n)) (declarator_at n) (declarator_sound n)
          list).given all rest g in
          record {
            spelled = r.spelled;
            good = record {
              fits = all_fit is_declarator declarator_height (suc n) all r.good;
              high = subst (λ k. highest (map declarator_height all) ≤ k) (sym f)
                  (all_high is_declarator declarator_height (suc n) all r.good);
            };
          };
    }))
  where
    P : List Declarator → List PlainToken → Type 0
    P all rest = IsItem all_declarator_tokens (Fits are_declarators declarators_height room) (bare list) all rest

constant_allowed : (list : List PlainToken) → bare list ≡ constant_tokens (constant_at list).0 ++ bare (constant_at list).1
unfolding constant_at
constant_allowed list = go (after_word (codes "const") list) refl
  where
    go : (o : Option (List PlainToken)) → after_word (codes "const") list ≡ o
        → bare list ≡ constant_tokens (elim o as (λ x. Bool × List PlainToken) [ Some rest ↦ (true, rest) | None ↦ (false, list) ]).0
        ++ bare (elim o as (λ x. Bool × List PlainToken) [ Some rest ↦ (true, rest) | None ↦ (false, list) ]).1
    go None e = refl
    go (Some rest) e = word_read (codes "const") list rest e

-- a parameter that is not `void` alone
unless_void_sound : (P : Parameter → List PlainToken → Type 0) (r : Option (Parameter × List PlainToken))
    → OnRead (λ p rest. not (is_void_alone p) ≡ true → P p rest) r → OnRead P (unless_void r)
unless_void_sound P None h = on_none P
unless_void_sound P (Some found) h = go (is_void_alone found.0) refl
  where
    go : (b : Bool) → is_void_alone found.0 ≡ b → OnRead P (cond b None (Some found))
    go true e = on_none P
    go false e = on_some P found.0 found.1 (h.given found.0 found.1 refl (ap not e))

parameter_sound : (n : ℕ) → Sound parameter_tokens is_parameter parameter_height (suc n) (parameter_at n)
unfolding parameter_at
parameter_sound n list =
    unless_void_sound P _ (sound_after (IsItem type_tokens (Fits is_type type_height n) (bare precision.1)) Q
    (type_specifier n precision.1) _ ((types_sound n).types precision.1) (λ k mid i.
    sound_made Q (parameter_of constant.0 direction.0 precision.0 k (optional_name mid).0) (optional_size n (optional_name mid).1)
    (record {
      given = λ size rest f.
          made_parameter k mid i size rest ((optional_size_sound n (optional_name mid).1).given size rest f);
    })))
  where
    constant : Bool × List PlainToken
    constant = constant_at list

    direction : Option Direction × List PlainToken
    direction = direction_at constant.1

    precision : Option Precision × List PlainToken
    precision = precision_at direction.1

    P : Parameter → List PlainToken → Type 0
    P p rest = IsItem parameter_tokens (Fits is_parameter parameter_height (suc n)) (bare list) p rest

    Q : Parameter → List PlainToken → Type 0
    Q p rest = not (is_void_alone p) ≡ true → P p rest

    made_parameter : (k : TypeSpecifier) (mid : List PlainToken)
        → IsItem type_tokens (Fits is_type type_height n) (bare precision.1) k mid → (size : Option Expr) (rest : List PlainToken)
        → IsItem size_tokens (Fits is_size size_height n) (bare (optional_name mid).1) size rest
        → Q (parameter_of constant.0 direction.0 precision.0 k (optional_name mid).0 size) rest
    made_parameter k mid i size rest r no_void = record {
      spelled = constant_allowed list
          ∙ ap (λ w. constant_tokens constant.0 ++ w) (direction_allowed constant.1
          ∙ ap (λ w. direction_tokens direction.0 ++ w) (precision_allowed direction.1
          ∙ ap (λ w. precision_tokens precision.0 ++ w) (i.spelled
          ∙ ap (λ w. type_tokens k ++ w) ((name_allowed mid).spelled
          ∙ ap (λ w. name_tokens (optional_name mid).0 ++ w) r.spelled
          ∙ sym (append_assoc (name_tokens (optional_name mid).0) (size_tokens size) (bare rest)))
          ∙ sym (append_assoc (type_tokens k) (name_tokens (optional_name mid).0 ++ size_tokens size) (bare rest)))
          ∙ sym (append_assoc (precision_tokens precision.0)
          (type_tokens k ++ (name_tokens (optional_name mid).0 ++ size_tokens size)) (bare rest)))
          ∙ sym (append_assoc (direction_tokens direction.0)
          (precision_tokens precision.0 ++ (type_tokens k ++ (name_tokens (optional_name mid).0 ++ size_tokens size)))
          (bare rest)))
          ∙ sym (append_assoc (constant_tokens constant.0)
          (direction_tokens direction.0 ++ (precision_tokens precision.0
          ++ (type_tokens k ++ (name_tokens (optional_name mid).0 ++ size_tokens size)))) (bare rest));
      good = record {
        fits = and_from _ _ i.good.fits (and_from _ _ (name_allowed mid).free (and_from _ _ r.good.fits no_void));
        high = omega (arith, i.good.high, r.good.high);
      };
    }

-- what stands in the brackets of a head, with the bracket that closes it
abbrev pub closed_tokens : Parameters → List PlainToken
closed_tokens all = parameters_tokens all ++ mark (codes ")") ∷ []

listed_parameters_sound : (room : ℕ) → Sound closed_tokens are_parameters parameters_height room (listed_parameters room)
unfolding listed_parameters
listed_parameters_sound room list = sound_below P room _ (λ n e.
    sound_after (AreItems parameter_tokens (Fits is_parameter parameter_height (suc n)) (bare list)) P (listed (parameter_at n) list) _
    (listed_sound parameter_tokens (Fits is_parameter parameter_height (suc n)) (parameter_at n) (parameter_sound n) list) (λ all mid r.
    sound_past P (after_mark (codes ")") mid) _ (λ rest f. on_some P (parameters.Listed all) rest (record {
      spelled = closed_by (bare list) (separated (map parameter_tokens all)) (bare mid) (bare rest) (mark (codes ")")) r.spelled
          (mark_read (codes ")") mid rest f);
      good = record {
        fits = all_fit is_parameter parameter_height (suc n) all r.good;
        high = subst (λ k. highest (map parameter_height all) ≤ k) (sym e)
            (all_high is_parameter parameter_height (suc n) all r.good);
      };
    }))))
  where
    P : Parameters → List PlainToken → Type 0
    P p rest = IsItem closed_tokens (Fits are_parameters parameters_height room) (bare list) p rest

void_read : (list rest : List PlainToken) → after_void list ≡ Some rest → bare list ≡ word (codes "void") ∷ mark (codes ")") ∷ bare rest
unfolding after_void
void_read list rest e = go (after_word (codes "void") list) refl e
  where
    go : (o : Option (List PlainToken)) → after_word (codes "void") list ≡ o
        → elim o [ Some rest ↦ after_mark (codes ")") rest | None ↦ None ] ≡ Some rest
        → bare list ≡ word (codes "void") ∷ mark (codes ")") ∷ bare rest
    go None f e = absurd cc
    go (Some mid) f e = word_read (codes "void") list mid f ∙ ap (λ w. word (codes "void") ∷ w) (mark_read (codes ")") mid rest e)

parameters_sound : (room : ℕ) → Sound closed_tokens are_parameters parameters_height room (parameters_at room)
unfolding parameters_at highest
parameters_sound room list = sound_found P (after_mark (codes ")") list) _ _
    (λ rest e. on_some P (parameters.Listed []) rest
    (record { spelled = mark_read (codes ")") list rest e; good = record { fits = refl; high = omega arith } }))
    (λ none. sound_found P (after_void list) _ _
    (λ rest e. on_some P parameters.Void rest
    (record { spelled = void_read list rest e; good = record { fits = refl; high = omega arith } }))
    (λ nor. listed_parameters_sound room list))
  where
    P : Parameters → List PlainToken → Type 0
    P p rest = IsItem closed_tokens (Fits are_parameters parameters_height room) (bare list) p rest

head_sound : (room : ℕ) (full : FullType) (list : List PlainToken) → is_full_type full ≡ true
    → OnRead (IsItem head_tokens (Fits is_head head_height room) (full_type_tokens full ++ bare list)) (head_after room full list)
unfolding head_after parameters_after
head_sound room full list fits = sound_after (IsNameRead list) P (name_at list) _
    (record { given = λ text rest f. name_read list text rest f }) (λ text mid k.
    sound_past P (after_mark (codes "(") mid) _ (λ next e. sound_below P room _ (λ n f. sound_chosen P (full_fits n full) _ (λ low.
    sound_made P (headed full text) (parameters_at n next) (record {
      given = λ all rest g.
          let r = (parameters_sound n next).given all rest g in
          record {
            spelled = ap (λ w. full_type_tokens full ++ w) (k.spelled
                ∙ ap (λ w. name text ∷ w) (mark_read (codes "(") mid next e ∙ ap (λ w. mark (codes "(") ∷ w) r.spelled))
                ∙ sym (append_assoc (full_type_tokens full) (name text ∷ mark (codes "(") ∷ closed_tokens all) (bare rest));
            good = record {
              fits = and_from _ _ fits (and_from _ _ k.free r.good.fits);
              high = subst (λ m. max (full_type_height full) (parameters_height all) + 1 ≤ m) (sym f)
                  (omega (arith, leb-true (full_type_height full) n low, r.good.high));
            };
          };
    })))))
  where
    P : Head → List PlainToken → Type 0
    P head rest = IsItem head_tokens (Fits is_head head_height room) (full_type_tokens full ++ bare list) head rest

declared_fits : (full : FullType) (all : List Declarator) → is_declared full all ≡ true → (is_any all || not (begins_with_name full))
    ≡ true
unfolding is_declared
declared_fits full [] e = e
declared_fits full (d ∷ more) e = refl

variables_sound : (n : ℕ) (full : FullType) (list : List PlainToken) → Fits is_full_type full_type_height n full
    → OnRead (IsItem declaration_tokens (Fits is_declaration declaration_height (suc n)) (full_type_tokens full ++ bare list))
    (variables_after n full list)
unfolding variables_after
variables_sound n full list fit = sound_after (IsItem all_declarator_tokens (Fits are_declarators declarators_height n) (bare list)) P
    (declarators n list) _ (declarators_sound n list) (λ all mid r.
    sound_past P (after_mark (codes ";") mid) _
    (λ rest e. sound_chosen P (is_declared full all) _ (λ declared. on_some P (declaration.Variables full all) rest (record {
      spelled = ap (λ w. full_type_tokens full ++ w)
          (closed_by (bare list) (separated (map declarator_tokens all)) (bare mid) (bare rest) (mark (codes ";")) r.spelled
          (mark_read (codes ";") mid rest e))
          ∙ sym (append_assoc (full_type_tokens full) (separated (map declarator_tokens all) ++ mark (codes ";") ∷ []) (bare rest));
      good = record {
        fits = and_from _ _ fit.fits (and_from _ _ r.good.fits (declared_fits full all declared));
        high = omega (arith, fit.high, r.good.high);
      };
    }))))
  where
    P : Decl → List PlainToken → Type 0
    P d rest = IsItem declaration_tokens (Fits is_declaration declaration_height (suc n)) (full_type_tokens full ++ bare list) d rest

-- the tokens, the fitness and the height of what has begun
abbrev pub begun_tokens : Begun → List PlainToken
begun_tokens (begun.Headed head) = head_tokens head
begun_tokens (begun.Whole d) = declaration_tokens d

abbrev pub is_begun : Begun → Bool
is_begun (begun.Headed head) = is_head head
is_begun (begun.Whole d) = is_declaration d

abbrev pub begun_height : Begun → ℕ
begun_height (begun.Headed head) = head_height head + 1
begun_height (begun.Whole d) = declaration_height d

begun_after_sound : (n : ℕ) (full : FullType) (list : List PlainToken) → Fits is_full_type full_type_height n full
    → OnRead (IsItem begun_tokens (Fits is_begun begun_height (suc n)) (full_type_tokens full ++ bare list)) (begun_after n full list)
unfolding begun_after
begun_after_sound n full list fit = sound_either P (begins_head list) _ _
    (λ e. sound_made P begun.Headed (head_after n full list) (record {
      given = λ head rest f.
          let r = (head_sound n full list fit.fits).given head rest f in
          record { spelled = r.spelled; good = record { fits = r.good.fits; high = omega (arith, r.good.high) } };
    }))
    (λ e. sound_made P begun.Whole (variables_after n full list) (record {
      given = λ d rest f.
          let r = (variables_sound n full list fit).given d rest f in
          record { spelled = r.spelled; good = record { fits = r.good.fits; high = r.good.high } };
    }))
  where
    P : Begun → List PlainToken → Type 0
    P b rest = IsItem begun_tokens (Fits is_begun begun_height (suc n)) (full_type_tokens full ++ bare list) b rest

precision_declared_sound : (n : ℕ) (list : List PlainToken)
    → OnRead (IsItem declaration_tokens (Fits is_declaration declaration_height (suc n)) (word (codes "precision") ∷ bare list))
    (precision_declared n list)
unfolding precision_declared
precision_declared_sound n [] = on_none _
precision_declared_sound n (t ∷ list) = sound_found P (precision_of t) _ _
    (λ p e. sound_after (IsItem type_tokens (Fits is_type type_height n) (bare list)) P (type_specifier n list) _
    ((types_sound n).types list) (λ k mid i.
    sound_past P (after_mark (codes ";") mid) _ (λ rest f. on_some P (declaration.Precision p k) rest (record {
      spelled = ap (λ w. word (codes "precision") ∷ w ∷ bare list) (precision_found t p e)
          ∙ ap (λ w. word (codes "precision") ∷ word (precision_text p) ∷ w)
          (closed_by (bare list) (type_tokens k) (bare mid) (bare rest) (mark (codes ";")) i.spelled
          (mark_read (codes ";") mid rest f));
      good = record { fits = i.good.fits; high = omega (arith, i.good.high) };
    }))))
    (λ none. on_none P)
  where
    P : Decl → List PlainToken → Type 0
    P d rest = IsItem declaration_tokens (Fits is_declaration declaration_height (suc n)) (word (codes "precision") ∷ bare (t ∷ list))
        d rest

name_height : List ℕ → ℕ
name_height text = 0

free_name_sound : Sound one_name is_free name_height 0 name_at
unfolding name_height
free_name_sound list = record {
  given = λ text rest f. let k = name_read list text rest f in
      record { spelled = k.spelled; good = record { fits = k.free; high = omega arith } };
}

invariant_declared_sound : (n : ℕ) (list : List PlainToken)
    → OnRead (IsItem declaration_tokens (Fits is_declaration declaration_height (suc n)) (word (codes "invariant") ∷ bare list))
    (invariant_declared list)
unfolding invariant_declared
invariant_declared_sound n list = sound_after (AreItems one_name (Fits is_free name_height 0) (bare list)) P (listed name_at list) _
    (listed_sound one_name (Fits is_free name_height 0) name_at free_name_sound list) (λ names mid r.
    sound_past P (after_mark (codes ";") mid) _ (λ rest f. on_some P (declaration.Invariant names) rest (record {
      spelled = ap (λ w. word (codes "invariant") ∷ w)
          (closed_by (bare list) (separated (map one_name names)) (bare mid) (bare rest) (mark (codes ";")) r.spelled
          (mark_read (codes ";") mid rest f));
      good = record {
        fits = and_from _ _ (any_of_items one_name (Fits is_free name_height 0) (bare list) names mid r)
            (all_fit is_free name_height 0 names r.good);
        high = omega arith;
      };
    })))
  where
    P : Decl → List PlainToken → Type 0
    P d rest = IsItem declaration_tokens (Fits is_declaration declaration_height (suc n)) (word (codes "invariant") ∷ bare list) d rest

invariant_read : (list rest : List PlainToken) → after_invariant list ≡ Some rest → bare list ≡ word (codes "invariant") ∷ bare rest
unfolding after_invariant
invariant_read list rest e = go (after_word (codes "invariant") list) refl e
  where
    inside : (mid : List PlainToken) (o : Option (List PlainToken)) → elim o [ None ↦ Some mid | Some more ↦ None ] ≡ Some rest → mid
        ≡ rest
    inside mid None e = cc
    inside mid (Some more) e = absurd cc

    go : (o : Option (List PlainToken)) → after_word (codes "invariant") list ≡ o
        → elim o [ None ↦ None | Some rest ↦ elim (after_word (codes "varying") rest) [ None ↦ Some rest | Some more ↦ None ] ]
        ≡ Some rest → bare list ≡ word (codes "invariant") ∷ bare rest
    go None f e = absurd cc
    go (Some mid) f e = word_read (codes "invariant") list mid f
        ∙ ap (λ w. word (codes "invariant") ∷ bare w) (inside mid (after_word (codes "varying") mid) e)

pub begun_sound : (n : ℕ) → Sound begun_tokens is_begun begun_height (suc n) (begun_at n)
unfolding begun_at
begun_sound n list = sound_found P (after_word (codes "precision") list) _ _
    (λ mid e. sound_made P begun.Whole (precision_declared n mid) (record {
      given = λ d rest f.
          let r = (precision_declared_sound n mid).given d rest f in
          record {
            spelled = word_read (codes "precision") list mid e
                ∙ r.spelled;
            good = record { fits = r.good.fits; high = r.good.high };
          };
    }))
    (λ none. sound_found P (after_invariant list) _ _
    (λ mid e. sound_made P begun.Whole (invariant_declared mid) (record {
      given = λ d rest f.
          let r = (invariant_declared_sound n mid).given d rest f in
          record { spelled = invariant_read list mid e ∙ r.spelled; good = record { fits = r.good.fits; high = r.good.high } };
    }))
    (λ nor. sound_after (IsItem full_type_tokens (Fits is_full_type full_type_height n) (bare list)) P (full_type n list)
    (begun_after n) (full_type_sound n list) (λ full mid i.
    record {
      given = λ b rest f.
          let r = (begun_after_sound n full mid i.good).given b rest f in
          record { spelled = i.spelled ∙ r.spelled; good = r.good };
    })))
  where
    P : Begun → List PlainToken → Type 0
    P b rest = IsItem begun_tokens (Fits is_begun begun_height (suc n)) (bare list) b rest

ended_sound : (n : ℕ) (all : List PlainToken) (b : Begun) (list : List PlainToken)
    → IsItem begun_tokens (Fits is_begun begun_height n) all b list
    → OnRead (IsItem declaration_tokens (Fits is_declaration declaration_height n) all) (ended b list)
ended_sound n all (begun.Whole d) list i =
    on_some _ d list (record { spelled = i.spelled; good = record { fits = i.good.fits; high = i.good.high } })
ended_sound n all (begun.Headed head) list i =
    sound_past (IsItem declaration_tokens (Fits is_declaration declaration_height n) all) (after_mark (codes ";") list) _
    (λ rest e.
    on_some (IsItem declaration_tokens (Fits is_declaration declaration_height n) all) (declaration.Prototype head) rest (record {
      spelled = closed_by all (head_tokens head) (bare list) (bare rest) (mark (codes ";")) i.spelled (mark_read (codes ";") list rest e);
      good = record { fits = i.good.fits; high = i.good.high };
    }))

pub declaration_sound : (room : ℕ) → Sound declaration_tokens is_declaration declaration_height room (declaration_at room)
unfolding declaration_at
declaration_sound room list = sound_below P room _
    (λ n e. subst (λ m. OnRead (IsItem declaration_tokens (Fits is_declaration declaration_height m) (bare list))
    (after (begun_at n list) ended)) (sym e)
    (sound_after (IsItem begun_tokens (Fits is_begun begun_height (suc n)) (bare list))
    (IsItem declaration_tokens (Fits is_declaration declaration_height (suc n)) (bare list)) (begun_at n list) ended
    (begun_sound n list)
    (λ b mid i. ended_sound (suc n) (bare list) b mid i)))
  where
    P : Decl → List PlainToken → Type 0
    P d rest = IsItem declaration_tokens (Fits is_declaration declaration_height room) (bare list) d rest
