-- What is read as a shader is a well-formed shader that spells all of the tokens.
use Rattle.std.proofs.Common.{◌≡◌, ◌≤◌, ◌⊎◌, inl, inr, ◌+◌, ℕ, suc, true, List, [], ◌∷◌, ◌++◌, map, codes, refl, sym, ap, ◌∙◌, subst, append_assoc, arith}
use Rattle.std.specs.List.{list_all}
use Rattle.std.proofs.lemmas.List.{append-nil}
use Rattle.std.proofs.lemmas.Bool.{and_from}
use Rattle.glsl_tree.specs.declared.statements.Item.{Item}
use Rattle.glsl_tree.specs.declared.statements.Item.TheVariants as item
use Rattle.glsl_tree.specs.declared.declarations.Head.{Head}
use Rattle.glsl_tree.specs.declared.declarations.Decl.TheVariants as declaration
use Rattle.glsl_tree.specs.Expressions.{mark, highest}
use Rattle.glsl_tree.specs.Types.{joined, is_any}
use Rattle.glsl_tree.specs.Declarations.{head_tokens, is_head, head_height}
use Rattle.glsl_tree.specs.Statements.{block_tokens, item_tokens, is_block, is_item, block_height, item_height}
use Rattle.glsl_tree.specs.Token.{PlainToken}
use Rattle.glsl_parse.specs.declared.symbols.Begun.{Begun}
use Rattle.glsl_parse.specs.declared.symbols.Begun.TheVariants as begun
use Rattle.glsl_parse.specs.Readings.{after, made, Stop, Go}
use Rattle.glsl_parse.specs.Symbols.{after_mark}
use Rattle.glsl_parse.specs.DeclarationReadings.{begun_at}
use Rattle.glsl_parse.specs.StatementReadings.{statement_at, body_at, function_after, headed_item, ended_item, item_at, more_items, items_at}
use Rattle.glsl_parse.proofs.SoundReadings.{bare, OnRead, on_none, on_some, sound_after, sound_past, sound_made, sound_found, sound_below, looped_stops}
use Rattle.glsl_parse.proofs.SoundSymbols.{mark_read}
use Rattle.glsl_parse.proofs.SoundLists.{closed_by, IsItem}
use Rattle.glsl_parse.proofs.SoundItems.{Fits, Sound, all_fit, all_high, joined_sound}
use Rattle.glsl_parse.proofs.SoundDeclarations.{begun_tokens, is_begun, begun_height, begun_sound}
use Rattle.glsl_parse.proofs.SoundStatements.{braced_tokens, statements_sound, statement_sound}

body_sound : (room : ℕ) → Sound braced_tokens is_block block_height room (body_at room)
unfolding body_at
body_sound room list = sound_below (IsItem braced_tokens (Fits is_block block_height room) (bare list)) room _
    (λ n e. record {
      given = λ all rest f.
          let r = (statements_sound n (statement_at n) (statement_sound n) list).given all rest f in
          record {
            spelled = r.spelled;
            good = record
                { fits = r.good.fits; high = subst (λ m. block_height all ≤ m) (sym e) (omega (arith, r.good.high)) };
          };
    })

-- a function is read after its head
function_sound : (n : ℕ) (all : List PlainToken) (head : Head) (list : List PlainToken)
    → IsItem head_tokens (Fits is_head head_height n) all head list
    → OnRead (IsItem item_tokens (Fits is_item item_height (suc n)) all) (function_after n head list)
unfolding function_after
function_sound n all head list i = sound_past P (after_mark (codes "{") list) _
    (λ mid e. sound_made P (item.Function head) (body_at n mid) (record {
      given = λ body rest f.
          let r = (body_sound n mid).given body rest f in
          record {
            spelled = i.spelled ∙ ap (λ w. head_tokens head ++ w) (mark_read (codes "{") list mid e
                ∙ ap (λ w. mark (codes "{") ∷ w) r.spelled) ∙ sym (append_assoc (head_tokens head) (block_tokens body) (bare rest));
            good = record { fits = and_from _ _ i.good.fits r.good.fits; high = omega (arith, i.good.high, r.good.high) };
          };
    }))
  where
    P : Item → List PlainToken → Type 0
    P x rest = IsItem item_tokens (Fits is_item item_height (suc n)) all x rest

ended_item_sound : (n : ℕ) (all : List PlainToken) (b : Begun) (list : List PlainToken)
    → IsItem begun_tokens (Fits is_begun begun_height (suc n)) all b list
    → OnRead (IsItem item_tokens (Fits is_item item_height (suc n)) all) (ended_item n b list)
unfolding headed_item
ended_item_sound n all (begun.Whole d) list i =
    on_some _ (item.Declaration d) list (record { spelled = i.spelled; good = record { fits = i.good.fits; high = i.good.high } })
ended_item_sound n all (begun.Headed head) list i =
    sound_found (IsItem item_tokens (Fits is_item item_height (suc n)) all) (after_mark (codes ";") list) _ _
    (λ rest e. on_some (IsItem item_tokens (Fits is_item item_height (suc n)) all) (item.Declaration (declaration.Prototype head))
    rest (record {
      spelled = closed_by all (head_tokens head) (bare list) (bare rest) (mark (codes ";")) i.spelled (mark_read (codes ";") list rest e);
      good = record { fits = i.good.fits; high = i.good.high };
    }))
    (λ none. function_sound n all head list (record
    { spelled = i.spelled; good = record { fits = i.good.fits; high = omega (arith, i.good.high) } }))

pub item_sound : (room : ℕ) → Sound item_tokens is_item item_height room (item_at room)
unfolding item_at
item_sound room list = sound_below (IsItem item_tokens (Fits is_item item_height room) (bare list)) room _ (λ n e.
    subst (λ m. OnRead (IsItem item_tokens (Fits is_item item_height m) (bare list)) (after (begun_at n list) (ended_item n))) (sym e)
    (sound_after (IsItem begun_tokens (Fits is_begun begun_height (suc n)) (bare list))
    (IsItem item_tokens (Fits is_item item_height (suc n)) (bare list)) (begun_at n list) (ended_item n) (begun_sound n list)
    (λ b mid i. ended_item_sound n (bare list) b mid i)))

items_take : (n : ℕ) (done : List Item) (list : List PlainToken)
    → (more_items n done list ≡ Stop) ⊎ (more_items n done list ≡ Go (made (λ i. done ++ i ∷ []) (item_at n list)))
unfolding more_items
items_take n done [] = inl refl
items_take n done (t ∷ rest) = inr refl

only_at_the_end : (n : ℕ) (done : List Item) (list : List PlainToken) → more_items n done list ≡ Stop → list ≡ []
unfolding more_items
only_at_the_end n done [] e = refl
only_at_the_end n done (t ∷ rest) e = absurd cc

-- a shader of which each part has at most this height, and nothing follows it
pub record IsUnit (n : ℕ) (all : List PlainToken) (items : List Item) (rest : List PlainToken) : Type 0 where
  pub spelled : all ≡ joined (map item_tokens items)
  pub any : is_any items ≡ true
  pub fits : list_all is_item items ≡ true
  pub high : highest (map item_height items) ≤ n
  pub nothing : rest ≡ []

some_items : (t : PlainToken) (list rest : List PlainToken) (items : List Item) → rest ≡ [] → bare (t ∷ list)
    ≡ joined (map item_tokens items) ++ bare rest → is_any items ≡ true
some_items t list rest [] none e = let same : bare rest ≡ [] = ap bare none in absurd cc
some_items t list rest (first ∷ more) none e = refl

pub items_sound : (n : ℕ) (list : List PlainToken) → OnRead (IsUnit n (bare list)) (items_at n list)
unfolding items_at
items_sound n [] = on_none (IsUnit n [])
items_sound n (t ∷ list) = record {
  given = λ items rest f.
      let r = (joined_sound item_tokens (Fits is_item item_height n) (item_at n) (more_items n) (items_take n) (item_sound n)
      (t ∷ list)).given items rest f in
      let none = only_at_the_end n items rest (looped_stops (more_items n) [] items (t ∷ list) rest f) in
      record {
        spelled = r.spelled ∙ ap (λ w. joined (map item_tokens items) ++ bare w) none ∙ append-nil (joined (map item_tokens items));
        any = some_items t list rest items none r.spelled;
        fits = all_fit is_item item_height n items r.good;
        high = all_high is_item item_height n items r.good;
        nothing = none;
      };
}
