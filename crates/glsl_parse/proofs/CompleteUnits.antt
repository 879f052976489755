-- The spelling of a well-formed shader is read as that shader.
use Rattle.std.proofs.Common.{◌≡◌, ◌≤◌, ◌<◌, ◌+◌, ℕ, zero, suc, true, List, [], ◌∷◌, ◌++◌, map, length, Some, codes, refl, sym, ap, ◌∙◌, append_assoc, arith}
use Rattle.std.specs.List.{list_all}
use Rattle.std.proofs.lemmas.List.{append-nil}
use Rattle.std.proofs.lemmas.Bool.{and_parts}
use Rattle.glsl_tree.specs.declared.statements.Stmt.{Stmt}
use Rattle.glsl_tree.specs.declared.statements.Item.{Item}
use Rattle.glsl_tree.specs.declared.statements.Item.TheVariants as item
use Rattle.glsl_tree.specs.declared.declarations.Head.{Head}
use Rattle.glsl_tree.specs.declared.declarations.Decl.{Decl}
use Rattle.glsl_tree.specs.declared.declarations.Decl.TheVariants as declaration
use Rattle.glsl_tree.specs.Expressions.{mark, highest}
use Rattle.glsl_tree.specs.Types.{joined, is_any}
use Rattle.glsl_tree.specs.Declarations.{head_tokens, declaration_tokens, is_declaration, declaration_height}
use Rattle.glsl_tree.specs.Statements.{block_tokens, item_tokens, is_block, is_item, block_height, item_height}
use Rattle.glsl_tree.specs.Token.{PlainToken}
use Rattle.glsl_parse.specs.Readings.{after, made, Stop, Go, looped}
use Rattle.glsl_parse.specs.Symbols.{is_mark, after_mark}
use Rattle.glsl_parse.specs.DeclarationReadings.{begun_at}
use Rattle.glsl_parse.specs.StatementReadings.{statement_at, body_at, function_after, headed_item, ended_item, item_at, more_items, items_at}
use Rattle.glsl_parse.proofs.SoundItems.{Fits, all_from}
use Rattle.glsl_parse.proofs.SoundStatements.{braced_tokens}
use Rattle.glsl_parse.proofs.CompleteJoined.{BeginsWith, begins_on, at_first, joined_complete}
use Rattle.glsl_parse.proofs.DeclarationStarts.{Leads, full_leads}
use Rattle.glsl_parse.proofs.CompleteDeclarations.{headed_complete, default_complete, invariant_complete, variables_whole, declaration_leads}
use Rattle.glsl_parse.proofs.CompleteStatements.{statements_complete, statement_complete}

body_complete : (room : ℕ) (body : List Stmt) (rest : List PlainToken) → is_block body ≡ true → block_height body ≤ room
    → body_at room (braced_tokens body ++ rest) ≡ Some (body, rest)
unfolding body_at
body_complete zero body rest fits high = absurd (omega arith)
body_complete (suc n) body rest fits high =
    statements_complete n (statement_at n) (statement_complete n) body rest fits (omega (arith, high))

function_complete : (n : ℕ) (head : Head) (body : List Stmt) (rest : List PlainToken) → is_block body ≡ true → block_height body ≤ n
    → headed_item n head (mark (codes "{") ∷ (braced_tokens body ++ rest)) ≡ Some (item.Function head body, rest)
unfolding headed_item function_after after_mark is_mark
function_complete n head body rest fits high = ap (made (item.Function head)) (body_complete n body rest fits high)

prototype_complete : (n : ℕ) (head : Head) (rest : List PlainToken) → headed_item n head (mark (codes ";") ∷ rest)
    ≡ Some (item.Declaration (declaration.Prototype head), rest)
unfolding headed_item after_mark is_mark
prototype_complete n head rest = refl

declared_complete : (n : ℕ) (d : Decl) (rest : List PlainToken) → Fits is_declaration declaration_height (suc n) d
    → after (begun_at n (declaration_tokens d ++ rest)) (ended_item n) ≡ Some (item.Declaration d, rest)
declared_complete n (declaration.Prototype head) rest fit =
    ap (λ list. after (begun_at n list) (ended_item n)) (append_assoc (head_tokens head) (mark (codes ";") ∷ []) rest)
    ∙ ap (λ r. after r (ended_item n)) (headed_complete n head (mark (codes ";") ∷ rest) fit.fits (omega (arith, fit.high)))
    ∙ prototype_complete n head rest
declared_complete n (declaration.Precision p k) rest fit =
    ap (λ r. after r (ended_item n)) (default_complete n p k rest fit.fits (omega (arith, fit.high)))
declared_complete n (declaration.Invariant names) rest fit = let both =
    and_parts _ _ fit.fits in ap (λ r. after r (ended_item n)) (invariant_complete n names rest both.0 both.1)
declared_complete n (declaration.Variables full all) rest fit = ap (λ r. after r (ended_item n)) (variables_whole n full all rest fit)

item_positive : (i : Item) → 1 ≤ item_height i
item_positive (item.Declaration (declaration.Prototype head)) = omega arith
item_positive (item.Declaration (declaration.Precision p k)) = omega arith
item_positive (item.Declaration (declaration.Invariant names)) = omega arith
item_positive (item.Declaration (declaration.Variables full all)) = omega arith
item_positive (item.Function head body) = omega arith

item_complete : (room : ℕ) (i : Item) (rest : List PlainToken) → Fits is_item item_height room i
    → item_at room (item_tokens i ++ rest) ≡ Some (i, rest)
unfolding item_at
item_complete zero i rest fit = absurd (omega (arith, fit.high, item_positive i))
item_complete (suc n) (item.Declaration d) rest fit = declared_complete n d rest (record { fits = fit.fits; high = fit.high })
item_complete (suc n) (item.Function head body) rest fit =
    let both = and_parts _ _ fit.fits in
    ap (λ list. after (begun_at n list) (ended_item n)) (append_assoc (head_tokens head) (block_tokens body) rest)
    ∙ ap (λ r. after r (ended_item n)) (headed_complete n head (mark (codes "{") ∷ (braced_tokens body ++ rest)) both.0
    (omega (arith, fit.high)))
    ∙ function_complete n head body rest both.1 (omega (arith, fit.high))

item_leads : (i : Item) → is_item i ≡ true → BeginsWith Leads (item_tokens i)
item_leads (item.Declaration d) fits = declaration_leads d fits
item_leads (item.Function head body) fits =
    begins_on Leads (head_tokens head) (block_tokens body) (full_leads head.full_type _ (and_parts _ _ (and_parts _ _ fits).0).0)

item_longer : (n : ℕ) (i : Item) → Fits is_item item_height n i → 0 < length (item_tokens i)
item_longer n i fit = at_first Leads (λ w. 0 < length w) (item_tokens i) (item_leads i fit.fits) (λ t more l. omega arith)

item_goes : (n : ℕ) (done : List Item) (i : Item) (rest : List PlainToken) → Fits is_item item_height n i
    → more_items n done (item_tokens i ++ rest) ≡ Go (made (λ b. done ++ b ∷ []) (item_at n (item_tokens i ++ rest)))
unfolding more_items
item_goes n done i rest fit = at_first Leads (λ w. more_items n done w ≡ Go (made (λ b. done ++ b ∷ []) (item_at n w)))
    (item_tokens i ++ rest) (begins_on Leads (item_tokens i) rest (item_leads i fit.fits)) (λ t more l. refl)

nothing_stops : (n : ℕ) (done : List Item) → more_items n done [] ≡ Stop
unfolding more_items
nothing_stops n done = refl

some_items : (n : ℕ) (list : List PlainToken) → BeginsWith Leads list → items_at n list ≡ looped (more_items n) [] list
unfolding items_at
some_items n list b = at_first Leads (λ w. items_at n w ≡ looped (more_items n) [] w) list b (λ t more l. refl)

pub items_complete : (n : ℕ) (items : List Item) → is_any items ≡ true → list_all is_item items ≡ true
    → highest (map item_height items) ≤ n → items_at n (joined (map item_tokens items)) ≡ Some (items, [])
items_complete n [] any fits high = absurd cc
items_complete n (first ∷ others) any fits high =
    some_items n (joined (map item_tokens (first ∷ others)))
    (begins_on Leads (item_tokens first) (joined (map item_tokens others)) (item_leads first (and_parts _ _ fits).0))
    ∙ ap (looped (more_items n) []) (sym (append-nil (joined (map item_tokens (first ∷ others)))))
    ∙ joined_complete (item_at n) (more_items n) item_tokens (Fits is_item item_height n) (λ list. Unit {0})
    (λ i rest fit any. item_complete n i rest fit) (λ i rest fit. tt) (item_longer n) (item_goes n)
    (first ∷ others) [] (all_from is_item item_height n (first ∷ others) fits high) tt (nothing_stops n)
