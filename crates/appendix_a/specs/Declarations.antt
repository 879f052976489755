-- The expressions of types and declarations in source order: array sizes and values.
use Rattle.std.specs.Prelude.{ℕ, List, [], ◌∷◌, map, Option, Some, None, Result, Ok}
use Rattle.glsl_tree.specs.declared.declarations.TypeSpecifier.{TypeSpecifier}
use Rattle.glsl_tree.specs.declared.declarations.TypeSpecifier.TheOpen.{TypeSpecifier-F, Member-F}
use Rattle.glsl_tree.specs.declared.declarations.TypeSpecifier.TheFolds.{fold-TypeSpecifier, fold-Member}
use Rattle.glsl_tree.specs.declared.declarations.Member.{Member}
use Rattle.glsl_tree.specs.declared.declarations.Declarator.{Declarator}
use Rattle.glsl_tree.specs.declared.declarations.Declarator.TheVariants as declarator
use Rattle.glsl_tree.specs.declared.declarations.Parameter.{Parameter}
use Rattle.glsl_tree.specs.declared.declarations.Head.{Head}
use Rattle.glsl_tree.specs.declared.declarations.Decl.{Decl}
use Rattle.glsl_tree.specs.declared.declarations.Decl.TheVariants as declaration
use Rattle.glsl_tree.specs.declared.expressions.Expr.{Expr}
use Rattle.appendix_a.specs.Ahead.{Ahead}
use Rattle.appendix_a.specs.Rules.{and_then}
use Rattle.appendix_a.specs.Names.{listed}
use Rattle.appendix_a.specs.Site.{Site}
use Rattle.appendix_a.specs.Expressions.{expression}

-- what a part of a shader comes to in a place: the facts of what comes after it, or the first rule that is broken
abbrev pub Passage : Type 0
Passage = Site → Ahead → Result Ahead ℕ

-- parts in order
abbrev pub in_order : List Passage → Passage
in_order [] site a = Ok a
in_order (first ∷ more) site a = and_then (first site a) λ after. in_order more site after

-- nothing
abbrev pub nothing : Passage
nothing site a = Ok a

-- one part and another
abbrev pub both : Passage → Passage → Passage
both first second site a = and_then (first site a) λ after. second site after

-- an expression
abbrev pub passed : Expr → Passage
passed e site a = and_then (expression e site a) λ f. Ok f.1

-- an expression that may be left out
abbrev pub optional : Option Expr → Passage
optional None = nothing
optional (Some e) = passed e

-- a type whose members come to this
abbrev pub type_layer : TypeSpecifier-F Passage Passage → Passage
type_layer (TypeSpecifier-F.Struct name members) = in_order members
type_layer _ = nothing

abbrev pub member_layer : Member-F Passage Passage → Passage
member_layer m = both m.kind (in_order (map (λ sized. optional sized.size) m.names))

-- a type: the sizes of its members (section 4.1.8)
unfoldable pub specifier : TypeSpecifier → Passage
specifier = fold-TypeSpecifier Passage Passage type_layer member_layer

-- a line of members
unfoldable pub member : Member → Passage
member = fold-Member Passage Passage type_layer member_layer

-- a declarator (sections 4.1.9 and 4.3)
abbrev pub declarator_passage : Declarator → Passage
declarator_passage (declarator.Name name) = nothing
declarator_passage (declarator.Array name size) = passed size
declarator_passage (declarator.Initialized name value) = passed value

-- a parameter (section 6.1.1)
abbrev pub parameter_passage : Parameter → Passage
parameter_passage p = both (specifier p.kind) (optional p.size)

-- a function's head (section 6.1)
abbrev pub head_passage : Head → Passage
head_passage h = both (specifier h.full_type.kind) (in_order (map parameter_passage (listed h.parameters)))

-- a declaration
abbrev pub declaration_passage : Decl → Passage
declaration_passage (declaration.Prototype h) = head_passage h
declaration_passage (declaration.Precision precision kind) = specifier kind
declaration_passage (declaration.Invariant names) = nothing
declaration_passage (declaration.Variables full declarators) = both (specifier full.kind) (in_order (map declarator_passage declarators))
