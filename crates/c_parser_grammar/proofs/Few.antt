-- The tree of a reading has at most two nodes for each token.
use Rattle.std.proofs.Common.{◌≡◌, ℕ, suc, ◌+◌, ◌*◌, ◌≤◌, List, [], ◌∷◌, ◌++◌, length, Option, Some, None, refl, length-append, arith}
use Rattle.c_lexer.specs.Pieces.{Lexeme}
use Rattle.c_tree.specs.declared.expressions.Expr.{Expr}
use Rattle.c_tree.specs.declared.types.BasicType.TheVariants as w
use Rattle.c_tree.specs.declared.types.TypeNode.{TypeNode}
use Rattle.c_tree.specs.declared.types.TypeNode as y
use Rattle.c_tree.specs.declared.types.TypeName.{TypeName}
use Rattle.c_tree.specs.declared.types.Parameter.{Parameter}
use Rattle.c_tree.specs.Nodes.{node_count, expr_node}
use Rattle.c_tree.specs.model.Parts.{parameter_node}
use Rattle.c_tree.proofs.Counts as n
use Rattle.c_tree.proofs.Counts.{expr_count, type_count, list_count}
use Rattle.c_parser_grammar.specs.declared.shapes.Shape.{Shape}
use Rattle.c_parser_grammar.specs.declared.shapes.Shape.TheVariants as sh
use Rattle.c_parser_grammar.specs.declared.shapes.DeclaredName.{DeclaredName}
use Rattle.c_parser_grammar.specs.declared.shapes.NameRequirement.{NameRequirement}
use Rattle.c_parser_grammar.specs.declared.shapes.Declarator.{Declarator}
use Rattle.c_parser_grammar.specs.Tokens.{TypeNames, token_place}
use Rattle.c_parser_grammar.specs.Types.{with_shapes, with_one_shape, parameter_by, lone_void, without_void, comma_of}
use Rattle.c_parser_grammar.specs.Grammar.{IsPlain, IsExpr, IsWhole, AreAssignments, AreArguments, IsTypeName, IsDeclarator, AreParameters, AreSomeParameters, IsParameter}
use Rattle.c_parser_grammar.proofs.First.{texts_first}
use Rattle.c_parser_grammar.proofs.ReadPlain.{plain_begins}

-- ---- shapes

abbrev pub shape_count : Shape → ℕ
shape_count sh.Pointer = 1
shape_count (sh.Array None) = 1
shape_count (sh.Array (Some v)) = 1 + expr_count v
shape_count (sh.Takes ps) = 1 + list_count parameter_node ps

abbrev pub shapes_count : List Shape → ℕ
shapes_count [] = 0
shapes_count (s ∷ ss) = shape_count s + shapes_count ss

-- a name counts with its declarator
abbrev pub name_count : Option DeclaredName → ℕ
name_count None = 0
name_count (Some u) = 2

shapes_more : (ss : List Shape) (s : Shape) → shapes_count (ss ++ s ∷ []) ≡ shapes_count ss + shape_count s
shapes_more [] s = let e : shape_count s + 0 ≡ 0 + shape_count s = omega arith in e
shapes_more (x ∷ xs) s = let i = shapes_more xs s in let e : shape_count x + shapes_count (xs ++ s ∷ []) ≡ (shape_count x + shapes_count xs) + shape_count s = omega arith in e

one_shape_count : (s : Shape) (ty : TypeNode) → type_count (with_one_shape s ty) ≡ shape_count s + type_count ty
one_shape_count sh.Pointer ty = let e = n.count-Pointer ty in omega arith
one_shape_count (sh.Array None) ty = let e = n.count-Array-None ty in omega arith
one_shape_count (sh.Array (Some v)) ty = let e = n.count-Array-Some ty v in omega arith
one_shape_count (sh.Takes ps) ty = let e = n.count-Takes ty ps in omega arith

pub shapes_round_count : (ss : List Shape) (ty : TypeNode) → type_count (with_shapes ss ty) ≡ shapes_count ss + type_count ty
shapes_round_count [] ty = let e : type_count ty ≡ 0 + type_count ty = omega arith in e
shapes_round_count (s ∷ ss) ty = let i = shapes_round_count ss ty in let c = one_shape_count s (with_shapes ss ty) in omega arith

pub plain_count : (s : TypeNames) {a : List Lexeme} {ty : TypeNode} → IsPlain s a ty → type_count ty ≡ 1
plain_count s (IsPlain.words a x b h e) = n.count-Basic b
plain_count s (IsPlain.type_name a t b h kind listed g) = n.count-Named _
plain_count s (IsPlain.struct a t v b h kind vk g) = n.count-Struct-None v.at _
plain_count s (IsPlain.enum a t v b h kind vk g) = n.count-Enum-None v.at _

parameter_count : (at : ℕ) (ty : TypeNode) (o : Option DeclaredName) → node_count (parameter_node (parameter_by at ty o)) ≡ suc (type_count ty + 0)
parameter_count at ty None = refl
parameter_count at ty (Some u) = refl

lone_count : (name : Option (List ℕ)) (ty : TypeNode) (ps : List Parameter) → list_count parameter_node (lone_void name ty ps) ≤ list_count parameter_node ps
lone_count None (y.Basic w.Void) ps = omega arith
lone_count None (y.Basic _) ps = omega arith
lone_count None _ ps = omega arith
lone_count (Some v) ty ps = omega arith

void_count : (ps : List Parameter) → list_count parameter_node (without_void ps) ≤ list_count parameter_node ps
void_count [] = omega arith
void_count (p ∷ []) = lone_count p.name p.ty (p ∷ [])
void_count (p ∷ q ∷ ps) = omega arith

comma_count : (at : ℕ) (vs : List Expr) → 1 ≤ length vs → expr_count (comma_of at vs) + 2 ≤ list_count expr_node vs + 2 * length vs
comma_count at [] some = absurd (omega arith)
comma_count at (v ∷ []) some = omega arith
comma_count at (v ∷ z ∷ vs) some = let e = n.count-Comma at (v ∷ z ∷ vs) in omega arith

-- ---- expressions

module _ (s : TypeNames) where
  list_some : {a : List Lexeme} {vs : List Expr} → AreAssignments s a vs → 1 ≤ length vs
  list_some (AreAssignments.one a v h) = omega arith
  list_some (AreAssignments.more a t b v vs h kind g) = omega arith

  mutual
    pub expr_few : {m : ℕ} {a : List Lexeme} {v : Expr} → IsExpr s m a v → expr_count v ≤ 2 * length a
    expr_few (IsExpr.name t low kind listed) = let e = n.count-Name t.at t.spelling in omega arith
    expr_few (IsExpr.number t low kind) = let e = n.count-Number t.at t.spelling in omega arith
    expr_few (IsExpr.character t low kind) = let e = n.count-Character t.at t.spelling in omega arith
    expr_few (IsExpr.texts a xs low h) = let e = n.count-Text (token_place a) xs in let f = (texts_first s h).0 in omega arith
    expr_few (IsExpr.brackets l a r v low lk h rk) = let i = whole_few h in omega (arith, length-append a (r ∷ []))
    expr_few (IsExpr.call t l a r xs low kind listed lk h rk) = let i = arguments_few h in let e = n.count-Call t.at t.spelling xs in omega (arith, length-append a (r ∷ []))
    expr_few (IsExpr.index a l b r v z low h lk g rk) = let i = expr_few h in let j = whole_few g in let e = n.count-Index (token_place a) v z in omega (arith, length-append a (l ∷ b ++ r ∷ []), length-append b (r ∷ []))
    expr_few (IsExpr.field a t u v low h tk uk) = let i = expr_few h in let e = n.count-Field (token_place a) v u.spelling in omega (arith, length-append a (t ∷ u ∷ []))
    expr_few (IsExpr.arrow a t u v low h tk uk) = let i = expr_few h in let e = n.count-Arrow (token_place a) v u.spelling in omega (arith, length-append a (t ∷ u ∷ []))
    expr_few (IsExpr.postfix a t op v low h kind) = let i = expr_few h in let e = n.count-Postfix (token_place a) op v in omega (arith, length-append a (t ∷ []))
    expr_few (IsExpr.prefix_step t a op v low kind h) = let i = expr_few h in let e = n.count-Unary t.at op v in omega arith
    expr_few (IsExpr.unary t a op v low kind h) = let i = expr_few h in let e = n.count-Unary t.at op v in omega arith
    expr_few (IsExpr.size_of t a v low kind h) = let i = expr_few h in let e = n.count-SizeOfValue t.at v in omega arith
    expr_few (IsExpr.size_of_type t l a r ty low kind lk h rk) = let i = type_few h in let e = n.count-SizeOfType t.at ty in omega (arith, length-append a (r ∷ []))
    expr_few (IsExpr.cast l a r b ty v low lk h rk g) = let i = type_few h in let j = expr_few g in let e = n.count-Cast l.at ty v in omega (arith, length-append a (r ∷ b))
    expr_few (IsExpr.binary a t b op v z low kind h g) = let i = expr_few h in let j = expr_few g in let e = n.count-Binary (token_place a) op v z in omega (arith, length-append a (t ∷ b))
    expr_few (IsExpr.conditional a t b r d u v z low h tk g rk o) = let i = expr_few h in let j = whole_few g in let k = expr_few o in let e = n.count-Conditional (token_place a) u v z in omega (arith, length-append a (t ∷ b ++ r ∷ d), length-append b (r ∷ d))
    expr_few (IsExpr.assignment a t b op v z low h kind g) = let i = expr_few h in let j = expr_few g in let e = n.count-Assign (token_place a) op v z in omega (arith, length-append a (t ∷ b))

    pub whole_few : {a : List Lexeme} {v : Expr} → IsWhole s a v → expr_count v ≤ 2 * length a
    whole_few (IsWhole.commas a vs h) = let i = list_few h in let c = comma_count (token_place a) vs (list_some h) in omega arith

    list_few : {a : List Lexeme} {vs : List Expr} → AreAssignments s a vs → list_count expr_node vs + 2 * length vs ≤ 2 * length a + 2
    list_few (AreAssignments.one a v h) = let i = expr_few h in omega arith
    list_few (AreAssignments.more a t b v vs h kind g) = let i = expr_few h in let j = list_few g in omega (arith, length-append a (t ∷ b))

    arguments_few : {a : List Lexeme} {vs : List Expr} → AreArguments s a vs → list_count expr_node vs ≤ 2 * length a
    arguments_few AreArguments.none = omega arith
    arguments_few (AreArguments.some a vs h) = let i = list_few h in let o = list_some h in omega arith

    pub type_few : {a : List Lexeme} {ty : TypeName} → IsTypeName s a ty → type_count ty.ty ≤ 2 * length a
    type_few (IsTypeName.type_name a b ty d h g) = let i = declarator_few g in let c = shapes_round_count d.shapes ty in let o = plain_count s h in let f = (plain_begins s h).0 in omega (arith, length-append a b)

    pub declarator_few : {naming : NameRequirement} {m : ℕ} {a : List Lexeme} {d : Declarator} → IsDeclarator s naming m a d → shapes_count d.shapes + name_count d.name ≤ 2 * length a
    declarator_few (IsDeclarator.star t a b d low kind c h) = let i = declarator_few h in let o = shapes_more d.shapes sh.Pointer in omega (arith, length-append a b)
    declarator_few (IsDeclarator.own_name t kind takes) = omega arith
    declarator_few (IsDeclarator.no_name may) = omega arith
    declarator_few (IsDeclarator.group l t a r d lk tk g rk) = let i = declarator_few g in omega (arith, length-append a (r ∷ []))
    declarator_few (IsDeclarator.open_array a l r d g lk rk) = let i = declarator_few g in let o = shapes_more d.shapes (sh.Array None) in omega (arith, length-append a (l ∷ r ∷ []))
    declarator_few (IsDeclarator.array a l b r d v g lk k rk) = let i = declarator_few g in let j = expr_few k in let o = shapes_more d.shapes (sh.Array (Some v)) in omega (arith, length-append a (l ∷ b ++ r ∷ []), length-append b (r ∷ []))
    declarator_few (IsDeclarator.function a l b r d xs g lk k rk) = let i = declarator_few g in let j = parameters_few k in let c = void_count xs in let o = shapes_more d.shapes (sh.Takes (without_void xs)) in omega (arith, length-append a (l ∷ b ++ r ∷ []), length-append b (r ∷ []))

    parameters_few : {a : List Lexeme} {xs : List Parameter} → AreParameters s a xs → list_count parameter_node xs ≤ 2 * length a
    parameters_few AreParameters.no_parameter = omega arith
    parameters_few (AreParameters.parameters a xs h) = parameters_listed_few h

    parameters_listed_few : {a : List Lexeme} {xs : List Parameter} → AreSomeParameters s a xs → list_count parameter_node xs ≤ 2 * length a
    parameters_listed_few (AreSomeParameters.one_parameter a x h) = let i = parameter_few h in omega arith
    parameters_listed_few (AreSomeParameters.more_parameters a t b x xs h kind g) = let i = parameter_few h in let j = parameters_listed_few g in omega (arith, length-append a (t ∷ b))

    parameter_few : {a : List Lexeme} {x : Parameter} → IsParameter s a x → node_count (parameter_node x) ≤ 2 * length a
    parameter_few (IsParameter.parameter a b ty d h g) = let i = declarator_few g in let c = shapes_round_count d.shapes ty in let o = plain_count s h in let f = (plain_begins s h).0 in let e = parameter_count (token_place a) (with_shapes d.shapes ty) d.name in omega (arith, length-append a b)
