-- The same of specifiers, statements and units.
use Rattle.std.proofs.Common.{◌≡◌, ℕ, Bool, true, false, suc, ◌+◌, ◌*◌, ◌≤◌, List, [], ◌∷◌, ◌++◌, length, Option, Some, None, refl, ap, ◌∙◌, length-append, arith}
use Rattle.c_lexer.specs.Pieces.{Lexeme, Toks}
use Rattle.c_tree.specs.declared.expressions.Expr.{Expr}
use Rattle.c_tree.specs.declared.types.TypeNode.{TypeNode}
use Rattle.c_tree.specs.declared.types.TypeNode as y
use Rattle.c_tree.specs.declared.types.Declaration.{Declaration}
use Rattle.c_tree.specs.declared.types.Constant.{Constant}
use Rattle.c_tree.specs.declared.statements.Stmt.{Stmt}
use Rattle.c_tree.specs.declared.statements.LocalDeclarator.{LocalDeclarator}
use Rattle.c_tree.specs.declared.statements.Section.{Section}
use Rattle.c_tree.specs.declared.statements.Label.{Label}
use Rattle.c_tree.specs.declared.statements.ForFirst.{ForFirst}
use Rattle.c_tree.specs.declared.declarations.Storage.{Storage}
use Rattle.c_tree.specs.declared.declarations.Init.{Init}
use Rattle.c_tree.specs.declared.declarations.External.{External}
use Rattle.c_tree.specs.declared.declarations.TranslationUnit.{TranslationUnit}
use Rattle.c_tree.specs.Nodes.{node_count, nodes_count, nodes_of, stmt_node, local_node, first_nodes, part_of_for, optional, label_nodes, init_node, optional_init, external_node, unit_nodes}
use Rattle.c_tree.specs.model.Parts.{member_node, constant_node, section_node}
use Rattle.c_tree.proofs.Counts as n
use Rattle.c_tree.proofs.Counts.{expr_count, type_count, stmt_count, init_count, list_count, nodes_count-append_nodes, list_count-append}
use Rattle.c_parser_grammar.specs.declared.shapes.NameRequirement.{NameRequirement}
use Rattle.c_parser_grammar.specs.Tokens.{TypeNames}
use Rattle.c_parser_grammar.specs.Types.{without_body, declaration_of}
use Rattle.c_parser_grammar.specs.Grammar.{IsPlain}
use Rattle.c_parser_grammar.specs.Specifiers.{IsDeclared, AreDeclared, IsConstant, AreConstants, IsSpecifier, AreMembers, IsMember}
use Rattle.c_parser_grammar.specs.Statements.{IsLocalDeclarator, AreLocals, IsLine, IsOptional, IsFirst, IsLabel, locals_of, IsStmt, AreItems, AreSections, AreStmts}
use Rattle.c_parser_grammar.specs.Units.{IsInit, AreInits, is_function, external_of, IsObject, AreObjects, AreTypedefs, IsExternal, AreExternals, Reads}
use Rattle.c_parser_grammar.proofs.ReadPlain.{plain_begins}
use Rattle.c_parser_grammar.proofs.Few.{shapes_round_count, plain_count, expr_few, whole_few, declarator_few}

-- ---- specifiers

bare_again : (ty : TypeNode) → without_body (without_body ty) ≡ without_body ty
bare_again (y.Enum' at tag constants) = refl
bare_again (y.Struct' at tag members) = refl
bare_again _ = refl

abbrev Lone : TypeNode → Type 0
Lone ty = type_count (without_body ty) ≡ 1

bare_lone : (ty : TypeNode) → Lone ty → Lone (without_body ty)
bare_lone ty h = ap type_count (bare_again ty) ∙ h

plain_lone : (s : TypeNames) {a : List Lexeme} {ty : TypeNode} → IsPlain s a ty → Lone ty
plain_lone s (IsPlain.words a x b h e) = n.count-Basic b
plain_lone s (IsPlain.type_name a t b h kind listed g) = n.count-Named _
plain_lone s (IsPlain.struct a t v b h kind vk g) = n.count-Struct-None v.at _
plain_lone s (IsPlain.enum a t v b h kind vk g) = n.count-Enum-None v.at _

spec_lone : (s : TypeNames) {a : List Lexeme} {ty : TypeNode} → IsSpecifier s a ty → Lone ty
spec_lone s (IsSpecifier.plain a ty h) = plain_lone s h
spec_lone s (IsSpecifier.struct a t b l e r d at name ds h kind g lk o rk v) = n.count-Struct-None at name
spec_lone s (IsSpecifier.enum a t b l e r d at name xs h kind g lk o rk v) = n.count-Enum-None at name

declared_few : (s : TypeNames) {naming : NameRequirement} {ty : TypeNode} {a : List Lexeme} {d : Declaration} → IsDeclared s naming ty a d → type_count d.ty + 2 ≤ 2 * length a + type_count ty
declared_few s {ty = ty} (IsDeclared.of a v shapes h) = let c = declarator_few s h in let o = shapes_round_count shapes ty in omega arith

members_few : (s : TypeNames) {ty : TypeNode} {a : List Lexeme} {ds : List Declaration} → Lone ty → AreDeclared s ty a ds → list_count member_node ds ≤ 2 * length a + type_count ty
members_few s l (AreDeclared.one a d h) = let c = declared_few s h in omega arith
members_few s l (AreDeclared.more {ty = ty} a t b d ds h kind g) = let c = declared_few s h in let o = members_few s (bare_lone ty l) g in omega (arith, length-append a (t ∷ b), l)

constant_few : (s : TypeNames) {a : List Lexeme} {v : Constant} → IsConstant s a v → node_count (constant_node v) ≤ 2 * length a
constant_few s (IsConstant.plain t kind listed) = omega arith
constant_few s (IsConstant.with_value t z a v kind listed zk h) = let c = expr_few s h in omega arith

constants_few : (s : TypeNames) {a : List Lexeme} {vs : List Constant} → AreConstants s a vs → list_count constant_node vs ≤ 2 * length a
constants_few s (AreConstants.one a v h) = let c = constant_few s h in omega arith
constants_few s (AreConstants.last a t v h kind) = let c = constant_few s h in omega (arith, length-append a (t ∷ []))
constants_few s (AreConstants.more a t b v vs h kind g) = let c = constant_few s h in let o = constants_few s g in omega (arith, length-append a (t ∷ b))

mutual
  spec_few : (s : TypeNames) {a : List Lexeme} {ty : TypeNode} → IsSpecifier s a ty → type_count ty ≤ 2 * length a
  spec_few s (IsSpecifier.plain a ty h) = let c = plain_count s h in let o = (plain_begins s h).0 in omega arith
  spec_few s (IsSpecifier.struct a t b l e r d at name ds h kind g lk o rk v) = let c = lines_few s o in let q = n.count-Struct-Some at name ds in omega (arith, length-append a (t ∷ b ++ (l ∷ e ++ r ∷ d)), length-append b (l ∷ e ++ r ∷ d), length-append e (r ∷ d))
  spec_few s (IsSpecifier.enum a t b l e r d at name xs h kind g lk o rk v) = let c = constants_few s o in let q = n.count-Enum-Some at name xs in omega (arith, length-append a (t ∷ b ++ (l ∷ e ++ r ∷ d)), length-append b (l ∷ e ++ r ∷ d), length-append e (r ∷ d))

  lines_few : (s : TypeNames) {a : List Lexeme} {ds : List Declaration} → AreMembers s a ds → list_count member_node ds ≤ 2 * length a
  lines_few s (AreMembers.one a ds h) = line_few s h
  lines_few s (AreMembers.more a b ds es h g) = let c = line_few s h in let o = lines_few s g in let q = list_count-append member_node ds es in omega (arith, length-append a b)

  line_few : (s : TypeNames) {a : List Lexeme} {ds : List Declaration} → IsMember s a ds → list_count member_node ds ≤ 2 * length a
  line_few s (IsMember.member a b t ty ds h g kind) = let c = spec_few s h in let o = members_few s (spec_lone s h) g in omega (arith, length-append a (b ++ t ∷ []), length-append b (t ∷ []))

-- ---- statements

local_few : (s : TypeNames) {ty : TypeNode} {a : List Lexeme} {v : LocalDeclarator} → type_count ty ≡ 1 → IsLocalDeclarator s ty a v → node_count (local_node v) ≤ 2 * length a
local_few s l (IsLocalDeclarator.plain a d h) = let c = declared_few s h in omega arith
local_few s l (IsLocalDeclarator.with_init a t b d v h kind g) = let c = declared_few s h in let o = expr_few s g in omega (arith, length-append a (t ∷ b))

locals_few : (s : TypeNames) {ty : TypeNode} {a : List Lexeme} {vs : List LocalDeclarator} → type_count ty ≡ 1 → AreLocals s ty a vs → list_count local_node vs ≤ 2 * length a
locals_few s l (AreLocals.one a v h) = let c = local_few s l h in omega arith
locals_few s l (AreLocals.more a t b v vs h kind g) = let c = local_few s l h in let o = locals_few s l g in omega (arith, length-append a (t ∷ b))

declarations_few : (s : TypeNames) {a : List Lexeme} {vs : List LocalDeclarator} → IsLine s a vs → list_count local_node vs ≤ 2 * length a
declarations_few s (IsLine.line a b t ty vs h g kind) = let c = locals_few s (plain_count s h) g in omega (arith, length-append a (b ++ t ∷ []), length-append b (t ∷ []))

optional_few : (s : TypeNames) {a : List Lexeme} {v : Option Expr} → IsOptional s a v → (nodes_count (optional v) ≤ 2 * length a) × (node_count (part_of_for v) ≤ 2 * length a + 1)
optional_few s IsOptional.none = (omega arith, omega arith)
optional_few s (IsOptional.some a v h) = let c = whole_few s h in (omega arith, omega arith)

first_few : (s : TypeNames) {a : List Lexeme} {v : ForFirst} → IsFirst s a v → nodes_count (first_nodes v) ≤ 2 * length a
first_few s (IsFirst.nothing t kind) = omega arith
first_few s (IsFirst.value a t v h kind) = let c = whole_few s h in omega (arith, length-append a (t ∷ []))
first_few s (IsFirst.locals a vs h) = declarations_few s h

label_few : (s : TypeNames) {a : List Lexeme} {v : Label} → IsLabel s a v → suc (nodes_count (label_nodes v)) ≤ 2 * length a
label_few s (IsLabel.«case» t a r v kind h rk) = let c = expr_few s h in omega (arith, length-append a (r ∷ []))
label_few s (IsLabel.«default» t r kind rk) = omega arith

locals_count : (vs : List LocalDeclarator) → list_count stmt_node (locals_of vs) ≡ list_count local_node vs
locals_count [] = refl
locals_count (v ∷ vs) = let e = n.count-LocalDeclarator v in let o = locals_count vs in omega arith

section_count : (v : Section) → node_count (section_node v) ≡ suc (nodes_count (label_nodes v.label) + list_count stmt_node v.statements)
section_count v = ap suc (nodes_count-append_nodes (label_nodes v.label) (nodes_of stmt_node v.statements))

mutual
  stmt_few : (s : TypeNames) {m : ℕ} {a : List Lexeme} {v : Stmt} → IsStmt s m a v → stmt_count v ≤ 2 * length a
  stmt_few s (IsStmt.block l a r vs lk h rk) = let c = items_few s h in let e = n.count-Block vs in omega (arith, length-append a (r ∷ []))
  stmt_few s (IsStmt.empty t kind) = let e = n.count-Empty in omega arith
  stmt_few s (IsStmt.expression a t v h kind) = let c = whole_few s h in let e = n.count-Expression v in omega (arith, length-append a (t ∷ []))
  stmt_few s (IsStmt.if_only t l a r b v z low kind lk h rk g) = let c = whole_few s h in let o = stmt_few s g in let e = n.count-If v z None in omega (arith, length-append a (r ∷ b))
  stmt_few s (IsStmt.if_else t l a r b o c v z q kind lk h rk g ok j) = let d = whole_few s h in let f = stmt_few s g in let k = stmt_few s j in let e = n.count-If v z (Some q) in omega (arith, length-append a (r ∷ b ++ o ∷ c), length-append b (o ∷ c))
  stmt_few s (IsStmt.while t l a r b v z kind lk h rk g) = let c = whole_few s h in let o = stmt_few s g in let e = n.count-While v z in omega (arith, length-append a (r ∷ b))
  stmt_few s (IsStmt.do_while t a o l b r e v z kind h ok lk g rk ek) = let c = whole_few s g in let d = stmt_few s h in let f = n.count-Do z v in omega (arith, length-append a (o ∷ l ∷ b ++ r ∷ e ∷ []), length-append b (r ∷ e ∷ []))
  stmt_few s (IsStmt.for t l a b e c r d v y z q kind lk h g ek o rk j) = let f1 = first_few s h in let f2 = (optional_few s g).1 in let f3 = (optional_few s o).1 in let f4 = stmt_few s j in let f = n.count-For v y z q in
      omega (arith, length-append a (b ++ (e ∷ c ++ r ∷ d)), length-append b (e ∷ c ++ r ∷ d), length-append c (r ∷ d))
  stmt_few s (IsStmt.switch t l a r o b e v vs kind lk h rk ok g ek) = let c = whole_few s h in let d = sections_few s g in let f = n.count-Switch v vs in omega (arith, length-append a (r ∷ o ∷ b ++ e ∷ []), length-append b (e ∷ []))
  stmt_few s (IsStmt.break t r kind rk) = let e = n.count-Break t.at in omega arith
  stmt_few s (IsStmt.continue t r kind rk) = let e = n.count-Continue t.at in omega arith
  stmt_few s (IsStmt.return t a r v kind h rk) = let c = (optional_few s h).0 in let e = n.count-Return t.at v in omega (arith, length-append a (r ∷ []))

  items_few : (s : TypeNames) {a : List Lexeme} {vs : List Stmt} → AreItems s a vs → list_count stmt_node vs ≤ 2 * length a
  items_few s AreItems.nothing = omega arith
  items_few s (AreItems.line a b vs ys h g) = let c = declarations_few s h in let d = items_few s g in let e = list_count-append stmt_node (locals_of vs) ys in let f = locals_count vs in omega (arith, length-append a b)
  items_few s (AreItems.statement a b v ys h g) = let c = stmt_few s h in let d = items_few s g in omega (arith, length-append a b)

  sections_few : (s : TypeNames) {a : List Lexeme} {vs : List Section} → AreSections s a vs → list_count section_node vs ≤ 2 * length a
  sections_few s AreSections.no_section = omega arith
  sections_few s (AreSections.section a b c v ys zs h g o) = let d = label_few s h in let e = stmts_few s g in let f = sections_few s o in let k = section_count (record { label = v; statements = ys }) in omega (arith, length-append a (b ++ c), length-append b c)

  stmts_few : (s : TypeNames) {a : List Lexeme} {vs : List Stmt} → AreStmts s a vs → list_count stmt_node vs ≤ 2 * length a
  stmts_few s AreStmts.no_statement = omega arith
  stmts_few s (AreStmts.statements a b v ys h g) = let c = stmt_few s h in let d = stmts_few s g in omega (arith, length-append a b)

-- ---- units

mutual
  init_few : (s : TypeNames) {a : List Lexeme} {v : Init} → IsInit s a v → init_count v ≤ 2 * length a
  init_few s (IsInit.value a v h) = let c = expr_few s h in let e = n.count-Value v in omega arith
  init_few s (IsInit.list l a r vs lk h rk) = let c = inits_few s h in let e = n.count-List l.at vs in omega (arith, length-append a (r ∷ []))

  inits_few : (s : TypeNames) {a : List Lexeme} {vs : List Init} → AreInits s a vs → list_count init_node vs ≤ 2 * length a
  inits_few s (AreInits.one a v h) = let c = init_few s h in omega arith
  inits_few s (AreInits.last a t v h kind) = let c = init_few s h in omega (arith, length-append a (t ∷ []))
  inits_few s (AreInits.more a t b v vs h kind g) = let c = init_few s h in let o = inits_few s g in omega (arith, length-append a (t ∷ b))

external_count : (takes : Bool) (d : Declaration) (storage : Option Storage) (v : Option Init) → node_count (external_node (external_of takes d storage v)) ≡ suc (type_count d.ty + nodes_count (optional_init v))
external_count false d storage v = refl
external_count true d storage None = refl
external_count true d storage (Some v) = refl

object_few : (s : TypeNames) (storage : Option Storage) {ty : TypeNode} {a : List Lexeme} {v : External} → IsObject s storage ty a v → node_count (external_node v) + 1 ≤ 2 * length a + type_count ty
object_few s storage {ty} (IsObject.plain a v shapes h) = let c = declarator_few s h in let o = shapes_round_count shapes ty in let e = external_count (is_function shapes) (declaration_of ty v shapes) storage None in omega arith
object_few s storage {ty} (IsObject.with_init a t b v shapes z h kind g) = let c = declarator_few s h in let o = shapes_round_count shapes ty in let d = init_few s g in let e = external_count (is_function shapes) (declaration_of ty v shapes) storage (Some z) in omega (arith, length-append a (t ∷ b))

objects_few : (s : TypeNames) (storage : Option Storage) {ty : TypeNode} {a : List Lexeme} {vs : List External} → Lone ty → AreObjects s storage ty a vs → list_count external_node vs ≤ 2 * length a + type_count ty
objects_few s storage l (AreObjects.one a v h) = let c = object_few s storage h in omega arith
objects_few s storage l (AreObjects.more {ty = ty} a t b v vs h kind g) = let c = object_few s storage h in let o = objects_few s storage (bare_lone ty l) g in omega (arith, length-append a (t ∷ b), l)

typedefs_few : {s : TypeNames} {ty : TypeNode} {a : List Lexeme} {vs : List External} {z : TypeNames} → Lone ty → AreTypedefs s ty a vs z → list_count external_node vs ≤ 2 * length a + type_count ty
typedefs_few l (AreTypedefs.one {s = s} a d h) = let c = declared_few s h in omega arith
typedefs_few l (AreTypedefs.more {s = s} {ty = ty} a t b d vs z h kind g) = let c = declared_few s h in let o = typedefs_few (bare_lone ty l) g in omega (arith, length-append a (t ∷ b), l)

external_few : {s : TypeNames} {a : List Lexeme} {vs : List External} {z : TypeNames} → IsExternal s a vs z → list_count external_node vs ≤ 2 * length a
external_few (IsExternal.typedefs {s = s} t a b r ty vs z kind h g rk) = let c = spec_few s h in let o = typedefs_few (spec_lone s h) g in omega (arith, length-append a (b ++ r ∷ []), length-append b (r ∷ []))
external_few (IsExternal.tags {s = s} a b r storage ty h g rk) = let c = spec_few s g in omega (arith, length-append a (b ++ r ∷ []), length-append b (r ∷ []))
external_few (IsExternal.objects {s = s} a b c r storage ty vs h g o rk) = let d = spec_few s g in let e = objects_few s storage (spec_lone s g) o in omega (arith, length-append a (b ++ (c ++ r ∷ [])), length-append b (c ++ r ∷ []), length-append c (r ∷ []))
external_few (IsExternal.function {s = s} a b c l e r storage ty d body h g o lk q rk) = let f1 = spec_few s g in let f2 = declared_few s o in let f3 = items_few s q in
    omega (arith, length-append a (b ++ (c ++ (l ∷ e ++ r ∷ []))), length-append b (c ++ (l ∷ e ++ r ∷ [])), length-append c (l ∷ e ++ r ∷ []), length-append e (r ∷ []))

externals_few : {s : TypeNames} {a : List Lexeme} {vs : List External} → AreExternals s a vs → list_count external_node vs ≤ 2 * length a
externals_few AreExternals.none = omega arith
externals_few (AreExternals.more a b vs us z h g) = let c = external_few h in let o = externals_few g in let e = list_count-append external_node vs us in omega (arith, length-append a b)

-- The tree of a reading has at most two nodes for each token.
pub unit_few : (toks : Toks) (tree : TranslationUnit) → Reads toks tree → unit_nodes tree ≤ 2 * length toks.items
unit_few toks tree h = externals_few h.externals
