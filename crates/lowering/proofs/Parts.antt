-- The weight of a function bounds the parts of its body and the depths that its code may take.
use Rattle.std.proofs.Common.{◌≡◌, ◌≤◌, ℕ, ◌+◌, ◌*◌, ◌==◌, nat_le, true, not, ◌&&◌, ◌||◌, IsTrue, List, [], ◌∷◌, Option, Some, None, length, arith, eqb-true}
use Rattle.std.specs.Prelude.{All, sum_by, slice_get}
use Rattle.std.specs.List.{list_all}
use Rattle.std.proofs.lemmas.List.Elements.{All-weaker}
use Rattle.std.proofs.lemmas.List.Sums.{sum_by-cons, AllPass-from_list_all}
use Rattle.c_typed_tree.specs.declared.statements.TLabel.TheVariants.{Case, Default}
use Rattle.c_typed_tree.specs.declared.types.StructDef.{StructDef}
use Rattle.c_typed_tree.specs.declared.units.Local as ul
use Rattle.c_typed_tree.specs.declared.units.TypedFn.{TypedFn}
use Rattle.c_typed_tree.specs.declared.units.TypedUnit.{TypedUnit}
use Rattle.c_typed_tree.specs.Types.{PlainType}
use Rattle.c_typed_tree.specs.View.{type_view, stmt_view}
use Rattle.c_typed_tree.specs.Layout.{integer_of, is_object, align_of}
use Rattle.c_typed_tree.specs.Expressions.{Expr, Number, Local, Global, Call, Unary, Binary, Assign, Conditional, Cast, Convert, Index, Field, Arrow, Postfix, Comma, Exprs, no_exprs, more_exprs, type_of}
use Rattle.c_typed_tree.specs.Statements.{LocalDeclaration, First, Stmt, Else, no_else, else_stmt, Stmts, no_stmts, more_stmts, Sections, no_sections, more_sections}
use Rattle.c_typed_tree.specs.Statements as q
use Rattle.c_typed_tree.specs.Counts.{expr_nodes, exprs_nodes, optional_nodes}
use Rattle.c_typed_tree.specs.Typing.{is_same_type, is_void, is_array, is_scalar, is_promoted, is_valid_type, depth_of, most_depth, Context, is_fit, is_typed, are_typed, has_rule, are_operands}
use Rattle.c_typed_tree.specs.TypingStatements.{Jumps, no_jumps, in_loop, in_switch, is_condition, is_optional_value, is_optional_condition, has_initialised_type, is_initialiser, is_declared, is_first, is_returned, are_labels, is_typed_stmt, is_typed_else, are_typed_stmts, are_typed_sections}
use Rattle.c_typed_tree.specs.Weight.{expr_weight, exprs_weight, exprs_count, optional_weight, init_weight, declared_weight, first_weight, stmt_weight, else_weight, stmts_weight, sections_weight, function_weight}
use Rattle.c_typing_weight.specs.Limits.{most_weight}
use Rattle.c_typed_tree.specs.Lawful.{IsLawfulStruct, IsTypedFn, context_of, is_lawful_local, is_object_type, type_of_local}
use Rattle.lowering_expressions.specs.Levels.{register_levels, levels_above, levels_of_each}
use Rattle.lowering_statements.specs.Levels.{optional_levels, locals_levels, first_levels, stmt_levels, else_levels, stmts_levels, sections_levels}
use Rattle.lowering_functions.specs.Parts.{locals_parts, first_parts, stmt_parts, else_parts, stmts_parts, sections_parts}
use Rattle.lowering_functions.specs.Scopes.{LocalHasSize}
use Rattle.c_typing_struct_layout.specs.c_layout_laws.Laws.{is_alignment}
use Rattle.c_typing_struct_layout.proofs.CLayoutLaws.Truth.{no_true, front, back, either}
use Rattle.c_typing_struct_layout.proofs.CLayoutLaws.Layouts.{aligned_type}
use Rattle.lowering_bounds.specs.model.Depths.{depths, depths_above, depths_of_each, optional_depths, locals_depths, first_depths, stmt_depths, else_depths, stmts_depths, sections_depths, stmt_locals}
use Rattle.lowering_bounds.proofs.Typing.{one, two, three}
use Rattle.lowering_bounds.proofs.Statements.{pair, triple, four, defaults, one_default}
use Rattle.lowering_bounds.proofs.Weights.{locals_declared, stmt_weighs, stmt_bound}
use Rattle.lowering.specs.model.Premises.{CanBeLowered}

-- ---- depths

mutual
  expr_levels : (x : Expr) → register_levels x ≤ depths x + 4
  expr_levels (Number ty word) = omega arith
  expr_levels (Local ty k) = omega arith
  expr_levels (Global ty k) = omega arith
  expr_levels (Call ty callee xs) = omega (arith, above_levels xs)
  expr_levels (Unary ty op x) = omega (arith, expr_levels x)
  expr_levels (Binary ty op x y) = omega (arith, expr_levels x, expr_levels y)
  expr_levels (Assign ty op x y) = omega (arith, expr_levels x, expr_levels y)
  expr_levels (Conditional ty x y z) = omega (arith, expr_levels x, expr_levels y, expr_levels z)
  expr_levels (Cast ty x) = omega (arith, expr_levels x)
  expr_levels (Convert ty x) = omega (arith, expr_levels x)
  expr_levels (Index ty x y) = omega (arith, expr_levels x, expr_levels y)
  expr_levels (Field ty x k) = omega (arith, expr_levels x)
  expr_levels (Arrow ty x k) = omega (arith, expr_levels x)
  expr_levels (Postfix ty op x) = omega (arith, expr_levels x)
  expr_levels (Comma ty xs) = omega (arith, each_levels xs)

  above_levels : (xs : Exprs) → levels_above xs ≤ depths_above xs + 4
  above_levels no_exprs = omega arith
  above_levels (more_exprs x xs) = omega (arith, expr_levels x, above_levels xs)

  each_levels : (xs : Exprs) → levels_of_each xs ≤ depths_of_each xs + 4
  each_levels no_exprs = omega arith
  each_levels (more_exprs x xs) = omega (arith, expr_levels x, each_levels xs)

optional_low : (y : Option Expr) → optional_levels y ≤ optional_depths y + 5
optional_low None = omega arith
optional_low (Some y) = omega (arith, expr_levels y)

locals_low : (ds : List LocalDeclaration) → locals_levels ds ≤ locals_depths ds + 5
locals_low [] = omega arith
locals_low (d ∷ ds) = omega (arith, optional_low d.init, locals_low ds)

first_low : (first : First) → first_levels first ≤ first_depths first + 5
first_low q.Nothing = omega arith
first_low (q.Value x) = omega (arith, expr_levels x)
first_low (q.Locals ds) = locals_low ds

mutual
  stmt_low : (s : Stmt) → stmt_levels s ≤ stmt_depths s + 5
  stmt_low (q.Block ss) = stmts_low ss
  stmt_low (q.If x s h) = omega (arith, expr_levels x, stmt_low s, else_low h)
  stmt_low (q.While x s) = omega (arith, expr_levels x, stmt_low s)
  stmt_low (q.Do s x) = omega (arith, expr_levels x, stmt_low s)
  stmt_low (q.For first x y s) = omega (arith, first_low first, optional_low x, optional_low y, stmt_low s)
  stmt_low (q.Switch x ss) = omega (arith, expr_levels x, sections_low ss)
  stmt_low q.Break = omega arith
  stmt_low q.Continue = omega arith
  stmt_low (q.Return x) = optional_low x
  stmt_low (q.Expression x) = omega (arith, expr_levels x)
  stmt_low q.Empty = omega arith
  stmt_low (q.Declare d) = optional_low d.init

  else_low : (h : Else) → else_levels h ≤ else_depths h + 5
  else_low no_else = omega arith
  else_low (else_stmt s) = stmt_low s

  stmts_low : (ss : Stmts) → stmts_levels ss ≤ stmts_depths ss + 5
  stmts_low no_stmts = omega arith
  stmts_low (more_stmts s ss) = omega (arith, stmt_low s, stmts_low ss)

  sections_low : (sections : Sections) → sections_levels sections ≤ sections_depths sections + 5
  sections_low no_sections = omega arith
  sections_low (more_sections label ss rest) = omega (arith, stmts_low ss, sections_low rest)

-- ---- parts

module _ (c : Context) where
  abbrev W : Expr → ℕ
  W x = expr_weight c.structs x

  abbrev T : Expr → Type 0
  T x = IsTrue (is_typed c x)

  mutual
    unfolding expr_weight

    expr_parts : (x : Expr) → T x → expr_nodes x ≤ 2 * W x
    expr_parts (Number ty word) t = omega arith
    expr_parts (Local ty k) t = omega arith
    expr_parts (Global ty k) t = omega arith
    expr_parts (Call ty callee xs) t = omega (arith, exprs_parts xs ((one (is_fit c.structs ty) (has_rule c (Call ty callee xs)) (are_typed c xs) t).1))
    expr_parts (Unary ty op x) t = omega (arith, expr_parts x ((one (is_fit c.structs ty) (has_rule c (Unary ty op x)) (is_typed c x) t).1))
    expr_parts (Binary ty op x y) t =
        let o = two (is_fit c.structs ty) (has_rule c (Binary ty op x y)) (is_typed c x) (is_typed c y) t in
        omega (arith, expr_parts x o.1, expr_parts y o.2)
    expr_parts (Assign ty op x y) t =
        let o = two (is_fit c.structs ty) (has_rule c (Assign ty op x y)) (is_typed c x) (is_typed c y) t in
        omega (arith, expr_parts x o.1, expr_parts y o.2)
    expr_parts (Conditional ty x y z) t =
        let o = three (is_fit c.structs ty) (has_rule c (Conditional ty x y z)) (is_typed c x) (is_typed c y) (is_typed c z) t in
        omega (arith, expr_parts x o.1, expr_parts y o.2, expr_parts z o.3)
    expr_parts (Cast ty x) t = omega (arith, expr_parts x ((one (is_fit c.structs ty) (has_rule c (Cast ty x)) (is_typed c x) t).1))
    expr_parts (Convert ty x) t = omega (arith, expr_parts x ((one (is_fit c.structs ty) (has_rule c (Convert ty x)) (is_typed c x) t).1))
    expr_parts (Index ty x y) t =
        let o = two (is_fit c.structs ty) (has_rule c (Index ty x y)) (is_typed c x) (is_typed c y) t in
        omega (arith, expr_parts x o.1, expr_parts y o.2)
    expr_parts (Field ty x k) t = omega (arith, expr_parts x ((one (is_fit c.structs ty) (has_rule c (Field ty x k)) (is_typed c x) t).1))
    expr_parts (Arrow ty x k) t = omega (arith, expr_parts x ((one (is_fit c.structs ty) (has_rule c (Arrow ty x k)) (is_typed c x) t).1))
    expr_parts (Postfix ty op x) t = omega (arith, expr_parts x ((one (is_fit c.structs ty) (has_rule c (Postfix ty op x)) (is_typed c x) t).1))
    expr_parts (Comma ty xs) t =
        let o = one (is_fit c.structs ty) (are_operands ty xs) (are_typed c xs) t in
        omega (arith, two_operands ty xs o.0, exprs_parts xs o.1)

    exprs_parts : (xs : Exprs) → IsTrue (are_typed c xs) → exprs_nodes xs ≤ 2 * exprs_weight c.structs xs
    exprs_parts no_exprs t = omega arith
    exprs_parts (more_exprs x xs) t =
        let o = pair (is_typed c x) (are_typed c xs) t in
        omega (arith, expr_parts x o.0, exprs_parts xs o.1)

    two_operands : (ty : PlainType) (xs : Exprs) → IsTrue (are_operands ty xs) → 2 ≤ exprs_count xs
    two_operands ty no_exprs h = no_true h
    two_operands ty (more_exprs x no_exprs) h = no_true h
    two_operands ty (more_exprs x (more_exprs y ys)) h = omega arith

  optional_parts : (y : Option Expr) → IsTrue (is_optional_value c y) → optional_nodes y ≤ 2 * optional_weight c.structs y
  optional_parts None t = omega arith
  optional_parts (Some y) t = expr_parts y (back (not (is_array (type_of y))) (is_typed c y) t)

  condition_parts : (y : Option Expr) → IsTrue (is_optional_condition c y) → optional_nodes y ≤ 2 * optional_weight c.structs y
  condition_parts None t = omega arith
  condition_parts (Some y) t = expr_parts y (back (is_scalar (type_of y)) (is_typed c y) t)

  init_parts : (l : Option ul.Local) (y : Option Expr) → IsTrue (is_initialiser c l y) → optional_nodes y ≤ 2 * init_weight c.structs y
  init_parts l None t = omega arith
  init_parts l (Some y) t = omega (arith, expr_parts y (back (has_initialised_type l (type_of y)) (is_typed c y) t))

  return_parts : (result : PlainType) (y : Option Expr) → IsTrue (is_returned c result y) → optional_nodes y ≤ 2 * optional_weight c.structs y
  return_parts result None t = omega arith
  return_parts result (Some y) t = expr_parts y (back (is_same_type (type_of y) result && not (is_void result)) (is_typed c y) t)

  declares_parts : (ds : List LocalDeclaration) → IsTrue (list_all (is_declared c) ds) → locals_parts ds ≤ 2 * sum_by (declared_weight c.structs) ds
  declares_parts [] t = omega arith
  declares_parts (d ∷ ds) t =
      let o = pair (is_declared c d) (list_all (is_declared c) ds) t in
      omega (arith, sum_by-cons (declared_weight c.structs) d ds, init_parts (slice_get c.locals d.number) d.init o.0, declares_parts ds o.1)

  firsts_parts : (first : First) → IsTrue (is_first c first) → first_parts first ≤ 2 * first_weight c.structs first
  firsts_parts q.Nothing t = omega arith
  firsts_parts (q.Value x) t = expr_parts x (back (not (is_array (type_of x))) (is_typed c x) t)
  firsts_parts (q.Locals ds) t = declares_parts ds t

  module _ (result : PlainType) where
    mutual
      unfolding stmt_weight

      pub stmts_have : (j : Jumps) (s : Stmt) → IsTrue (is_typed_stmt c result j s) → stmt_parts s ≤ 2 * stmt_weight c.structs s
      stmts_have j (q.Block ss) t = omega (arith, all_have j ss t)
      stmts_have j (q.If x s h) t =
          let o = triple (is_condition c x) (is_typed_stmt c result j s) (is_typed_else c result j h) t in
          omega (arith, expr_parts x (back (is_scalar (type_of x)) (is_typed c x) o.0), stmts_have j s o.1, else_has j h o.2)
      stmts_have j (q.While x s) t =
          let o = pair (is_condition c x) (is_typed_stmt c result in_loop s) t in
          omega (arith, expr_parts x (back (is_scalar (type_of x)) (is_typed c x) o.0), stmts_have in_loop s o.1)
      stmts_have j (q.Do s x) t =
          let o = pair (is_condition c x) (is_typed_stmt c result in_loop s) t in
          omega (arith, expr_parts x (back (is_scalar (type_of x)) (is_typed c x) o.0), stmts_have in_loop s o.1)
      stmts_have j (q.For first condition step s) t =
          let o = four (is_first c first) (is_optional_condition c condition) (is_optional_value c step) (is_typed_stmt c result in_loop s) t in
          omega (arith, firsts_parts first o.0, condition_parts condition o.1, optional_parts step o.2, stmts_have in_loop s o.3)
      stmts_have j (q.Switch x ss) t =
          let o = four (is_promoted (type_of x)) (are_labels (integer_of (type_of x)) ss) (is_typed c x) (are_typed_sections c result (in_switch j) ss) t in
          omega (arith, expr_parts x o.2, sections_have (in_switch j) ss o.3, one_default (integer_of (type_of x)) ss o.1)
      stmts_have j q.Break t = omega arith
      stmts_have j q.Continue t = omega arith
      stmts_have j (q.Return y) t = omega (arith, return_parts result y t)
      stmts_have j (q.Expression x) t = omega (arith, expr_parts x (back (not (is_array (type_of x))) (is_typed c x) t))
      stmts_have j q.Empty t = omega arith
      stmts_have j (q.Declare d) t = omega (arith, init_parts (slice_get c.locals d.number) d.init t)

      else_has : (j : Jumps) (h : Else) → IsTrue (is_typed_else c result j h) → else_parts h ≤ 2 * else_weight c.structs h
      else_has j no_else t = omega arith
      else_has j (else_stmt s) t = stmts_have j s t

      all_have : (j : Jumps) (ss : Stmts) → IsTrue (are_typed_stmts c result j ss) → stmts_parts ss ≤ 2 * stmts_weight c.structs ss
      all_have j no_stmts t = omega arith
      all_have j (more_stmts s ss) t =
          let o = pair (is_typed_stmt c result j s) (are_typed_stmts c result j ss) t in
          omega (arith, stmts_have j s o.0, all_have j ss o.1)

      -- a `default` counts nothing, and there is one at most
      sections_have : (j : Jumps) (sections : Sections) → IsTrue (are_typed_sections c result j sections) → sections_parts sections ≤ 2 * sections_weight c.structs sections + defaults sections
      sections_have j no_sections t = omega arith
      sections_have j (more_sections (Case word) ss rest) t =
          let o = pair (are_typed_stmts c result j ss) (are_typed_sections c result j rest) t in
          omega (arith, all_have j ss o.0, sections_have j rest o.1)
      sections_have j (more_sections Default ss rest) t =
          let o = pair (are_typed_stmts c result j ss) (are_typed_sections c result j rest) t in
          omega (arith, all_have j ss o.0, sections_have j rest o.1)

-- ---- sizes of locals

small : (a : ℕ) → IsTrue (is_alignment a) → a ≤ 8
small a h =
    either (a == 1 || a == 2 || a == 4) (a == 8)
    (either (a == 1 || a == 2) (a == 4)
    (either (a == 1) (a == 2) (λ e. omega (arith, eqb-true a 1 e)) (λ e. omega (arith, eqb-true a 2 e)))
    (λ e. omega (arith, eqb-true a 4 e)))
    (λ e. omega (arith, eqb-true a 8 e)) h

local_size : (ds : List StructDef) → All (IsLawfulStruct ds) ds → (l : ul.Local) → is_lawful_local ds l ≡ true → LocalHasSize ds l
local_size ds structs l h =
    let ty = type_of_local l in
    let whole = front (is_object_type ds ty) (is_scalar ty || l.in_memory) h in
    let both = front (is_valid_type ds ty && is_object ds ty) (nat_le (depth_of ds ty) most_depth) whole in
    let object = back (is_valid_type ds ty) (is_object ds ty) both in
    (object, omega (arith, small (align_of ds ty) (aligned_type ds structs ty (front (is_valid_type ds ty) (is_object ds ty) both) object)))

-- ---- a function

pub can_be_lowered : (u : TypedUnit) (f : TypedFn) → All (IsLawfulStruct u.structs) u.structs → IsTypedFn u f → function_weight u.structs f ≤ most_weight → CanBeLowered u.structs f
can_be_lowered u f structs t w =
    let body = stmt_view f.body in
    let c = context_of u f in
    let few : length f.locals ≤ f.params + stmt_locals body = locals_declared f.params (length f.locals) body t.declares in
    let parts : stmt_parts body ≤ 2 * stmt_weight u.structs body = stmts_have c (type_view f.result) no_jumps body t.body in
    let deep = stmt_bound c (type_view f.result) no_jumps body t.body in
    record {
      few = t.params;
      sizes = All-weaker (λ (l : ul.Local). is_lawful_local u.structs l ≡ true) (LocalHasSize u.structs) (local_size u.structs structs) f.locals (AllPass-from_list_all (is_lawful_local u.structs) f.locals t.locals);
      registers = omega (arith, few, deep, w, stmt_low body, stmt_weighs c body);
      size = omega (arith, parts, w);
    }
