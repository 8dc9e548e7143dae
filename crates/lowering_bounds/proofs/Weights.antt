-- The weight of a function bounds its locals and the depths of its code.
use Rattle.std.proofs.Common.{◌≡◌, ◌≤◌, ◌<◌, ℕ, zero, suc, ◌+◌, ◌*◌, ◌-◌, ◌==◌, max, nat_le, nat_lt, Bool, true, false, not, ◌&&◌, IsTrue, List, [], ◌∷◌, Option, Some, None, length, cond, refl, sym, ap, ◌∙◌, subst, arith, eqb-true, lt-ltb}
use Rattle.std.specs.Prelude.{slice_get, sum_by}
use Rattle.std.specs.List.{list_all}
use Rattle.std.proofs.lemmas.List.Sums.{sum_by-cons}
use Rattle.c_typed_tree.specs.declared.units.Local as ul
use Rattle.c_typed_tree.specs.Types.{PlainType}
use Rattle.c_typed_tree.specs.Layout.{integer_of}
use Rattle.c_typed_tree.specs.Expressions.{Expr, Number, Local, Global, Call, Unary, Binary, Assign, Conditional, Cast, Convert, Index, Field, Arrow, Postfix, Comma, Exprs, no_exprs, more_exprs, type_of}
use Rattle.c_typed_tree.specs.Statements.{LocalDeclaration, First, Stmt, Else, no_else, else_stmt, Stmts, no_stmts, more_stmts, Sections, no_sections, more_sections}
use Rattle.c_typed_tree.specs.Statements as q
use Rattle.c_typed_tree.specs.Declarations.{declarations_here, first_declarations, declarations, else_declarations, stmts_declarations, sections_declarations, due_declarations}
use Rattle.c_typed_tree.specs.Typing.{is_same_type, is_void, is_array, is_scalar, is_promoted, Context, is_fit, is_typed, are_typed, has_rule, are_operands}
use Rattle.c_typed_tree.specs.TypingStatements.{Jumps, in_loop, in_switch, is_condition, is_optional_value, is_optional_condition, has_initialised_type, is_initialiser, is_declared, is_first, is_returned, are_labels, is_typed_stmt, is_typed_else, are_typed_stmts, are_typed_sections}
use Rattle.c_typed_tree.specs.Lawful.{is_block}
use Rattle.c_typed_tree.specs.Weight.{expr_weight, exprs_weight, optional_weight, init_weight, declared_weight, first_weight, stmt_weight, else_weight, stmts_weight, sections_weight, exprs_count}
use Rattle.c_typing_struct_layout.proofs.CLayoutLaws.Truth.{no_true, back}
use Rattle.lowering_bounds.specs.model.Depths.{depths, depths_above, depths_of_each, optional_depths, declared_depths, locals_depths, first_depths, stmt_depths, else_depths, stmts_depths, sections_depths, first_locals, stmt_locals, else_locals, stmts_locals, sections_locals}
use Rattle.lowering_bounds.proofs.Typing.{one, two, three, positive}
use Rattle.lowering_bounds.proofs.Statements.{pair, triple, four}

-- ---- how many locals are declared, by their numbers

abbrev pub sum_below : (f : ℕ → ℕ) → ℕ → ℕ
sum_below f zero = 0
sum_below f (suc n) = f n + sum_below f n

sum_both : (f g : ℕ → ℕ) (n : ℕ) → sum_below (λ k. f k + g k) n ≡ sum_below f n + sum_below g n
sum_both f g zero = refl
sum_both f g (suc n) = omega (arith, sum_both f g n)

sum_pair : (f g : ℕ → ℕ) (n a b : ℕ) → sum_below f n ≤ a → sum_below g n ≤ b → sum_below (λ k. f k + g k) n ≤ a + b
sum_pair f g n a b h i = omega (arith, sum_both f g n, h, i)

sum_none : (n : ℕ) → sum_below (λ k. 0) n ≤ 0
sum_none zero = omega arith
sum_none (suc n) = omega (arith, sum_none n)

sum_same : (f g : ℕ → ℕ) (n : ℕ) → ((k : ℕ) → f k ≡ g k) → sum_below f n ≡ sum_below g n
sum_same f g zero h = refl
sum_same f g (suc n) h = omega (arith, h n, sum_same f g n h)

-- a number below is met once, and one above never
record Once (j n : ℕ) : Type 0 where
  most : sum_below (λ k. cond (j == k) 1 0) n ≤ 1
  above : n ≤ j → sum_below (λ k. cond (j == k) 1 0) n ≡ 0

one_more : (j n : ℕ) → Once j n → (b : Bool) → (j == n) ≡ b → Once j (suc n)
one_more j n o true e =
    let same : j ≡ n = eqb-true j n e in
    let one : ◌≡◌ {A = ℕ} (cond (j == n) 1 0) 1 = ap (λ b. cond b 1 0) e in
    record { most = omega (arith, one, o.above (omega (arith, same))); above = λ h. absurd (omega (arith, same, h)) }
one_more j n o false e =
    let none : ◌≡◌ {A = ℕ} (cond (j == n) 1 0) 0 = ap (λ b. cond b 1 0) e in
    record { most = omega (arith, none, o.most); above = λ h. omega (arith, none, o.above (omega (arith, h))) }

once : (j n : ℕ) → Once j n
once j zero = record { most = omega arith; above = λ h. refl }
once j (suc n) = one_more j n (once j n) (j == n) refl

declares_below : (n : ℕ) (ds : List LocalDeclaration) → sum_below (λ k. sum_by (declarations_here k) ds) n ≤ length ds
declares_below n [] = sum_none n
declares_below n (d ∷ ds) =
    let split : sum_below (λ k. sum_by (declarations_here k) (d ∷ ds)) n ≡ sum_below (λ k. declarations_here k d + sum_by (declarations_here k) ds) n =
    sum_same (λ k. sum_by (declarations_here k) (d ∷ ds)) (λ k. declarations_here k d + sum_by (declarations_here k) ds) n (λ k. sum_by-cons (declarations_here k) d ds) in
    let few : sum_below (λ k. declarations_here k d + sum_by (declarations_here k) ds) n ≤ 1 + length ds = sum_pair (λ k. declarations_here k d) (λ k. sum_by (declarations_here k) ds) n 1 (length ds) ((once d.number n).most) (declares_below n ds) in
    subst (λ m. m ≤ suc (length ds)) (sym split) (omega (arith, few))

first_below : (n : ℕ) (first : First) → sum_below (λ k. first_declarations k first) n ≤ first_locals first
first_below n q.Nothing = sum_none n
first_below n (q.Value x) = sum_none n
first_below n (q.Locals ds) = declares_below n ds

mutual
  pub stmt_below : (n : ℕ) (s : Stmt) → sum_below (λ k. declarations k s) n ≤ stmt_locals s
  stmt_below n (q.Block ss) = stmts_below n ss
  stmt_below n (q.If x s h) = sum_pair (λ k. declarations k s) (λ k. else_declarations k h) n (stmt_locals s) (else_locals h) (stmt_below n s) (else_below n h)
  stmt_below n (q.While x s) = stmt_below n s
  stmt_below n (q.Do s x) = stmt_below n s
  stmt_below n (q.For first x y s) = sum_pair (λ k. first_declarations k first) (λ k. declarations k s) n (first_locals first) (stmt_locals s) (first_below n first) (stmt_below n s)
  stmt_below n (q.Switch x ss) = sections_below n ss
  stmt_below n q.Break = sum_none n
  stmt_below n q.Continue = sum_none n
  stmt_below n (q.Return x) = sum_none n
  stmt_below n (q.Expression x) = sum_none n
  stmt_below n q.Empty = sum_none n
  stmt_below n (q.Declare d) = (once d.number n).most

  else_below : (n : ℕ) (h : Else) → sum_below (λ k. else_declarations k h) n ≤ else_locals h
  else_below n no_else = sum_none n
  else_below n (else_stmt s) = stmt_below n s

  stmts_below : (n : ℕ) (ss : Stmts) → sum_below (λ k. stmts_declarations k ss) n ≤ stmts_locals ss
  stmts_below n no_stmts = sum_none n
  stmts_below n (more_stmts s ss) = sum_pair (λ k. declarations k s) (λ k. stmts_declarations k ss) n (stmt_locals s) (stmts_locals ss) (stmt_below n s) (stmts_below n ss)

  sections_below : (n : ℕ) (sections : Sections) → sum_below (λ k. sections_declarations k sections) n ≤ sections_locals sections
  sections_below n no_sections = sum_none n
  sections_below n (more_sections label ss rest) = sum_pair (λ k. stmts_declarations k ss) (λ k. sections_declarations k rest) n (stmts_locals ss) (sections_locals rest) (stmts_below n ss) (sections_below n rest)

-- each local behind the parameters is due once
due_more : (params locals n below : ℕ) → n < locals → n ≤ params + below → (b : Bool) → nat_le params n ≡ b → suc n ≤ params + (cond (nat_le params n && nat_lt n locals) 1 0 + below)
due_more params locals n below h i true e =
    let one : ◌≡◌ {A = ℕ} (cond (nat_le params n && nat_lt n locals) 1 0) 1 = ap (λ b. cond (b && nat_lt n locals) 1 0) e ∙ ap (λ b. cond b 1 0) (lt-ltb n locals h) in
    omega (arith, one, i)
due_more params locals n below h i false e = let low : n < params = grind arith in omega (arith, low)

due_sum : (params locals n : ℕ) → n ≤ locals → n ≤ params + sum_below (λ k. due_declarations params locals k) n
due_sum params locals zero h = omega arith
due_sum params locals (suc n) h =
    due_more params locals n (sum_below (λ k. due_declarations params locals k) n) (omega (arith, h)) (due_sum params locals n (omega (arith, h))) (nat_le params n) refl

pub locals_declared : (params locals : ℕ) (s : Stmt) → ((k : ℕ) → declarations k s ≡ due_declarations params locals k) → locals ≤ params + stmt_locals s
locals_declared params locals s due =
    omega (arith, due_sum params locals locals (omega arith), sum_same (λ k. declarations k s) (λ k. due_declarations params locals k) locals due, stmt_below locals s)

for_bound : (a b d e m n u v w z : ℕ) → 5 * a + m ≤ 7 * u + 13 → 5 * b ≤ 7 * v + 13 → 5 * d ≤ 7 * w + 13 → 5 * e + n ≤ 7 * z + 7 → m ≤ u → n ≤ z
    → 5 * max a (max b (max d e)) + (m + n) ≤ 7 * (1 + (u + (v + (w + z)))) + 7
for_bound a b d e m n u v w z h i j k l o = omega (arith, h, i, j, k, l, o)

-- ---- depths and declarations, by the weight

module _ (c : Context) where
  abbrev W : Expr → ℕ
  W x = expr_weight c.structs x

  abbrev T : Expr → Type 0
  T x = IsTrue (is_typed c x)

  mutual
    unfolding expr_weight

    pub expr_depths : (x : Expr) → T x → 5 * depths x ≤ 7 * W x + 13
    expr_depths (Number ty word) t = omega arith
    expr_depths (Local ty k) t = omega arith
    expr_depths (Global ty k) t = omega arith
    expr_depths (Call ty callee xs) t = omega (arith, above_depths xs ((one (is_fit c.structs ty) (has_rule c (Call ty callee xs)) (are_typed c xs) t).1))
    expr_depths (Unary ty op x) t =
        let o = one (is_fit c.structs ty) (has_rule c (Unary ty op x)) (is_typed c x) t in
        omega (arith, expr_depths x o.1, positive c x o.1)
    expr_depths (Binary ty op x y) t =
        let o = two (is_fit c.structs ty) (has_rule c (Binary ty op x y)) (is_typed c x) (is_typed c y) t in
        omega (arith, expr_depths x o.1, expr_depths y o.2, positive c x o.1, positive c y o.2)
    expr_depths (Assign ty op x y) t =
        let o = two (is_fit c.structs ty) (has_rule c (Assign ty op x y)) (is_typed c x) (is_typed c y) t in
        omega (arith, expr_depths x o.1, expr_depths y o.2, positive c x o.1, positive c y o.2)
    expr_depths (Conditional ty x y z) t =
        let o = three (is_fit c.structs ty) (has_rule c (Conditional ty x y z)) (is_typed c x) (is_typed c y) (is_typed c z) t in
        omega (arith, expr_depths x o.1, expr_depths y o.2, expr_depths z o.3, positive c x o.1)
    expr_depths (Cast ty x) t =
        let o = one (is_fit c.structs ty) (has_rule c (Cast ty x)) (is_typed c x) t in
        omega (arith, expr_depths x o.1, positive c x o.1)
    expr_depths (Convert ty x) t =
        let o = one (is_fit c.structs ty) (has_rule c (Convert ty x)) (is_typed c x) t in
        omega (arith, expr_depths x o.1, positive c x o.1)
    expr_depths (Index ty x y) t =
        let o = two (is_fit c.structs ty) (has_rule c (Index ty x y)) (is_typed c x) (is_typed c y) t in
        omega (arith, expr_depths x o.1, expr_depths y o.2, positive c x o.1, positive c y o.2)
    expr_depths (Field ty x k) t =
        let o = one (is_fit c.structs ty) (has_rule c (Field ty x k)) (is_typed c x) t in
        omega (arith, expr_depths x o.1, positive c x o.1)
    expr_depths (Arrow ty x k) t =
        let o = one (is_fit c.structs ty) (has_rule c (Arrow ty x k)) (is_typed c x) t in
        omega (arith, expr_depths x o.1, positive c x o.1)
    expr_depths (Postfix ty op x) t =
        let o = one (is_fit c.structs ty) (has_rule c (Postfix ty op x)) (is_typed c x) t in
        omega (arith, expr_depths x o.1, positive c x o.1)
    expr_depths (Comma ty xs) t =
        let o = one (is_fit c.structs ty) (are_operands ty xs) (are_typed c xs) t in
        comma_depths ty xs o.0 o.1

    comma_depths : (ty : PlainType) (xs : Exprs) → IsTrue (are_operands ty xs) → IsTrue (are_typed c xs) → 5 * max 5 (depths_of_each xs) ≤ 7 * (exprs_count xs - 1 + exprs_weight c.structs xs) + 13
    comma_depths ty no_exprs r t = no_true r
    comma_depths ty (more_exprs x no_exprs) r t = no_true r
    comma_depths ty (more_exprs x (more_exprs y ys)) r t =
        let o = pair (is_typed c x) (are_typed c (more_exprs y ys)) t in
        let p = pair (is_typed c y) (are_typed c ys) o.1 in
        omega (arith, expr_depths x o.0, positive c x o.0, expr_depths y p.0, positive c y p.0, each_depths ys p.1)

    above_depths : (xs : Exprs) → IsTrue (are_typed c xs) → 5 * depths_above xs ≤ 7 * exprs_weight c.structs xs + 13
    above_depths no_exprs t = omega arith
    above_depths (more_exprs x xs) t =
        let o = pair (is_typed c x) (are_typed c xs) t in
        omega (arith, expr_depths x o.0, positive c x o.0, above_depths xs o.1)

    each_depths : (xs : Exprs) → IsTrue (are_typed c xs) → 5 * depths_of_each xs ≤ 7 * exprs_weight c.structs xs + 13
    each_depths no_exprs t = omega arith
    each_depths (more_exprs x xs) t =
        let o = pair (is_typed c x) (are_typed c xs) t in
        omega (arith, expr_depths x o.0, each_depths xs o.1)

  -- ---- statements: a declared local counts once

  optional_bound : (y : Option Expr) → IsTrue (is_optional_value c y) → 5 * optional_depths y ≤ 7 * optional_weight c.structs y + 13
  optional_bound None t = omega arith
  optional_bound (Some y) t = omega (arith, expr_depths y (back (not (is_array (type_of y))) (is_typed c y) t))

  condition_bound : (y : Option Expr) → IsTrue (is_optional_condition c y) → 5 * optional_depths y ≤ 7 * optional_weight c.structs y + 13
  condition_bound None t = omega arith
  condition_bound (Some y) t = omega (arith, expr_depths y (back (is_scalar (type_of y)) (is_typed c y) t))

  init_bound : (l : Option ul.Local) (y : Option Expr) → IsTrue (is_initialiser c l y) → 5 * optional_depths y ≤ 7 * init_weight c.structs y + 13
  init_bound l None t = omega arith
  init_bound l (Some y) t = omega (arith, expr_depths y (back (has_initialised_type l (type_of y)) (is_typed c y) t))

  declare_bound : (d : LocalDeclaration) → IsTrue (is_declared c d) → 5 * declared_depths d ≤ 7 * declared_weight c.structs d + 6
  declare_bound d t = omega (arith, init_bound (slice_get c.locals d.number) d.init t)

  -- so many are declared, and each counts
  declares_weigh : (ds : List LocalDeclaration) → length ds ≤ sum_by (declared_weight c.structs) ds
  declares_weigh [] = omega arith
  declares_weigh (d ∷ ds) = omega (arith, sum_by-cons (declared_weight c.structs) d ds, declares_weigh ds)

  declares_bound : (ds : List LocalDeclaration) → IsTrue (list_all (is_declared c) ds) → 5 * locals_depths ds + length ds ≤ 7 * sum_by (declared_weight c.structs) ds + 7
  declares_bound [] t = omega arith
  declares_bound (d ∷ ds) t =
      let o = pair (is_declared c d) (list_all (is_declared c) ds) t in
      omega (arith, sum_by-cons (declared_weight c.structs) d ds, declare_bound d o.0, declares_bound ds o.1, declares_weigh ds)

  first_weighs : (first : First) → first_locals first ≤ first_weight c.structs first
  first_weighs q.Nothing = omega arith
  first_weighs (q.Value x) = omega arith
  first_weighs (q.Locals ds) = declares_weigh ds

  first_bound : (first : First) → IsTrue (is_first c first) → 5 * first_depths first + first_locals first ≤ 7 * first_weight c.structs first + 13
  first_bound q.Nothing t = omega arith
  first_bound (q.Value x) t = omega (arith, expr_depths x (back (not (is_array (type_of x))) (is_typed c x) t))
  first_bound (q.Locals ds) t = omega (arith, declares_bound ds t)

  mutual
    unfolding stmt_weight

    pub stmt_weighs : (s : Stmt) → stmt_locals s ≤ stmt_weight c.structs s
    stmt_weighs (q.Block ss) = omega (arith, stmts_weigh ss)
    stmt_weighs (q.If x s h) = omega (arith, stmt_weighs s, else_weighs h)
    stmt_weighs (q.While x s) = omega (arith, stmt_weighs s)
    stmt_weighs (q.Do s x) = omega (arith, stmt_weighs s)
    stmt_weighs (q.For first x y s) = omega (arith, first_weighs first, stmt_weighs s)
    stmt_weighs (q.Switch x ss) = omega (arith, sections_weigh ss)
    stmt_weighs q.Break = omega arith
    stmt_weighs q.Continue = omega arith
    stmt_weighs (q.Return x) = omega arith
    stmt_weighs (q.Expression x) = omega arith
    stmt_weighs q.Empty = omega arith
    stmt_weighs (q.Declare d) = omega arith

    else_weighs : (h : Else) → else_locals h ≤ else_weight c.structs h
    else_weighs no_else = omega arith
    else_weighs (else_stmt s) = stmt_weighs s

    stmts_weigh : (ss : Stmts) → stmts_locals ss ≤ stmts_weight c.structs ss
    stmts_weigh no_stmts = omega arith
    stmts_weigh (more_stmts s ss) = omega (arith, stmt_weighs s, stmts_weigh ss)

    sections_weigh : (sections : Sections) → sections_locals sections ≤ sections_weight c.structs sections
    sections_weigh no_sections = omega arith
    sections_weigh (more_sections label ss rest) = omega (arith, stmts_weigh ss, sections_weigh rest)

  module _ (result : PlainType) where
    return_bound : (y : Option Expr) → IsTrue (is_returned c result y) → 5 * optional_depths y ≤ 7 * (1 + optional_weight c.structs y) + 7
    return_bound None t = omega arith
    return_bound (Some y) t = omega (arith, expr_depths y (back (is_same_type (type_of y) result && not (is_void result)) (is_typed c y) t))

    mutual
      unfolding stmt_weight

      pub stmt_bound : (j : Jumps) (s : Stmt) → IsTrue (is_typed_stmt c result j s) → 5 * stmt_depths s + stmt_locals s ≤ 7 * stmt_weight c.structs s + 7
      stmt_bound j (q.Block ss) t = omega (arith, stmts_bound j ss t)
      stmt_bound j (q.If x s h) t =
          let o = triple (is_condition c x) (is_typed_stmt c result j s) (is_typed_else c result j h) t in
          omega (arith, expr_depths x (back (is_scalar (type_of x)) (is_typed c x) o.0), stmt_bound j s o.1, else_bound j h o.2, stmt_weighs s, else_weighs h)
      stmt_bound j (q.While x s) t =
          let o = pair (is_condition c x) (is_typed_stmt c result in_loop s) t in
          omega (arith, expr_depths x (back (is_scalar (type_of x)) (is_typed c x) o.0), stmt_bound in_loop s o.1, stmt_weighs s)
      stmt_bound j (q.Do s x) t =
          let o = pair (is_condition c x) (is_typed_stmt c result in_loop s) t in
          omega (arith, expr_depths x (back (is_scalar (type_of x)) (is_typed c x) o.0), stmt_bound in_loop s o.1, stmt_weighs s)
      stmt_bound j (q.For first condition step s) t =
          let o = four (is_first c first) (is_optional_condition c condition) (is_optional_value c step) (is_typed_stmt c result in_loop s) t in
          for_bound (first_depths first) (optional_depths condition) (optional_depths step) (stmt_depths s) (first_locals first) (stmt_locals s) (first_weight c.structs first) (optional_weight c.structs condition) (optional_weight c.structs step) (stmt_weight c.structs s)
          (first_bound first o.0) (condition_bound condition o.1) (optional_bound step o.2) (stmt_bound in_loop s o.3) (first_weighs first) (stmt_weighs s)
      stmt_bound j (q.Switch x ss) t =
          let o = four (is_promoted (type_of x)) (are_labels (integer_of (type_of x)) ss) (is_typed c x) (are_typed_sections c result (in_switch j) ss) t in
          omega (arith, expr_depths x o.2, positive c x o.2, sections_bound (in_switch j) ss o.3, sections_weigh ss)
      stmt_bound j q.Break t = omega arith
      stmt_bound j q.Continue t = omega arith
      stmt_bound j (q.Return y) t = omega (arith, return_bound y t)
      stmt_bound j (q.Expression x) t = omega (arith, expr_depths x (back (not (is_array (type_of x))) (is_typed c x) t))
      stmt_bound j q.Empty t = omega arith
      stmt_bound j (q.Declare d) t = omega (arith, declare_bound d t)

      else_bound : (j : Jumps) (h : Else) → IsTrue (is_typed_else c result j h) → 5 * else_depths h + else_locals h ≤ 7 * else_weight c.structs h + 14
      else_bound j no_else t = omega arith
      else_bound j (else_stmt s) t = omega (arith, stmt_bound j s t)

      pub stmts_bound : (j : Jumps) (ss : Stmts) → IsTrue (are_typed_stmts c result j ss) → 5 * stmts_depths ss + stmts_locals ss ≤ 7 * stmts_weight c.structs ss + 7
      stmts_bound j no_stmts t = omega arith
      stmts_bound j (more_stmts s ss) t =
          let o = pair (is_typed_stmt c result j s) (are_typed_stmts c result j ss) t in
          omega (arith, stmt_bound j s o.0, stmts_bound j ss o.1, stmt_weighs s, stmts_weigh ss)

      sections_bound : (j : Jumps) (sections : Sections) → IsTrue (are_typed_sections c result j sections) → 5 * sections_depths sections + sections_locals sections ≤ 7 * sections_weight c.structs sections + 7
      sections_bound j no_sections t = omega arith
      sections_bound j (more_sections label ss rest) t =
          let o = pair (are_typed_stmts c result j ss) (are_typed_sections c result j rest) t in
          omega (arith, stmts_bound j ss o.0, sections_bound j rest o.1, stmts_weigh ss, sections_weigh rest)

  -- a block counts for the depths of all that is in it
  pub few_registers : (result : PlainType) (j : Jumps) (s : Stmt) (locals params : ℕ) → IsTrue (is_block s) → IsTrue (is_typed_stmt c result j s) → locals ≤ params + stmt_locals s
      → locals + 5 * max 1 (stmt_depths s) ≤ 7 * (params + stmt_weight c.structs s)
  unfolding stmt_weight
  few_registers result j (q.Block ss) locals params b t h = omega (arith, h, stmts_bound result j ss t, stmts_weigh ss)
  few_registers result j (q.If x s h') locals params b t h = no_true b
  few_registers result j (q.While x s) locals params b t h = no_true b
  few_registers result j (q.Do s x) locals params b t h = no_true b
  few_registers result j (q.For first x y s) locals params b t h = no_true b
  few_registers result j (q.Switch x ss) locals params b t h = no_true b
  few_registers result j q.Break locals params b t h = no_true b
  few_registers result j q.Continue locals params b t h = no_true b
  few_registers result j (q.Return x) locals params b t h = no_true b
  few_registers result j (q.Expression x) locals params b t h = no_true b
  few_registers result j q.Empty locals params b t h = no_true b
  few_registers result j (q.Declare d) locals params b t h = no_true b
