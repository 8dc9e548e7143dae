-- All statements, by their forms.
use Rattle.std.proofs.Common.{◌≡◌, ℕ, ◌+◌, ◌≤◌, List, [], ◌∷◌, Bool, true, false, ◌&&◌, ◌||◌, not, IsTrue, Option, Some, None, cond, refl, sym, ap, ◌∙◌, subst, arith}
use Rattle.std.specs.Prelude.{slice_get, nat_le, nat_lt, length, All}
use Rattle.std.specs.List.{list_all}
use Rattle.bk_arithmetic.specs.declared.integer_type.IntegerType.{IntegerType}
use Rattle.bk_arithmetic.specs.declared.integer_type.IntegerType.TheVariants as i
use Rattle.c_typed_tree.specs.declared.statements.TLabel.{TLabel}
use Rattle.c_typed_tree.specs.declared.statements.TLabel.TheVariants.{Case, Default}
use Rattle.c_typed_tree.specs.declared.units.Local.{Local}
use Rattle.c_typed_tree.specs.declared.units.TypedFn.{TypedFn}
use Rattle.c_typed_tree.specs.declared.units.TypedUnit.{TypedUnit}
use Rattle.c_typed_tree.specs.Types.{PlainType, Void, Int, Pointer, Array, Struct}
use Rattle.c_typed_tree.specs.View.{type_view, stmt_view}
use Rattle.c_typed_tree.specs.Layout.{integer_of, is_object}
use Rattle.c_typed_tree.specs.Expressions.{Expr, type_of}
use Rattle.c_typed_tree.specs.Statements.{LocalDeclaration, First, Stmt, Else, no_else, else_stmt, Stmts, no_stmts, more_stmts, Sections, no_sections, more_sections}
use Rattle.c_typed_tree.specs.Statements as q
use Rattle.c_typed_tree.specs.Typing.{is_same_type, is_void, is_scalar, is_struct, is_array, is_promoted, is_valid_type, depth_of, most_depth, Context, is_typed}
use Rattle.c_typed_tree.specs.TypingStatements.{Jumps, no_jumps, in_loop, in_switch, is_value, is_condition, is_optional_value, is_optional_condition, is_initialiser, is_declared, is_first, is_returned, is_label, is_label_of, are_labels, is_typed_stmt, are_typed_stmts, are_typed_sections}
use Rattle.c_typed_tree.specs.Declarations.{declarations, first_declarations, stmts_declarations, sections_declarations}
use Rattle.c_typed_tree.specs.Lawful.{IsTypedUnit, IsTypedFn, context_of, IsLawfulStruct, is_lawful_local, is_object_type, type_of_local}
use Rattle.c_typing_struct_layout.proofs.CLayoutLaws.Truth.{no_true, front, back, either}
use Rattle.c_semantics.specs.Executes.{declared_in, declared_first}
use Rattle.lowering_code.specs.Expressions.{plain_of}
use Rattle.lowering_bounds.proofs.Typing.{same}
use Rattle.lowering_expression_laws.specs.Parts.{Setting, ExprMeets}
use Rattle.lowering_expression_laws.specs.Laws.{IsScalarType}
use Rattle.lowering_expression_laws.specs.lowering_access_laws.Laws.{IsWholeStruct}
use Rattle.lowering_statement_laws.specs.Parts.{StmtMeets, StmtsMeet}
use Rattle.lowering_statement_laws.proofs.Statements as simple
use Rattle.lowering_statement_laws.specs.lowering_loop_laws.Laws.{LevelMeanings, at_level}
use Rattle.lowering_statement_laws.proofs.LoweringLoopLaws.Loops.{loops_meet}
use Rattle.lowering_statement_laws.proofs.LoweringLoopLaws.DoLoops.{do_loops_meet}
use Rattle.lowering_statement_laws.specs.lowering_for_laws.Laws.{StepMeets, ConditionMeets}
use Rattle.lowering_statement_laws.proofs.LoweringForLaws.ForLoops.{for_loops_meet}
use Rattle.lowering_statement_laws.specs.lowering_declaration_laws.Laws.{MayDeclare, MayDeclareAll, AllDeclarationsMeet, Declarations}
use Rattle.lowering_statement_laws.proofs.LoweringDeclarationLaws.Declarations.{declarations_meet}
use Rattle.lowering_statement_laws.proofs.LoweringDeclarationLaws.ForLoops.{declaring_for_loops_meet}
use Rattle.lowering_statement_laws.specs.lowering_switch_laws.Laws.{IsLabelOf, SectionsMeet}
use Rattle.lowering_statement_laws.proofs.LoweringSwitchLaws.Switches.{switches_meet}
use Rattle.lowering_expression_laws.proofs.LoweringExpressionTheorem.Types.{all_pass, promoted_known, scalar_known, void_known, object_small, PromotedIs}
use Rattle.lowering_expression_laws.proofs.LoweringExpressionTheorem.Known.{whole_struct}
use Rattle.lowering_expression_laws.proofs.LoweringExpressionTheorem.Expressions.{expressions_meet}
use Rattle.lowering_statement_laws.specs.lowering_statement_theorem.Laws.{AreSettings, BodiesMeet}

-- a struct type, by its test
record StructIs (ty : PlainType) : Type 0 where
  number : ℕ
  is : ty ≡ Struct number

struct_known : (ty : PlainType) → IsTrue (is_struct ty) → StructIs ty
struct_known Void h = no_true h
struct_known (Int n s) h = no_true h
struct_known (Pointer t) h = no_true h
struct_known (Array t n) h = no_true h
struct_known (Struct n) h = record { number = n; is = refl }

-- a struct is no scalar
not_scalar : {X : Type 0} (n : ℕ) → IsTrue (is_scalar (Struct n)) → X
not_scalar n h = no_true h

-- the integer type that a type is
integer_again : (t : IntegerType) → integer_of (plain_of t) ≡ Some t
integer_again i.Char = refl
integer_again i.UnsignedChar = refl
integer_again i.Short = refl
integer_again i.UnsignedShort = refl
integer_again i.Int = refl
integer_again i.UnsignedInt = refl
integer_again i.Long = refl
integer_again i.UnsignedLong = refl

label_known : (t : IntegerType) (label : TLabel) → IsTrue (is_label (Some t) label) → IsLabelOf t label
label_known t (Case n) h = h
label_known t Default h = tt

-- a local that is declared is there
record LocalIs (ls : List Local) (k : ℕ) : Type 0 where
  local : Local
  found : slice_get ls k ≡ Some local

module _ (u : TypedUnit) (f : TypedFn) (c : Setting) (levels : LevelMeanings) (lawful : IsTypedUnit u) (fn : IsTypedFn u f) (are : AreSettings u f c levels) where
  abbrev K : Context
  K = context_of u f

  abbrev R : PlainType
  R = type_view f.result

  found : slice_get c.functions c.number ≡ Some c.code
  found = (are.each 0).code

  structs : c.structs ≡ u.structs
  structs = (are.each 0).structs

  locals : c.locals ≡ f.locals
  locals = (are.each 0).locals

  abbrev S : ℕ → Setting
  S k = at_level c levels k

  abbrev Meets : Stmt → Type 0
  Meets x = (k : ℕ) → StmtMeets (S k) (levels.statements k) x

  expr : (x : Expr) → IsTrue (is_typed K x) → (k : ℕ) → ExprMeets (S k) x
  expr x h k = expressions_meet u f (S k) lawful fn (are.each k) x h

  value : (x : Expr) → IsTrue (is_value K x) → (k : ℕ) → ExprMeets (S k) x
  value x h k = expr x (back (not (is_array (type_of x))) (is_typed K x) h) k

  test_scalar : (x : Expr) → IsTrue (is_condition K x) → IsScalarType (type_of x)
  test_scalar x h = scalar_known (type_of x) (front (is_scalar (type_of x)) (is_typed K x) h)

  test : (x : Expr) → IsTrue (is_condition K x) → (k : ℕ) → ExprMeets (S k) x
  test x h k = expr x (back (is_scalar (type_of x)) (is_typed K x) h) k

  optional_test : (x : Option Expr) → IsTrue (is_optional_condition K x) → (k : ℕ) → ConditionMeets (S k) x
  optional_test None h k = tt
  optional_test (Some x) h k = (test_scalar x h, test x h k)

  optional_value : (x : Option Expr) → IsTrue (is_optional_value K x) → (k : ℕ) → StepMeets (S k) x
  optional_value None h k = tt
  optional_value (Some x) h k = value x h k

  -- ---- locals

  lawful_local : (k : ℕ) (l : Local) → slice_get f.locals k ≡ Some l → IsTrue (is_lawful_local u.structs l)
  lawful_local k l e = all_pass (is_lawful_local u.structs) f.locals k l fn.locals e

  object_local : (k : ℕ) (l : Local) → slice_get f.locals k ≡ Some l → IsTrue (is_valid_type u.structs (type_of_local l) && is_object u.structs (type_of_local l))
  object_local k l e =
      let ty = type_of_local l in
      front (is_valid_type u.structs ty && is_object u.structs ty) (nat_le (depth_of u.structs ty) most_depth) (front (is_object_type u.structs ty) (is_scalar ty || l.in_memory) (lawful_local k l e))

  may_declare : (k : ℕ) (l : Local) → slice_get f.locals k ≡ Some l → MayDeclare c.structs c.locals k
  may_declare k l e =
      let ty = type_of_local l in
      let o = object_local k l e in
      subst (λ ds. MayDeclare ds c.locals k) (sym structs)
      (subst (λ ls. MayDeclare u.structs ls k) (sym locals)
      (record {
        local = l;
        found = e;
        small = λ inside. object_small u.structs lawful.structs ty (front (is_valid_type u.structs ty) (is_object u.structs ty) o) (back (is_valid_type u.structs ty) (is_object u.structs ty) o);
      }))

  found_local : (k : ℕ) (l : Local) → slice_get f.locals k ≡ Some l → slice_get c.locals k ≡ Some l
  found_local k l e = ap (λ ls. slice_get ls k) locals ∙ e

  -- a declared local is there
  initialised : (init : Option Expr) (k : ℕ) (o : Option Local) → slice_get f.locals k ≡ o → IsTrue (is_initialiser K o init) → LocalIs f.locals k
  initialised None k None e h = no_true h
  initialised (Some x) k None e h = no_true h
  initialised None k (Some l) e h = record { local = l; found = e }
  initialised (Some x) k (Some l) e h = record { local = l; found = e }

  declared_local : (d : LocalDeclaration) → IsTrue (is_declared K d) → LocalIs f.locals d.number
  declared_local d h = initialised d.init d.number (slice_get f.locals d.number) refl h

  may_one : (d : LocalDeclaration) → IsTrue (is_declared K d) → MayDeclare c.structs c.locals d.number
  may_one d h = let l = declared_local d h in may_declare d.number l.local l.found

  may_first : (ds : List LocalDeclaration) → IsTrue (list_all (is_declared K) ds) → MayDeclareAll c.structs c.locals (declared_first (q.Locals ds))
  may_first [] h = tt
  may_first (d ∷ ds) h = (may_one d (front (is_declared K d) (list_all (is_declared K) ds) h), may_first ds (back (is_declared K d) (list_all (is_declared K) ds) h))

  may_block : (j : Jumps) (xs : Stmts) → IsTrue (are_typed_stmts K R j xs) → MayDeclareAll c.structs c.locals (declared_in xs)
  may_block j no_stmts h = tt
  may_block j (more_stmts x xs) h = with_one x (front (is_typed_stmt K R j x) (are_typed_stmts K R j xs) h) (may_block j xs (back (is_typed_stmt K R j x) (are_typed_stmts K R j xs) h))
    where
      with_one : (x : Stmt) → IsTrue (is_typed_stmt K R j x) → MayDeclareAll c.structs c.locals (declared_in xs) → MayDeclareAll c.structs c.locals (declared_in (more_stmts x xs))
      with_one (q.Block ss) h m = m
      with_one (q.If e s o) h m = m
      with_one (q.While e s) h m = m
      with_one (q.Do s e) h m = m
      with_one (q.For first condition step s) h m = m
      with_one (q.Switch e ss) h m = m
      with_one q.Break h m = m
      with_one q.Continue h m = m
      with_one (q.Return e) h m = m
      with_one (q.Expression e) h m = m
      with_one q.Empty h m = m
      with_one (q.Declare d) h m = (may_one d h, m)

  -- ---- declarations

  declares : (k : ℕ) → Declarations (S k) (levels.statements k)
  declares k = declarations_meet (S k) (levels.statements k) found

  -- a struct stands in memory, and is copied whole
  struct_declared : (n : ℕ) (l : Local) (x : Expr) (number : ℕ) → slice_get f.locals n ≡ Some l → type_of x ≡ type_view l.ty → type_view l.ty ≡ Struct number → ((k : ℕ) → ExprMeets (S k) x) → Meets (q.Declare (record { number = n; init = Some x }))
  struct_declared n l x number e ty is hx k =
      let o = object_local n l e in
      let o1 : IsTrue (is_valid_type u.structs (Struct number) && is_object u.structs (Struct number)) = subst (λ z. IsTrue (is_valid_type u.structs z && is_object u.structs z)) is o in
      let o2 : IsTrue (is_valid_type c.structs (Struct number) && is_object c.structs (Struct number)) = subst (λ ds. IsTrue (is_valid_type ds (Struct number) && is_object ds (Struct number))) (sym structs) o1 in
      let whole : IsWholeStruct (S k) number =
      whole_struct (S k) (subst (λ ds. All (IsLawfulStruct ds) ds) (sym structs) lawful.structs) number (front (is_valid_type c.structs (Struct number)) (is_object c.structs (Struct number)) o2) (back (is_valid_type c.structs (Struct number)) (is_object c.structs (Struct number)) o2) in
      let place : IsTrue (is_scalar (type_of_local l) || l.in_memory) = back (is_object_type u.structs (type_of_local l)) (is_scalar (type_of_local l) || l.in_memory) (lawful_local n l e) in
      let inside : l.in_memory ≡ true = either (is_scalar (type_of_local l)) l.in_memory (λ s. not_scalar number (subst (λ z. IsTrue (is_scalar z)) is s)) (λ m. m) place in
      (declares k).with_struct n l x number (found_local n l e) inside is ty whole (hx k)

  declared : (n : ℕ) (init : Option Expr) (o : Option Local) → slice_get f.locals n ≡ o → IsTrue (is_initialiser K o init) → Meets (q.Declare (record { number = n; init = init }))
  declared n None None e h k = no_true h
  declared n (Some x) None e h k = no_true h
  declared n None (Some l) e h k = (declares k).without_value n l (found_local n l e)
  declared n (Some x) (Some l) e h k =
      let ty = type_of x in
      let a = front (is_same_type ty (type_view l.ty) && (is_scalar ty || is_struct ty)) (is_typed K x) h in
      let hx : (k : ℕ) → ExprMeets (S k) x = expr x (back (is_same_type ty (type_view l.ty) && (is_scalar ty || is_struct ty)) (is_typed K x) h) in
      let is : ty ≡ type_view l.ty = same ty (type_view l.ty) (front (is_same_type ty (type_view l.ty)) (is_scalar ty || is_struct ty) a) in
      either (is_scalar ty) (is_struct ty)
      (λ s. (declares k).with_scalar n l x (found_local n l e) (subst IsScalarType is (scalar_known ty s)) is (hx k))
      (λ s. let number = struct_known ty s in struct_declared n l x number.number e is (sym is ∙ number.is) hx k)
      (back (is_same_type ty (type_view l.ty)) (is_scalar ty || is_struct ty) a)

  declaration : (d : LocalDeclaration) → IsTrue (is_declared K d) → Meets (q.Declare d)
  declaration d h = declared d.number d.init (slice_get f.locals d.number) refl h

  all_declared : (ds : List LocalDeclaration) → IsTrue (list_all (is_declared K) ds) → (k : ℕ) → AllDeclarationsMeet (S k) (levels.statements k) ds
  all_declared [] h k = tt
  all_declared (d ∷ ds) h k = (declaration d (front (is_declared K d) (list_all (is_declared K) ds) h) k, all_declared ds (back (is_declared K d) (list_all (is_declared K) ds) h) k)

  -- ---- what is returned

  returned : (x : Option Expr) → IsTrue (is_returned K R x) → Meets (q.Return x)
  returned None h k = simple.returns (S k) found (levels.statements k) (are.result ∙ void_known R h)
  returned (Some x) h k =
      let ty = type_of x in
      let a = front (is_same_type ty R && not (is_void R)) (is_typed K x) h in
      let is : ty ≡ R = same ty R (front (is_same_type ty R) (not (is_void R)) a) in
      let given : IsTrue (not (is_void R)) = back (is_same_type ty R) (not (is_void R)) a in
      let scalar : IsScalarType R =
      either (is_void R) (is_scalar R && is_object_type u.structs R) (λ void. no_true (sym (ap not void) ∙ given)) (λ s. scalar_known R (front (is_scalar R) (is_object_type u.structs R) s)) fn.result in
      simple.values (S k) found (levels.statements k) x (is ∙ sym are.result) (subst IsScalarType (sym is) scalar) (expr x (back (is_same_type ty R && not (is_void R)) (is_typed K x) h) k)

  -- ---- all forms; each local is declared once at most

  -- a `for`, by its first part
  for_loop : (first : First) (condition step : Option Expr) (s : Stmt) → IsTrue (is_first K first) → ((k : ℕ) → ConditionMeets (S k) condition) → ((k : ℕ) → StepMeets (S k) step) → ((n : ℕ) → first_declarations n first + declarations n s ≤ 1) → Meets s → Meets (q.For first condition step s)
  for_loop q.Nothing condition step s h ht hs once hb k = (for_loops_meet c levels found are.meanings condition step s ht hs hb).without_first k
  for_loop (q.Value x) condition step s h ht hs once hb k = (for_loops_meet c levels found are.meanings condition step s ht hs hb).with_value x k (value x h k)
  for_loop (q.Locals ds) condition step s h ht hs once hb k = declaring_for_loops_meet c levels found are.meanings ds condition step s (may_first ds h) once (all_declared ds h) ht hs hb k

  mutual
    stmt : (j : Jumps) (x : Stmt) → IsTrue (is_typed_stmt K R j x) → ((n : ℕ) → declarations n x ≤ 1) → Meets x
    stmt j (q.Block xs) h once k = (declares k).blocks xs (may_block j xs h) once (stmts j xs h once k)
    stmt j (q.If x s no_else) h once k =
        let a = front (is_condition K x && is_typed_stmt K R j s) true h in
        let b = front (is_condition K x) (is_typed_stmt K R j s) a in
        simple.conditions (S k) found (levels.statements k) x s (test_scalar x b) (test x b k) (stmt j s (back (is_condition K x) (is_typed_stmt K R j s) a) (λ n. let o = once n in omega (arith, o)) k)
    stmt j (q.If x s (else_stmt t)) h once k =
        let a = front (is_condition K x && is_typed_stmt K R j s) (is_typed_stmt K R j t) h in
        let b = front (is_condition K x) (is_typed_stmt K R j s) a in
        simple.choices (S k) found (levels.statements k) x s t (test_scalar x b) (test x b k) (stmt j s (back (is_condition K x) (is_typed_stmt K R j s) a) (λ n. let o = once n in omega (arith, o)) k)
        (stmt j t (back (is_condition K x && is_typed_stmt K R j s) (is_typed_stmt K R j t) h) (λ n. let o = once n in omega (arith, o)) k)
    stmt j (q.While x s) h once k =
        let b = front (is_condition K x) (is_typed_stmt K R in_loop s) h in
        loops_meet c levels found are.meanings x s (test_scalar x b) (test x b) (stmt in_loop s (back (is_condition K x) (is_typed_stmt K R in_loop s) h) once) k
    stmt j (q.Do s x) h once k =
        let b = front (is_condition K x) (is_typed_stmt K R in_loop s) h in
        do_loops_meet c levels found are.meanings x s (test_scalar x b) (test x b) (stmt in_loop s (back (is_condition K x) (is_typed_stmt K R in_loop s) h) once) k
    stmt j (q.For first condition step s) h once k =
        let a = front (is_first K first && is_optional_condition K condition && is_optional_value K step) (is_typed_stmt K R in_loop s) h in
        let a1 = front (is_first K first && is_optional_condition K condition) (is_optional_value K step) a in
        for_loop first condition step s (front (is_first K first) (is_optional_condition K condition) a1) (optional_test condition (back (is_first K first) (is_optional_condition K condition) a1))
        (optional_value step (back (is_first K first && is_optional_condition K condition) (is_optional_value K step) a)) once
        (stmt in_loop s (back (is_first K first && is_optional_condition K condition && is_optional_value K step) (is_typed_stmt K R in_loop s) h) (λ n. let o = once n in omega (arith, o))) k
    stmt j (q.Switch x xs) h once k =
        let a = front (is_promoted (type_of x) && are_labels (integer_of (type_of x)) xs && is_typed K x) (are_typed_sections K R (in_switch j) xs) h in
        let a1 = front (is_promoted (type_of x) && are_labels (integer_of (type_of x)) xs) (is_typed K x) a in
        let t : PromotedIs (type_of x) = promoted_known (type_of x) (front (is_promoted (type_of x)) (are_labels (integer_of (type_of x)) xs) a1) in
        let labels : IsTrue (are_labels (Some t.type) xs) = subst (λ o. IsTrue (are_labels o xs)) (ap integer_of t.is ∙ integer_again t.type) (back (is_promoted (type_of x)) (are_labels (integer_of (type_of x)) xs) a1) in
        switches_meet (S k) (levels.statements k) found t.type x xs t.stays t.is (expr x (back (is_promoted (type_of x) && are_labels (integer_of (type_of x)) xs) (is_typed K x) a) k)
        (sections (in_switch j) t.type xs (back (is_promoted (type_of x) && are_labels (integer_of (type_of x)) xs && is_typed K x) (are_typed_sections K R (in_switch j) xs) h) labels once k)
    stmt j q.Break h once k = simple.breaks (S k) found (levels.statements k)
    stmt j q.Continue h once k = simple.continues (S k) found (levels.statements k)
    stmt j (q.Return x) h once k = returned x h k
    stmt j (q.Expression x) h once k = simple.expressions (S k) found (levels.statements k) x (value x h k)
    stmt j q.Empty h once k = simple.empty (S k) found (levels.statements k)
    stmt j (q.Declare d) h once k = declaration d h k

    stmts : (j : Jumps) (xs : Stmts) → IsTrue (are_typed_stmts K R j xs) → ((n : ℕ) → stmts_declarations n xs ≤ 1) → (k : ℕ) → StmtsMeet (S k) (levels.statements k) xs
    stmts j no_stmts h once k = simple.none (S k) found (levels.statements k)
    stmts j (more_stmts x xs) h once k =
        simple.more (S k) found (levels.statements k) x xs (stmt j x (front (is_typed_stmt K R j x) (are_typed_stmts K R j xs) h) (λ n. let o = once n in omega (arith, o)) k)
        (stmts j xs (back (is_typed_stmt K R j x) (are_typed_stmts K R j xs) h) (λ n. let o = once n in omega (arith, o)) k)

    sections : (j : Jumps) (t : IntegerType) (xs : Sections) → IsTrue (are_typed_sections K R j xs) → IsTrue (are_labels (Some t) xs) → ((n : ℕ) → sections_declarations n xs ≤ 1) → (k : ℕ) → SectionsMeet (S k) (levels.statements k) t xs
    sections j t no_sections h labels once k = tt
    sections j t (more_sections label ss rest) h labels once k =
        let a = front (is_label (Some t) label && not (is_label_of label rest)) (are_labels (Some t) rest) labels in (
          label_known t label (front (is_label (Some t) label) (not (is_label_of label rest)) a),
          stmts j ss (front (are_typed_stmts K R j ss) (are_typed_sections K R j rest) h) (λ n. let o = once n in omega (arith, o)) k,
          sections j t rest (back (are_typed_stmts K R j ss) (are_typed_sections K R j rest) h) (back (is_label (Some t) label && not (is_label_of label rest)) (are_labels (Some t) rest) labels) (λ n. let o = once n in omega (arith, o)) k,
        )

cond_small : (b : Bool) → cond b 1 0 ≤ 1
cond_small true = omega arith
cond_small false = omega arith

pub bodies_meet : BodiesMeet
bodies_meet u f c levels lawful fn are k =
    stmt u f c levels lawful fn are no_jumps (stmt_view f.body) fn.body
    (λ n. let due = fn.declares n in let small = cond_small (nat_le f.params n && nat_lt n (length f.locals)) in omega (arith, due, small)) k
