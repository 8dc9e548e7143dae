-- A refinement in the place of a part refines the whole statement, by induction on the level.
use Rattle.std.proofs.Common.{◌≡◌, ◌≤◌, ◌+◌, ℕ, zero, suc, Bool, true, ◌&&◌, ◌||◌, not, IsTrue, List, [], ◌∷◌, ◌++◌, Option, Some, None, refl, sym, ap, ◌∙◌, subst, arith, sum_by}
use Rattle.std.specs.Prelude.{slice_get, map, if◌then◌else◌, cond, ◌==◌}
use Rattle.std.specs.List.{list_all, list_any}
use Rattle.std.proofs.lemmas.List.Sums.{sum_by_from}
use Rattle.mem_model.specs.World.{Rooms}
use Rattle.bk_arithmetic.specs.declared.integer_type.IntegerType.{IntegerType}
use Rattle.c_typed_tree.specs.declared.statements.TLabel.{TLabel}
use Rattle.c_typed_tree.specs.declared.types.StructDef.{StructDef}
use Rattle.c_typed_tree.specs.declared.units.Local.{Local}
use Rattle.c_typed_tree.specs.declared.units.TypedUnit.{TypedUnit}
use Rattle.c_typed_tree.specs.Types.{PlainType}
use Rattle.c_typed_tree.specs.Expressions.{Expr, type_of}
use Rattle.c_typed_tree.specs.Statements.{LocalDeclaration, First, Stmt, Else, no_else, else_stmt, Stmts, no_stmts, more_stmts, Sections, no_sections, more_sections}
use Rattle.c_typed_tree.specs.Statements as q
use Rattle.c_typed_tree.specs.Layout.{integer_of}
use Rattle.c_typed_tree.specs.View.{type_view}
use Rattle.c_typed_tree.specs.Typing.{Context, is_same_type, is_void, is_scalar, is_array, is_promoted, is_typed}
use Rattle.c_typed_tree.specs.TypingStatements as types
use Rattle.c_typed_tree.specs.TypingStatements.{Jumps, in_loop, in_switch, is_value, is_condition, is_optional_value, is_optional_condition, has_initialised_type, is_initialiser, is_declared, is_first, is_returned, is_label, is_same_label, are_labels, is_typed_stmt, is_typed_else, are_typed_stmts, are_typed_sections}
use Rattle.c_typed_tree.specs.Names.{Referent, is_local, names, optional_names, declared_names, first_names, stmt_names, else_names, stmts_names, sections_names}
use Rattle.c_typed_tree.specs.Declarations.{declarations_here, first_declarations, declarations, else_declarations, stmts_declarations, sections_declarations}
use Rattle.c_typed_tree.specs.Weight.{copy_weight, expr_weight, optional_weight, init_weight, declared_weight, first_weight, stmt_weight, else_weight, stmts_weight, sections_weight}
use Rattle.c_semantics.specs.Runs.{Run, ◌>>=◌, ◌>>◌, pure, turn}
use Rattle.c_semantics.specs.Objects.{Scope, with_locals}
use Rattle.c_semantics.specs.Evaluates.{Functions, choose}
use Rattle.c_semantics.specs.Executes.{StatementFlow, Goes, after_body, declared_by, declared_in, declared_first, is_chosen_label, has_label, target_in, holds, loop_condition, loop_step, initialise_object, run_declaration, run_declarations, first, flow_of_return, exec, exec_else, execs, exec_sections, exec_from, calls_of, level, function_locals}
use Rattle.c_semantics.specs.Refines as r
use Rattle.c_semantics.specs.Refines.{IsBelow, IgnorePeak, ExprWithin, OptionWithin, DeclaredWithin, AllDeclaredWithin, FirstWithin, context_at, result_at, IsTypedAt, StmtRefines, StmtWithin, ElseWithin, StmtsWithin, SectionsWithin}
use Rattle.c_semantics.proofs.Facts.{front, back, also, either_on, along, three, four}
use Rattle.c_semantics.proofs.RefinesExpr.{within_below}
use Rattle.c_semantics.proofs.Forms as forms
use Rattle.c_semantics.proofs.Below.{below_refines, refines_below, BelowOf, kept_below, no_turn_below}

-- ---- the locals and labels of both are the same

all_numbers : {a b : List LocalDeclaration} → AllDeclaredWithin a b → map (λ d. d.number) a ≡ map (λ d. d.number) b
all_numbers r.no_more = refl
all_numbers (r.one_more {e = e} {ds = ds} h g) = ap (λ k. k ∷ map (λ d. d.number) ds) h.number ∙ ap (λ ks. e.number ∷ ks) (all_numbers g)

first_numbers : {a b : First} → FirstWithin a b → declared_first a ≡ declared_first b
first_numbers r.nothing_first = refl
first_numbers (r.value_first h) = refl
first_numbers (r.locals_first h) = all_numbers h

here_within : (number : ℕ) {d e : LocalDeclaration} → DeclaredWithin d e → declarations_here number d ≡ declarations_here number e
here_within number h = ap (λ k. cond (k == number) 1 0) h.number

all_within : (number : ℕ) {a b : List LocalDeclaration} → AllDeclaredWithin a b → sum_by (declarations_here number) a ≡ sum_by (declarations_here number) b
all_within number r.no_more = refl
all_within number (r.one_more {d = d} {e = e} {ds = ds} {es = es} h g) =
    omega (arith, here_within number h, all_within number g, sum_by_from (declarations_here number) (0 + declarations_here number d) ds, sum_by_from (declarations_here number) (0 + declarations_here number e) es)

first_within : (number : ℕ) {a b : First} → FirstWithin a b → first_declarations number a ≡ first_declarations number b
first_within number r.nothing_first = refl
first_within number (r.value_first h) = refl
first_within number (r.locals_first h) = all_within number h

same_labels : (target : Option ℕ) {a b : Sections} → SectionsWithin a b → has_label target a ≡ has_label target b
same_labels target r.no_section_left = refl
same_labels target (r.one_section {label = label} h g) = ap (λ x. is_chosen_label target label || x) (same_labels target g)

same_target : (n : ℕ) {a b : Sections} → SectionsWithin a b → target_in n a ≡ target_in n b
same_target n h = ap (λ found. if found then Some n else None) (same_labels (Some n) h)

label_found : (other : TLabel) {a b : Sections} → SectionsWithin a b → types.is_label_of other a ≡ types.is_label_of other b
label_found other r.no_section_left = refl
label_found other (r.one_section {label = label} h g) = ap (λ x. is_same_label other label || x) (label_found other g)

labels_on : (t : Option IntegerType) {a b : Sections} → SectionsWithin a b → are_labels t a ≡ are_labels t b
labels_on t r.no_section_left = refl
labels_on t (r.one_section {label = label} {a = a} {b = b} h g) =
    ap (λ x. is_label t label && not x && are_labels t a) (label_found label g) ∙ ap (λ x. is_label t label && not (types.is_label_of label b) && x) (labels_on t g)

-- ---- parts of statements: still well typed, naming nothing new, and weighing no more

record PartIn (typed : Bool) (named others : Referent → Bool) (weight most : ℕ) : Type 0 where
  fits : IsTrue typed
  names : (a : Referent) → IsTrue (named a) → IsTrue (others a)
  light : weight ≤ most

module _ (c : Context) where
  abbrev StandsFor : (x y : Expr) → (test : Context → Expr → Bool) → Type 0
  StandsFor x y test = PartIn (test c x) (λ a. names a x) (λ a. names a y) (expr_weight c.structs x) (expr_weight c.structs y)

  abbrev typed_value : (y : Expr) → IsTrue (is_value c y) → IsTrue (is_typed c y)
  typed_value y p = back (not (is_array (type_of y))) (is_typed c y) p

  abbrev typed_condition : (y : Expr) → IsTrue (is_condition c y) → IsTrue (is_typed c y)
  typed_condition y p = back (is_scalar (type_of y)) (is_typed c y) p

  value_part : {x y : Expr} → ExprWithin x y → IsTrue (is_value c y) → StandsFor x y is_value
  value_part {x = x} {y = y} h p =
      let e = within_below h c (typed_value y p) in
      record {
        fits = also (not (is_array (type_of x))) (is_typed c x) (along (λ o. not (is_array o)) e.types (front (not (is_array (type_of y))) (is_typed c y) p)) e.typed;
        names = e.named;
        light = e.weight;
      }

  condition_part : {x y : Expr} → ExprWithin x y → IsTrue (is_condition c y) → StandsFor x y is_condition
  condition_part {x = x} {y = y} h p =
      let e = within_below h c (typed_condition y p) in
      record {
        fits = also (is_scalar (type_of x)) (is_typed c x) (along (λ o. is_scalar o) e.types (front (is_scalar (type_of y)) (is_typed c y) p)) e.typed;
        names = e.named;
        light = e.weight;
      }

  abbrev StandsForOptional : (x y : Option Expr) → (test : Context → Option Expr → Bool) → Type 0
  StandsForOptional x y test =
      PartIn (test c x) (λ a. optional_names a x) (λ a. optional_names a y) (optional_weight c.structs x) (optional_weight c.structs y)

  missing_part : (test : Context → Option Expr → Bool) → IsTrue (test c None) → StandsForOptional None None test
  missing_part test p = record { fits = p; names = λ a h. h; light = omega arith }

  optional_value : {x y : Option Expr} → OptionWithin x y → IsTrue (is_optional_value c y) → StandsForOptional x y is_optional_value
  optional_value r.missing p = missing_part is_optional_value p
  optional_value (r.present h) p = let v = value_part h p in record { fits = v.fits; names = v.names; light = v.light }

  optional_condition : {x y : Option Expr} → OptionWithin x y → IsTrue (is_optional_condition c y) → StandsForOptional x y is_optional_condition
  optional_condition r.missing p = missing_part is_optional_condition p
  optional_condition (r.present h) p = let v = condition_part h p in record { fits = v.fits; names = v.names; light = v.light }

  abbrev typed_returned : (result : PlainType) (y : Expr) → IsTrue (is_returned c result (Some y)) → IsTrue (is_typed c y)
  typed_returned result y p = back (is_same_type (type_of y) result && not (is_void result)) (is_typed c y) p

  returned_part : (result : PlainType) {x y : Option Expr} → OptionWithin x y → IsTrue (is_returned c result y) → StandsForOptional x y (λ d o. is_returned d result o)
  returned_part result r.missing p = missing_part (λ d o. is_returned d result o) p
  returned_part result (r.present {x = x} {y = y} h) p =
      let e = within_below h c (typed_returned result y p) in
      let f = front (is_same_type (type_of y) result && not (is_void result)) (is_typed c y) p in
      record {
        fits = also (is_same_type (type_of x) result && not (is_void result)) (is_typed c x) (along (λ o. is_same_type o result && not (is_void result)) e.types f) e.typed;
        names = e.named;
        light = e.weight;
      }

  abbrev typed_initialiser : (l : Option Local) (y : Expr) → IsTrue (is_initialiser c l (Some y)) → IsTrue (is_typed c y)
  typed_initialiser l y p = back (has_initialised_type l (type_of y)) (is_typed c y) p

  initialiser_part : (l : Option Local) {x y : Option Expr} → OptionWithin x y → IsTrue (is_initialiser c l y)
      → PartIn (is_initialiser c l x) (λ a. optional_names a x) (λ a. optional_names a y) (init_weight c.structs x) (init_weight c.structs y)
  initialiser_part l r.missing p = record { fits = p; names = λ a h. h; light = omega arith }
  initialiser_part l (r.present {x = x} {y = y} h) p =
      let e = within_below h c (typed_initialiser l y p) in
      record {
        fits = also (has_initialised_type l (type_of x)) (is_typed c x) (along (λ o. has_initialised_type l o) e.types (front (has_initialised_type l (type_of y)) (is_typed c y) p)) e.typed;
        names = e.named;
        light = omega (arith, e.weight, ap (λ o. copy_weight c.structs o) e.types);
      }

  declared_part : {d e : LocalDeclaration} → DeclaredWithin d e → IsTrue (is_declared c e)
      → PartIn (is_declared c d) (λ a. declared_names a d) (λ a. declared_names a e) (declared_weight c.structs d) (declared_weight c.structs e)
  declared_part {d = d} {e = e} h p =
      let i = initialiser_part (slice_get c.locals e.number) h.init p in
      record {
        fits = along (λ k. is_initialiser c (slice_get c.locals k) d.init) h.number i.fits;
        names = λ a. either_on (is_local a d.number) (optional_names a d.init) (is_local a e.number) (optional_names a e.init) (along (λ k. is_local a k) (sym h.number)) (i.names a);
        light = omega (arith, i.light);
      }

  all_declared_part : {ds es : List LocalDeclaration} → AllDeclaredWithin ds es → IsTrue (list_all (is_declared c) es)
      → PartIn (list_all (is_declared c) ds) (λ a. list_any (declared_names a) ds) (λ a. list_any (declared_names a) es) (sum_by (declared_weight c.structs) ds) (sum_by (declared_weight c.structs) es)
  all_declared_part r.no_more p = record { fits = p; names = λ a h. h; light = omega arith }
  all_declared_part (r.one_more {d = d} {e = e} {ds = ds} {es = es} h g) p =
      let f = declared_part h (front (is_declared c e) (list_all (is_declared c) es) p) in
      let k = all_declared_part g (back (is_declared c e) (list_all (is_declared c) es) p) in
      record {
        fits = also (is_declared c d) (list_all (is_declared c) ds) f.fits k.fits;
        names = λ a. either_on (declared_names a d) (list_any (declared_names a) ds) (declared_names a e) (list_any (declared_names a) es) (f.names a) (k.names a);
        light = omega (arith, f.light, k.light, sum_by_from (declared_weight c.structs) (0 + declared_weight c.structs d) ds, sum_by_from (declared_weight c.structs) (0 + declared_weight c.structs e) es);
      }

  first_part : {a b : First} → FirstWithin a b → IsTrue (is_first c b)
      → PartIn (is_first c a) (λ n. first_names n a) (λ n. first_names n b) (first_weight c.structs a) (first_weight c.structs b)
  first_part r.nothing_first p = record { fits = p; names = λ a h. h; light = omega arith }
  first_part (r.value_first h) p = let v = value_part h p in record { fits = v.fits; names = v.names; light = v.light }
  first_part (r.locals_first h) p = let v = all_declared_part h p in record { fits = v.fits; names = v.names; light = v.light }

-- ---- what a statement is besides what it does

record StmtIn (unit : TypedUnit) (n : ℕ) (j : Jumps) (s t : Stmt) : Type 0 where
  typed : IsTypedAt unit n j s
  declares : declared_by s ≡ declared_by t
  declarations : (number : ℕ) → declarations number s ≡ declarations number t
  named : (a : Referent) → IsTrue (stmt_names a s) → IsTrue (stmt_names a t)
  weight : stmt_weight unit.structs s ≤ stmt_weight unit.structs t

module _ (unit : TypedUnit) (n : ℕ) where
  abbrev here : Context
  here = context_at unit (slice_get unit.functions n)

  abbrev gives : PlainType
  gives = result_at (slice_get unit.functions n)

  record ElseIn (j : Jumps) (s t : Else) : Type 0 where
    typed : IsTrue (is_typed_else here gives j s)
    declarations : (number : ℕ) → else_declarations number s ≡ else_declarations number t
    named : (a : Referent) → IsTrue (else_names a s) → IsTrue (else_names a t)
    weight : else_weight unit.structs s ≤ else_weight unit.structs t

  record StmtsIn (j : Jumps) (s t : Stmts) : Type 0 where
    typed : IsTrue (are_typed_stmts here gives j s)
    declares : declared_in s ≡ declared_in t
    declarations : (number : ℕ) → stmts_declarations number s ≡ stmts_declarations number t
    named : (a : Referent) → IsTrue (stmts_names a s) → IsTrue (stmts_names a t)
    weight : stmts_weight unit.structs s ≤ stmts_weight unit.structs t

  record SectionsIn (j : Jumps) (s t : Sections) : Type 0 where
    typed : IsTrue (are_typed_sections here gives j s)
    declarations : (number : ℕ) → sections_declarations number s ≡ sections_declarations number t
    named : (a : Referent) → IsTrue (sections_names a s) → IsTrue (sections_names a t)
    weight : sections_weight unit.structs s ≤ sections_weight unit.structs t

  mutual
    unfolding stmt_weight

    stmt_in : {s t : Stmt} → StmtWithin s t → (j : Jumps) → IsTypedAt unit n j t → StmtIn unit n j s t
    stmt_in (r.refined h) j p = let k = h unit n j p in record { typed = k.typed; declares = k.declares; declarations = k.declarations; named = k.named; weight = k.weight }
    stmt_in (r.block h) j p = let k = stmts_in h j p in record { typed = k.typed; declares = refl; declarations = k.declarations; named = k.named; weight = omega (arith, k.weight) }
    stmt_in (r.choice {x = x} {y = y} {s = s} {t = t} {a = a} {b = b} h g l) j p =
        let p3 = back (is_condition here y && is_typed_stmt here gives j t) (is_typed_else here gives j b) p in
        let q3 = front (is_condition here y && is_typed_stmt here gives j t) (is_typed_else here gives j b) p in
        let e = condition_part here h (front (is_condition here y) (is_typed_stmt here gives j t) q3) in
        let k = stmt_in g j (back (is_condition here y) (is_typed_stmt here gives j t) q3) in
        let m = else_in l j p3 in
        record {
          typed = three (is_condition here x) (is_typed_stmt here gives j s) (is_typed_else here gives j a) e.fits k.typed m.typed;
          declares = refl;
          declarations = λ o. omega (arith, k.declarations o, m.declarations o);
          named = λ o. either_on (names o x || stmt_names o s) (else_names o a) (names o y || stmt_names o t) (else_names o b) (either_on (names o x) (stmt_names o s) (names o y) (stmt_names o t) (e.names o) (k.named o)) (m.named o);
          weight = omega (arith, e.light, k.weight, m.weight);
        }
    stmt_in (r.while_loop {x = x} {y = y} {s = s} {t = t} h g) j p =
        let e = condition_part here h (front (is_condition here y) (is_typed_stmt here gives in_loop t) p) in
        let k = stmt_in g in_loop (back (is_condition here y) (is_typed_stmt here gives in_loop t) p) in
        record {
          typed = also (is_condition here x) (is_typed_stmt here gives in_loop s) e.fits k.typed;
          declares = refl;
          declarations = k.declarations;
          named = λ o. either_on (names o x) (stmt_names o s) (names o y) (stmt_names o t) (e.names o) (k.named o);
          weight = omega (arith, e.light, k.weight);
        }
    stmt_in (r.do_loop {x = x} {y = y} {s = s} {t = t} h g) j p =
        let e = condition_part here g (front (is_condition here y) (is_typed_stmt here gives in_loop t) p) in
        let k = stmt_in h in_loop (back (is_condition here y) (is_typed_stmt here gives in_loop t) p) in
        record {
          typed = also (is_condition here x) (is_typed_stmt here gives in_loop s) e.fits k.typed;
          declares = refl;
          declarations = k.declarations;
          named = λ o. either_on (stmt_names o s) (names o x) (stmt_names o t) (names o y) (k.named o) (e.names o);
          weight = omega (arith, e.light, k.weight);
        }
    stmt_in (r.for_loop {a = a} {b = b} {x = x} {y = y} {v = v} {w = w} {s = s} {t = t} h g l i) j p =
        let p4 = back (is_first here b && is_optional_condition here y && is_optional_value here w) (is_typed_stmt here gives in_loop t) p in
        let q4 = front (is_first here b && is_optional_condition here y && is_optional_value here w) (is_typed_stmt here gives in_loop t) p in
        let p3 = back (is_first here b && is_optional_condition here y) (is_optional_value here w) q4 in
        let q3 = front (is_first here b && is_optional_condition here y) (is_optional_value here w) q4 in
        let d = first_part here h (front (is_first here b) (is_optional_condition here y) q3) in
        let e = optional_condition here g (back (is_first here b) (is_optional_condition here y) q3) in
        let f = optional_value here l p3 in
        let k = stmt_in i in_loop p4 in
        record {
          typed = four (is_first here a) (is_optional_condition here x) (is_optional_value here v) (is_typed_stmt here gives in_loop s) d.fits e.fits f.fits k.typed;
          declares = refl;
          declarations = λ o. omega (arith, first_within o h, k.declarations o);
          named = λ o. either_on (first_names o a || optional_names o x || optional_names o v) (stmt_names o s) (first_names o b || optional_names o y || optional_names o w) (stmt_names o t)
              (either_on (first_names o a || optional_names o x) (optional_names o v) (first_names o b || optional_names o y) (optional_names o w)
              (either_on (first_names o a) (optional_names o x) (first_names o b) (optional_names o y) (d.names o) (e.names o)) (f.names o)) (k.named o);
          weight = omega (arith, d.light, e.light, f.light, k.weight);
        }
    stmt_in (r.switch_on {x = x} {y = y} {ss = a} {ts = b} h g) j p =
        let p4 = back (is_promoted (type_of y) && are_labels (integer_of (type_of y)) b && is_typed here y) (are_typed_sections here gives (in_switch j) b) p in
        let q4 = front (is_promoted (type_of y) && are_labels (integer_of (type_of y)) b && is_typed here y) (are_typed_sections here gives (in_switch j) b) p in
        let p3 = back (is_promoted (type_of y) && are_labels (integer_of (type_of y)) b) (is_typed here y) q4 in
        let q3 = front (is_promoted (type_of y) && are_labels (integer_of (type_of y)) b) (is_typed here y) q4 in
        let e = within_below h here p3 in
        let k = sections_in g (in_switch j) p4 in
        record {
          typed = four (is_promoted (type_of x)) (are_labels (integer_of (type_of x)) a) (is_typed here x) (are_typed_sections here gives (in_switch j) a)
              (along (λ o. is_promoted o) e.types (front (is_promoted (type_of y)) (are_labels (integer_of (type_of y)) b) q3))
              (labels_on (integer_of (type_of x)) g ∙ along (λ o. are_labels (integer_of o) b) e.types (back (is_promoted (type_of y)) (are_labels (integer_of (type_of y)) b) q3))
              e.typed k.typed;
          declares = refl;
          declarations = k.declarations;
          named = λ o. either_on (names o x) (sections_names o a) (names o y) (sections_names o b) (e.named o) (k.named o);
          weight = omega (arith, e.weight, k.weight);
        }
    stmt_in (r.returns h) j p = let k = returned_part here gives h p in record { typed = k.fits; declares = refl; declarations = λ o. omega arith; named = k.names; weight = omega (arith, k.light) }
    stmt_in (r.expression h) j p = let k = value_part here h p in record { typed = k.fits; declares = refl; declarations = λ o. omega arith; named = k.names; weight = omega (arith, k.light) }
    stmt_in (r.declaration h) j p = let k = declared_part here h p in record { typed = k.fits; declares = ap (λ i. i ∷ []) h.number; declarations = λ o. omega (arith, here_within o h); named = k.names; weight = k.light }

    else_in : {s t : Else} → ElseWithin s t → (j : Jumps) → IsTrue (is_typed_else here gives j t) → ElseIn j s t
    else_in r.no_other j p = record { typed = p; declarations = λ o. omega arith; named = λ a h. h; weight = omega arith }
    else_in (r.other h) j p = let k = stmt_in h j p in record { typed = k.typed; declarations = k.declarations; named = k.named; weight = k.weight }

    stmts_in : {s t : Stmts} → StmtsWithin s t → (j : Jumps) → IsTrue (are_typed_stmts here gives j t) → StmtsIn j s t
    stmts_in r.no_statement j p = record { typed = p; declares = refl; declarations = λ o. omega arith; named = λ a h. h; weight = omega arith }
    stmts_in (r.then_stmts {s = s} {t = t} {ss = ss} {ts = ts} h g) j p =
        let k = stmt_in h j (front (is_typed_stmt here gives j t) (are_typed_stmts here gives j ts) p) in
        let m = stmts_in g j (back (is_typed_stmt here gives j t) (are_typed_stmts here gives j ts) p) in
        record {
          typed = also (is_typed_stmt here gives j s) (are_typed_stmts here gives j ss) k.typed m.typed;
          declares = ap (λ ks. ks ++ declared_in ss) k.declares ∙ ap (λ ks. declared_by t ++ ks) m.declares;
          declarations = λ o. omega (arith, k.declarations o, m.declarations o);
          named = λ o. either_on (stmt_names o s) (stmts_names o ss) (stmt_names o t) (stmts_names o ts) (k.named o) (m.named o);
          weight = omega (arith, k.weight, m.weight);
        }

    sections_in : {s t : Sections} → SectionsWithin s t → (j : Jumps) → IsTrue (are_typed_sections here gives j t) → SectionsIn j s t
    sections_in r.no_section_left j p = record { typed = p; declarations = λ o. omega arith; named = λ a h. h; weight = omega arith }
    sections_in (r.one_section {label = label} {ss = ss} {ts = ts} {a = a} {b = b} h g) j p =
        let k = stmts_in h j (front (are_typed_stmts here gives j ts) (are_typed_sections here gives j b) p) in
        let m = sections_in g j (back (are_typed_stmts here gives j ts) (are_typed_sections here gives j b) p) in
        record {
          typed = also (are_typed_stmts here gives j ss) (are_typed_sections here gives j a) k.typed m.typed;
          declarations = λ o. omega (arith, k.declarations o, m.declarations o);
          named = λ o. either_on (stmts_names o ss) (sections_names o a) (stmts_names o ts) (sections_names o b) (k.named o) (m.named o);
          weight = omega (arith, k.weight, m.weight);
        }

-- ---- what parts of statements do

module _ (c : Context) (f : Functions) (i : IgnorePeak f) where
  abbrev ds : List StructDef
  ds = c.structs

  abbrev ls : List Local
  ls = c.locals

  holds_below : (scope : Scope) {x y : Expr} → ExprWithin x y → IsTrue (is_condition c y) → IsBelow (holds ds ls f scope x) (holds ds ls f scope y)
  holds_below scope {y = y} h p = kept_below.bind ((within_below h c (typed_condition c y p)).value f i scope) (forms.steady_test BelowOf kept_below)

  condition_below : (scope : Scope) {x y : Option Expr} → OptionWithin x y → IsTrue (is_optional_condition c y) → IsBelow (loop_condition ds ls f scope x) (loop_condition ds ls f scope y)
  condition_below scope r.missing p = kept_below.pure true
  condition_below scope (r.present h) p = holds_below scope h p

  step_below : (scope : Scope) {x y : Option Expr} → OptionWithin x y → IsTrue (is_optional_value c y) → IsBelow (loop_step ds ls f scope x) (loop_step ds ls f scope y)
  step_below scope r.missing p = kept_below.pure tt
  step_below scope (r.present {y = y} h) p = kept_below.bind ((within_below h c (typed_value c y p)).value f i scope) (λ v. kept_below.pure tt)

  initialise_below : (scope : Scope) (k : ℕ) (l : Option Local) {x y : Option Expr} → OptionWithin x y → IsTrue (is_initialiser c l y) → IsBelow (initialise_object ds ls f scope k l x) (initialise_object ds ls f scope k l y)
  initialise_below scope k None h p = kept_below.pure tt
  initialise_below scope k (Some l) r.missing p = kept_below.pure tt
  initialise_below scope k (Some l) (r.present {y = y} h) p =
      kept_below.bind ((within_below h c (typed_initialiser c (Some l) y p)).value f i scope)
      (λ v. kept_below.bind (forms.steady_local BelowOf kept_below scope k (Some l)) (λ at. forms.steady_write_place BelowOf kept_below ds (type_view l.ty) at v))

  declare_below : (scope : Scope) {d e : LocalDeclaration} → DeclaredWithin d e → IsTrue (is_declared c e) → IsBelow (run_declaration ds ls f scope d) (run_declaration ds ls f scope e)
  declare_below scope {d = d} {e = e} h p =
      subst (λ z. IsBelow z (run_declaration ds ls f scope e)) (sym (ap (λ k. initialise_object ds ls f scope k (slice_get ls k) d.init) h.number))
      (initialise_below scope e.number (slice_get ls e.number) h.init p)

  declares_below : (scope : Scope) {a b : List LocalDeclaration} → AllDeclaredWithin a b → IsTrue (list_all (is_declared c) b) → IsBelow (run_declarations ds ls f scope a) (run_declarations ds ls f scope b)
  declares_below scope r.no_more p = kept_below.pure tt
  declares_below scope (r.one_more {e = e} {es = es} h g) p =
      kept_below.bind (declare_below scope h (front (is_declared c e) (list_all (is_declared c) es) p)) (λ _. declares_below scope g (back (is_declared c e) (list_all (is_declared c) es) p))

  first_below : (scope : Scope) {a b : First} → FirstWithin a b → IsTrue (is_first c b) → IsBelow (first ds ls f scope a) (first ds ls f scope b)
  first_below scope r.nothing_first p = kept_below.pure tt
  first_below scope (r.value_first {y = y} h) p = kept_below.bind ((within_below h c (typed_value c y p)).value f i scope) (λ v. kept_below.pure tt)
  first_below scope (r.locals_first h) p = declares_below scope h p

  returned_below : (result : PlainType) (scope : Scope) {x y : Option Expr} → OptionWithin x y → IsTrue (is_returned c result y) → IsBelow (flow_of_return ds ls f scope x) (flow_of_return ds ls f scope y)
  returned_below result scope r.missing p = kept_below.pure _
  returned_below result scope (r.present {y = y} h) p =
      kept_below.bind (kept_below.bind ((within_below h c (typed_returned c result y p)).value f i scope) (forms.steady_used BelowOf kept_below _)) (λ v. kept_below.pure _)

-- ---- levels do not look at the peak

pub level_itself : (unit : TypedUnit) (rooms : Rooms) (m n : ℕ) (scope : Scope) (s : Stmt) → IsBelow (level unit rooms m n scope s) (level unit rooms m n scope s)
level_itself unit rooms zero n scope s = no_turn_below
level_itself unit rooms (suc m) n scope s =
    forms.exec_related BelowOf kept_below unit.structs (function_locals (slice_get unit.functions n)) (calls_of unit rooms (level unit rooms m)) (calls_of unit rooms (level unit rooms m))
    (λ k vs. forms.call_of_related BelowOf kept_below unit.structs rooms (level unit rooms m) (level unit rooms m) (λ o inner t. level_itself unit rooms m o inner t) k (slice_get unit.functions k) vs)
    (level unit rooms m n) (level unit rooms m n) (λ inner t. level_itself unit rooms m n inner t) scope s

pub calls_itself : (unit : TypedUnit) (rooms : Rooms) (m : ℕ) → IgnorePeak (calls_of unit rooms (level unit rooms m))
calls_itself unit rooms m n vs =
    forms.call_of_related BelowOf kept_below unit.structs rooms (level unit rooms m) (level unit rooms m) (λ k inner t. level_itself unit rooms m k inner t) n (slice_get unit.functions n) vs

-- ---- what statements do

module _ (unit : TypedUnit) (rooms : Rooms) (m n : ℕ)
    (l : (scope : Scope) (s t : Stmt) → StmtWithin s t → (j : Jumps) → IsTypedAt unit n j t → IsBelow (level unit rooms m n scope s) (level unit rooms m n scope t)) where
  abbrev c : Context
  c = context_at unit (slice_get unit.functions n)

  abbrev res : PlainType
  res = result_at (slice_get unit.functions n)

  abbrev f : Functions
  f = calls_of unit rooms (level unit rooms m)

  abbrev i : IgnorePeak f
  i = calls_itself unit rooms m

  abbrev again : Scope → Stmt → Run StatementFlow
  again = level unit rooms m n

  mutual
    exec_below : (scope : Scope) {s t : Stmt} → StmtWithin s t → (j : Jumps) → IsTypedAt unit n j t → IsBelow (exec c.structs c.locals f again scope s) (exec c.structs c.locals f again scope t)
    exec_below scope (r.refined {t = t} h) j p = refines_below (level_itself unit rooms (suc m) n scope t) ((h unit n j p).does rooms (suc m) scope)
    exec_below scope (r.block {ss = ss} {ts = ts} h) j p =
        subst (λ z. IsBelow (exec c.structs c.locals f again scope (q.Block ss)) z)
        (ap (λ ks. with_locals c.structs c.locals ks (λ inner. execs c.structs c.locals f again inner ts) scope) (stmts_in unit n h j p).declares)
        (forms.related_locals BelowOf kept_below c.structs c.locals (declared_in ss) (λ inner. execs_below inner h j p) scope)
    exec_below scope (r.choice {y = y} {t = t} {b = b} h g k) j p =
        let q3 = front (is_condition c y && is_typed_stmt c res j t) (is_typed_else c res j b) p in
        kept_below.bind (holds_below c f i scope h (front (is_condition c y) (is_typed_stmt c res j t) q3))
        (forms.related_choose BelowOf kept_below (exec_below scope g j (back (is_condition c y) (is_typed_stmt c res j t) q3))
        (else_below scope k j (back (is_condition c y && is_typed_stmt c res j t) (is_typed_else c res j b) p)))
    exec_below scope (r.while_loop {x = x} {y = y} {s = s} {t = t} h g) j p =
        kept_below.bind (holds_below c f i scope h (front (is_condition c y) (is_typed_stmt c res in_loop t) p))
        (forms.related_choose BelowOf kept_below
        (kept_below.bind kept_below.turn (λ _. kept_below.bind (exec_below scope g in_loop (back (is_condition c y) (is_typed_stmt c res in_loop t) p))
        (forms.related_after BelowOf kept_below (l scope (q.While x s) (q.While y t) (r.while_loop h g) j p)))) (kept_below.pure _))
    exec_below scope (r.do_loop {x = x} {y = y} {s = s} {t = t} h g) j p =
        kept_below.bind kept_below.turn (λ _. kept_below.bind (exec_below scope h in_loop (back (is_condition c y) (is_typed_stmt c res in_loop t) p))
        (forms.related_after BelowOf kept_below (kept_below.bind (holds_below c f i scope g (front (is_condition c y) (is_typed_stmt c res in_loop t) p))
        (forms.related_choose BelowOf kept_below (l scope (q.Do s x) (q.Do t y) (r.do_loop h g) j p) (kept_below.pure _)))))
    exec_below scope (r.for_loop {a = a} {b = b} {x = x} {y = y} {v = v} {w = w} {s = s} {t = t} h g k o) j p =
        let p4 = back (is_first c b && is_optional_condition c y && is_optional_value c w) (is_typed_stmt c res in_loop t) p in
        let q4 = front (is_first c b && is_optional_condition c y && is_optional_value c w) (is_typed_stmt c res in_loop t) p in
        let p3 = back (is_first c b && is_optional_condition c y) (is_optional_value c w) q4 in
        let q3 = front (is_first c b && is_optional_condition c y) (is_optional_value c w) q4 in
        let p2 = back (is_first c b) (is_optional_condition c y) q3 in
        subst (λ z. IsBelow (exec c.structs c.locals f again scope (q.For a x v s)) z)
        (ap (λ ks. with_locals c.structs c.locals ks
        (λ inner. first c.structs c.locals f inner b >> (loop_condition c.structs c.locals f inner y >>= choose
        (turn >> (exec c.structs c.locals f again inner t >>= after_body (loop_step c.structs c.locals f inner w >> again inner (q.For q.Nothing y w t))))
        (pure Goes))) scope) (first_numbers h))
        (forms.related_locals BelowOf kept_below c.structs c.locals (declared_first a)
        (λ inner. kept_below.bind (first_below c f i inner h (front (is_first c b) (is_optional_condition c y) q3)) (λ _. kept_below.bind (condition_below c f i inner g p2)
        (forms.related_choose BelowOf kept_below
        (kept_below.bind kept_below.turn (λ _. kept_below.bind (exec_below inner o in_loop p4)
        (forms.related_after BelowOf kept_below (kept_below.bind (step_below c f i inner k p3)
        (λ _. l inner (q.For q.Nothing x v s) (q.For q.Nothing y w t) (r.for_loop r.nothing_first g k o) j
        (four true (is_optional_condition c y) (is_optional_value c w) (is_typed_stmt c res in_loop t) refl p2 p3 p4))))))
        (kept_below.pure _))))
        scope)
    exec_below scope (r.switch_on {y = y} {ss = ss} {ts = ts} h g) j p =
        let p4 = back (is_promoted (type_of y) && are_labels (integer_of (type_of y)) ts && is_typed c y) (are_typed_sections c res (in_switch j) ts) p in
        let q4 = front (is_promoted (type_of y) && are_labels (integer_of (type_of y)) ts && is_typed c y) (are_typed_sections c res (in_switch j) ts) p in
        let p3 = back (is_promoted (type_of y) && are_labels (integer_of (type_of y)) ts) (is_typed c y) q4 in
        kept_below.bind (kept_below.bind (kept_below.bind ((within_below h c p3).value f i scope) (forms.steady_number BelowOf kept_below))
        (λ k. subst (λ z. IsBelow (exec_from c.structs c.locals f again scope (target_in k ss) ss) z)
        (ap (λ target. exec_from c.structs c.locals f again scope target ts) (same_target k g)) (from_below scope _ g (in_switch j) p4)))
        (forms.steady_switch BelowOf kept_below)
    exec_below scope (r.returns h) j p = returned_below c f i res scope h p
    exec_below scope (r.expression {y = y} h) j p = kept_below.bind ((within_below h c (typed_value c y p)).value f i scope) (λ v. kept_below.pure _)
    exec_below scope (r.declaration h) j p = kept_below.bind (declare_below c f i scope h p) (λ _. kept_below.pure _)

    else_below : (scope : Scope) {a b : Else} → ElseWithin a b → (j : Jumps) → IsTrue (is_typed_else c res j b) → IsBelow (exec_else c.structs c.locals f again scope a) (exec_else c.structs c.locals f again scope b)
    else_below scope r.no_other j p = kept_below.pure _
    else_below scope (r.other h) j p = exec_below scope h j p

    execs_below : (scope : Scope) {a b : Stmts} → StmtsWithin a b → (j : Jumps) → IsTrue (are_typed_stmts c res j b) → IsBelow (execs c.structs c.locals f again scope a) (execs c.structs c.locals f again scope b)
    execs_below scope r.no_statement j p = kept_below.pure _
    execs_below scope (r.then_stmts {t = t} {ts = ts} h g) j p =
        kept_below.bind (exec_below scope h j (front (is_typed_stmt c res j t) (are_typed_stmts c res j ts) p)) (forms.related_next BelowOf kept_below (execs_below scope g j (back (is_typed_stmt c res j t) (are_typed_stmts c res j ts) p)))

    sections_below : (scope : Scope) {a b : Sections} → SectionsWithin a b → (j : Jumps) → IsTrue (are_typed_sections c res j b) → IsBelow (exec_sections c.structs c.locals f again scope a) (exec_sections c.structs c.locals f again scope b)
    sections_below scope r.no_section_left j p = kept_below.pure _
    sections_below scope (r.one_section {ts = ts} {b = b} h g) j p =
        kept_below.bind (execs_below scope h j (front (are_typed_stmts c res j ts) (are_typed_sections c res j b) p)) (forms.related_next BelowOf kept_below (sections_below scope g j (back (are_typed_stmts c res j ts) (are_typed_sections c res j b) p)))

    from_below : (scope : Scope) (target : Option ℕ) {a b : Sections} → SectionsWithin a b → (j : Jumps) → IsTrue (are_typed_sections c res j b) → IsBelow (exec_from c.structs c.locals f again scope target a) (exec_from c.structs c.locals f again scope target b)
    from_below scope target r.no_section_left j p = kept_below.pure _
    from_below scope target (r.one_section {label = label} {ts = ts} {b = b} h g) j p =
        let p1 = front (are_typed_stmts c res j ts) (are_typed_sections c res j b) p in
        let p2 = back (are_typed_stmts c res j ts) (are_typed_sections c res j b) p in
        forms.related_if BelowOf kept_below (is_chosen_label target label) (kept_below.bind (execs_below scope h j p1) (forms.related_next BelowOf kept_below (sections_below scope g j p2))) (from_below scope target g j p2)

-- at every level
level_below : (unit : TypedUnit) (rooms : Rooms) (m n : ℕ) (scope : Scope) {s t : Stmt} → StmtWithin s t → (j : Jumps) → IsTypedAt unit n j t → IsBelow (level unit rooms m n scope s) (level unit rooms m n scope t)
level_below unit rooms zero n scope h j p = no_turn_below
level_below unit rooms (suc m) n scope h j p = exec_below unit rooms m n (λ inner s t g o z. level_below unit rooms m n inner g o z) scope h j p

pub stmt_refines : {s t : Stmt} → StmtWithin s t → StmtRefines s t
stmt_refines h unit n j p =
    let k = stmt_in unit n h j p in
    record {
      typed = k.typed;
      declares = k.declares;
      declarations = k.declarations;
      named = k.named;
      weight = k.weight;
      does = λ rooms m scope. below_refines (level_below unit rooms m n scope h j p);
    }
