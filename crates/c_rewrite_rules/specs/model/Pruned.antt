-- `DeadArm` refines: what it makes of an expression is the arm that a literal chooses.
use Rattle.std.proofs.Common.{◌≡◌, ℕ, Bool, true, false, not, ◌&&◌, ◌||◌, ◌==◌, IsTrue, Option, Some, None, refl, sym, ap, ◌∙◌, subst, option_map, option_and_then, if◌then◌else◌, arith}
use Rattle.std.proofs.lemmas.Option.{none-some}
use Rattle.bk_arithmetic.specs.declared.integer_type.IntegerType.{IntegerType}
use Rattle.bk_arithmetic.specs.Operations.{truth}
use Rattle.c_tree.specs.declared.expressions.UnaryOp.TheVariants as u
use Rattle.c_tree.specs.declared.expressions.BinaryOp.{BinaryOp}
use Rattle.c_tree.specs.declared.expressions.BinaryOp.TheVariants as b
use Rattle.c_typed_tree.specs.Types.{PlainType}
use Rattle.c_typed_tree.specs.Expressions.{Expr, Number, Unary, Binary, Conditional, type_of}
use Rattle.c_typed_tree.specs.Layout.{integer_of}
use Rattle.c_typed_tree.specs.Constants.{is_integer, is_built, unary_value, and_value, or_value, choice_value, constant}
use Rattle.c_typed_tree.specs.Typing.{Context, int, is_scalar, is_same_type, is_promoted, is_pointer, is_void, is_struct, is_fit, is_logical, is_number_of, has_truth_type, has_rule, is_typed}
use Rattle.c_typed_tree.specs.Names.{names}
use Rattle.c_typed_tree.specs.Weight.{expr_weight}
use Rattle.c_semantics.specs.Runs.{◌>>=◌}
use Rattle.c_semantics.specs.Operators.{test, pure_truth}
use Rattle.c_semantics.specs.Evaluates.{eval}
use Rattle.c_semantics.specs.Refines.{RefinesIn, ExprRefines}
use Rattle.c_semantics.proofs.Facts.{no_true, front, back, also, along, three}
use Rattle.c_semantics.proofs.RefinesOrder.{expr_itself}
use Rattle.c_rewrite_rules.specs.Rules.{truth_of, chosen, pruned_and, pruned_or, pruned_binary, pruned}
use Rattle.c_rewrite_rules.specs.model.Truths.{right_of, left_of, same, rule_two, fit_two, second_typed, rule_three, holds_typed, fails_typed}
use Rattle.c_rewrite_rules.specs.model.Constants.{constant_word, some_is}
use Rattle.c_rewrite_rules.specs.model.Runs.{as_it_is, nothing_asked, chosen_run, twice}

abbrev ExprRefinesAt : Context → Expr → Expr → Type 0
ExprRefinesAt c x y = IsTrue (is_typed c y) → RefinesIn c x y

-- ---- `?:`

picked_value : (i : Bool) (n : ℕ) (t built : Bool) (q r : Option ℕ) (m : ℕ) → (n == 0) ≡ t
    → choice_value (if i then Some n else None) built q r ≡ Some m → (if t then r else q) ≡ Some m
picked_value false n t built q r m is e = absurd (none-some m e)
picked_value true n t false q r m is e = absurd (none-some m e)
picked_value true n t true q r m is e = subst (λ k. (if k then r else q) ≡ Some m) is e

module _ (c : Context) (ty t : PlainType) (n : ℕ) (y z : Expr) (p : IsTrue (is_typed c (Conditional ty (Number t n) y z))) where
  abbrev whole : Expr
  whole = Conditional ty (Number t n) y z

  rule : IsTrue (has_rule c whole)
  rule = rule_three (is_fit c.structs ty) (has_rule c whole) (is_typed c (Number t n)) (is_typed c y) (is_typed c z) p

  arms : IsTrue (is_scalar t && is_same_type (type_of y) ty && is_same_type (type_of z) ty)
  arms = front (is_scalar t && is_same_type (type_of y) ty && is_same_type (type_of z) ty) (is_promoted ty || is_pointer ty || is_void ty || is_struct ty) rule

  first_arm : (n == 0) ≡ false → RefinesIn c y whole
  unfolding expr_weight
  first_arm is = record {
    typed = holds_typed (is_fit c.structs ty) (has_rule c whole) (is_typed c (Number t n)) (is_typed c y) (is_typed c z) p;
    types = same (type_of y) ty (back (is_scalar t) (is_same_type (type_of y) ty) (front (is_scalar t && is_same_type (type_of y) ty) (is_same_type (type_of z) ty) arms));
    named = λ a h. left_of (names a y) (names a z) h;
    weight = omega arith;
    places = λ h. no_true h;
    memory = λ h. no_true h;
    constants = λ m e. picked_value (is_integer t) n false (is_built y && is_built z) (constant y) (constant z) m is e;
    built = λ h. back (is_integer ty && is_integer t) (is_built y) (front (is_integer ty && is_integer t && is_built y) (is_built z) h);
    value = λ f i scope. as_it_is (λ s. sym (chosen_run n false (eval c.structs c.locals f scope y) (eval c.structs c.locals f scope z) s is));
    stands = λ f i scope. nothing_asked _ _;
  }

  second_arm : (n == 0) ≡ true → RefinesIn c z whole
  unfolding expr_weight
  second_arm is = record {
    typed = fails_typed (is_fit c.structs ty) (has_rule c whole) (is_typed c (Number t n)) (is_typed c y) (is_typed c z) p;
    types = same (type_of z) ty (back (is_scalar t && is_same_type (type_of y) ty) (is_same_type (type_of z) ty) arms);
    named = λ a h. right_of (names a y) (names a z) h;
    weight = omega arith;
    places = λ h. no_true h;
    memory = λ h. no_true h;
    constants = λ m e. picked_value (is_integer t) n true (is_built y && is_built z) (constant y) (constant z) m is e;
    built = λ h. back (is_integer ty && is_integer t && is_built y) (is_built z) h;
    value = λ f i scope. as_it_is (λ s. sym (chosen_run n true (eval c.structs c.locals f scope y) (eval c.structs c.locals f scope z) s is));
    stands = λ f i scope. nothing_asked _ _;
  }

  choice : RefinesIn c (if n == 0 then z else y) whole
  choice = by (n == 0) refl
    where
      by : (t : Bool) → (n == 0) ≡ t → RefinesIn c (if t then z else y) whole
      by true is = second_arm is
      by false is = first_arm is

chosen_refines : (ty : PlainType) (x y z : Expr) → ExprRefines (chosen ty x y z) (Conditional ty x y z)
chosen_refines ty (Number t n) y z c p = choice c ty t n y z p
chosen_refines ty x y z c p = expr_itself (Conditional ty x y z) c p

-- ---- `&&` and `||`

doubly : (t : Bool) → truth (truth t == 0) ≡ truth (not t)
doubly true = refl
doubly false = refl

-- the constants of `!!y`
twice_of : (o q : Option IntegerType) (k : ℕ) (s t : IntegerType) → o ≡ Some s → q ≡ Some t
    → option_and_then (unary_value u.Not q) (option_and_then (unary_value u.Not o) (Some k)) ≡ Some (truth (not (k == 0)))
twice_of o q k s t e h =
    ap (λ v. option_and_then (unary_value u.Not q) (option_and_then (unary_value u.Not v) (Some k))) e
    ∙ ap (λ v. option_and_then (unary_value u.Not v) (Some (truth (k == 0)))) h ∙ ap Some (doubly (k == 0))

truth_there : (q : Option ℕ) (m : ℕ) → option_map (λ n. truth (not (n == 0))) q ≡ Some m → (k : ℕ) × (q ≡ Some k) × (truth (not (k == 0)) ≡ m)
truth_there None m e = absurd (none-some m e)
truth_there (Some k) m e = (k, refl, some_is e)

and_goes_on : (i : Bool) (n : ℕ) (built : Bool) (q : Option ℕ) (m : ℕ) → (n == 0) ≡ false
    → and_value (if i then Some n else None) built q ≡ Some m → option_map (λ n. truth (not (n == 0))) q ≡ Some m
and_goes_on false n built q m is e = absurd (none-some m e)
and_goes_on true n false q m is e = absurd (none-some m e)
and_goes_on true n true q m is e = subst (λ t. (if t then Some 0 else option_map (λ n. truth (not (n == 0))) q) ≡ Some m) is e

and_ends : (i : Bool) (n : ℕ) (built : Bool) (q : Option ℕ) (m : ℕ) → (n == 0) ≡ true
    → and_value (if i then Some n else None) built q ≡ Some m → Some 0 ≡ Some m
and_ends false n built q m is e = absurd (none-some m e)
and_ends true n false q m is e = absurd (none-some m e)
and_ends true n true q m is e = subst (λ t. (if t then Some 0 else option_map (λ n. truth (not (n == 0))) q) ≡ Some m) is e

or_goes_on : (i : Bool) (n : ℕ) (built : Bool) (q : Option ℕ) (m : ℕ) → (n == 0) ≡ true
    → or_value (if i then Some n else None) built q ≡ Some m → option_map (λ n. truth (not (n == 0))) q ≡ Some m
or_goes_on false n built q m is e = absurd (none-some m e)
or_goes_on true n false q m is e = absurd (none-some m e)
or_goes_on true n true q m is e = subst (λ t. (if t then option_map (λ n. truth (not (n == 0))) q else Some 1) ≡ Some m) is e

or_ends : (i : Bool) (n : ℕ) (built : Bool) (q : Option ℕ) (m : ℕ) → (n == 0) ≡ false
    → or_value (if i then Some n else None) built q ≡ Some m → Some 1 ≡ Some m
or_ends false n built q m is e = absurd (none-some m e)
or_ends true n false q m is e = absurd (none-some m e)
or_ends true n true q m is e = subst (λ t. (if t then option_map (λ n. truth (not (n == 0))) q else Some 1) ≡ Some m) is e

-- what both operators have in common: an operator on truth with a literal on the left
module _ (c : Context) (ty t : PlainType) (op : BinaryOp) (n : ℕ) (y : Expr) (p : IsTrue (is_typed c (Binary ty op (Number t n) y)))
    (logical : IsTrue (is_logical ty t (type_of y))) where
  abbrev both : Expr
  both = Binary ty op (Number t n) y

  is_int : ty ≡ int
  is_int = same ty int (front (is_same_type ty int) (is_scalar t) (front (is_same_type ty int && is_scalar t) (is_scalar (type_of y)) logical))

  fit : IsTrue (is_fit c.structs ty)
  fit = fit_two (is_fit c.structs ty) (has_rule c both) (is_typed c (Number t n)) (is_typed c y) p

  number_typed : (k : ℕ) → IsTrue (is_number_of (integer_of int) k) → IsTrue (is_typed c (Number ty k))
  number_typed k w = also (is_fit c.structs ty) (is_number_of (integer_of ty) k) fit (along (λ o. is_number_of (integer_of o) k) is_int w)

  number_constant : (k m : ℕ) → Some k ≡ Some m → constant (Number ty k) ≡ Some m
  number_constant k m e = ap (λ b. if b then Some k else None) (along is_integer is_int refl) ∙ e

  number_built : IsTrue (is_built both) → IsTrue (is_integer ty)
  number_built h = front (is_integer ty) (is_integer t) (front (is_integer ty && is_integer t) (is_built y) h)

  truth_typed : IsTrue (is_typed c (truth_of ty y))
  truth_typed =
      let once : IsTrue (has_truth_type ty (type_of y)) =
      also (is_same_type ty int) (is_scalar (type_of y)) (along (λ o. is_same_type o int) is_int refl)
      (back (is_same_type ty int && is_scalar t) (is_scalar (type_of y)) logical) in
      let again : IsTrue (has_truth_type ty ty) = along (λ o. has_truth_type o o) is_int refl in
      three (is_fit c.structs ty) (has_truth_type ty ty) (is_typed c (Unary ty u.Not y)) fit again
      (three (is_fit c.structs ty) (has_truth_type ty (type_of y)) (is_typed c y) fit once
      (second_typed (is_fit c.structs ty) (has_rule c both) (is_typed c (Number t n)) (is_typed c y) p))

  truth_constant : (m : ℕ) → option_map (λ n. truth (not (n == 0))) (constant y) ≡ Some m → constant (truth_of ty y) ≡ Some m
  truth_constant m e =
      let there = truth_there (constant y) m e in
      let typed = second_typed (is_fit c.structs ty) (has_rule c both) (is_typed c (Number t n)) (is_typed c y) p in
      let word = constant_word c y there.0 typed there.1 in
      ap (λ v. option_and_then (unary_value u.Not (integer_of ty)) (option_and_then (unary_value u.Not (integer_of (type_of y))) v)) there.1
      ∙ twice_of (integer_of (type_of y)) (integer_of ty) there.0 word.of _ word.is (ap integer_of is_int) ∙ ap Some there.2

  truth_built : IsTrue (is_built both) → IsTrue (is_built (truth_of ty y))
  truth_built h =
      let whole : IsTrue (is_integer ty) = front (is_integer ty) (is_integer t) (front (is_integer ty && is_integer t) (is_built y) h) in
      let part : IsTrue (is_built y) = back (is_integer ty && is_integer t) (is_built y) h in
      three (is_integer ty) true (is_built (Unary ty u.Not y)) whole refl (three (is_integer ty) true (is_built y) whole refl part)

module _ (c : Context) (ty t : PlainType) (n : ℕ) (y : Expr) where
  and_false : (n == 0) ≡ true → IsTrue (is_typed c (Binary ty b.LogicalAnd (Number t n) y)) → RefinesIn c (Number ty 0) (Binary ty b.LogicalAnd (Number t n) y)
  unfolding expr_weight
  and_false is p =
      let logical = rule_two (is_fit c.structs ty) (is_logical ty t (type_of y)) (is_typed c (Number t n)) (is_typed c y) p in
      record {
        typed = number_typed c ty t b.LogicalAnd n y p logical 0 refl;
        types = refl;
        named = λ a h. no_true h;
        weight = omega arith;
        places = λ h. no_true h;
        memory = λ h. no_true h;
        constants = λ m e. number_constant c ty t b.LogicalAnd n y p logical 0 m (and_ends (is_integer t) n (is_built y) (constant y) m is e);
        built = number_built c ty t b.LogicalAnd n y p logical;
        value = λ f i scope. as_it_is (λ s. sym (chosen_run n true (eval c.structs c.locals f scope y >>= test >>= pure_truth) (pure_truth false) s is));
        stands = λ f i scope. nothing_asked _ _;
      }

  and_true : (n == 0) ≡ false → IsTrue (is_typed c (Binary ty b.LogicalAnd (Number t n) y)) → RefinesIn c (truth_of ty y) (Binary ty b.LogicalAnd (Number t n) y)
  unfolding expr_weight
  and_true is p =
      let logical = rule_two (is_fit c.structs ty) (is_logical ty t (type_of y)) (is_typed c (Number t n)) (is_typed c y) p in
      record {
        typed = truth_typed c ty t b.LogicalAnd n y p logical;
        types = refl;
        named = λ a h. h;
        weight = omega arith;
        places = λ h. no_true h;
        memory = λ h. no_true h;
        constants = λ m e. truth_constant c ty t b.LogicalAnd n y p logical m (and_goes_on (is_integer t) n (is_built y) (constant y) m is e);
        built = truth_built c ty t b.LogicalAnd n y p logical;
        value = λ f i scope. as_it_is (λ s. twice (eval c.structs c.locals f scope y) s
            ∙ sym (chosen_run n false (eval c.structs c.locals f scope y >>= test >>= pure_truth) (pure_truth false) s is));
        stands = λ f i scope. nothing_asked _ _;
      }

  or_true : (n == 0) ≡ false → IsTrue (is_typed c (Binary ty b.LogicalOr (Number t n) y)) → RefinesIn c (Number ty 1) (Binary ty b.LogicalOr (Number t n) y)
  unfolding expr_weight
  or_true is p =
      let logical = rule_two (is_fit c.structs ty) (is_logical ty t (type_of y)) (is_typed c (Number t n)) (is_typed c y) p in
      record {
        typed = number_typed c ty t b.LogicalOr n y p logical 1 refl;
        types = refl;
        named = λ a h. no_true h;
        weight = omega arith;
        places = λ h. no_true h;
        memory = λ h. no_true h;
        constants = λ m e. number_constant c ty t b.LogicalOr n y p logical 1 m (or_ends (is_integer t) n (is_built y) (constant y) m is e);
        built = number_built c ty t b.LogicalOr n y p logical;
        value = λ f i scope. as_it_is (λ s. sym (chosen_run n false (pure_truth true) (eval c.structs c.locals f scope y >>= test >>= pure_truth) s is));
        stands = λ f i scope. nothing_asked _ _;
      }

  or_false : (n == 0) ≡ true → IsTrue (is_typed c (Binary ty b.LogicalOr (Number t n) y)) → RefinesIn c (truth_of ty y) (Binary ty b.LogicalOr (Number t n) y)
  unfolding expr_weight
  or_false is p =
      let logical = rule_two (is_fit c.structs ty) (is_logical ty t (type_of y)) (is_typed c (Number t n)) (is_typed c y) p in
      record {
        typed = truth_typed c ty t b.LogicalOr n y p logical;
        types = refl;
        named = λ a h. h;
        weight = omega arith;
        places = λ h. no_true h;
        memory = λ h. no_true h;
        constants = λ m e. truth_constant c ty t b.LogicalOr n y p logical m (or_goes_on (is_integer t) n (is_built y) (constant y) m is e);
        built = truth_built c ty t b.LogicalOr n y p logical;
        value = λ f i scope. as_it_is (λ s. twice (eval c.structs c.locals f scope y) s
            ∙ sym (chosen_run n true (pure_truth true) (eval c.structs c.locals f scope y >>= test >>= pure_truth) s is));
        stands = λ f i scope. nothing_asked _ _;
      }

  and_by : (k : Bool) → (n == 0) ≡ k → ExprRefinesAt c (if k then Number ty 0 else truth_of ty y) (Binary ty b.LogicalAnd (Number t n) y)
  and_by true is p = and_false is p
  and_by false is p = and_true is p

  or_by : (k : Bool) → (n == 0) ≡ k → ExprRefinesAt c (if k then truth_of ty y else Number ty 1) (Binary ty b.LogicalOr (Number t n) y)
  or_by true is p = or_false is p
  or_by false is p = or_true is p

and_refines : (ty : PlainType) (x y : Expr) → ExprRefines (pruned_and ty x y) (Binary ty b.LogicalAnd x y)
and_refines ty (Number t n) y c p = and_by c ty t n y (n == 0) refl p
and_refines ty x y c p = expr_itself (Binary ty b.LogicalAnd x y) c p

or_refines : (ty : PlainType) (x y : Expr) → ExprRefines (pruned_or ty x y) (Binary ty b.LogicalOr x y)
or_refines ty (Number t n) y c p = or_by c ty t n y (n == 0) refl p
or_refines ty x y c p = expr_itself (Binary ty b.LogicalOr x y) c p

binary_refines : (ty : PlainType) (op : BinaryOp) (x y : Expr) → ExprRefines (pruned_binary ty op x y) (Binary ty op x y)
binary_refines ty b.LogicalAnd x y = and_refines ty x y
binary_refines ty b.LogicalOr x y = or_refines ty x y
binary_refines ty op x y = expr_itself (Binary ty op x y)

pub pruned_refines : (x : Expr) → ExprRefines (pruned x) x
pruned_refines (Conditional ty x y z) = chosen_refines ty x y z
pruned_refines (Binary ty op x y) = binary_refines ty op x y
pruned_refines x = expr_itself x
