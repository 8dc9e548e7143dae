-- Operators, by the rules of their types.
use Rattle.std.proofs.Common.{◌≡◌, ◌≤◌, true, false, ◌&&◌, ◌||◌, IsTrue, Some, refl, sym, ap, ◌∙◌, subst}
use Rattle.std.specs.Prelude.{All, slice_get}
use Rattle.mem_objects.specs.declared.TheConstants.{MOST_DATA}
use Rattle.bk_arithmetic.specs.declared.integer_type.IntegerType.{IntegerType}
use Rattle.bk_arithmetic.specs.declared.integer_type.IntegerType.TheVariants as i
use Rattle.bk_arithmetic.specs.IntegerTypes.{promote}
use Rattle.c_tree.specs.declared.expressions.UnaryOp.TheVariants as u
use Rattle.c_tree.specs.declared.expressions.BinaryOp.{BinaryOp}
use Rattle.c_tree.specs.declared.expressions.BinaryOp.TheVariants as b
use Rattle.c_typed_tree.specs.Types.{PlainType, Pointer}
use Rattle.c_typed_tree.specs.Layout.{is_object, size_of}
use Rattle.c_typed_tree.specs.Constants.{is_integer}
use Rattle.c_typed_tree.specs.Expressions.{Expr, Unary, Binary, Conditional, Index, type_of}
use Rattle.c_typed_tree.specs.Typing as rules
use Rattle.c_typed_tree.specs.Typing.{is_same_type, int, long, is_void, is_pointer, is_struct, is_scalar, is_promoted, points_to_object, points_to, is_valid_type, has_promoted_type, has_truth_type, is_arithmetic, is_sum, is_difference, is_comparison, has_binary_type, is_choice, is_element}
use Rattle.c_typed_tree.specs.Lawful.{IsLawfulStruct}
use Rattle.lowering_code.specs.Expressions.{plain_of}
use Rattle.lowering_states.specs.lowering_values.Laws as values
use Rattle.lowering_expression_laws.specs.Parts.{Setting, ExprMeets}
use Rattle.lowering_expression_laws.specs.Laws.{is_logical_operator, result_type}
use Rattle.lowering_expression_laws.specs.lowering_place_laws.Places.{PlaceMeets}
use Rattle.lowering_expression_laws.specs.lowering_pointer_laws.Laws.{Comparisons}
use Rattle.lowering_expression_laws.proofs.LoweringPointerLaws.Differences.{pointers_are_moved}
use Rattle.lowering_expression_laws.proofs.LoweringPointerLaws.Above.{pointers_above_are_moved}
use Rattle.lowering_expression_laws.proofs.LoweringPointerLaws.Comparisons.{pointers_are_compared}
use Rattle.lowering_expression_laws.proofs.LoweringPointerLaws.Distances.{distances_meet}
use Rattle.c_typing_struct_layout.proofs.CLayoutLaws.Truth.{no_true, front, back, either}
use Rattle.lowering_bounds.proofs.Typing.{same}
use Rattle.lowering_expression_laws.proofs.LoweringExpressionTheorem.Types.{integer_known, promoted_known, pointer_known, object_pointer_known, pointer_to_known, scalar_known, whole_known, object_small}
use Rattle.lowering_expression_laws.proofs.LoweringExpressionTheorem.Known.{forms, operands}

pub record IsArithmetic (ty left right : PlainType) : Type 0 where
  pub type : IntegerType
  pub stays : promote type ≡ type
  pub left_is : left ≡ plain_of type
  pub right_is : right ≡ plain_of type
  pub is : plain_of type ≡ ty

module _ (c : Setting) (found : slice_get c.functions c.number ≡ Some c.code) (structs : All (IsLawfulStruct c.structs) c.structs) where
  -- ---- in front of an operand

  pub plus_meets : (ty : PlainType) (x : Expr) → IsTrue (has_promoted_type ty (type_of x)) → ExprMeets c x → ExprMeets c (Unary ty u.Plus x)
  plus_meets ty x h hx = (forms c found).pluses ty x (same (type_of x) ty (back (is_promoted (type_of x)) (is_same_type (type_of x) ty) h)) hx

  pub minus_meets : (ty : PlainType) (x : Expr) → IsTrue (has_promoted_type ty (type_of x)) → ExprMeets c x → ExprMeets c (Unary ty u.Minus x)
  minus_meets ty x h hx =
      let p = promoted_known (type_of x) (front (is_promoted (type_of x)) (is_same_type (type_of x) ty) h) in
      let e = same (type_of x) ty (back (is_promoted (type_of x)) (is_same_type (type_of x) ty) h) in
      subst (λ z. ExprMeets c (Unary z u.Minus x)) (sym p.is ∙ e) ((forms c found).negations p.type x p.stays p.is hx)

  pub invert_meets : (ty : PlainType) (x : Expr) → IsTrue (has_promoted_type ty (type_of x)) → ExprMeets c x → ExprMeets c (Unary ty u.Invert x)
  invert_meets ty x h hx =
      let p = promoted_known (type_of x) (front (is_promoted (type_of x)) (is_same_type (type_of x) ty) h) in
      let e = same (type_of x) ty (back (is_promoted (type_of x)) (is_same_type (type_of x) ty) h) in
      subst (λ z. ExprMeets c (Unary z u.Invert x)) (sym p.is ∙ e) ((forms c found).complements p.type x p.stays p.is hx)

  pub not_meets : (ty : PlainType) (x : Expr) → IsTrue (has_truth_type ty (type_of x)) → ExprMeets c x → ExprMeets c (Unary ty u.Not x)
  not_meets ty x h hx =
      subst (λ z. ExprMeets c (Unary z u.Not x)) (sym (same ty int (front (is_same_type ty int) (is_scalar (type_of x)) h)))
      ((operands c found).nots x (scalar_known (type_of x) (back (is_same_type ty int) (is_scalar (type_of x)) h)) hx)

  -- ---- between integers

  arithmetic_known : (ty left right : PlainType) → IsTrue (is_arithmetic ty left right) → IsArithmetic ty left right
  arithmetic_known ty left right h =
      let two = front (is_promoted left && is_same_type left right) (is_same_type left ty) h in
      let p = promoted_known left (front (is_promoted left) (is_same_type left right) two) in
      let e = same left right (back (is_promoted left) (is_same_type left right) two) in
      let f = same left ty (back (is_promoted left && is_same_type left right) (is_same_type left ty) h) in
      record { type = p.type; stays = p.stays; left_is = p.is; right_is = sym e ∙ p.is; is = sym p.is ∙ f }

  arithmetic_meets : (op : BinaryOp) → is_logical_operator op ≡ false → ((t : IntegerType) → result_type op t ≡ t) → (ty : PlainType) (x y : Expr) → IsTrue (is_arithmetic ty (type_of x) (type_of y)) → ExprMeets c x → ExprMeets c y → ExprMeets c (Binary ty op x y)
  arithmetic_meets op plain result ty x y h hx hy =
      let a = arithmetic_known ty (type_of x) (type_of y) h in
      subst (λ z. ExprMeets c (Binary z op x y)) (ap plain_of (result a.type) ∙ a.is) ((forms c found).operators op a.type a.type x y plain a.stays (λ _. refl) a.left_is a.right_is hx hy)

  no_shift : {X : Type 0} (op : BinaryOp) → values.is_shift_operator op ≡ true → values.is_shift_operator op ≡ false → X
  no_shift op e f = no_true (sym f ∙ e)

  shift_meets : (op : BinaryOp) → is_logical_operator op ≡ false → values.is_shift_operator op ≡ true → ((t : IntegerType) → result_type op t ≡ t) → (ty : PlainType) (x y : Expr) → IsTrue (rules.is_shift ty (type_of x) (type_of y)) → ExprMeets c x → ExprMeets c y
      → ExprMeets c (Binary ty op x y)
  shift_meets op plain shifts result ty x y h hx hy =
      let both = front (is_promoted (type_of x) && is_promoted (type_of y)) (is_same_type (type_of x) ty) h in
      let p = promoted_known (type_of x) (front (is_promoted (type_of x)) (is_promoted (type_of y)) both) in
      let q = promoted_known (type_of y) (back (is_promoted (type_of x)) (is_promoted (type_of y)) both) in
      let e = same (type_of x) ty (back (is_promoted (type_of x) && is_promoted (type_of y)) (is_same_type (type_of x) ty) h) in
      subst (λ z. ExprMeets c (Binary z op x y)) (ap plain_of (result p.type) ∙ sym p.is ∙ e) ((forms c found).operators op p.type q.type x y plain p.stays (λ f. no_shift op shifts f) p.is q.is hx hy)

  -- ---- comparisons

  comparison_meets : (op : BinaryOp) → is_logical_operator op ≡ false → ((t : IntegerType) → result_type op t ≡ i.Int) → (ty : PlainType) (x y : Expr) → (Comparisons c x y → ExprMeets c (Binary (plain_of i.Int) op x y))
      → IsTrue (is_comparison ty (type_of x) (type_of y)) → ExprMeets c x → ExprMeets c y → ExprMeets c (Binary ty op x y)
  comparison_meets op plain result ty x y pick h hx hy =
      let left = type_of x in
      let two = front (is_same_type ty int && is_same_type left (type_of y)) (is_promoted left || is_pointer left) h in
      let e = same ty int (front (is_same_type ty int) (is_same_type left (type_of y)) two) in
      let f = same left (type_of y) (back (is_same_type ty int) (is_same_type left (type_of y)) two) in
      subst (λ z. ExprMeets c (Binary z op x y)) (sym e)
      (either (is_promoted left) (is_pointer left)
      (λ g. let p = promoted_known left g in subst (λ z. ExprMeets c (Binary (plain_of z) op x y)) (result p.type) ((forms c found).operators op p.type p.type x y plain p.stays (λ _. refl) p.is (sym f ∙ p.is) hx hy))
      (λ g. let p = pointer_known left g in pick (pointers_are_compared c found p.target p.target x y p.is (sym f ∙ p.is) hx hy))
      (back (is_same_type ty int && is_same_type left (type_of y)) (is_promoted left || is_pointer left) h))

  -- ---- sums and differences

  target_small : (ty target : PlainType) → ty ≡ Pointer target → IsTrue (is_valid_type c.structs ty) → IsTrue (is_object c.structs target) → size_of c.structs target ≤ MOST_DATA
  target_small ty target e t h = object_small c.structs structs target (subst (λ z. IsTrue (is_valid_type c.structs z)) e t) h

  module _ (x y : Expr) (tx : IsTrue (is_valid_type c.structs (type_of x))) (ty1 : IsTrue (is_valid_type c.structs (type_of y))) (hx : ExprMeets c x) (hy : ExprMeets c y) where
    abbrev X : PlainType
    X = type_of x

    abbrev Y : PlainType
    Y = type_of y

    sum_of_pointer : (ty : PlainType) → IsTrue (points_to_object c.structs X && is_integer Y && is_same_type X ty) → ExprMeets c (Binary ty b.Add x y)
    sum_of_pointer ty h =
        let two = front (points_to_object c.structs X && is_integer Y) (is_same_type X ty) h in
        let p = object_pointer_known c.structs X (front (points_to_object c.structs X) (is_integer Y) two) in
        let n = integer_known Y (back (points_to_object c.structs X) (is_integer Y) two) in
        subst (λ z. ExprMeets c (Binary z b.Add x y)) (sym p.is ∙ same X ty (back (points_to_object c.structs X && is_integer Y) (is_same_type X ty) h))
        ((pointers_are_moved c found).sums p.target n.type x y (target_small X p.target p.is tx p.object) p.is n.is hx hy)

    sum_to_pointer : (ty : PlainType) → IsTrue (is_integer X && points_to_object c.structs Y && is_same_type Y ty) → ExprMeets c (Binary ty b.Add x y)
    sum_to_pointer ty h =
        let two = front (is_integer X && points_to_object c.structs Y) (is_same_type Y ty) h in
        let n = integer_known X (front (is_integer X) (points_to_object c.structs Y) two) in
        let p = object_pointer_known c.structs Y (back (is_integer X) (points_to_object c.structs Y) two) in
        subst (λ z. ExprMeets c (Binary z b.Add x y)) (sym p.is ∙ same Y ty (back (is_integer X && points_to_object c.structs Y) (is_same_type Y ty) h))
        ((pointers_above_are_moved c found).sums p.target n.type x y (target_small Y p.target p.is ty1 p.object) n.is p.is hx hy)

    sum_meets : (ty : PlainType) → IsTrue (is_sum c.structs ty X Y) → ExprMeets c (Binary ty b.Add x y)
    sum_meets ty h =
        either (is_arithmetic ty X Y || points_to_object c.structs X && is_integer Y && is_same_type X ty) (is_integer X && points_to_object c.structs Y && is_same_type Y ty)
        (λ g. either (is_arithmetic ty X Y) (points_to_object c.structs X && is_integer Y && is_same_type X ty) (λ j. arithmetic_meets b.Add refl (λ t. refl) ty x y j hx hy) (λ j. sum_of_pointer ty j) g)
        (λ g. sum_to_pointer ty g) h

    difference_of_pointer : (ty : PlainType) → IsTrue (points_to_object c.structs X && is_integer Y && is_same_type X ty) → ExprMeets c (Binary ty b.Subtract x y)
    difference_of_pointer ty h =
        let two = front (points_to_object c.structs X && is_integer Y) (is_same_type X ty) h in
        let p = object_pointer_known c.structs X (front (points_to_object c.structs X) (is_integer Y) two) in
        let n = integer_known Y (back (points_to_object c.structs X) (is_integer Y) two) in
        subst (λ z. ExprMeets c (Binary z b.Subtract x y)) (sym p.is ∙ same X ty (back (points_to_object c.structs X && is_integer Y) (is_same_type X ty) h))
        ((pointers_are_moved c found).differences p.target n.type x y (target_small X p.target p.is tx p.object) p.is n.is hx hy)

    distance_meets : (ty : PlainType) → IsTrue (points_to_object c.structs X && is_same_type X Y && is_same_type ty long) → ExprMeets c (Binary ty b.Subtract x y)
    distance_meets ty h =
        let two = front (points_to_object c.structs X && is_same_type X Y) (is_same_type ty long) h in
        let p = object_pointer_known c.structs X (front (points_to_object c.structs X) (is_same_type X Y) two) in
        let e = same X Y (back (points_to_object c.structs X) (is_same_type X Y) two) in
        subst (λ z. ExprMeets c (Binary z b.Subtract x y)) (sym (same ty long (back (points_to_object c.structs X && is_same_type X Y) (is_same_type ty long) h)))
        (distances_meet c found p.target p.target x y (target_small X p.target p.is tx p.object) p.is (sym e ∙ p.is) hx hy)

    difference_meets : (ty : PlainType) → IsTrue (is_difference c.structs ty X Y) → ExprMeets c (Binary ty b.Subtract x y)
    difference_meets ty h =
        either (is_arithmetic ty X Y || points_to_object c.structs X && is_integer Y && is_same_type X ty) (points_to_object c.structs X && is_same_type X Y && is_same_type ty long)
        (λ g. either (is_arithmetic ty X Y) (points_to_object c.structs X && is_integer Y && is_same_type X ty) (λ j. arithmetic_meets b.Subtract refl (λ t. refl) ty x y j hx hy) (λ j. difference_of_pointer ty j) g)
        (λ g. distance_meets ty g) h

    -- ---- `&&` and `||`

    truth_known : (ty : PlainType) → IsTrue (rules.is_logical ty X Y) → (int ≡ ty) × IsTrue (is_scalar X) × IsTrue (is_scalar Y)
    truth_known ty h =
        let two = front (is_same_type ty int && is_scalar X) (is_scalar Y) h in
        (sym (same ty int (front (is_same_type ty int) (is_scalar X) two)), back (is_same_type ty int) (is_scalar X) two, back (is_same_type ty int && is_scalar X) (is_scalar Y) h)

    and_meets : (ty : PlainType) → IsTrue (rules.is_logical ty X Y) → ExprMeets c (Binary ty b.LogicalAnd x y)
    and_meets ty h = let o = truth_known ty h in subst (λ z. ExprMeets c (Binary z b.LogicalAnd x y)) o.0 ((forms c found).conjunctions x y (scalar_known X o.1) (scalar_known Y o.2) hx hy)

    or_meets : (ty : PlainType) → IsTrue (rules.is_logical ty X Y) → ExprMeets c (Binary ty b.LogicalOr x y)
    or_meets ty h = let o = truth_known ty h in subst (λ z. ExprMeets c (Binary z b.LogicalOr x y)) o.0 ((forms c found).disjunctions x y (scalar_known X o.1) (scalar_known Y o.2) hx hy)

    -- ---- all operators between two operands

    pub binary_meets : (op : BinaryOp) (ty : PlainType) → IsTrue (has_binary_type c.structs op ty X Y) → ExprMeets c (Binary ty op x y)
    binary_meets b.LogicalOr ty h = or_meets ty h
    binary_meets b.LogicalAnd ty h = and_meets ty h
    binary_meets b.Or ty h = arithmetic_meets b.Or refl (λ t. refl) ty x y h hx hy
    binary_meets b.Xor ty h = arithmetic_meets b.Xor refl (λ t. refl) ty x y h hx hy
    binary_meets b.And ty h = arithmetic_meets b.And refl (λ t. refl) ty x y h hx hy
    binary_meets b.Equal ty h = comparison_meets b.Equal refl (λ t. refl) ty x y (λ p. p.equal) h hx hy
    binary_meets b.NotEqual ty h = comparison_meets b.NotEqual refl (λ t. refl) ty x y (λ p. p.not_equal) h hx hy
    binary_meets b.Less ty h = comparison_meets b.Less refl (λ t. refl) ty x y (λ p. p.less) h hx hy
    binary_meets b.Greater ty h = comparison_meets b.Greater refl (λ t. refl) ty x y (λ p. p.greater) h hx hy
    binary_meets b.LessEqual ty h = comparison_meets b.LessEqual refl (λ t. refl) ty x y (λ p. p.less_or_equal) h hx hy
    binary_meets b.GreaterEqual ty h = comparison_meets b.GreaterEqual refl (λ t. refl) ty x y (λ p. p.greater_or_equal) h hx hy
    binary_meets b.ShiftLeft ty h = shift_meets b.ShiftLeft refl refl (λ t. refl) ty x y h hx hy
    binary_meets b.ShiftRight ty h = shift_meets b.ShiftRight refl refl (λ t. refl) ty x y h hx hy
    binary_meets b.Add ty h = sum_meets ty h
    binary_meets b.Subtract ty h = difference_meets ty h
    binary_meets b.Multiply ty h = arithmetic_meets b.Multiply refl (λ t. refl) ty x y h hx hy
    binary_meets b.Divide ty h = arithmetic_meets b.Divide refl (λ t. refl) ty x y h hx hy
    binary_meets b.Remainder ty h = arithmetic_meets b.Remainder refl (λ t. refl) ty x y h hx hy

    -- ---- elements

    pub element_meets : (ty : PlainType) → IsTrue (is_valid_type c.structs ty) → IsTrue (is_element c.structs ty X Y) → ExprMeets c (Index ty x y)
    element_meets ty t h =
        either (points_to c.structs ty X && is_integer Y) (is_integer X && points_to c.structs ty Y)
        (λ g. let p = pointer_to_known c.structs ty X (front (points_to c.structs ty X) (is_integer Y) g) in
        let n = integer_known Y (back (points_to c.structs ty X) (is_integer Y) g) in
        (pointers_are_moved c found).elements ty ty n.type x y (whole_known c.structs ty t) (object_small c.structs structs ty t p.object) p.is n.is hx hy)
        (λ g. let n = integer_known X (front (is_integer X) (points_to c.structs ty Y) g) in
        let p = pointer_to_known c.structs ty Y (back (is_integer X) (points_to c.structs ty Y) g) in
        (pointers_above_are_moved c found).elements ty ty n.type x y (whole_known c.structs ty t) (object_small c.structs structs ty t p.object) n.is p.is hx hy) h

    pub element_place_meets : (ty : PlainType) → IsTrue (is_valid_type c.structs ty) → IsTrue (is_element c.structs ty X Y) → PlaceMeets c (Index ty x y)
    element_place_meets ty t h =
        either (points_to c.structs ty X && is_integer Y) (is_integer X && points_to c.structs ty Y)
        (λ g. let p = pointer_to_known c.structs ty X (front (points_to c.structs ty X) (is_integer Y) g) in
        let n = integer_known Y (back (points_to c.structs ty X) (is_integer Y) g) in
        (pointers_are_moved c found).places ty ty n.type x y (object_small c.structs structs ty t p.object) p.is n.is hx hy)
        (λ g. let n = integer_known X (front (is_integer X) (points_to c.structs ty Y) g) in
        let p = pointer_to_known c.structs ty Y (back (is_integer X) (points_to c.structs ty Y) g) in
        (pointers_above_are_moved c found).places ty ty n.type x y (object_small c.structs structs ty t p.object) n.is p.is hx hy) h

  -- ---- choices

  pub choice_meets : (ty : PlainType) (x y z : Expr) → IsTrue (is_choice ty (type_of x) (type_of y) (type_of z)) → ExprMeets c x → ExprMeets c y → ExprMeets c z → ExprMeets c (Conditional ty x y z)
  choice_meets ty x y z h hx hy hz =
      let a = is_scalar (type_of x) in
      let e = is_same_type (type_of y) ty in
      let f = is_same_type (type_of z) ty in
      let three = front (a && e && f) (is_promoted ty || is_pointer ty || is_void ty || is_struct ty) h in
      let two = front (a && e) f three in
      (forms c found).choices ty x y z (scalar_known (type_of x) (front a e two)) (same (type_of y) ty (back a e two)) (same (type_of z) ty (back (a && e) f three)) hx hy hz
