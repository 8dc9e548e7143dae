-- The operators of integers, those that move pointers, and comparisons.
use Rattle.std.proofs.Common.{◌≡◌, ℕ, ◌&&◌, ◌||◌, IsTrue, IsFalse, List, Option, Some, None, IfOk, refl, sym, ◌∙◌}
use Rattle.bk_arithmetic.specs.declared.integer_type.IntegerType.{IntegerType}
use Rattle.bk_arithmetic.specs.declared.integer_type.IntegerType.TheVariants as i
use Rattle.bk_arithmetic.specs.IntegerTypes.{promote, common}
use Rattle.c_tree.specs.declared.expressions.UnaryOp.{UnaryOp}
use Rattle.c_tree.specs.declared.expressions.UnaryOp.TheVariants as u
use Rattle.c_tree.specs.declared.expressions.BinaryOp.{BinaryOp}
use Rattle.c_tree.specs.declared.expressions.BinaryOp.TheVariants as b
use Rattle.c_typed_tree.specs.declared.types.StructDef.{StructDef}
use Rattle.c_typed_tree.specs.declared.expressions.TExpr.{TExpr}
use Rattle.c_typed_tree.specs.declared.units.Local.{Local}
use Rattle.c_typed_tree.specs.Types.{PlainType}
use Rattle.c_typed_tree.specs.Expressions.{Expr, type_of}
use Rattle.c_typed_tree.specs.View.{type_view, expr_view}
use Rattle.c_typed_tree.specs.Constants.{is_integer}
use Rattle.c_typed_tree.specs.Typing as rules
use Rattle.c_typed_tree.specs.Typing.{Context, is_same_type, is_array, is_pointer, is_scalar, is_promoted, points_to_object, has_binary_type, has_unary_type, has_promoted_type, is_arithmetic}
use Rattle.c_typing_rules.specs.declared.typed.TypedExpression.{TypedExpression}
use Rattle.c_typing_rules.specs.Values.{type_of_integer, int, long, integer, is_same, convert_tree, binary_rvalue}
use Rattle.c_typing_rules.specs.Arithmetic.{promoted_type, unary_of, unary_arithmetic, common_type, arithmetic_of, arithmetic, shift_of, bitwise_shift, addition, subtraction}
use Rattle.c_typing_rules.specs.Comparisons.{not_operation, logical, are_pointers_of_one_type, ordered_pointers, comparison_of, comparison}
use Rattle.c_typing_expression_sound.specs.c_type_laws.Typed.{IsTypedIn, IsOfType, AreKnown}
use Rattle.c_typing_expression_sound.proofs.CTypeLaws.Truth.{front, back, also, three, along, either_left, either_right, first_of_three, second_of_three, third_of_three, given_true}
use Rattle.c_typing_expression_sound.proofs.CTypeLaws.Types.{same, alike, integer_known, integer_from, integer_fits, promote_promoted, common_promoted, promoted_holds, integer_no_array, pointer_no_array, object_pointer_is, known_pointer}
use Rattle.c_typing_expression_sound.proofs.CTypeLaws.Values.{fit_in, tree_in, integer_operand, unary_made, binary_made}

-- an integer type is no array
pub plain_integer : (s : IntegerType) → IsFalse (is_array (type_view (type_of_integer s)))
plain_integer s = integer_no_array (type_view (type_of_integer s)) (integer_from (type_view (type_of_integer s)) s (integer_known s))

int_is : IsTrue (is_same_type (type_view int) rules.int)
unfolding type_view
int_is = refl

long_is : IsTrue (is_same_type (type_view long) rules.long)
unfolding type_view
long_is = refl

-- ---- which rule an operator has

abbrev pub Promotes : UnaryOp → Type 0
Promotes op = (ds : List StructDef) (ls : List Local) (ty : PlainType) (x : Expr) → IsTrue (has_promoted_type ty (type_of x)) → IsTrue (has_unary_type ds ls op ty x)

abbrev pub Computes : BinaryOp → Type 0
Computes op = (ds : List StructDef) (ty left right : PlainType) → IsTrue (is_arithmetic ty left right) → IsTrue (has_binary_type ds op ty left right)

abbrev pub Compares : BinaryOp → Type 0
Compares op = (ds : List StructDef) (ty left right : PlainType) → IsTrue (rules.is_comparison ty left right) → IsTrue (has_binary_type ds op ty left right)

abbrev pub Shifts : BinaryOp → Type 0
Shifts op = (ds : List StructDef) (ty left right : PlainType) → IsTrue (rules.is_shift ty left right) → IsTrue (has_binary_type ds op ty left right)

abbrev pub Tests : BinaryOp → Type 0
Tests op = (ds : List StructDef) (ty left right : PlainType) → IsTrue (rules.is_logical ty left right) → IsTrue (has_binary_type ds op ty left right)

pub or_computes : Computes b.Or
or_computes ds ty x y h = h

pub xor_computes : Computes b.Xor
xor_computes ds ty x y h = h

pub and_computes : Computes b.And
and_computes ds ty x y h = h

pub multiply_computes : Computes b.Multiply
multiply_computes ds ty x y h = h

pub divide_computes : Computes b.Divide
divide_computes ds ty x y h = h

pub remainder_computes : Computes b.Remainder
remainder_computes ds ty x y h = h

pub add_computes : Computes b.Add
add_computes ds ty x y h =
    first_of_three (is_arithmetic ty x y) (points_to_object ds x && is_integer y && is_same_type x ty)
    (is_integer x && points_to_object ds y && is_same_type y ty) h

pub subtract_computes : Computes b.Subtract
subtract_computes ds ty x y h =
    first_of_three (is_arithmetic ty x y) (points_to_object ds x && is_integer y && is_same_type x ty)
    (points_to_object ds x && is_same_type x y && is_same_type ty rules.long) h

module _ (c : Context) where
  -- ---- `+`, `-` and `~` in front of an integer

  unary_of_typed : (at : ℕ) (op : UnaryOp) (a : TypedExpression) (o : Option IntegerType) → Promotes op → IsTypedIn c a → integer a ≡ o → IfOk (unary_of at op a o) (IsTypedIn c)
  unary_of_typed at op a None p h known = tt
  unary_of_typed at op a (Some s) p h known =
      let x = integer_operand c (promote s) a s h known in
      let ty = type_view (promoted_type s) in
      unary_made c at (promoted_type s) op (convert_tree (promoted_type s) a) x.typed (integer_fits c.structs (promote s))
      (p c.structs c.locals ty (expr_view (convert_tree (promoted_type s) a))
      (along (has_promoted_type ty) x.type (also (is_promoted ty) (is_same_type ty ty) (promoted_holds (promote s) (promote_promoted s)) (alike ty))))
      (plain_integer (promote s))

  pub unary_arithmetic_typed : (at : ℕ) (op : UnaryOp) (a : TypedExpression) → Promotes op → IsTypedIn c a → IfOk (unary_arithmetic at op a) (IsTypedIn c)
  unary_arithmetic_typed at op a p h = unary_of_typed at op a (integer a) p h refl

  -- ---- between integers

  arithmetic_of_typed : (at : ℕ) (op : BinaryOp) (x y : TypedExpression) (o q : Option IntegerType) → Computes op → IsTypedIn c x → IsTypedIn c y → integer x ≡ o → integer y ≡ q
      → IfOk (arithmetic_of at op x y o q) (IsTypedIn c)
  arithmetic_of_typed at op x y None q p h g k l = tt
  arithmetic_of_typed at op x y (Some s) None p h g k l = tt
  arithmetic_of_typed at op x y (Some s) (Some r) p h g k l =
      let ty = type_view (common_type s r) in
      binary_made c at (common_type s r) op ty ty (convert_tree (common_type s r) x) (convert_tree (common_type s r) y)
      (integer_operand c (common s r) x s h k) (integer_operand c (common s r) y r g l) (integer_fits c.structs (common s r))
      (p c.structs ty ty ty (three (is_promoted ty) (is_same_type ty ty) (is_same_type ty ty) (promoted_holds (common s r) (common_promoted s r)) (alike ty) (alike ty)))
      (plain_integer (common s r))

  pub arithmetic_typed : (at : ℕ) (op : BinaryOp) (x y : TypedExpression) → Computes op → IsTypedIn c x → IsTypedIn c y → IfOk (arithmetic at op x y) (IsTypedIn c)
  arithmetic_typed at op x y p h g = arithmetic_of_typed at op x y (integer x) (integer y) p h g refl refl

  -- ---- shifts

  shift_of_typed : (at : ℕ) (op : BinaryOp) (x y : TypedExpression) (o q : Option IntegerType) → Shifts op → IsTypedIn c x → IsTypedIn c y → integer x ≡ o → integer y ≡ q
      → IfOk (shift_of at op x y o q) (IsTypedIn c)
  shift_of_typed at op x y None q p h g k l = tt
  shift_of_typed at op x y (Some s) None p h g k l = tt
  shift_of_typed at op x y (Some s) (Some r) p h g k l =
      let ty = type_view (promoted_type s) in
      let count = type_view (promoted_type r) in
      binary_made c at (promoted_type s) op ty count (convert_tree (promoted_type s) x) (convert_tree (promoted_type r) y)
      (integer_operand c (promote s) x s h k) (integer_operand c (promote r) y r g l) (integer_fits c.structs (promote s))
      (p c.structs ty ty count (three (is_promoted ty) (is_promoted count) (is_same_type ty ty) (promoted_holds (promote s) (promote_promoted s)) (promoted_holds (promote r) (promote_promoted r)) (alike ty)))
      (plain_integer (promote s))

  pub shift_typed : (at : ℕ) (op : BinaryOp) (x y : TypedExpression) → Shifts op → IsTypedIn c x → IsTypedIn c y → IfOk (bitwise_shift at op x y) (IsTypedIn c)
  shift_typed at op x y p h g = shift_of_typed at op x y (integer x) (integer y) p h g refl refl

  -- ---- `+` and `-` with pointers

  plain_pointer : (x : PlainType) → IsTrue (points_to_object c.structs x) → IsFalse (is_array x)
  plain_pointer x h = pointer_no_array x (object_pointer_is c.structs x h)

  pub sum_typed : (ds : List StructDef) (at : ℕ) (x y : TypedExpression) → AreKnown ds c.structs → IsTypedIn c x → IsTypedIn c y → IfOk (addition ds at x y) (IsTypedIn c)
  sum_typed ds at x y known h g =
      let left = type_view x.ty in
      let right = type_view y.ty in
      given_true (IsTypedIn c) (points_to_object ds left) _ _
      (λ p. let q = known_pointer ds c.structs known left p in
      given_true (IsTypedIn c) (is_integer right) _ _
      (λ n. binary_made c at x.ty b.Add left right x.tree y.tree (tree_in c x h) (tree_in c y g) (fit_in c x h)
      (second_of_three (is_arithmetic left left right) (points_to_object c.structs left && is_integer right && is_same_type left left)
      (is_integer left && points_to_object c.structs right && is_same_type right left)
      (three (points_to_object c.structs left) (is_integer right) (is_same_type left left) q n (alike left))) (plain_pointer left q))
      (λ n. tt))
      (λ f. given_true (IsTypedIn c) (points_to_object ds right) _ _
      (λ p. let q = known_pointer ds c.structs known right p in
      given_true (IsTypedIn c) (is_integer left) _ _
      (λ n. binary_made c at y.ty b.Add left right x.tree y.tree (tree_in c x h) (tree_in c y g) (fit_in c y g)
      (third_of_three (is_arithmetic right left right) (points_to_object c.structs left && is_integer right && is_same_type left right)
      (is_integer left && points_to_object c.structs right && is_same_type right right)
      (three (is_integer left) (points_to_object c.structs right) (is_same_type right right) n q (alike right))) (plain_pointer right q))
      (λ n. tt))
      (λ n. arithmetic_typed at b.Add x y add_computes h g))

  pub difference_typed : (ds : List StructDef) (at : ℕ) (x y : TypedExpression) → AreKnown ds c.structs → IsTypedIn c x → IsTypedIn c y → IfOk (subtraction ds at x y) (IsTypedIn c)
  difference_typed ds at x y known h g =
      let left = type_view x.ty in
      let right = type_view y.ty in
      given_true (IsTypedIn c) (points_to_object ds left) _ _
      (λ p. let q = known_pointer ds c.structs known left p in
      given_true (IsTypedIn c) (is_integer right) _ _
      (λ n. binary_made c at x.ty b.Subtract left right x.tree y.tree (tree_in c x h) (tree_in c y g) (fit_in c x h)
      (second_of_three (is_arithmetic left left right) (points_to_object c.structs left && is_integer right && is_same_type left left)
      (points_to_object c.structs left && is_same_type left right && is_same_type left rules.long)
      (three (points_to_object c.structs left) (is_integer right) (is_same_type left left) q n (alike left))) (plain_pointer left q))
      (λ n. given_true (IsTypedIn c) (is_same x.ty y.ty) _ _
      (λ s. binary_made c at long b.Subtract left right x.tree y.tree (tree_in c x h) (tree_in c y g) (integer_fits c.structs i.Long)
      (third_of_three (is_arithmetic (type_view long) left right) (points_to_object c.structs left && is_integer right && is_same_type left (type_view long))
      (points_to_object c.structs left && is_same_type left right && is_same_type (type_view long) rules.long)
      (three (points_to_object c.structs left) (is_same_type left right) (is_same_type (type_view long) rules.long) q s long_is)) (plain_integer i.Long))
      (λ s. tt)))
      (λ f. arithmetic_typed at b.Subtract x y subtract_computes h g)

  -- ---- comparisons, and operators that ask whether an operand is zero

  pub negation_typed : (at : ℕ) (a : TypedExpression) → IsTypedIn c a → IfOk (not_operation at a) (IsTypedIn c)
  negation_typed at a h =
      given_true (IsTypedIn c) (is_scalar (type_view a.ty)) _ _
      (λ s. unary_made c at int u.Not a.tree h.tree (integer_fits c.structs i.Int)
      (along (rules.has_truth_type (type_view int)) h.type (also (is_same_type (type_view int) rules.int) (is_scalar (type_view a.ty)) int_is s)) (plain_integer i.Int))
      (λ s. tt)

  pub logical_typed : (at : ℕ) (op : BinaryOp) (x y : TypedExpression) → Tests op → IsTypedIn c x → IsTypedIn c y → IfOk (logical at op x y) (IsTypedIn c)
  logical_typed at op x y p h g =
      let left = type_view x.ty in
      let right = type_view y.ty in
      given_true (IsTypedIn c) (is_scalar left) _ _
      (λ s. given_true (IsTypedIn c) (is_scalar right) _ _
      (λ r. binary_made c at int op left right x.tree y.tree (tree_in c x h) (tree_in c y g) (integer_fits c.structs i.Int)
      (p c.structs (type_view int) left right (three (is_same_type (type_view int) rules.int) (is_scalar left) (is_scalar right) int_is s r)) (plain_integer i.Int))
      (λ r. tt))
      (λ s. tt)

  -- a comparison of two values of one type
  pub compared_types : (at : ℕ) (op : BinaryOp) (ty : PlainType) (x y : TExpr) → Compares op → IsOfType c ty x → IsOfType c ty y → IsTrue (is_promoted ty || is_pointer ty)
      → IsTypedIn c (binary_rvalue at int op x y)
  compared_types at op ty x y p h g k =
      binary_made c at int op ty ty x y h g (integer_fits c.structs i.Int)
      (p c.structs (type_view int) ty ty (three (is_same_type (type_view int) rules.int) (is_same_type ty ty) (is_promoted ty || is_pointer ty) int_is (alike ty) k)) (plain_integer i.Int)

  pub integers_compared : (at : ℕ) (op : BinaryOp) (x y : TypedExpression) (s r : IntegerType) → Compares op → IsTypedIn c x → IsTypedIn c y → integer x ≡ Some s → integer y ≡ Some r
      → IsTypedIn c (binary_rvalue at int op (convert_tree (common_type s r) x) (convert_tree (common_type s r) y))
  integers_compared at op x y s r p h g k l =
      let ty = type_view (common_type s r) in
      compared_types at op ty (convert_tree (common_type s r) x) (convert_tree (common_type s r) y) p (integer_operand c (common s r) x s h k) (integer_operand c (common s r) y r g l)
      (either_left (is_promoted ty) (is_pointer ty) (promoted_holds (common s r) (common_promoted s r)))

  ordered_typed : (at : ℕ) (op : BinaryOp) (x y : TypedExpression) → Compares op → IsTypedIn c x → IsTypedIn c y → IfOk (ordered_pointers at op x y) (IsTypedIn c)
  ordered_typed at op x y p h g =
      let left = type_view x.ty in
      let right = type_view y.ty in
      given_true (IsTypedIn c) (are_pointers_of_one_type x y) _ _
      (λ s. compared_types at op left x.tree y.tree p (tree_in c x h)
      (record { typed = g.tree; type = g.type ∙ sym (same left right (back (is_pointer left) (is_same_type left right) s)) })
      (either_right (is_promoted left) (is_pointer left) (front (is_pointer left) (is_same_type left right) s)))
      (λ s. tt)

  comparison_of_typed : (at : ℕ) (op : BinaryOp) (x y : TypedExpression) (o q : Option IntegerType) → Compares op → IsTypedIn c x → IsTypedIn c y → integer x ≡ o → integer y ≡ q
      → IfOk (comparison_of at op x y o q) (IsTypedIn c)
  comparison_of_typed at op x y (Some s) (Some r) p h g k l = integers_compared at op x y s r p h g k l
  comparison_of_typed at op x y (Some s) None p h g k l = tt
  comparison_of_typed at op x y None q p h g k l = ordered_typed at op x y p h g

  pub comparison_typed : (at : ℕ) (op : BinaryOp) (x y : TypedExpression) → Compares op → IsTypedIn c x → IsTypedIn c y → IfOk (comparison at op x y) (IsTypedIn c)
  comparison_typed at op x y p h g = comparison_of_typed at op x y (integer x) (integer y) p h g refl refl
