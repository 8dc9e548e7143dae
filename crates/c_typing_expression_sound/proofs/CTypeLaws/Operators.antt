-- The operators, each by its rule.
use Rattle.std.proofs.Common.{ℕ, false, ◌&&◌, IsTrue, List, Ok, Err, IfOk, sym}
use Rattle.c_tree.specs.declared.expressions.UnaryOp.{UnaryOp}
use Rattle.c_tree.specs.declared.expressions.UnaryOp.TheVariants as u
use Rattle.c_tree.specs.declared.expressions.BinaryOp.{BinaryOp}
use Rattle.c_tree.specs.declared.expressions.BinaryOp.TheVariants as b
use Rattle.c_tree.specs.declared.expressions.AssignOp.{AssignOp}
use Rattle.c_tree.specs.declared.expressions.AssignOp.TheVariants as o
use Rattle.c_typed_tree.specs.declared.types.CType as t
use Rattle.c_typed_tree.specs.declared.types.StructDef.{StructDef}
use Rattle.c_typed_tree.specs.declared.expressions.TExpr.{TExpr}
use Rattle.c_typed_tree.specs.Expressions.{Expr, Number, Local, Global, Call, Unary, Binary, Assign, Conditional, Cast, Convert, Index, Field, Arrow, Postfix, Comma, type_of}
use Rattle.c_typed_tree.specs.View.{type_view, expr_view}
use Rattle.c_typed_tree.specs.Constants.{is_integer, is_null_constant}
use Rattle.c_typed_tree.specs.Typing.{Context, is_pointer, is_pointer_to_void, is_fit}
use Rattle.c_typing_constants.specs.Null.{is_null_void}
use Rattle.c_typing_rules.specs.declared.c_typing_declared_types.declared.DeclaredType.{DeclaredType}
use Rattle.c_typing_rules.specs.declared.c_typing_declared_types.declared.DeclaredType.TheVariants as d
use Rattle.c_typing_rules.specs.declared.typed.TypedExpression.{TypedExpression}
use Rattle.c_typing_rules.specs.Rulings.{Ruling}
use Rattle.c_typing_rules.specs.Conversions.{decay}
use Rattle.c_typing_rules.specs.Comparisons.{condition}
use Rattle.c_typing_judgements.specs.c_typing_operators.Null.{is_null_value, is_null_for, take_value}
use Rattle.c_typing_judgements.specs.c_typing_operators.Unary.{unary_ruling}
use Rattle.c_typing_judgements.specs.c_typing_operators.Binary.{binary_operation, binary_ruling, subscript, condition_tree, conditional_on, conditional_ruling}
use Rattle.c_typing_judgements.specs.c_typing_operators.Assigned.{assign_rvalue, assign}
use Rattle.c_typing_judgements.specs.c_typing_operators.Casts.{cast_to, size_of_type}
use Rattle.c_typing_expression_sound.specs.c_type_laws.Typed.{IsTypedIn, IsOfType, AreKnown, TakesMemory, IsFitType, IsSmallType, IsTested}
use Rattle.c_typing_expression_sound.proofs.CTypeLaws.Truth.{no_true, also, along, either_left, either_right, if_true}
use Rattle.c_typing_expression_sound.proofs.CTypeLaws.Values.{decay_typed}
use Rattle.c_typing_expression_sound.proofs.CTypeLaws.Arithmetic as arith
use Rattle.c_typing_expression_sound.proofs.CTypeLaws.Conversions.{IsNull, value_for_type_typed, cast_typed, equality_typed, condition_typed, choice_typed}
use Rattle.c_typing_expression_sound.proofs.CTypeLaws.Places.{dereference_typed, index_typed, address_typed, step_before_typed, size_typed}
use Rattle.c_typing_expression_sound.proofs.CTypeLaws.Assignments as assigned

-- ---- null pointer constants

null_type : (x : Expr) → IsTrue (is_null_void x) → IsTrue (is_pointer_to_void (type_of x))
null_type (Cast ty x) h = if_true (is_pointer_to_void ty) (is_null_constant x) false (λ s w. s) (λ s w. no_true w) h
null_type (Number ty n) h = no_true h
null_type (Local ty n) h = no_true h
null_type (Global ty n) h = no_true h
null_type (Call ty f xs) h = no_true h
null_type (Unary ty op x) h = no_true h
null_type (Binary ty op x y) h = no_true h
null_type (Assign ty op x y) h = no_true h
null_type (Conditional ty x y z) h = no_true h
null_type (Convert ty x) h = no_true h
null_type (Index ty x y) h = no_true h
null_type (Field ty x m) h = no_true h
null_type (Arrow ty x m) h = no_true h
null_type (Postfix ty op x) h = no_true h
null_type (Comma ty xs) h = no_true h

module _ (c : Context) where
  null_says : (a : TypedExpression) → IsTypedIn c a → IsTrue (is_null_value a) → IsNull a
  null_says a h n =
      let own = type_view a.ty in
      let zero = is_null_constant (expr_view a.tree) in
      if_true (is_integer own) zero (is_null_void (expr_view a.tree))
      (λ i z. either_left (is_integer own && zero) (is_pointer_to_void own) (also (is_integer own) zero i z))
      (λ i z. either_right (is_integer own && zero) (is_pointer_to_void own) (along is_pointer_to_void (sym h.type) (null_type (expr_view a.tree) z))) n

  null_for : (to : t.CType) (a : TypedExpression) → IsTypedIn c a → IsTrue (is_null_for to a) → IsNull a
  null_for to a h n = if_true (is_pointer (type_view to)) (is_null_value a) false (λ p z. null_says a h z) (λ p z. no_true z) n

  pub take_typed : (to : t.CType) (a : TypedExpression) → IsTrue (is_fit c.structs (type_view to)) → IsTypedIn c a → IfOk (take_value to a) (IsOfType c (type_view to))
  take_typed to a fit h = let v = decay_typed c a h in value_for_type_typed c to (decay a) (is_null_for to (decay a)) v.typed fit (null_for to (decay a) v.typed)

  -- ---- in front of an operand

  pub unary_typed : (ds : List StructDef) (at : ℕ) (op : UnaryOp) (a : TypedExpression) → AreKnown ds c.structs → TakesMemory c op a.place → IsTypedIn c a → IfOk (unary_ruling ds at op a) (IsTypedIn c)
  unary_typed ds at u.Increment a known memory h = step_before_typed c ds at u.Increment a (λ es ls ty x k. k) known h
  unary_typed ds at u.Decrement a known memory h = step_before_typed c ds at u.Decrement a (λ es ls ty x k. k) known h
  unary_typed ds at u.Address a known memory h = address_typed c at a h memory
  unary_typed ds at u.Dereference a known memory h = dereference_typed c ds at (decay a) known (decay_typed c a h).typed
  unary_typed ds at u.Plus a known memory h = arith.unary_arithmetic_typed c at u.Plus (decay a) (λ es ls ty x k. k) (decay_typed c a h).typed
  unary_typed ds at u.Minus a known memory h = arith.unary_arithmetic_typed c at u.Minus (decay a) (λ es ls ty x k. k) (decay_typed c a h).typed
  unary_typed ds at u.Invert a known memory h = arith.unary_arithmetic_typed c at u.Invert (decay a) (λ es ls ty x k. k) (decay_typed c a h).typed
  unary_typed ds at u.Not a known memory h = arith.negation_typed c at (decay a) (decay_typed c a h).typed

  -- ---- between operands

  between_typed : (ds : List StructDef) (at : ℕ) (op : BinaryOp) (x y : TypedExpression) → AreKnown ds c.structs → IsTypedIn c x → IsTypedIn c y → IfOk (binary_operation ds at op x y) (IsTypedIn c)
  between_typed ds at b.LogicalOr x y known h g = arith.logical_typed c at b.LogicalOr x y (λ es ty l r k. k) h g
  between_typed ds at b.LogicalAnd x y known h g = arith.logical_typed c at b.LogicalAnd x y (λ es ty l r k. k) h g
  between_typed ds at b.Or x y known h g = arith.arithmetic_typed c at b.Or x y arith.or_computes h g
  between_typed ds at b.Xor x y known h g = arith.arithmetic_typed c at b.Xor x y arith.xor_computes h g
  between_typed ds at b.And x y known h g = arith.arithmetic_typed c at b.And x y arith.and_computes h g
  between_typed ds at b.Equal x y known h g =
      equality_typed c at b.Equal x y (is_null_for y.ty x) (is_null_for x.ty y) (λ es ty l r k. k) h g (null_for y.ty x h) (null_for x.ty y g)
  between_typed ds at b.NotEqual x y known h g =
      equality_typed c at b.NotEqual x y (is_null_for y.ty x) (is_null_for x.ty y) (λ es ty l r k. k) h g (null_for y.ty x h) (null_for x.ty y g)
  between_typed ds at b.Less x y known h g = arith.comparison_typed c at b.Less x y (λ es ty l r k. k) h g
  between_typed ds at b.Greater x y known h g = arith.comparison_typed c at b.Greater x y (λ es ty l r k. k) h g
  between_typed ds at b.LessEqual x y known h g = arith.comparison_typed c at b.LessEqual x y (λ es ty l r k. k) h g
  between_typed ds at b.GreaterEqual x y known h g = arith.comparison_typed c at b.GreaterEqual x y (λ es ty l r k. k) h g
  between_typed ds at b.ShiftLeft x y known h g = arith.shift_typed c at b.ShiftLeft x y (λ es ty l r k. k) h g
  between_typed ds at b.ShiftRight x y known h g = arith.shift_typed c at b.ShiftRight x y (λ es ty l r k. k) h g
  between_typed ds at b.Add x y known h g = arith.sum_typed c ds at x y known h g
  between_typed ds at b.Subtract x y known h g = arith.difference_typed c ds at x y known h g
  between_typed ds at b.Multiply x y known h g = arith.arithmetic_typed c at b.Multiply x y arith.multiply_computes h g
  between_typed ds at b.Divide x y known h g = arith.arithmetic_typed c at b.Divide x y arith.divide_computes h g
  between_typed ds at b.Remainder x y known h g = arith.arithmetic_typed c at b.Remainder x y arith.remainder_computes h g

  pub binary_typed : (ds : List StructDef) (at : ℕ) (op : BinaryOp) (x y : TypedExpression) → AreKnown ds c.structs → IsTypedIn c x → IsTypedIn c y → IfOk (binary_ruling ds at op x y) (IsTypedIn c)
  binary_typed ds at op x y known h g = between_typed ds at op (decay x) (decay y) known (decay_typed c x h).typed (decay_typed c y g).typed

  pub subscript_typed : (ds : List StructDef) (at : ℕ) (x y : TypedExpression) → AreKnown ds c.structs → IsTypedIn c x → IsTypedIn c y → IfOk (subscript ds at x y) (IsTypedIn c)
  subscript_typed ds at x y known h g = index_typed c ds at (decay x) (decay y) known (decay_typed c x h).typed (decay_typed c y g).typed

  -- ---- `?:`

  pub condition_taken : (a : TypedExpression) → IsTypedIn c a → IfOk (condition_tree a) (IsTested c)
  condition_taken a h = condition_typed c (decay a) (decay_typed c a h).typed

  conditional_on_typed : (at : ℕ) (r : Ruling TExpr) (x y : TypedExpression) → IfOk r (IsTested c) → IsTypedIn c x → IsTypedIn c y → IfOk (conditional_on at r x y) (IsTypedIn c)
  conditional_on_typed at (Err f) x y s h g = tt
  conditional_on_typed at (Ok test) x y s h g =
      let left = decay_typed c x h in
      let right = decay_typed c y g in
      choice_typed c at test (decay x) (decay y) (is_null_for (decay y).ty (decay x)) (is_null_for (decay x).ty (decay y)) s left right
      (null_for (decay y).ty (decay x) left.typed) (null_for (decay x).ty (decay y) right.typed)

  pub conditional_typed : (at : ℕ) (q x y : TypedExpression) → IsTypedIn c q → IsTypedIn c x → IsTypedIn c y → IfOk (conditional_ruling at q x y) (IsTypedIn c)
  conditional_typed at q x y k h g = conditional_on_typed at (condition (decay q)) x y (condition_typed c (decay q) (decay_typed c q k).typed) h g

  -- ---- assignments

  with_value_typed : (ds : List StructDef) (at : ℕ) (op : AssignOp) (x y : TypedExpression) → AreKnown ds c.structs → IsTypedIn c x → IsTypedIn c y → IfOk (assign_rvalue ds at op x y) (IsTypedIn c)
  with_value_typed ds at o.Set x y known h g = assigned.set_typed c at x y (is_null_for x.ty y) h g (null_for x.ty y g)
  with_value_typed ds at o.Multiply x y known h g = assigned.compound_typed c ds at o.Multiply x y assigned.multiply_compound known h g
  with_value_typed ds at o.Divide x y known h g = assigned.compound_typed c ds at o.Divide x y assigned.divide_compound known h g
  with_value_typed ds at o.Remainder x y known h g = assigned.compound_typed c ds at o.Remainder x y assigned.remainder_compound known h g
  with_value_typed ds at o.Add x y known h g = assigned.compound_typed c ds at o.Add x y assigned.add_compound known h g
  with_value_typed ds at o.Subtract x y known h g = assigned.compound_typed c ds at o.Subtract x y assigned.subtract_compound known h g
  with_value_typed ds at o.ShiftLeft x y known h g = assigned.compound_typed c ds at o.ShiftLeft x y assigned.shift_left_compound known h g
  with_value_typed ds at o.ShiftRight x y known h g = assigned.compound_typed c ds at o.ShiftRight x y assigned.shift_right_compound known h g
  with_value_typed ds at o.And x y known h g = assigned.compound_typed c ds at o.And x y assigned.and_compound known h g
  with_value_typed ds at o.Xor x y known h g = assigned.compound_typed c ds at o.Xor x y assigned.xor_compound known h g
  with_value_typed ds at o.Or x y known h g = assigned.compound_typed c ds at o.Or x y assigned.or_compound known h g

  pub assign_typed : (ds : List StructDef) (at : ℕ) (op : AssignOp) (x y : TypedExpression) → AreKnown ds c.structs → IsTypedIn c x → IsTypedIn c y → IfOk (assign ds at op x y) (IsTypedIn c)
  assign_typed ds at op x y known h g = with_value_typed ds at op x (decay y) known h (decay_typed c y g).typed

  -- ---- casts and sizes

  pub cast_to_typed : (at : ℕ) (to : DeclaredType) (a : TypedExpression) → IsFitType c to → IsTypedIn c a → IfOk (cast_to at to a) (IsTypedIn c)
  cast_to_typed at (d.Value ty) a fit h =
      let v = decay_typed c a h in
      cast_typed c at ty (decay a) (is_null_for ty (decay a)) v fit (null_for ty (decay a) v.typed)
  cast_to_typed at (d.Unsized x) a fit h = tt
  cast_to_typed at (d.Function x xs) a fit h = tt

  pub size_of_type_typed : (ds : List StructDef) (at : ℕ) (ty : DeclaredType) → IsSmallType ds ty → IfOk (size_of_type ds at ty) (IsTypedIn c)
  size_of_type_typed ds at (d.Value ty) small = size_typed c ds at ty small
  size_of_type_typed ds at (d.Unsized x) small = tt
  size_of_type_typed ds at (d.Function x xs) small = tt
