-- How high is what rules make of their operands.
use Rattle.std.proofs.Common.{ℕ, suc, Bool, true, false, List, [], ◌∷◌, ◌++◌, Option, Some, None, Ok, Err, IfOk, if◌then◌else◌}
use Rattle.bk_arithmetic.specs.declared.integer_type.IntegerType.{IntegerType}
use Rattle.c_typing_literals.specs.declared.integers.IntegerLiteral.{IntegerLiteral}
use Rattle.c_tree.specs.declared.expressions.UnaryOp.{UnaryOp}
use Rattle.c_tree.specs.declared.expressions.UnaryOp.TheVariants as u
use Rattle.c_tree.specs.declared.expressions.BinaryOp.{BinaryOp}
use Rattle.c_tree.specs.declared.expressions.BinaryOp.TheVariants as b
use Rattle.c_tree.specs.declared.expressions.AssignOp.{AssignOp}
use Rattle.c_tree.specs.declared.expressions.AssignOp.TheVariants as o
use Rattle.c_tree.specs.declared.expressions.StepOp.{StepOp}
use Rattle.c_typed_tree.specs.declared.types.CType.{CType}
use Rattle.c_typed_tree.specs.declared.types.CType as t
use Rattle.c_typed_tree.specs.declared.types.StructDef.{StructDef}
use Rattle.c_typed_tree.specs.declared.expressions.TExpr.{TExpr}
use Rattle.c_typed_tree.specs.declared.expressions.TExpr as e
use Rattle.c_typed_tree.specs.View.{type_view}
use Rattle.c_typed_tree.specs.Constants.{is_integer}
use Rattle.c_typed_tree.specs.Layout.{is_object, size_of}
use Rattle.c_typed_tree.specs.Typing.{is_pointer, is_scalar, points_to_object}
use Rattle.c_typing_rules.specs.declared.c_typing_declared_types.declared.DeclaredType.{DeclaredType}
use Rattle.c_typing_rules.specs.declared.c_typing_declared_types.declared.DeclaredType.TheVariants as d
use Rattle.c_typing_rules.specs.declared.typed.TypedExpression.{TypedExpression}
use Rattle.c_typing_rules.specs.Rulings.{Ruling}
use Rattle.c_typing_rules.specs.Types.{points_to_struct}
use Rattle.c_typing_rules.specs.Values.{int, long, integer, is_same, convert_tree, binary_in}
use Rattle.c_typing_rules.specs.Arithmetic.{promoted_type, unary_of, common_type, arithmetic_of, shift_of, addition, subtraction}
use Rattle.c_typing_rules.specs.Comparisons.{condition, not_operation, logical, are_pointers_of_one_type, ordered_pointers, comparison_of}
use Rattle.c_typing_rules.specs.Conversions.{element, decayed_to, decay, is_taken_as_pointer, as_integer, as_pointer, value_for_type, is_castable, meet, equal_pointers, equality_of, choice_in, choice_met, choice_apart, choice_of}
use Rattle.c_typing_place_rules.specs.declared.members.FoundMember.{FoundMember}
use Rattle.c_typing_place_rules.specs.Assignments.{set_to, set, moves, right_type, moved_place, compound_of, compound}
use Rattle.c_typing_place_rules.specs.Members.{field_found, is_struct_place, field, arrow_found, arrow, size}
use Rattle.c_typing_place_rules.specs.Places.{object_of, dereference_of, element_by_index, index, is_somewhere, address, is_assignable, is_steppable, step_before, step_behind}
use Rattle.c_typing_judgements.specs.c_typing_operators.Null.{is_null_for, take_value}
use Rattle.c_typing_judgements.specs.c_typing_operators.Unary.{unary_ruling}
use Rattle.c_typing_judgements.specs.c_typing_operators.Binary.{binary_operation, binary_ruling, subscript, conditional_on, condition_tree, conditional_ruling}
use Rattle.c_typing_judgements.specs.c_typing_operators.Assigned as assigned
use Rattle.c_typing_judgements.specs.c_typing_operators.Casts.{cast_to, size_of_type}
use Rattle.c_typing_primary_rules.specs.declared.commas.CommaOperands.{CommaOperands}
use Rattle.c_typing_primary_rules.specs.Commas.{no_operands, with_operand, comma_operands, comma_value}
use Rattle.c_typing_primary_rules.specs.Primary.{literal_value, character_value}
use Rattle.c_typing_function_sound.specs.c_typing_height_laws.c_expression_height_laws.Laws.{IsWithin}
use Rattle.c_typing_function_sound.proofs.CTypingHeightLaws.CExpressionHeightLaws.Trees.{roomy, number_within, unary_within, binary_within, assign_within, conditional_within, cast_within, index_within, field_within, arrow_within, postfix_within, convert_within, AreWithin, no_trees, trees_more, comma_within}

-- an expression is within so many levels, with room above it
abbrev pub StandsWithin : (room levels : ℕ) → TypedExpression → Type 0
StandsWithin room levels a = IsWithin room levels a.tree

-- what a rule makes is so
abbrev pub GivesWithin : (room levels : ℕ) → Ruling TypedExpression → Type 0
GivesWithin room levels r = IfOk r (StandsWithin room levels)

abbrev pub TreeWithin : (room levels : ℕ) → Ruling TExpr → Type 0
TreeWithin room levels r = IfOk r (IsWithin room levels)

-- one of two rulings
pub either_made : {A : Type 0} (P : A → Type 0) (b : Bool) (r q : Ruling A) → IfOk r P → IfOk q P → IfOk (if b then r else q) P
either_made P true r q h g = h
either_made P false r q h g = g

-- one that is made under a condition
only : {A : Type 0} (P : A → Type 0) (b : Bool) (r : Ruling A) (f : _) → IfOk r P → IfOk (if b then r else Err f) P
only P true r f h = h
only P false r f h = tt

-- ---- conversions

pub stands_roomy : (r n : ℕ) (a : TypedExpression) → StandsWithin (suc r) n a → StandsWithin r n a
stands_roomy r n a h = roomy r n a.tree h

decayed : (r n : ℕ) (a : TypedExpression) (o : Option CType) → StandsWithin (suc r) n a → StandsWithin r n (decayed_to a o)
decayed r n a None h = roomy r n a.tree h
decayed r n a (Some ty) h = convert_within r n (t.Pointer ty) a.tree h

pub decay_within : (r n : ℕ) (a : TypedExpression) → StandsWithin (suc r) n a → StandsWithin r n (decay a)
decay_within r n a h = decayed r n a (element a.ty) h

pub converted_within : (r n : ℕ) (to : CType) (a : TypedExpression) → StandsWithin (suc r) n a → IsWithin r n (convert_tree to a)
converted_within r n to a h = choose (is_same to a.ty)
  where
    choose : (b : Bool) → IsWithin r n (if b then a.tree else e.Convert to a.tree)
    choose true = roomy r n a.tree h
    choose false = convert_within r n to a.tree h

-- a value where one of a type is wanted
value_within : (r n : ℕ) (to : CType) (v : TypedExpression) (null : Bool) → StandsWithin (suc r) n v → TreeWithin r n (value_for_type to v null)
value_within r n to v null h =
    let own = IsWithin r n in
    let changed = convert_within r n to v.tree h in
    either_made own (is_same to v.ty) (Ok v.tree) _ (roomy r n v.tree h)
    (either_made own (is_integer (type_view to)) (as_integer to v) _ (only own (is_integer (type_view v.ty)) (Ok (e.Convert to v.tree)) _ changed)
    (only own (is_pointer (type_view to)) (as_pointer to v null) _ (only own (is_taken_as_pointer to v null) (Ok (e.Convert to v.tree)) _ changed)))

pub taken_within : (r n : ℕ) (to : CType) (a : TypedExpression) → StandsWithin (suc (suc r)) n a → TreeWithin r n (take_value to a)
taken_within r n to a h = value_within r n to (decay a) (is_null_for to (decay a)) (decay_within (suc r) n a h)

pub condition_within : (r n : ℕ) (a : TypedExpression) → StandsWithin r n a → TreeWithin r n (condition a)
condition_within r n a h = only (IsWithin r n) (is_scalar (type_view a.ty)) (Ok a.tree) _ h

-- ---- operators between values

module _ (n : ℕ) where
  abbrev Gives : Ruling TypedExpression → Type 0
  Gives r = GivesWithin 2 (suc n) r

  abbrev IsOneHigher : TypedExpression → Type 0
  IsOneHigher a = StandsWithin 2 (suc n) a

  -- an operand that is a value, with room for a conversion
  abbrev pub IsOperand : TypedExpression → Type 0
  IsOperand a = StandsWithin 1 n a

  tree_of : (a : TypedExpression) → IsOperand a → IsWithin 0 n a.tree
  tree_of a h = roomy 0 n a.tree h

  both_in : (at : ℕ) (ty : CType) (op : BinaryOp) (to : CType) (x y : TypedExpression) → IsOperand x → IsOperand y → IsOneHigher (binary_in at ty op to x y)
  both_in at ty op to x y h g = binary_within n ty op (convert_tree to x) (convert_tree to y) (converted_within 0 n to x h) (converted_within 0 n to y g)

  as_they_are : (ty : CType) (op : BinaryOp) (x y : TypedExpression) → IsOperand x → IsOperand y → IsWithin 2 (suc n) (e.Binary ty op x.tree y.tree)
  as_they_are ty op x y h g = binary_within n ty op x.tree y.tree (tree_of x h) (tree_of y g)

  unary_made : (at : ℕ) (op : UnaryOp) (x : TypedExpression) (i : Option IntegerType) → IsOperand x → Gives (unary_of at op x i)
  unary_made at op x None h = tt
  unary_made at op x (Some i) h = unary_within n (promoted_type i) op (convert_tree (promoted_type i) x) (converted_within 0 n (promoted_type i) x h)

  arithmetic_made : (at : ℕ) (op : BinaryOp) (x y : TypedExpression) (i j : Option IntegerType) → IsOperand x → IsOperand y → Gives (arithmetic_of at op x y i j)
  arithmetic_made at op x y None j h g = tt
  arithmetic_made at op x y (Some i) None h g = tt
  arithmetic_made at op x y (Some i) (Some j) h g = both_in at (common_type i j) op (common_type i j) x y h g

  shift_made : (at : ℕ) (op : BinaryOp) (x y : TypedExpression) (i j : Option IntegerType) → IsOperand x → IsOperand y → Gives (shift_of at op x y i j)
  shift_made at op x y None j h g = tt
  shift_made at op x y (Some i) None h g = tt
  shift_made at op x y (Some i) (Some j) h g =
      binary_within n (promoted_type i) op (convert_tree (promoted_type i) x) (convert_tree (promoted_type j) y)
      (converted_within 0 n (promoted_type i) x h) (converted_within 0 n (promoted_type j) y g)

  sum_made : (ds : List StructDef) (at : ℕ) (x y : TypedExpression) → IsOperand x → IsOperand y → Gives (addition ds at x y)
  sum_made ds at x y h g =
      either_made IsOneHigher (points_to_object ds (type_view x.ty)) _ _
      (only IsOneHigher (is_integer (type_view y.ty)) _ _ (as_they_are x.ty b.Add x y h g))
      (either_made IsOneHigher (points_to_object ds (type_view y.ty)) _ _
      (only IsOneHigher (is_integer (type_view x.ty)) _ _ (as_they_are y.ty b.Add x y h g))
      (arithmetic_made at b.Add x y (integer x) (integer y) h g))

  difference_made : (ds : List StructDef) (at : ℕ) (x y : TypedExpression) → IsOperand x → IsOperand y → Gives (subtraction ds at x y)
  difference_made ds at x y h g =
      either_made IsOneHigher (points_to_object ds (type_view x.ty)) _ _
      (either_made IsOneHigher (is_integer (type_view y.ty)) _ _ (as_they_are x.ty b.Subtract x y h g)
      (only IsOneHigher (is_same x.ty y.ty) _ _ (as_they_are long b.Subtract x y h g)))
      (arithmetic_made at b.Subtract x y (integer x) (integer y) h g)

  negation_made : (at : ℕ) (x : TypedExpression) → IsOperand x → Gives (not_operation at x)
  negation_made at x h = only IsOneHigher (is_scalar (type_view x.ty)) _ _ (unary_within n int u.Not x.tree (tree_of x h))

  logical_made : (at : ℕ) (op : BinaryOp) (x y : TypedExpression) → IsOperand x → IsOperand y → Gives (logical at op x y)
  logical_made at op x y h g =
      only IsOneHigher (is_scalar (type_view x.ty)) _ _ (only IsOneHigher (is_scalar (type_view y.ty)) _ _ (as_they_are int op x y h g))

  ordered_made : (at : ℕ) (op : BinaryOp) (x y : TypedExpression) → IsOperand x → IsOperand y → Gives (ordered_pointers at op x y)
  ordered_made at op x y h g = only IsOneHigher (are_pointers_of_one_type x y) _ _ (as_they_are int op x y h g)

  comparison_made : (at : ℕ) (op : BinaryOp) (x y : TypedExpression) (i j : Option IntegerType) → IsOperand x → IsOperand y → Gives (comparison_of at op x y i j)
  comparison_made at op x y None j h g = ordered_made at op x y h g
  comparison_made at op x y (Some i) None h g = tt
  comparison_made at op x y (Some i) (Some j) h g = both_in at int op (common_type i j) x y h g

  equal_made : (at : ℕ) (op : BinaryOp) (x y : TypedExpression) (met : Option CType) → IsOperand x → IsOperand y → Gives (equal_pointers at op x y met)
  equal_made at op x y None h g = tt
  equal_made at op x y (Some ty) h g = both_in at int op ty x y h g

  equality_made : (at : ℕ) (op : BinaryOp) (x y : TypedExpression) (p q : Bool) (i j : Option IntegerType) → IsOperand x → IsOperand y → Gives (equality_of at op x y p q i j)
  equality_made at op x y p q None j h g = equal_made at op x y (meet x.ty y.ty p q) h g
  equality_made at op x y p q (Some i) None h g = equal_made at op x y (meet x.ty y.ty p q) h g
  equality_made at op x y p q (Some i) (Some j) h g = both_in at int op (common_type i j) x y h g

  between_made : (ds : List StructDef) (at : ℕ) (op : BinaryOp) (x y : TypedExpression) → IsOperand x → IsOperand y → Gives (binary_operation ds at op x y)
  between_made ds at b.LogicalOr x y h g = logical_made at b.LogicalOr x y h g
  between_made ds at b.LogicalAnd x y h g = logical_made at b.LogicalAnd x y h g
  between_made ds at b.Or x y h g = arithmetic_made at b.Or x y (integer x) (integer y) h g
  between_made ds at b.Xor x y h g = arithmetic_made at b.Xor x y (integer x) (integer y) h g
  between_made ds at b.And x y h g = arithmetic_made at b.And x y (integer x) (integer y) h g
  between_made ds at b.Equal x y h g = equality_made at b.Equal x y (is_null_for y.ty x) (is_null_for x.ty y) (integer x) (integer y) h g
  between_made ds at b.NotEqual x y h g = equality_made at b.NotEqual x y (is_null_for y.ty x) (is_null_for x.ty y) (integer x) (integer y) h g
  between_made ds at b.Less x y h g = comparison_made at b.Less x y (integer x) (integer y) h g
  between_made ds at b.Greater x y h g = comparison_made at b.Greater x y (integer x) (integer y) h g
  between_made ds at b.LessEqual x y h g = comparison_made at b.LessEqual x y (integer x) (integer y) h g
  between_made ds at b.GreaterEqual x y h g = comparison_made at b.GreaterEqual x y (integer x) (integer y) h g
  between_made ds at b.ShiftLeft x y h g = shift_made at b.ShiftLeft x y (integer x) (integer y) h g
  between_made ds at b.ShiftRight x y h g = shift_made at b.ShiftRight x y (integer x) (integer y) h g
  between_made ds at b.Add x y h g = sum_made ds at x y h g
  between_made ds at b.Subtract x y h g = difference_made ds at x y h g
  between_made ds at b.Multiply x y h g = arithmetic_made at b.Multiply x y (integer x) (integer y) h g
  between_made ds at b.Divide x y h g = arithmetic_made at b.Divide x y (integer x) (integer y) h g
  between_made ds at b.Remainder x y h g = arithmetic_made at b.Remainder x y (integer x) (integer y) h g

  -- ---- `?:`, of values

  choice_in_made : (at : ℕ) (c : TExpr) (ty : CType) (x y : TypedExpression) → IsWithin 0 n c → IsOperand x → IsOperand y → IsOneHigher (choice_in at c ty x y)
  choice_in_made at c ty x y k h g = conditional_within n ty c (convert_tree ty x) (convert_tree ty y) k (converted_within 0 n ty x h) (converted_within 0 n ty y g)

  choice_met_made : (at : ℕ) (c : TExpr) (x y : TypedExpression) (met : Option CType) → IsWithin 0 n c → IsOperand x → IsOperand y → Gives (choice_met at c x y met)
  choice_met_made at c x y None k h g = tt
  choice_met_made at c x y (Some ty) k h g = choice_in_made at c ty x y k h g

  choice_apart_made : (at : ℕ) (c : TExpr) (x y : TypedExpression) (p q : Bool) → IsWithin 0 n c → IsOperand x → IsOperand y → Gives (choice_apart at c x y p q)
  choice_apart_made at c x y p q k h g =
      either_made IsOneHigher (is_same x.ty y.ty) _ _ (choice_in_made at c x.ty x y k h g) (choice_met_made at c x y (meet x.ty y.ty p q) k h g)

  choice_made : (at : ℕ) (c : TExpr) (x y : TypedExpression) (p q : Bool) (i j : Option IntegerType) → IsWithin 0 n c → IsOperand x → IsOperand y → Gives (choice_of at c x y p q i j)
  choice_made at c x y p q None j k h g = choice_apart_made at c x y p q k h g
  choice_made at c x y p q (Some i) None k h g = choice_apart_made at c x y p q k h g
  choice_made at c x y p q (Some i) (Some j) k h g = choice_in_made at c (common_type i j) x y k h g

  -- ---- places

  dereferenced : (at : ℕ) (x : TypedExpression) (to : Option CType) → IsOperand x → Gives (dereference_of at x to)
  dereferenced at x None h = tt
  dereferenced at x (Some ty) h = unary_within n ty u.Dereference x.tree (tree_of x h)

  element_made : (at : ℕ) (x y : TypedExpression) (is_index : Bool) (to : Option CType) → IsOperand x → IsOperand y → Gives (element_by_index at x y is_index to)
  element_made at x y is_index None h g = tt
  element_made at x y is_index (Some ty) h g = only IsOneHigher is_index _ _ (index_within n ty x.tree y.tree (tree_of x h) (tree_of y g))

  indexed : (ds : List StructDef) (at : ℕ) (x y : TypedExpression) → IsOperand x → IsOperand y → Gives (index ds at x y)
  indexed ds at x y h g =
      either_made IsOneHigher (points_to_object ds (type_view x.ty)) _ _ (element_made at x y (is_integer (type_view y.ty)) (object_of ds x.ty) h g)
      (element_made at x y (is_integer (type_view x.ty)) (object_of ds y.ty) h g)

  address_made : (at : ℕ) (x : TypedExpression) → IsOperand x → Gives (address at x)
  address_made at x h = only IsOneHigher (is_somewhere x.place) _ _ (unary_within n (t.Pointer x.ty) u.Address x.tree (tree_of x h))

  before_made : (ds : List StructDef) (at : ℕ) (op : UnaryOp) (x : TypedExpression) → IsOperand x → Gives (step_before ds at op x)
  before_made ds at op x h = only IsOneHigher (is_assignable x) _ _ (only IsOneHigher (is_steppable ds x) _ _ (unary_within n x.ty op x.tree (tree_of x h)))

  pub behind_made : (ds : List StructDef) (at : ℕ) (op : StepOp) (x : TypedExpression) → IsOperand x → Gives (step_behind ds at op x)
  behind_made ds at op x h = only IsOneHigher (is_assignable x) _ _ (only IsOneHigher (is_steppable ds x) _ _ (postfix_within n x.ty op x.tree (tree_of x h)))

  field_found_made : (at : ℕ) (x : TypedExpression) (found : Option FoundMember) → IsOperand x → Gives (field_found at x found)
  field_found_made at x None h = tt
  field_found_made at x (Some m) h = field_within n m.ty x.tree m.number (tree_of x h)

  pub field_made : (at : ℕ) (x : TypedExpression) (found : Option FoundMember) → IsOperand x → Gives (field at x found)
  field_made at x found h = only IsOneHigher (is_struct_place x) _ _ (field_found_made at x found h)

  arrow_found_made : (at : ℕ) (x : TypedExpression) (found : Option FoundMember) → IsOperand x → Gives (arrow_found at x found)
  arrow_found_made at x None h = tt
  arrow_found_made at x (Some m) h = arrow_within n m.ty x.tree m.number (tree_of x h)

  pub arrow_made : (ds : List StructDef) (at : ℕ) (x : TypedExpression) (found : Option FoundMember) → IsOperand x → Gives (arrow ds at x found)
  arrow_made ds at x found h = only IsOneHigher (points_to_struct ds (type_view x.ty)) _ _ (arrow_found_made at x found h)

  pub size_made : (ds : List StructDef) (at : ℕ) (ty : CType) → Gives (size ds at ty)
  size_made ds at ty = only IsOneHigher (is_object ds (type_view ty)) _ _ (number_within n _ (size_of ds (type_view ty)))

  -- ---- assignments

  set_to_made : (at : ℕ) (x : TypedExpression) (right : Ruling TExpr) → IsOperand x → TreeWithin 0 n right → Gives (set_to at x right)
  set_to_made at x (Ok y) h g = assign_within n x.ty o.Set x.tree y (tree_of x h) g
  set_to_made at x (Err f) h g = tt

  set_made : (at : ℕ) (x y : TypedExpression) (null : Bool) → IsOperand x → IsOperand y → Gives (set at x y null)
  set_made at x y null h g = only IsOneHigher (is_assignable x) _ _ (set_to_made at x (value_for_type x.ty y null) h (value_within 0 n x.ty y null g))

  moved_made : (ds : List StructDef) (at : ℕ) (op : AssignOp) (x y : TypedExpression) → IsOperand x → IsOperand y → Gives (moved_place ds at op x y)
  moved_made ds at op x y h g =
      only IsOneHigher (moves op) _ _ (only IsOneHigher (points_to_object ds (type_view x.ty)) _ _ (assign_within n x.ty op x.tree y.tree (tree_of x h) (tree_of y g)))

  compound_of_made : (ds : List StructDef) (at : ℕ) (op : AssignOp) (x y : TypedExpression) (i j : Option IntegerType) → IsOperand x → IsOperand y → Gives (compound_of ds at op x y i j)
  compound_of_made ds at op x y i None h g = tt
  compound_of_made ds at op x y None (Some j) h g = moved_made ds at op x y h g
  compound_of_made ds at op x y (Some i) (Some j) h g =
      assign_within n x.ty op x.tree (convert_tree (right_type op i j) y) (tree_of x h) (converted_within 0 n (right_type op i j) y g)

  compound_made : (ds : List StructDef) (at : ℕ) (op : AssignOp) (x y : TypedExpression) → IsOperand x → IsOperand y → Gives (compound ds at op x y)
  compound_made ds at op x y h g = only IsOneHigher (is_assignable x) _ _ (compound_of_made ds at op x y (integer x) (integer y) h g)

  value_made : (ds : List StructDef) (at : ℕ) (op : AssignOp) (x y : TypedExpression) → IsOperand x → IsOperand y → Gives (assigned.assign_rvalue ds at op x y)
  value_made ds at o.Set x y h g = set_made at x y (is_null_for x.ty y) h g
  value_made ds at o.Multiply x y h g = compound_made ds at o.Multiply x y h g
  value_made ds at o.Divide x y h g = compound_made ds at o.Divide x y h g
  value_made ds at o.Remainder x y h g = compound_made ds at o.Remainder x y h g
  value_made ds at o.Add x y h g = compound_made ds at o.Add x y h g
  value_made ds at o.Subtract x y h g = compound_made ds at o.Subtract x y h g
  value_made ds at o.ShiftLeft x y h g = compound_made ds at o.ShiftLeft x y h g
  value_made ds at o.ShiftRight x y h g = compound_made ds at o.ShiftRight x y h g
  value_made ds at o.And x y h g = compound_made ds at o.And x y h g
  value_made ds at o.Xor x y h g = compound_made ds at o.Xor x y h g
  value_made ds at o.Or x y h g = compound_made ds at o.Or x y h g

  -- ---- the operators of expressions, of operands with room for an array that becomes a pointer, and a conversion

  abbrev pub IsPart : TypedExpression → Type 0
  IsPart a = StandsWithin 2 n a

  value_of : (x : TypedExpression) → IsPart x → IsOperand (decay x)
  value_of x h = decay_within 1 n x h

  as_it_is : (x : TypedExpression) → IsPart x → IsOperand x
  as_it_is x h = stands_roomy 1 n x h

  pub unary_gives : (ds : List StructDef) (at : ℕ) (op : UnaryOp) (x : TypedExpression) → IsPart x → Gives (unary_ruling ds at op x)
  unary_gives ds at u.Increment x h = before_made ds at u.Increment x (as_it_is x h)
  unary_gives ds at u.Decrement x h = before_made ds at u.Decrement x (as_it_is x h)
  unary_gives ds at u.Address x h = address_made at x (as_it_is x h)
  unary_gives ds at u.Dereference x h = dereferenced at (decay x) (object_of ds (decay x).ty) (value_of x h)
  unary_gives ds at u.Plus x h = unary_made at u.Plus (decay x) (integer (decay x)) (value_of x h)
  unary_gives ds at u.Minus x h = unary_made at u.Minus (decay x) (integer (decay x)) (value_of x h)
  unary_gives ds at u.Invert x h = unary_made at u.Invert (decay x) (integer (decay x)) (value_of x h)
  unary_gives ds at u.Not x h = negation_made at (decay x) (value_of x h)

  pub binary_gives : (ds : List StructDef) (at : ℕ) (op : BinaryOp) (x y : TypedExpression) → IsPart x → IsPart y → Gives (binary_ruling ds at op x y)
  binary_gives ds at op x y h g = between_made ds at op (decay x) (decay y) (value_of x h) (value_of y g)

  pub assign_gives : (ds : List StructDef) (at : ℕ) (op : AssignOp) (x y : TypedExpression) → IsPart x → IsPart y → Gives (assigned.assign ds at op x y)
  assign_gives ds at op x y h g = value_made ds at op x (decay y) (as_it_is x h) (value_of y g)

  pub subscript_gives : (ds : List StructDef) (at : ℕ) (x y : TypedExpression) → IsPart x → IsPart y → Gives (subscript ds at x y)
  subscript_gives ds at x y h g = indexed ds at (decay x) (decay y) (value_of x h) (value_of y g)

  chosen : (at : ℕ) (c : Ruling TExpr) (x y : TypedExpression) → TreeWithin 0 n c → IsPart x → IsPart y → Gives (conditional_on at c x y)
  chosen at (Err f) x y k h g = tt
  chosen at (Ok c) x y k h g =
      let p = decay x in let q = decay y in
      choice_made at c p q (is_null_for q.ty p) (is_null_for p.ty q) (integer p) (integer q) k (value_of x h) (value_of y g)

  pub conditional_gives : (at : ℕ) (c x y : TypedExpression) → IsPart c → IsPart x → IsPart y → Gives (conditional_ruling at c x y)
  conditional_gives at c x y k h g = chosen at (condition_tree c) x y (condition_within 0 n (decay c) (stands_roomy 0 n (decay c) (value_of c k))) h g

  pub cast_gives : (at : ℕ) (to : DeclaredType) (x : TypedExpression) → IsPart x → Gives (cast_to at to x)
  cast_gives at (d.Value ty) x h =
      only IsOneHigher (is_castable ty (decay x) (is_null_for ty (decay x))) _ _ (cast_within n ty (decay x).tree (tree_of (decay x) (value_of x h)))
  cast_gives at (d.Unsized element) x h = tt
  cast_gives at (d.Function result parameters) x h = tt

  pub type_size_gives : (ds : List StructDef) (at : ℕ) (ty : DeclaredType) → Gives (size_of_type ds at ty)
  type_size_gives ds at (d.Value ty) = size_made ds at ty
  type_size_gives ds at (d.Unsized element) = tt
  type_size_gives ds at (d.Function result parameters) = tt

  pub behind_gives : (ds : List StructDef) (at : ℕ) (op : StepOp) (x : TypedExpression) → IsPart x → Gives (step_behind ds at op x)
  behind_gives ds at op x h = behind_made ds at op x (as_it_is x h)

  pub field_gives : (at : ℕ) (x : TypedExpression) (found : Option FoundMember) → IsPart x → Gives (field at x found)
  field_gives at x found h = field_made at x found (as_it_is x h)

  -- ---- literals

  pub literal_gives : (at : ℕ) (l : Option IntegerLiteral) → Gives (literal_value at l)
  literal_gives at None = tt
  literal_gives at (Some l) = number_within n _ l.word

  pub character_gives : (at : ℕ) (word : Option ℕ) → Gives (character_value at word)
  character_gives at None = tt
  character_gives at (Some word) = number_within n _ word

  -- ---- commas

  abbrev pub ArePart : List TypedExpression → Type 0
  ArePart [] = Unit {0}
  ArePart (x ∷ xs) = IsPart x × ArePart xs

  pub parts_more : (xs : List TypedExpression) (x : TypedExpression) → ArePart xs → IsPart x → ArePart (xs ++ x ∷ [])
  parts_more [] x h g = (g, tt)
  parts_more (y ∷ ys) x h g = (h.0, parts_more ys x h.1 g)

  gathered : (xs : List TypedExpression) (g : CommaOperands) → ArePart xs → AreWithin n g.trees → AreWithin n (comma_operands g xs).trees
  gathered [] g h k = k
  gathered (x ∷ xs) g h k = gathered xs (with_operand (decay x) g) h.1 (trees_more n g.trees (decay x).tree k (tree_of (decay x) (value_of x h.0)))

  pub comma_gives : (at : ℕ) (xs : List TypedExpression) → ArePart xs → IsOneHigher (comma_value at xs)
  comma_gives at xs h = comma_within n (comma_operands no_operands xs).last (comma_operands no_operands xs).trees (gathered xs no_operands h (no_trees n))
