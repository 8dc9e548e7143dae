-- Assignments.
use Rattle.std.proofs.Common.{◌≡◌, ℕ, Bool, ◌&&◌, ◌||◌, IsTrue, List, Option, Some, None, Ok, Err, IfOk, refl}
use Rattle.bk_arithmetic.specs.declared.integer_type.IntegerType.{IntegerType}
use Rattle.bk_arithmetic.specs.IntegerTypes.{promote, common}
use Rattle.c_tree.specs.declared.expressions.AssignOp.{AssignOp}
use Rattle.c_tree.specs.declared.expressions.AssignOp.TheVariants as o
use Rattle.c_typed_tree.specs.declared.types.StructDef.{StructDef}
use Rattle.c_typed_tree.specs.declared.expressions.TExpr as e
use Rattle.c_typed_tree.specs.Types.{PlainType}
use Rattle.c_typed_tree.specs.Expressions.{Assign, type_of}
use Rattle.c_typed_tree.specs.View.{type_view, expr_view}
use Rattle.c_typed_tree.specs.model.View.{opens}
use Rattle.c_typed_tree.specs.Layout.{integer_of}
use Rattle.c_typed_tree.specs.Constants.{is_integer}
use Rattle.c_typed_tree.specs.Typing.{Context, is_same_type, is_struct, is_scalar, is_promoted, is_common, points_to_object, is_compound, is_compound_sum, is_compound_shift, has_assigned_type, is_place, has_rule, is_fit, is_typed}
use Rattle.c_typing_rules.specs.declared.typed.TypedExpression.{TypedExpression}
use Rattle.c_typing_rules.specs.Rulings.{Ruling}
use Rattle.c_typing_rules.specs.Values.{integer, convert_tree}
use Rattle.c_typing_rules.specs.Arithmetic.{promoted_type, common_type}
use Rattle.c_typing_rules.specs.Conversions.{value_for_type}
use Rattle.c_typing_place_rules.specs.Places.{is_assignable}
use Rattle.c_typing_place_rules.specs.Assignments.{assign_place, set_to, set, shifts, moves, right_type, moved_place, compound_of, compound}
use Rattle.c_typing_expression_sound.specs.c_type_laws.Typed.{IsTypedIn, IsOfType, AreKnown}
use Rattle.c_typing_expression_sound.proofs.CTypeLaws.Truth.{no_true, also, three, four, along, either_left, either_right, given_true, one_of}
use Rattle.c_typing_expression_sound.proofs.CTypeLaws.Types.{alike, equal, integer_from, promote_promoted, promoted_holds, common_with, known_pointer}
use Rattle.c_typing_expression_sound.proofs.CTypeLaws.Values.{fit_in, tree_in, value_typed, integer_operand}
use Rattle.c_typing_expression_sound.proofs.CTypeLaws.Conversions.{IsNull, value_for_type_typed}
use Rattle.c_typing_expression_sound.proofs.CTypeLaws.Places.{assignable_place, assignable_kind, assignable_plain}

-- ---- which rules a compound operator has

-- between integers, the right one of the type in which the operator is done
abbrev pub Combines : AssignOp → Type 0
Combines op = (ds : List StructDef) (left right : PlainType) (s u : IntegerType) → integer_of left ≡ Some s → right ≡ type_view (right_type op s u) → IsTrue (has_assigned_type ds op left right)

-- of a pointer and an integer
abbrev pub Moves : AssignOp → Type 0
Moves op = (ds : List StructDef) (left right : PlainType) → IsTrue (moves op) → IsTrue (points_to_object ds left) → IsTrue (is_integer right) → IsTrue (has_assigned_type ds op left right)

compound_rule : (left right : PlainType) (s u : IntegerType) → integer_of left ≡ Some s → right ≡ type_view (common_type s u) → IsTrue (is_compound left right)
compound_rule left right s u h g = also (is_integer left) (is_common left right) (integer_from left s h) (common_with left right s u h g)

shift_rule : (left right : PlainType) (s u : IntegerType) → integer_of left ≡ Some s → right ≡ type_view (promoted_type u) → IsTrue (is_compound_shift left right)
shift_rule left right s u h g = also (is_integer left) (is_promoted right) (integer_from left s h) (along is_promoted g (promoted_holds (promote u) (promote_promoted u)))

pub record Compound (op : AssignOp) : Type 0 where
  pub combines : Combines op
  pub moves : Moves op

pub multiply_compound : Compound o.Multiply
multiply_compound = record { combines = λ ds x y s u h g. compound_rule x y s u h g; moves = λ ds x y m h g. no_true m }

pub divide_compound : Compound o.Divide
divide_compound = record { combines = λ ds x y s u h g. compound_rule x y s u h g; moves = λ ds x y m h g. no_true m }

pub remainder_compound : Compound o.Remainder
remainder_compound = record { combines = λ ds x y s u h g. compound_rule x y s u h g; moves = λ ds x y m h g. no_true m }

pub and_compound : Compound o.And
and_compound = record { combines = λ ds x y s u h g. compound_rule x y s u h g; moves = λ ds x y m h g. no_true m }

pub xor_compound : Compound o.Xor
xor_compound = record { combines = λ ds x y s u h g. compound_rule x y s u h g; moves = λ ds x y m h g. no_true m }

pub or_compound : Compound o.Or
or_compound = record { combines = λ ds x y s u h g. compound_rule x y s u h g; moves = λ ds x y m h g. no_true m }

pub shift_left_compound : Compound o.ShiftLeft
shift_left_compound = record { combines = λ ds x y s u h g. shift_rule x y s u h g; moves = λ ds x y m h g. no_true m }

pub shift_right_compound : Compound o.ShiftRight
shift_right_compound = record { combines = λ ds x y s u h g. shift_rule x y s u h g; moves = λ ds x y m h g. no_true m }

sum_combined : (ds : List StructDef) (left right : PlainType) → IsTrue (is_compound left right) → IsTrue (is_compound_sum ds left right)
sum_combined ds left right h = either_left (is_compound left right) (points_to_object ds left && is_integer right) h

sum_moved : (ds : List StructDef) (left right : PlainType) → IsTrue (points_to_object ds left) → IsTrue (is_integer right) → IsTrue (is_compound_sum ds left right)
sum_moved ds left right h g = either_right (is_compound left right) (points_to_object ds left && is_integer right) (also (points_to_object ds left) (is_integer right) h g)

pub add_compound : Compound o.Add
add_compound = record { combines = λ ds x y s u h g. sum_combined ds x y (compound_rule x y s u h g); moves = λ ds x y m h g. sum_moved ds x y h g }

pub subtract_compound : Compound o.Subtract
subtract_compound = record { combines = λ ds x y s u h g. sum_combined ds x y (compound_rule x y s u h g); moves = λ ds x y m h g. sum_moved ds x y h g }

module _ (c : Context) where
  assign_made : (at : ℕ) (op : AssignOp) (a : TypedExpression) (ty : PlainType) (right : e.TExpr) → IsTypedIn c a → IsTrue (is_assignable a) → IsOfType c ty right
      → IsTrue (has_assigned_type c.structs op (type_view a.ty) ty) → IsTypedIn c (assign_place at op a right)
  unfolding opens
  assign_made at op a ty right h s g rule =
      let own = type_view a.ty in
      let x = expr_view a.tree in
      let y = expr_view right in
      value_typed c at a.ty (e.Assign a.ty op a.tree right)
      (four (is_fit c.structs own) (has_rule c (Assign own op x y)) (is_typed c x) (is_typed c y) (fit_in c a h)
      (three (is_place x) (is_same_type (type_of x) own) (has_assigned_type c.structs op (type_of x) (type_of y)) (h.place (assignable_place a s)).place (equal (type_of x) own h.type)
      (along (λ z. has_assigned_type c.structs op z (type_of y)) h.type (along (has_assigned_type c.structs op own) g.type rule)))
      h.tree g.typed) refl (assignable_plain a s)

  -- ---- `=`

  set_to_typed : (at : ℕ) (a : TypedExpression) (r : Ruling e.TExpr) → IsTypedIn c a → IsTrue (is_assignable a) → IfOk r (IsOfType c (type_view a.ty)) → IfOk (set_to at a r) (IsTypedIn c)
  set_to_typed at a (Err f) h s g = tt
  set_to_typed at a (Ok right) h s g =
      let own = type_view a.ty in
      assign_made at o.Set a own right h s g (also (is_same_type own own) (is_scalar own || is_struct own) (alike own) (assignable_kind a s))

  pub set_typed : (at : ℕ) (a b : TypedExpression) (null : Bool) → IsTypedIn c a → IsTypedIn c b → (IsTrue null → IsNull b) → IfOk (set at a b null) (IsTypedIn c)
  set_typed at a b null h g n =
      given_true (IsTypedIn c) (is_assignable a) _ _
      (λ s. set_to_typed at a (value_for_type a.ty b null) h s (value_for_type_typed c a.ty b null g (fit_in c a h) n)) (λ s. tt)

  -- ---- the compound ones

  right_typed : (op : AssignOp) (b : TypedExpression) (s u : IntegerType) → IsTypedIn c b → integer b ≡ Some u → IsOfType c (type_view (right_type op s u)) (convert_tree (right_type op s u) b)
  right_typed op b s u h k =
      one_of (λ ty. IsOfType c (type_view ty) (convert_tree ty b)) (shifts op) (promoted_type u) (common_type s u)
      (integer_operand c (promote u) b u h k) (integer_operand c (common s u) b u h k)

  moved_typed : (ds : List StructDef) (at : ℕ) (op : AssignOp) (a b : TypedExpression) → Compound op → AreKnown ds c.structs → IsTypedIn c a → IsTypedIn c b → IsTrue (is_assignable a)
      → IsTrue (is_integer (type_view b.ty)) → IfOk (moved_place ds at op a b) (IsTypedIn c)
  moved_typed ds at op a b p known h g s i =
      given_true (IsTypedIn c) (moves op) _ _
      (λ m. given_true (IsTypedIn c) (points_to_object ds (type_view a.ty)) _ _
      (λ q. assign_made at op a (type_view b.ty) b.tree h s (tree_in c b g)
      (p.moves c.structs (type_view a.ty) (type_view b.ty) m (known_pointer ds c.structs known (type_view a.ty) q) i))
      (λ q. tt))
      (λ m. tt)

  compound_of_typed : (ds : List StructDef) (at : ℕ) (op : AssignOp) (a b : TypedExpression) (q r : Option IntegerType) → Compound op → AreKnown ds c.structs → IsTypedIn c a → IsTypedIn c b
      → IsTrue (is_assignable a) → integer a ≡ q → integer b ≡ r → IfOk (compound_of ds at op a b q r) (IsTypedIn c)
  compound_of_typed ds at op a b None None p known h g s k l = tt
  compound_of_typed ds at op a b (Some x) None p known h g s k l = tt
  compound_of_typed ds at op a b None (Some u) p known h g s k l = moved_typed ds at op a b p known h g s (integer_from (type_view b.ty) u l)
  compound_of_typed ds at op a b (Some x) (Some u) p known h g s k l =
      assign_made at op a (type_view (right_type op x u)) (convert_tree (right_type op x u) b) h s (right_typed op b x u g l)
      (p.combines c.structs (type_view a.ty) (type_view (right_type op x u)) x u k refl)

  pub compound_typed : (ds : List StructDef) (at : ℕ) (op : AssignOp) (a b : TypedExpression) → Compound op → AreKnown ds c.structs → IsTypedIn c a → IsTypedIn c b → IfOk (compound ds at op a b) (IsTypedIn c)
  compound_typed ds at op a b p known h g =
      given_true (IsTypedIn c) (is_assignable a) _ _ (λ s. compound_of_typed ds at op a b (integer a) (integer b) p known h g s refl refl) (λ s. tt)
