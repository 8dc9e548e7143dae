-- The types that rules give: each integer type in them is one of C's.
use Rattle.std.proofs.Common.{ℕ, Bool, ◌||◌, IsTrue, List, [], ◌∷◌, Option, Some, None, Ok, Err, IfOk, IfSome, refl, sym}
use Rattle.bk_arithmetic.specs.declared.integer_type.IntegerType.{IntegerType}
use Rattle.bk_arithmetic.specs.declared.integer_type.IntegerType.TheVariants as i
use Rattle.bk_arithmetic.specs.IntegerTypes.{promote, common}
use Rattle.c_tree.specs.declared.expressions.UnaryOp.{UnaryOp}
use Rattle.c_tree.specs.declared.expressions.UnaryOp.TheVariants as u
use Rattle.c_tree.specs.declared.expressions.BinaryOp.{BinaryOp}
use Rattle.c_tree.specs.declared.expressions.BinaryOp.TheVariants as b
use Rattle.c_tree.specs.declared.expressions.AssignOp.{AssignOp}
use Rattle.c_tree.specs.declared.expressions.AssignOp.TheVariants as o
use Rattle.c_tree.specs.declared.expressions.StepOp.{StepOp}
use Rattle.c_typed_tree.specs.declared.types.CType as t
use Rattle.c_typed_tree.specs.declared.types.StructDef.{StructDef}
use Rattle.c_typed_tree.specs.declared.expressions.TExpr.{TExpr}
use Rattle.c_typed_tree.specs.View.{type_view}
use Rattle.c_typed_tree.specs.model.View.{opens}
use Rattle.c_typed_tree.specs.Constants.{is_integer}
use Rattle.c_typed_tree.specs.Typing.{is_pointer, is_scalar, is_pointer_to_void, points_to_object}
use Rattle.c_typing_rules.specs.declared.c_typing_declared_types.declared.DeclaredType.{DeclaredType}
use Rattle.c_typing_rules.specs.declared.c_typing_declared_types.declared.DeclaredType.TheVariants as d
use Rattle.c_typing_rules.specs.declared.typed.TypedExpression.{TypedExpression}
use Rattle.c_typing_rules.specs.Rulings.{Ruling}
use Rattle.c_typing_rules.specs.Types.{points_to_struct}
use Rattle.c_typing_rules.specs.Values.{type_of_integer, integer, is_same}
use Rattle.c_typing_rules.specs.Arithmetic as arithmetic
use Rattle.c_typing_rules.specs.Comparisons as comparisons
use Rattle.c_typing_rules.specs.Conversions as conversions
use Rattle.c_typing_rules.specs.Conversions.{element, decayed_to, decay, void_pointer, pointers_meet, meet_of_pointer, meet}
use Rattle.c_typing_place_rules.specs.declared.members.FoundMember.{FoundMember}
use Rattle.c_typing_place_rules.specs.Places as places
use Rattle.c_typing_place_rules.specs.Assignments as assignments
use Rattle.c_typing_place_rules.specs.Members as members
use Rattle.c_typing_primary_rules.specs.declared.commas.CommaOperands.{CommaOperands}
use Rattle.c_typing_primary_rules.specs.Commas as commas
use Rattle.c_typing_judgements.specs.c_typing_operators.Unary as operators
use Rattle.c_typing_judgements.specs.c_typing_operators.Binary as binaries
use Rattle.c_typing_judgements.specs.c_typing_operators.Assigned as assigned
use Rattle.c_typing_judgements.specs.c_typing_operators.Casts as casts
use Rattle.c_typing_judgements.specs.c_typing_operators.Null.{is_null_for}
use Rattle.c_typing_expression_sound.proofs.CTypeLaws.Truth.{given_true, given_some, along}
use Rattle.c_typing_expression_sound.proofs.CTypeLaws.Values.{ElementIs, element_says}
use Rattle.c_typing_expression_sound.proofs.CTypeLaws.Places.{Leads, object_says}
use Rattle.c_typing_expression_sound.specs.c_judgement_laws.Covers.{is_whole}

-- a type that is whole, and a value of one
abbrev pub W : t.CType → Type 0
W ty = IsTrue (is_whole (type_view ty))

abbrev pub V : TypedExpression → Type 0
V a = IsTrue (is_whole (type_view a.ty))

pub integer_whole : (s : IntegerType) → W (type_of_integer s)
unfolding opens
integer_whole i.Char = refl
integer_whole i.UnsignedChar = refl
integer_whole i.Short = refl
integer_whole i.UnsignedShort = refl
integer_whole i.Int = refl
integer_whole i.UnsignedInt = refl
integer_whole i.Long = refl
integer_whole i.UnsignedLong = refl

pointer_whole : (ty : t.CType) → W ty → W (t.Pointer ty)
unfolding opens
pointer_whole ty h = h

void_pointer_whole : W void_pointer
unfolding opens
void_pointer_whole = refl

decayed_whole : (a : TypedExpression) (q : Option t.CType) → ElementIs q (type_view a.ty) → V a → V (decayed_to a q)
decayed_whole a None s h = h
decayed_whole a (Some x) s h = pointer_whole x (along is_whole (sym s.1) h)

pub decay_whole : (a : TypedExpression) → V a → V (decay a)
decay_whole a h = decayed_whole a (element a.ty) (element_says a.ty) h

led_whole : (ds : List StructDef) (ty x : t.CType) → W ty → Leads ds (type_view ty) x → W x
led_whole ds ty x h k = along is_whole (sym k.leads) h

-- ---- in front of an operand

unary_of_whole : (at : ℕ) (op : UnaryOp) (a : TypedExpression) (q : Option IntegerType) → IfOk (arithmetic.unary_of at op a q) V
unary_of_whole at op a None = tt
unary_of_whole at op a (Some s) = integer_whole (promote s)

step_whole : (ds : List StructDef) (at : ℕ) (op : UnaryOp) (a : TypedExpression) → V a → IfOk (places.step_before ds at op a) V
step_whole ds at op a h = given_true V (places.is_assignable a) _ _ (λ s. given_true V (places.is_steppable ds a) _ _ (λ k. h) (λ k. tt)) (λ s. tt)

dereference_whole : (ds : List StructDef) (at : ℕ) (a : TypedExpression) (q : Option t.CType) → V a → IfSome q (Leads ds (type_view a.ty)) → IfOk (places.dereference_of at a q) V
dereference_whole ds at a None h k = tt
dereference_whole ds at a (Some x) h k = led_whole ds a.ty x h k

pub unary_whole : (ds : List StructDef) (at : ℕ) (op : UnaryOp) (a : TypedExpression) → V a → IfOk (operators.unary_ruling ds at op a) V
unary_whole ds at u.Increment a h = step_whole ds at u.Increment a h
unary_whole ds at u.Decrement a h = step_whole ds at u.Decrement a h
unary_whole ds at u.Address a h = given_true V (places.is_somewhere a.place) _ _ (λ s. pointer_whole a.ty h) (λ s. tt)
unary_whole ds at u.Dereference a h = dereference_whole ds at (decay a) (places.object_of ds (decay a).ty) (decay_whole a h) (object_says ds (decay a).ty)
unary_whole ds at u.Plus a h = unary_of_whole at u.Plus (decay a) (integer (decay a))
unary_whole ds at u.Minus a h = unary_of_whole at u.Minus (decay a) (integer (decay a))
unary_whole ds at u.Invert a h = unary_of_whole at u.Invert (decay a) (integer (decay a))
unary_whole ds at u.Not a h = given_true V (is_scalar (type_view (decay a).ty)) _ _ (λ s. integer_whole i.Int) (λ s. tt)

-- ---- between operands

arithmetic_whole : (at : ℕ) (op : BinaryOp) (x y : TypedExpression) (q r : Option IntegerType) → IfOk (arithmetic.arithmetic_of at op x y q r) V
arithmetic_whole at op x y None r = tt
arithmetic_whole at op x y (Some s) None = tt
arithmetic_whole at op x y (Some s) (Some k) = integer_whole (common s k)

shift_whole : (at : ℕ) (op : BinaryOp) (x y : TypedExpression) (q r : Option IntegerType) → IfOk (arithmetic.shift_of at op x y q r) V
shift_whole at op x y None r = tt
shift_whole at op x y (Some s) None = tt
shift_whole at op x y (Some s) (Some k) = integer_whole (promote s)

sum_whole : (ds : List StructDef) (at : ℕ) (x y : TypedExpression) → V x → V y → IfOk (arithmetic.addition ds at x y) V
sum_whole ds at x y h g =
    given_true V (points_to_object ds (type_view x.ty)) _ _
    (λ p. given_true V (is_integer (type_view y.ty)) _ _ (λ n. h) (λ n. tt))
    (λ p. given_true V (points_to_object ds (type_view y.ty)) _ _
    (λ q. given_true V (is_integer (type_view x.ty)) _ _ (λ n. g) (λ n. tt))
    (λ q. arithmetic_whole at b.Add x y (integer x) (integer y)))

difference_whole : (ds : List StructDef) (at : ℕ) (x y : TypedExpression) → V x → V y → IfOk (arithmetic.subtraction ds at x y) V
difference_whole ds at x y h g =
    given_true V (points_to_object ds (type_view x.ty)) _ _
    (λ p. given_true V (is_integer (type_view y.ty)) _ _ (λ n. h)
    (λ n. given_true V (is_same x.ty y.ty) _ _ (λ s. integer_whole i.Long) (λ s. tt)))
    (λ p. arithmetic_whole at b.Subtract x y (integer x) (integer y))

logical_whole : (at : ℕ) (op : BinaryOp) (x y : TypedExpression) → IfOk (comparisons.logical at op x y) V
logical_whole at op x y =
    given_true V (is_scalar (type_view x.ty)) _ _ (λ s. given_true V (is_scalar (type_view y.ty)) _ _ (λ k. integer_whole i.Int) (λ k. tt)) (λ s. tt)

ordered_whole : (at : ℕ) (op : BinaryOp) (x y : TypedExpression) (q r : Option IntegerType) → IfOk (comparisons.comparison_of at op x y q r) V
ordered_whole at op x y (Some s) (Some k) = integer_whole i.Int
ordered_whole at op x y (Some s) None = tt
ordered_whole at op x y None r = given_true V (comparisons.are_pointers_of_one_type x y) _ _ (λ s. integer_whole i.Int) (λ s. tt)

equal_whole : (at : ℕ) (op : BinaryOp) (x y : TypedExpression) (q : Option t.CType) → IfOk (conversions.equal_pointers at op x y q) V
equal_whole at op x y None = tt
equal_whole at op x y (Some ty) = integer_whole i.Int

equality_whole : (at : ℕ) (op : BinaryOp) (x y : TypedExpression) (na nb : Bool) (q r : Option IntegerType) → IfOk (conversions.equality_of at op x y na nb q r) V
equality_whole at op x y na nb (Some s) (Some k) = integer_whole i.Int
equality_whole at op x y na nb (Some s) None = equal_whole at op x y (meet x.ty y.ty na nb)
equality_whole at op x y na nb None r = equal_whole at op x y (meet x.ty y.ty na nb)

between_whole : (ds : List StructDef) (at : ℕ) (op : BinaryOp) (x y : TypedExpression) → V x → V y → IfOk (binaries.binary_operation ds at op x y) V
between_whole ds at b.LogicalOr x y h g = logical_whole at b.LogicalOr x y
between_whole ds at b.LogicalAnd x y h g = logical_whole at b.LogicalAnd x y
between_whole ds at b.Or x y h g = arithmetic_whole at b.Or x y (integer x) (integer y)
between_whole ds at b.Xor x y h g = arithmetic_whole at b.Xor x y (integer x) (integer y)
between_whole ds at b.And x y h g = arithmetic_whole at b.And x y (integer x) (integer y)
between_whole ds at b.Equal x y h g = equality_whole at b.Equal x y (is_null_for y.ty x) (is_null_for x.ty y) (integer x) (integer y)
between_whole ds at b.NotEqual x y h g = equality_whole at b.NotEqual x y (is_null_for y.ty x) (is_null_for x.ty y) (integer x) (integer y)
between_whole ds at b.Less x y h g = ordered_whole at b.Less x y (integer x) (integer y)
between_whole ds at b.Greater x y h g = ordered_whole at b.Greater x y (integer x) (integer y)
between_whole ds at b.LessEqual x y h g = ordered_whole at b.LessEqual x y (integer x) (integer y)
between_whole ds at b.GreaterEqual x y h g = ordered_whole at b.GreaterEqual x y (integer x) (integer y)
between_whole ds at b.ShiftLeft x y h g = shift_whole at b.ShiftLeft x y (integer x) (integer y)
between_whole ds at b.ShiftRight x y h g = shift_whole at b.ShiftRight x y (integer x) (integer y)
between_whole ds at b.Add x y h g = sum_whole ds at x y h g
between_whole ds at b.Subtract x y h g = difference_whole ds at x y h g
between_whole ds at b.Multiply x y h g = arithmetic_whole at b.Multiply x y (integer x) (integer y)
between_whole ds at b.Divide x y h g = arithmetic_whole at b.Divide x y (integer x) (integer y)
between_whole ds at b.Remainder x y h g = arithmetic_whole at b.Remainder x y (integer x) (integer y)

pub binary_whole : (ds : List StructDef) (at : ℕ) (op : BinaryOp) (x y : TypedExpression) → V x → V y → IfOk (binaries.binary_ruling ds at op x y) V
binary_whole ds at op x y h g = between_whole ds at op (decay x) (decay y) (decay_whole x h) (decay_whole y g)

element_whole : (ds : List StructDef) (at : ℕ) (x y : TypedExpression) (ty : t.CType) (is_index : Bool) (q : Option t.CType) → W ty → IfSome q (Leads ds (type_view ty)) → IfOk (places.element_by_index at x y is_index q) V
element_whole ds at x y ty is_index None h k = tt
element_whole ds at x y ty is_index (Some z) h k = given_true V is_index _ _ (λ s. led_whole ds ty z h k) (λ s. tt)

pub subscript_whole : (ds : List StructDef) (at : ℕ) (x y : TypedExpression) → V x → V y → IfOk (binaries.subscript ds at x y) V
subscript_whole ds at x y h g =
    given_true V (points_to_object ds (type_view (decay x).ty)) _ _
    (λ p. element_whole ds at (decay x) (decay y) (decay x).ty _ (places.object_of ds (decay x).ty) (decay_whole x h) (object_says ds (decay x).ty))
    (λ p. element_whole ds at (decay x) (decay y) (decay y).ty _ (places.object_of ds (decay y).ty) (decay_whole y g) (object_says ds (decay y).ty))

-- ---- `?:`

meet_whole : (x y : t.CType) (na nb : Bool) → W x → W y → IfSome (meet x y na nb) W
meet_whole x y na nb h g =
    given_some W (is_pointer (type_view x)) _ _
    (λ p. given_some W (is_same x y) _ _ (λ s. h)
    (λ s. given_some W nb _ _ (λ z. h)
    (λ z. given_some W (is_pointer (type_view y)) _ _
    (λ q. given_some W na _ _ (λ w. g) (λ w. given_some W (is_pointer_to_void (type_view x) || is_pointer_to_void (type_view y)) _ _ (λ v. void_pointer_whole) (λ v. tt)))
    (λ q. tt))))
    (λ p. given_some W (is_pointer (type_view y)) _ _ (λ q. given_some W na _ _ (λ w. g) (λ w. tt)) (λ q. tt))

met_whole : (at : ℕ) (c : TExpr) (x y : TypedExpression) (q : Option t.CType) → IfSome q W → IfOk (conversions.choice_met at c x y q) V
met_whole at c x y None h = tt
met_whole at c x y (Some ty) h = h

apart_whole : (at : ℕ) (c : TExpr) (x y : TypedExpression) (na nb : Bool) → V x → V y → IfOk (conversions.choice_apart at c x y na nb) V
apart_whole at c x y na nb h g = given_true V (is_same x.ty y.ty) _ _ (λ s. h) (λ s. met_whole at c x y (meet x.ty y.ty na nb) (meet_whole x.ty y.ty na nb h g))

choice_whole : (at : ℕ) (c : TExpr) (x y : TypedExpression) (na nb : Bool) (q r : Option IntegerType) → V x → V y → IfOk (conversions.choice_of at c x y na nb q r) V
choice_whole at c x y na nb (Some s) (Some k) h g = integer_whole (common s k)
choice_whole at c x y na nb (Some s) None h g = apart_whole at c x y na nb h g
choice_whole at c x y na nb None r h g = apart_whole at c x y na nb h g

on_whole : (at : ℕ) (q : Ruling TExpr) (x y : TypedExpression) → V x → V y → IfOk (binaries.conditional_on at q x y) V
on_whole at (Err f) x y h g = tt
on_whole at (Ok c) x y h g =
    choice_whole at c (decay x) (decay y) (is_null_for (decay y).ty (decay x)) (is_null_for (decay x).ty (decay y)) (integer (decay x)) (integer (decay y)) (decay_whole x h) (decay_whole y g)

pub conditional_whole : (at : ℕ) (c x y : TypedExpression) → V x → V y → IfOk (binaries.conditional_ruling at c x y) V
conditional_whole at c x y h g = on_whole at (binaries.condition_tree c) x y h g

-- ---- assignments

set_whole : (at : ℕ) (a : TypedExpression) (r : Ruling TExpr) → V a → IfOk (assignments.set_to at a r) V
set_whole at a (Err f) h = tt
set_whole at a (Ok x) h = h

moved_whole : (ds : List StructDef) (at : ℕ) (op : AssignOp) (x y : TypedExpression) (q r : Option IntegerType) → V x → IfOk (assignments.compound_of ds at op x y q r) V
moved_whole ds at op x y None None h = tt
moved_whole ds at op x y (Some s) None h = tt
moved_whole ds at op x y None (Some k) h =
    given_true V (assignments.moves op) _ _ (λ m. given_true V (points_to_object ds (type_view x.ty)) _ _ (λ p. h) (λ p. tt)) (λ m. tt)
moved_whole ds at op x y (Some s) (Some k) h = h

compound_whole : (ds : List StructDef) (at : ℕ) (op : AssignOp) (x y : TypedExpression) → V x → IfOk (assignments.compound ds at op x y) V
compound_whole ds at op x y h = given_true V (places.is_assignable x) _ _ (λ s. moved_whole ds at op x y (integer x) (integer y) h) (λ s. tt)

value_whole : (ds : List StructDef) (at : ℕ) (op : AssignOp) (x y : TypedExpression) → V x → IfOk (assigned.assign_rvalue ds at op x y) V
value_whole ds at o.Set x y h = given_true V (places.is_assignable x) _ _ (λ s. set_whole at x (conversions.value_for_type x.ty y (is_null_for x.ty y)) h) (λ s. tt)
value_whole ds at o.Multiply x y h = compound_whole ds at o.Multiply x y h
value_whole ds at o.Divide x y h = compound_whole ds at o.Divide x y h
value_whole ds at o.Remainder x y h = compound_whole ds at o.Remainder x y h
value_whole ds at o.Add x y h = compound_whole ds at o.Add x y h
value_whole ds at o.Subtract x y h = compound_whole ds at o.Subtract x y h
value_whole ds at o.ShiftLeft x y h = compound_whole ds at o.ShiftLeft x y h
value_whole ds at o.ShiftRight x y h = compound_whole ds at o.ShiftRight x y h
value_whole ds at o.And x y h = compound_whole ds at o.And x y h
value_whole ds at o.Xor x y h = compound_whole ds at o.Xor x y h
value_whole ds at o.Or x y h = compound_whole ds at o.Or x y h

pub assign_whole : (ds : List StructDef) (at : ℕ) (op : AssignOp) (x y : TypedExpression) → V x → IfOk (assigned.assign ds at op x y) V
assign_whole ds at op x y h = value_whole ds at op x (decay y) h

-- ---- steps, members, casts and commas

pub behind_whole : (ds : List StructDef) (at : ℕ) (op : StepOp) (a : TypedExpression) → V a → IfOk (places.step_behind ds at op a) V
behind_whole ds at op a h = given_true V (places.is_assignable a) _ _ (λ s. given_true V (places.is_steppable ds a) _ _ (λ k. h) (λ k. tt)) (λ s. tt)

abbrev pub IsWholeMember : Option FoundMember → Type 0
IsWholeMember None = Unit {0}
IsWholeMember (Some m) = W m.ty

pub field_whole : (at : ℕ) (a : TypedExpression) (q : Option FoundMember) → IsWholeMember q → IfOk (members.field at a q) V
field_whole at a None h = given_true V (members.is_struct_place a) _ _ (λ s. tt) (λ s. tt)
field_whole at a (Some m) h = given_true V (members.is_struct_place a) _ _ (λ s. h) (λ s. tt)

pub arrow_whole : (ds : List StructDef) (at : ℕ) (a : TypedExpression) (q : Option FoundMember) → IsWholeMember q → IfOk (members.arrow ds at a q) V
arrow_whole ds at a None h = given_true V (points_to_struct ds (type_view a.ty)) _ _ (λ s. tt) (λ s. tt)
arrow_whole ds at a (Some m) h = given_true V (points_to_struct ds (type_view a.ty)) _ _ (λ s. h) (λ s. tt)

abbrev pub IsWholeType : DeclaredType → Type 0
IsWholeType (d.Value ty) = W ty
IsWholeType (d.Unsized element) = Unit {0}
IsWholeType (d.Function result parameters) = Unit {0}

pub cast_whole : (at : ℕ) (to : DeclaredType) (a : TypedExpression) → IsWholeType to → IfOk (casts.cast_to at to a) V
cast_whole at (d.Value ty) a h = given_true V (conversions.is_castable ty (decay a) (is_null_for ty (decay a))) _ _ (λ s. h) (λ s. tt)
cast_whole at (d.Unsized x) a h = tt
cast_whole at (d.Function x xs) a h = tt

abbrev pub AreWhole : List TypedExpression → Type 0
AreWhole [] = Unit {0}
AreWhole (a ∷ rest) = V a × AreWhole rest

gathered_whole : (xs : List TypedExpression) (g : CommaOperands) → W g.last → AreWhole xs → W (commas.comma_operands g xs).last
gathered_whole [] g h k = h
gathered_whole (a ∷ rest) g h k = gathered_whole rest (commas.with_operand (decay a) g) (decay_whole a k.0) k.1

void_whole : W t.Void
unfolding opens
void_whole = refl

pub comma_whole : (at : ℕ) (xs : List TypedExpression) → AreWhole xs → V (commas.comma_value at xs)
comma_whole at xs h = gathered_whole xs commas.no_operands void_whole h
