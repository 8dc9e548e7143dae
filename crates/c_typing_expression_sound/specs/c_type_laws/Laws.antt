-- What the rules give is well typed (C99 6.5): of operands that are well typed in a context, where the structs that
-- a rule
-- sees are known there, the value or tree that it gives is well typed there too.
use Rattle.std.specs.Prelude.{ℕ, nat_le, IsTrue, List, ◌∷◌, slice_get, Option, IfOk, IfSome}
use Rattle.bk_arithmetic.specs.declared.integer_type.IntegerType.{IntegerType}
use Rattle.bk_arithmetic.specs.declared.integer_type.IntegerType.TheVariants as i
use Rattle.bk_arithmetic.specs.Words.{is_word}
use Rattle.c_tree.specs.declared.expressions.UnaryOp.{UnaryOp}
use Rattle.c_tree.specs.declared.expressions.BinaryOp.{BinaryOp}
use Rattle.c_tree.specs.declared.expressions.AssignOp.{AssignOp}
use Rattle.c_tree.specs.declared.expressions.StepOp.{StepOp}
use Rattle.c_typed_tree.specs.declared.types.CType.{CType}
use Rattle.c_typed_tree.specs.declared.types.StructDef.{StructDef}
use Rattle.c_typed_tree.specs.declared.expressions.Callee.{Callee}
use Rattle.c_typed_tree.specs.declared.expressions.TExpr.{TExpr}
use Rattle.c_typed_tree.specs.View.{type_view}
use Rattle.c_typed_tree.specs.Typing.{Context, is_fit, has_local_type, has_global_type, target_of, depth_behind, most_depth}
use Rattle.c_typing_rules.specs.declared.c_typing_declared_types.declared.DeclaredType.{DeclaredType}
use Rattle.c_typing_rules.specs.declared.typed.TypedExpression.{TypedExpression}
use Rattle.c_typing_rules.specs.Conversions.{decay}
use Rattle.c_typing_place_rules.specs.declared.members.FoundMember.{FoundMember}
use Rattle.c_typing_place_rules.specs.Places.{step_behind}
use Rattle.c_typing_place_rules.specs.Members.{field, arrow, size}
use Rattle.c_typing_constants.specs.c_constant_rules.Values as constants
use Rattle.c_typing_primary_rules.specs.Primary.{integer_constant, character_constant, enumeration_constant, local, static_object}
use Rattle.c_typing_primary_rules.specs.Calls.{call_rvalue}
use Rattle.c_typing_primary_rules.specs.Commas.{comma_value}
use Rattle.c_typing_primary_rules.specs.Switches.{switch_operand}
use Rattle.c_typing_judgements.specs.c_typing_operators.Null.{take_value}
use Rattle.c_typing_judgements.specs.c_typing_operators.Unary.{unary_ruling}
use Rattle.c_typing_judgements.specs.c_typing_operators.Binary.{binary_ruling, subscript, conditional_ruling, condition_tree}
use Rattle.c_typing_judgements.specs.c_typing_operators.Assigned.{assign}
use Rattle.c_typing_judgements.specs.c_typing_operators.Casts.{cast_to, size_of_type}
use Rattle.c_typing_expression_sound.specs.c_type_laws.Typed.{IsTypedIn, AreTypedIn, IsOfType, AreOfTypes, AreKnown, IsMemberOf, IsFunctionOf, IsSwitched, TakesMemory, IsFitType, IsSmall, IsSmallType, IsTested}

-- ---- operators

abbrev pub UnaryIsTyped : Type 0
UnaryIsTyped =
    (c : Context) (structs : List StructDef) (at : ℕ) (op : UnaryOp) (a : TypedExpression) →
    AreKnown structs c.structs → TakesMemory c op a.place →
    IsTypedIn c a → IfOk (unary_ruling structs at op a) (IsTypedIn c)

abbrev pub BinaryIsTyped : Type 0
BinaryIsTyped =
    (c : Context) (structs : List StructDef) (at : ℕ) (op : BinaryOp) (x y : TypedExpression) →
    AreKnown structs c.structs →
    IsTypedIn c x → IsTypedIn c y → IfOk (binary_ruling structs at op x y) (IsTypedIn c)

abbrev pub AssignmentIsTyped : Type 0
AssignmentIsTyped =
    (c : Context) (structs : List StructDef) (at : ℕ) (op : AssignOp) (x y : TypedExpression) →
    AreKnown structs c.structs →
    IsTypedIn c x → IsTypedIn c y → IfOk (assign structs at op x y) (IsTypedIn c)

abbrev pub ChoiceIsTyped : Type 0
ChoiceIsTyped =
    (c : Context) (at : ℕ) (q x y : TypedExpression) → IsTypedIn c q → IsTypedIn c x → IsTypedIn c y →
    IfOk (conditional_ruling at q x y) (IsTypedIn c)

abbrev pub StepIsTyped : Type 0
StepIsTyped =
    (c : Context) (structs : List StructDef) (at : ℕ) (op : StepOp) (a : TypedExpression) →
    AreKnown structs c.structs →
    IsTypedIn c a → IfOk (step_behind structs at op a) (IsTypedIn c)

abbrev pub CommaIsTyped : Type 0
CommaIsTyped =
    (c : Context) (at : ℕ) (a b : TypedExpression) (rest : List TypedExpression) → IsTypedIn c a → IsTypedIn c b →
    AreTypedIn c rest → IsTypedIn c (comma_value at (a ∷ b ∷ rest))

-- ---- elements and members

abbrev pub ElementIsTyped : Type 0
ElementIsTyped =
    (c : Context) (structs : List StructDef) (at : ℕ) (x y : TypedExpression) → AreKnown structs c.structs →
    IsTypedIn c x → IsTypedIn c y → IfOk (subscript structs at x y) (IsTypedIn c)

abbrev pub FieldIsTyped : Type 0
FieldIsTyped =
    (c : Context) (at : ℕ) (a : TypedExpression) (found : Option FoundMember) → IsTypedIn c a →
    IfSome found (IsMemberOf c (type_view a.ty)) → IfOk (field at a found) (IsTypedIn c)

abbrev pub ArrowIsTyped : Type 0
ArrowIsTyped =
    (c : Context) (structs : List StructDef) (at : ℕ) (a : TypedExpression) (found : Option FoundMember) →
    IsTypedIn c a →
    IfSome found (IsMemberOf c (target_of (type_view a.ty))) → IfOk (arrow structs at a found) (IsTypedIn c)

-- ---- casts, sizes, and values of a type that is wanted

abbrev pub CastIsTyped : Type 0
CastIsTyped = (c : Context) (at : ℕ) (to : DeclaredType) (a : TypedExpression) → IsFitType c to → IsTypedIn c a →
    IfOk (cast_to at to a) (IsTypedIn c)

abbrev pub SizeIsTyped : Type 0
SizeIsTyped = (c : Context) (structs : List StructDef) (at : ℕ) (ty : CType) → IsSmall structs ty →
    IfOk (size structs at ty) (IsTypedIn c)

abbrev pub SizeOfNameIsTyped : Type 0
SizeOfNameIsTyped = (c : Context) (structs : List StructDef) (at : ℕ) (ty : DeclaredType) →
    IsSmallType structs ty → IfOk (size_of_type structs at ty) (IsTypedIn c)

abbrev pub TakenIsTyped : Type 0
TakenIsTyped = (c : Context) (to : CType) (a : TypedExpression) → IsTrue (is_fit c.structs (type_view to)) →
    IsTypedIn c a → IfOk (take_value to a) (IsOfType c (type_view to))

abbrev pub ConditionTreeIsTyped : Type 0
ConditionTreeIsTyped = (c : Context) (a : TypedExpression) → IsTypedIn c a → IfOk (condition_tree a) (IsTested c)

abbrev pub SwitchedIsTyped : Type 0
SwitchedIsTyped = (c : Context) (a : TypedExpression) → IsTypedIn c a → IfOk (switch_operand a) (IsSwitched c)

abbrev pub DecayedIsTyped : Type 0
DecayedIsTyped = (c : Context) (a : TypedExpression) → IsTypedIn c a → IsTypedIn c (decay a)

-- ---- constants, names and calls

abbrev pub IntegerIsTyped : Type 0
IntegerIsTyped = (c : Context) (at : ℕ) (spelling : List ℕ) → IfOk (integer_constant at spelling) (IsTypedIn c)

abbrev pub CharacterIsTyped : Type 0
CharacterIsTyped = (c : Context) (at : ℕ) (spelling : List ℕ) → IfOk (character_constant at spelling) (IsTypedIn c)

abbrev pub EnumeratorIsTyped : Type 0
EnumeratorIsTyped = (c : Context) (at word : ℕ) → IsTrue (is_word i.Int word) →
    IsTypedIn c (enumeration_constant at word)

abbrev pub LocalIsTyped : Type 0
LocalIsTyped =
    (c : Context) (at number : ℕ) (ty : CType) →
    IsTrue (has_local_type (slice_get c.locals number) (type_view ty)) → IsTrue (is_fit c.structs (type_view ty)) →
    IsTrue (nat_le (depth_behind (type_view ty)) most_depth) → IsTypedIn c (local at number ty)

abbrev pub ObjectIsTyped : Type 0
ObjectIsTyped =
    (c : Context) (at number : ℕ) (ty : CType) →
    IsTrue (has_global_type c.structs (slice_get c.globals number) (type_view ty)) →
    IsTrue (is_fit c.structs (type_view ty)) →
    IsTrue (nat_le (depth_behind (type_view ty)) most_depth) → IsTypedIn c (static_object at number ty)

abbrev pub CallIsTyped : Type 0
CallIsTyped =
    (c : Context) (at : ℕ) (callee : Callee) (result : CType) (parameters : List CType) (arguments : List TExpr) →
    IsFunctionOf c callee result parameters →
    AreOfTypes c parameters arguments → IsTypedIn c (call_rvalue at callee result arguments)

-- ---- values of constants are words of their types

abbrev pub LabelIsWord : Type 0
LabelIsWord = (t : IntegerType) (a : TypedExpression) → IfOk (constants.label_value t a)
    (λ word. IsTrue (is_word t word))

abbrev pub GivenIsWord : Type 0
GivenIsWord = (a : TypedExpression) → IfOk (constants.given_value a) (λ word. IsTrue (is_word i.Int word))

abbrev pub NextIsWord : Type 0
NextIsWord = (at before : ℕ) → IfOk (constants.next_value at before) (λ word. IsTrue (is_word i.Int word))
