-- The parts of statements are well typed (C99 6.8), of operands that are well typed in a context.
use Rattle.std.specs.Prelude.{ℕ, IsTrue, slice_get, IfSome}
use Rattle.c_typed_tree.specs.declared.types.CType.{CType}
use Rattle.c_typed_tree.specs.View.{type_view, expr_view, stmt_view, local_view}
use Rattle.c_typed_tree.specs.Layout.{is_object}
use Rattle.c_typed_tree.specs.Typing.{Context, is_fit, has_local_type}
use Rattle.c_typed_tree.specs.TypingStatements.{Jumps, is_condition, is_value, is_declared, is_typed_stmt}
use Rattle.c_typing_rules.specs.declared.typed.TypedExpression.{TypedExpression}
use Rattle.c_typing_state.specs.declared.notes.Notes.{Notes}
use Rattle.c_typing_statement_parts.specs.declared.c_typing_local_rules.locals.NewLocal.{NewLocal}
use Rattle.c_typing_statement_rules.specs.Values.{condition_check, switch_check, full_expression, return_value, return_nothing}
use Rattle.c_typing_statement_parts.specs.c_typing_local_rules.Locals.{local_with_value}
use Rattle.c_typing_expression_sound.specs.c_type_laws.Typed.{IsTypedIn, IsSwitched}

abbrev pub ConditionIsTyped : Type 0
ConditionIsTyped =
    (c : Context) (a : TypedExpression) (n : Notes) → IsTypedIn c a →
    IfSome (condition_check a n).0 (λ x. IsTrue (is_condition c (expr_view x)))

abbrev pub SwitchIsTyped : Type 0
SwitchIsTyped =
    (c : Context) (a : TypedExpression) (n : Notes) → IsTypedIn c a → IfSome (switch_check a n).0 (IsSwitched c)

abbrev pub ExpressionIsValue : Type 0
ExpressionIsValue = (c : Context) (a : TypedExpression) → IsTypedIn c a →
    IsTrue (is_value c (expr_view (full_expression a)))

-- in a function whose result has this type
abbrev pub ReturnIsTyped : Type 0
ReturnIsTyped =
    (c : Context) (j : Jumps) (at : ℕ) (result : CType) (a : TypedExpression) (n : Notes) →
    IsTrue (is_fit c.structs (type_view result)) → IsTypedIn c a →
    IfSome (return_value at result a n).0 (λ s. IsTrue (is_typed_stmt c (type_view result) j (stmt_view s)))

abbrev pub EmptyReturnIsTyped : Type 0
EmptyReturnIsTyped =
    (c : Context) (j : Jumps) (at : ℕ) (result : CType) (n : Notes) →
    IfSome (return_nothing at result n).0 (λ s. IsTrue (is_typed_stmt c (type_view result) j (stmt_view s)))

-- a local that is there, of a type of objects
abbrev pub InitialiserIsTyped : Type 0
InitialiserIsTyped =
    (c : Context) (new : NewLocal) (a : TypedExpression) (n : Notes) →
    IsTrue (has_local_type (slice_get c.locals new.number) (type_view new.ty)) →
    IsTrue (is_fit c.structs (type_view new.ty)) → IsTrue (is_object c.structs (type_view new.ty)) → IsTypedIn c a →
    IfSome (local_with_value new a n).0 (λ l. IsTrue (is_declared c (local_view l)))
