-- The expressions of statements (C99 6.8). An array becomes a pointer wherever its value is wanted.
use Rattle.std.specs.Prelude.{ℕ, if◌then◌else◌, Option, Some, None}
use Rattle.std.specs.Option.{option_map}
use Rattle.c_typed_tree.specs.declared.types.CType.{CType}
use Rattle.c_typed_tree.specs.declared.expressions.TExpr.{TExpr}
use Rattle.c_typed_tree.specs.declared.statements.TStmt.{TStmt}
use Rattle.c_typed_tree.specs.declared.statements.TStmt as s
use Rattle.c_typed_tree.specs.Typing.{is_void}
use Rattle.c_typed_tree.specs.View.{type_view}
use Rattle.c_typing_faults.specs.declared.faults.Kind.TheVariants.{BadReturn}
use Rattle.c_typing_rules.specs.declared.typed.TypedExpression.{TypedExpression}
use Rattle.c_typing_rules.specs.Conversions.{decay}
use Rattle.c_typing_rules.specs.Comparisons as rule
use Rattle.c_typing_primary_rules.specs.declared.switches.SwitchValue.{SwitchValue}
use Rattle.c_typing_primary_rules.specs.Switches as w
use Rattle.c_typing_judgements.specs.c_typing_operators.Null.{take_value}
use Rattle.c_typing_state.specs.Checks.{Check, pure, and_then, fault, note_fault}

-- the condition of an `if` or a loop (6.8.4.1, 6.8.5)
abbrev pub condition_check : TypedExpression → Check (Option TExpr)
condition_check a n = note_fault (rule.condition (decay a)) n

-- the operand of a `switch` (6.8.4.2)
abbrev pub switch_check : TypedExpression → Check (Option SwitchValue)
switch_check a n = note_fault (w.switch_operand (decay a)) n

-- an expression whose value is not used (6.8.3)
abbrev pub full_expression : TypedExpression → TExpr
full_expression a = (decay a).tree

-- ---- `return`, in a function whose result has a type (6.8.6.4)

abbrev pub return_of : Option TExpr → Option TStmt
return_of value = option_map (λ e. s.Return (Some e)) value

abbrev pub bad_return : ℕ → Check (Option TStmt)
bad_return at = fault at BadReturn

abbrev pub return_value : ℕ → CType → TypedExpression → Check (Option TStmt)
return_value at ty a n =
    if is_void (type_view ty) then bad_return at n
    else and_then (note_fault (take_value ty a) n) (λ value. pure (return_of value))

abbrev pub return_nothing : ℕ → CType → Check (Option TStmt)
return_nothing at ty n = if is_void (type_view ty) then (Some (s.Return None), n) else bad_return at n
