-- Calls (C99 6.5.2.2). What is called has to be a function, whatever its arguments are; the rest waits for them.
use Rattle.std.specs.Prelude.{ℕ, List, [], ◌∷◌, Option, Some, None}
use Rattle.std.specs.Option.{option_map}
use Rattle.c_typed_tree.specs.declared.types.CType.{CType}
use Rattle.c_typed_tree.specs.declared.expressions.Callee.{Callee}
use Rattle.c_typed_tree.specs.declared.expressions.TExpr.{TExpr}
use Rattle.c_typing_faults.specs.declared.faults.Kind.TheVariants.{UnknownName, NotFunction}
use Rattle.c_typing_rules.specs.declared.typed.TypedExpression.{TypedExpression}
use Rattle.c_typing_primary_rules.specs.Calls.{count_arguments, call_rvalue}
use Rattle.c_typing_judgements.specs.c_typing_operators.Null.{take_value}
use Rattle.c_typing_state.specs.declared.meanings.NameMeaning.{NameMeaning}
use Rattle.c_typing_state.specs.declared.meanings.NameMeaning.TheVariants as m
use Rattle.c_typing_state.specs.Checks.{Check, pure, and_then, each, note_fault, append_part}
use Rattle.c_typing_judgements.specs.Names.{name_fault, use_of_undefined}

-- each argument is converted to the type of its parameter
abbrev pub argument : CType → TypedExpression → Check (Option TExpr)
argument ty a n = note_fault (take_value ty a) n

abbrev pub convert_arguments : (parameters : List CType) → List TypedExpression → Option (List TExpr) →
    Check (Option (List TExpr))
convert_arguments [] args found n = (found, n)
convert_arguments (ty ∷ tys) [] found n = (found, n)
convert_arguments (ty ∷ tys) (a ∷ args) found n =
    and_then (argument ty a n) (λ r. convert_arguments tys args (append_part found r))

abbrev pub call_with : ℕ → Callee → (result : CType) → Option (List TExpr) → Option TypedExpression
call_with at callee ty arguments = option_map (call_rvalue at callee ty) arguments

abbrev pub call_passing : ℕ → Callee → (result : CType) → (parameters : List CType) → List TypedExpression →
    Check (Option TypedExpression)
call_passing at callee ty parameters args n =
    and_then (convert_arguments parameters args (Some []) n) (λ r. pure (call_with at callee ty r))

abbrev pub call_of : ℕ → Callee → (result : CType) → (parameters : List CType) → List TypedExpression →
    Check (Option TypedExpression)
call_of at callee ty parameters args n =
    and_then (note_fault (count_arguments at parameters args) n) (λ r. each r (call_passing at callee ty parameters))

-- a call of what a name means
abbrev pub call_by_meaning : ℕ → Option NameMeaning → Option (List TypedExpression) → Check (Option TypedExpression)
call_by_meaning at None args n = name_fault at UnknownName n
call_by_meaning at (Some m.Faulty) args n = (None, n)
call_by_meaning at (Some (m.Undefined number)) args n = use_of_undefined at number n
call_by_meaning at (Some (m.Local number ty)) args n = name_fault at NotFunction n
call_by_meaning at (Some (m.Object number ty)) args n = name_fault at NotFunction n
call_by_meaning at (Some (m.Constant word)) args n = name_fault at NotFunction n
call_by_meaning at (Some (m.Function callee result parameters)) args n =
    each args (call_of at callee result parameters) n
call_by_meaning at (Some (m.Typedef ty)) args n = name_fault at NotFunction n
