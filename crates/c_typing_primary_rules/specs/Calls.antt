-- Calls (C99 6.5.2.2).
use Rattle.std.specs.Prelude.{ℕ, ◌==◌, if◌then◌else◌, List, length, Ok}
use Rattle.c_typed_tree.specs.declared.types.CType.{CType}
use Rattle.c_typed_tree.specs.declared.expressions.Callee.{Callee}
use Rattle.c_typed_tree.specs.declared.expressions.TExpr as x
use Rattle.c_typing_faults.specs.declared.faults.Kind.TheVariants.{BadCall}
use Rattle.c_typing_rules.specs.declared.typed.TypedExpression.{TypedExpression}
use Rattle.c_typing_rules.specs.Rulings.{Ruling, fault}
use Rattle.c_typing_rules.specs.Values.{rvalue}

-- there are as many arguments as parameters
abbrev pub count_arguments : ℕ → (parameters : List CType) → (arguments : List TypedExpression) →
    Ruling (List TypedExpression)
count_arguments at parameters arguments =
    if length arguments == length parameters then Ok arguments else fault at BadCall

-- a call, whose arguments are converted to the types of the parameters; its value has the type of the result
abbrev pub call_rvalue : ℕ → Callee → (result : CType) → (arguments : List x.TExpr) → TypedExpression
call_rvalue at callee ty arguments = rvalue at ty (x.Call ty callee arguments)
