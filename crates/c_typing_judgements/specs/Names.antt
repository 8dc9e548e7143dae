-- Names as expressions (C99 6.5.1). Nothing is judged of what stands around a name whose declaration has a fault, or
-- that the unit never defines.
use Rattle.std.specs.Prelude.{ℕ, Option, Some, None}
use Rattle.c_typing_faults.specs.declared.faults.Kind.{Kind}
use Rattle.c_typing_faults.specs.declared.faults.Kind.TheVariants.{UnknownName, BadOperand}
use Rattle.c_typing_rules.specs.declared.typed.TypedExpression.{TypedExpression}
use Rattle.c_typing_primary_rules.specs.Primary.{local, static_object, enumeration_constant}
use Rattle.c_typing_state.specs.declared.meanings.NameMeaning.{NameMeaning}
use Rattle.c_typing_state.specs.declared.meanings.NameMeaning.TheVariants as m
use Rattle.c_typing_state.specs.Checks.{Check, fault}
use Rattle.c_typing_state.specs.Notes.{with_use}

abbrev pub name_fault : ℕ → Kind → Check (Option TypedExpression)
name_fault at kind = fault at kind

abbrev pub use_of_undefined : ℕ → (number : ℕ) → Check (Option TypedExpression)
use_of_undefined at number n = (None, with_use number at n)

-- a function's name is called, and no operand
abbrev pub name_of : ℕ → Option NameMeaning → Check (Option TypedExpression)
name_of at None n = name_fault at UnknownName n
name_of at (Some m.Faulty) n = (None, n)
name_of at (Some (m.Undefined number)) n = use_of_undefined at number n
name_of at (Some (m.Local number ty)) n = (Some (local at number ty), n)
name_of at (Some (m.Object number ty)) n = (Some (static_object at number ty), n)
name_of at (Some (m.Constant word)) n = (Some (enumeration_constant at word), n)
name_of at (Some (m.Function callee result parameters)) n = name_fault at BadOperand n
name_of at (Some (m.Typedef ty)) n = name_fault at BadOperand n
