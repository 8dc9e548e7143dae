-- The operand of `switch` (C99 6.8.4.2): an integer, which is promoted.
use Rattle.std.specs.Prelude.{Option, Some, None, Ok}
use Rattle.bk_arithmetic.specs.declared.integer_type.IntegerType.{IntegerType}
use Rattle.bk_arithmetic.specs.IntegerTypes.{promote}
use Rattle.c_typing_faults.specs.declared.faults.Kind.TheVariants.{BadOperand}
use Rattle.c_typing_rules.specs.declared.typed.TypedExpression.{TypedExpression}
use Rattle.c_typing_rules.specs.Rulings.{Ruling, fault}
use Rattle.c_typing_rules.specs.Values.{integer, type_of_integer, convert_tree}
use Rattle.c_typing_primary_rules.specs.declared.switches.SwitchValue.{SwitchValue}

abbrev pub in_type : IntegerType → TypedExpression → SwitchValue
in_type t a = record { tree = convert_tree (type_of_integer t) a; ty = t }

abbrev pub switch_value : TypedExpression → Option IntegerType → Ruling SwitchValue
switch_value a None = fault a.at BadOperand
switch_value a (Some t) = Ok (in_type (promote t) a)

abbrev pub switch_operand : TypedExpression → Ruling SwitchValue
switch_operand a = switch_value a (integer a)
