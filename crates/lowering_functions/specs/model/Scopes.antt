-- The code of parameters, by what the numbers in a function name.
use Rattle.std.specs.Prelude.{ℕ, List, Option, Some, None}
use Rattle.c_typed_tree.specs.declared.units.Local.{Local}
use Rattle.lowering_code.specs.declared.item.CodeItem.{CodeItem}
use Rattle.lowering_code.specs.Functions as code
use Rattle.lowering_expressions.specs.declared.scope.LoweringScope.{LoweringScope}

abbrev pub parameter_code : LoweringScope → (number : ℕ) → Local → List CodeItem → List CodeItem
parameter_code s k l rest = code.parameter_code s.registers.locals s.structs.now s.locals.now k l rest

abbrev pub parameters_code : LoweringScope → (number : ℕ) → List Local → List CodeItem → List CodeItem
parameters_code s k ls rest = code.parameters_code s.registers.locals s.structs.now s.locals.now k ls rest

-- the parameter with a number, where it is there
abbrev pub number_code : LoweringScope → (number : ℕ) → Option Local → List CodeItem → List CodeItem
number_code s k None rest = rest
number_code s k (Some l) rest = parameter_code s k l rest
