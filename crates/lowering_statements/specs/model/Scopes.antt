-- The code of the parts of statements, by what the numbers in a function name.
use Rattle.std.specs.Prelude.{ℕ, List, ◌∷◌, Option}
use Rattle.c_typed_tree.specs.declared.units.Local.{Local}
use Rattle.c_typed_tree.specs.Types.{PlainType}
use Rattle.c_typed_tree.specs.Expressions.{Expr}
use Rattle.c_typed_tree.specs.Statements.{LocalDeclaration, Else, no_else, else_stmt, Stmts, Sections}
use Rattle.lowering_code.specs.declared.item.CodeItem.{CodeItem}
use Rattle.lowering_code.specs.declared.item.CodeItem.TheVariants.{Start, Jump}
use Rattle.lowering_code.specs.Registers.{value_register, address_register}
use Rattle.lowering_code.specs.Expressions.{store_code}
use Rattle.lowering_code.specs.Items.{block_total}
use Rattle.lowering_code.specs.Statements as code
use Rattle.lowering_expressions.specs.declared.scope.LoweringScope.{LoweringScope}
use Rattle.lowering_expressions.specs.Scopes.{local_address}
use Rattle.lowering_statements.specs.Scopes.{stmt_code}

-- ---- values

abbrev pub put_code : LoweringScope → PlainType → (local : ℕ) → List CodeItem → List CodeItem
put_code s ty k rest = code.put_code s.registers.locals s.structs.now s.locals.now ty k rest

-- of a scalar
abbrev pub put_scalar_code : LoweringScope → PlainType → (local : ℕ) → List CodeItem → List CodeItem
put_scalar_code s ty k rest =
    local_address s 1 k 0
    (store_code ty (address_register s.registers.locals 1) 0 (value_register s.registers.locals 0 ty) rest)

abbrev pub put_local_code : LoweringScope → (local : ℕ) → Option Local → List CodeItem → List CodeItem
put_local_code s k l rest = code.put_local_code s.registers.locals s.structs.now s.locals.now k l rest

abbrev pub initialise_code : LoweringScope → (local : ℕ) → Option Expr → List CodeItem → List CodeItem
initialise_code s k x rest = code.initialise_code s.registers.locals s.structs.now s.locals.now k x rest

abbrev pub declares_code : LoweringScope → List LocalDeclaration → List CodeItem → List CodeItem
declares_code s ds rest = code.declares_code s.registers.locals s.structs.now s.locals.now ds rest

-- ---- statements

abbrev pub stmts_code : LoweringScope → (break_to continue_to : ℕ) → Stmts → List CodeItem → List CodeItem
stmts_code s brk con xs rest = code.stmts_code s.registers.locals s.structs.now s.locals.now brk con xs rest

abbrev pub sections_code : LoweringScope → (break_to continue_to : ℕ) → Sections → List CodeItem → List CodeItem
sections_code s brk con xs rest = code.sections_code s.registers.locals s.structs.now s.locals.now brk con xs rest

abbrev pub switch_targets : LoweringScope → (break_to continue_to : ℕ) → Sections → List CodeItem → List code.Target
switch_targets s brk con xs rest = code.switch_targets s.registers.locals s.structs.now s.locals.now brk con xs rest

-- what stands behind the first branch of an `if`, and where it goes if its condition is zero
abbrev pub else_code : LoweringScope → (break_to continue_to : ℕ) → Else → List CodeItem → List CodeItem
else_code s brk con no_else rest = Start ∷ rest
else_code s brk con (else_stmt x) rest = Jump (block_total rest) ∷ stmt_code s brk con x (Start ∷ rest)

abbrev pub else_name : LoweringScope → (break_to continue_to : ℕ) → Else → List CodeItem → ℕ
else_name s brk con no_else rest = block_total rest
else_name s brk con (else_stmt x) rest = block_total (stmt_code s brk con x (Start ∷ rest))
