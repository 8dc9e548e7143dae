-- The code of the expressions of a function, by what its numbers name.
use Rattle.std.specs.Prelude.{ℕ, ◌+◌, ◌*◌, ◌^◌, ◌<◌, List}
use Rattle.c_typed_tree.specs.Expressions.{Expr}
use Rattle.suifvm_ir.specs.declared.insn.VmObject.TheVariants as p
use Rattle.lowering_code.specs.declared.item.CodeItem.{CodeItem}
use Rattle.lowering_code.specs.Registers.{object_index}
use Rattle.lowering_code.specs.Expressions as code
use Rattle.lowering_expressions.specs.declared.scope.LoweringScope.{LoweringScope}

-- the value of an expression into the register of its type at a depth
abbrev pub expr_code : LoweringScope → (depth : ℕ) → Expr → List CodeItem → List CodeItem
expr_code s d x rest = code.expr_code s.registers.locals s.structs.now s.locals.now d x rest

-- the pointer to a place
abbrev pub place_code : LoweringScope → (depth : ℕ) → Expr → (plus : ℕ) → List CodeItem → List CodeItem
place_code s d x plus rest = code.place_code s.registers.locals s.structs.now s.locals.now d x plus rest

-- there are so many depths of registers, from a depth on
abbrev pub HasLevels : LoweringScope → (depth levels : ℕ) → Type 0
HasLevels s d levels = s.registers.locals + 5 * (d + levels) < 2 ^ 32

-- the address of a memory local
abbrev pub local_address : LoweringScope → (depth number plus : ℕ) → List CodeItem → List CodeItem
local_address s d k plus rest = code.address_code s.registers.locals d (p.Local (object_index s.locals.now k)) plus rest
