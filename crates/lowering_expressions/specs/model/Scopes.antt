-- The code of the parts of expressions, by what the numbers in a function name.
use Rattle.std.specs.Prelude.{ℕ, suc, List, ◌∷◌, slice_get, Option}
use Rattle.c_typed_tree.specs.Expressions.{Expr, Exprs, Unary, type_of}
use Rattle.c_tree.specs.declared.expressions.UnaryOp.{UnaryOp}
use Rattle.c_tree.specs.declared.expressions.BinaryOp.{BinaryOp}
use Rattle.c_typed_tree.specs.declared.expressions.Callee.{Callee}
use Rattle.c_typed_tree.specs.Types.{PlainType}
use Rattle.suifvm_ir.specs.declared.insn.VmObject.TheVariants as p
use Rattle.suifvm_ir.specs.declared.insn.VmInsn.TheVariants as n
use Rattle.lowering_code.specs.declared.item.CodeItem.{CodeItem}
use Rattle.lowering_code.specs.declared.item.CodeItem.TheVariants.{Start, Plain, Jump}
use Rattle.lowering_code.specs.Registers.{value_register}
use Rattle.lowering_code.specs.Items.{block_total}
use Rattle.lowering_code.specs.Expressions as code
use Rattle.lowering_expressions.specs.declared.scope.LoweringScope.{LoweringScope}
use Rattle.lowering_expressions.specs.Scopes.{expr_code, place_code}

-- values into the registers at a depth, above it, and so on
abbrev pub exprs_code : LoweringScope → (depth : ℕ) → Exprs → List CodeItem → List CodeItem
exprs_code s d xs rest = code.exprs_code s.registers.locals s.structs.now s.locals.now d xs rest

-- the operands of a comma expression
abbrev pub commas_code : LoweringScope → (depth : ℕ) → Exprs → List CodeItem → List CodeItem
commas_code s d xs rest = code.commas_code s.registers.locals s.structs.now s.locals.now d xs rest

-- by how many bytes the pointer that the code of a place gives is still to be moved
abbrev pub plus_of : LoweringScope → Expr → (plus : ℕ) → ℕ
plus_of s x plus = code.plus_of s.registers.locals s.structs.now s.locals.now x plus

-- the register that holds a local, if one does, and that which holds a place
abbrev pub register_if : LoweringScope → (number : ℕ) → Option ℕ
register_if s k = code.register_if s.registers.locals s.structs.now s.locals.now k (slice_get s.locals.now k)

abbrev pub register_of : LoweringScope → Expr → Option ℕ
register_of s x = code.register_of s.registers.locals s.structs.now s.locals.now x

-- ---- forms without operands, and what stands behind operands

abbrev pub local_code : LoweringScope → (depth : ℕ) → PlainType → (number : ℕ) → List CodeItem → List CodeItem
local_code s d ty k rest =
    code.local_code s.registers.locals s.structs.now s.locals.now d ty k (register_if s k) rest

abbrev pub global_code : LoweringScope → (depth : ℕ) → PlainType → (number : ℕ) → List CodeItem → List CodeItem
global_code s d ty k rest =
    code.address_code s.registers.locals d (p.Global k) 0 (code.load_code s.registers.locals d ty 0 rest)

abbrev pub destination_of : LoweringScope → (depth : ℕ) → PlainType → Option ℕ
destination_of s d ty = code.destination_of s.registers.locals s.structs.now s.locals.now d ty

abbrev pub call_registers : LoweringScope → (depth : ℕ) → Exprs → List ℕ
call_registers s d xs = code.call_registers s.registers.locals s.structs.now s.locals.now d xs

abbrev pub call_code : LoweringScope → (depth : ℕ) → PlainType → Callee → Exprs → List CodeItem → List CodeItem
call_code s d ty callee xs rest =
    Plain (n.Call (destination_of s d ty) (code.vm_callee callee) (call_registers s d xs)) ∷ rest

-- a compound assignment to a register, behind its right side
abbrev pub combine_register_code : LoweringScope → (depth : ℕ) → BinaryOp → (ty right : PlainType) → (local : ℕ) →
    List CodeItem
    → List CodeItem
combine_register_code s d op ty right k rest =
    code.move_code ty (value_register s.registers.locals d ty) k
    (code.combine_code s.registers.locals s.structs.now op d (suc d) (suc (suc d)) ty right
    (code.move_code ty k (value_register s.registers.locals d ty) rest))

-- the value where an operand of `&&` or `||` decides
abbrev pub decided_code : (locals depth : ℕ) → PlainType → (word : ℕ) → List CodeItem → List CodeItem
decided_code locals d ty word rest = code.constant_code locals d ty word (Start ∷ rest)

-- in front of it the value where none decides
abbrev pub both_code : (locals depth : ℕ) → PlainType → (word other : ℕ) → List CodeItem → List CodeItem
both_code locals d ty word other rest =
    code.constant_code locals d ty other (Jump (block_total rest) ∷ decided_code locals d ty word rest)

-- ---- forms with one operand

abbrev pub conversion_code : LoweringScope → (depth : ℕ) → (to : PlainType) → Expr → List CodeItem → List CodeItem
conversion_code s d to x rest =
    code.conversion_code s.registers.locals s.structs.now s.locals.now d (type_of x) to (plus_of s x 0)
    (λ is. place_code s d x 0 is) (λ is. expr_code s d x is) rest

-- any operator with one operand
abbrev pub unary_expression_code : LoweringScope → (depth : ℕ) → PlainType → UnaryOp → Expr → List CodeItem →
    List CodeItem
unary_expression_code s d ty op x rest = expr_code s d (Unary ty op x) rest
