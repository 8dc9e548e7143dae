-- What is said of the code of expressions.
use Rattle.std.specs.Prelude.{ℕ, List}
use Rattle.suifvm_ir.specs.declared.insn.VmInsn.{VmInsn}
use Rattle.c_typed_tree.specs.declared.types.StructDef.{StructDef}
use Rattle.c_typed_tree.specs.declared.units.Local.{Local}
use Rattle.c_typed_tree.specs.Expressions.{Expr}
use Rattle.lowering_code.specs.Expressions.{expr_code, place_code}
use Rattle.lowering_states.specs.lowering_expression_places.Behind.{IsLeft}

pub record ExprIsLeft (blocks : List (List VmInsn)) (last : ℕ) (end : List VmInsn) (locals : ℕ) (ds : List StructDef)
    (ls : List Local) (x : Expr) : Type 0 where
  pub value : (depth : ℕ) → IsLeft blocks last end (λ is. expr_code locals ds ls depth x is)
  pub place : (depth plus : ℕ) → IsLeft blocks last end (λ is. place_code locals ds ls depth x plus is)

abbrev pub ExpressionCodeIsLeft : Type 0
ExpressionCodeIsLeft =
    (blocks : List (List VmInsn)) (last : ℕ) (end : List VmInsn) (locals : ℕ) (ds : List StructDef) (ls : List Local)
    (x : Expr) → ExprIsLeft blocks last end locals ds ls x
