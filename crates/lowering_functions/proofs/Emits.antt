-- Code in front of other code: it is good where that is, it is no longer than a number says, and no fewer blocks begin.
use Rattle.std.proofs.Common.{◌≤◌, ◌<◌, ℕ, suc, ◌+◌, List, ◌∷◌, Option, length, refl, arith}
use Rattle.c_typed_tree.specs.declared.types.StructDef.{StructDef}
use Rattle.c_typed_tree.specs.Types.{PlainType, Struct}
use Rattle.suifvm_ir.specs.declared.types.VmType.{VmType}
use Rattle.suifvm_ir.specs.declared.insn.VmBranchOp.{VmBranchOp}
use Rattle.suifvm_ir.specs.declared.insn.VmBinaryOp.TheVariants as vb
use Rattle.suifvm_ir.specs.declared.insn.CompareOp.TheVariants as vc
use Rattle.suifvm_ir.specs.declared.insn.VmObject.{VmObject}
use Rattle.suifvm_ir.specs.declared.insn.TypedRegister.{TypedRegister}
use Rattle.suifvm_ir.specs.declared.insn.VmInsn as vm
use Rattle.suifvm_ir.specs.declared.insn.VmInsn.TheVariants as n
use Rattle.suifvm_ir.specs.Insns.{targets_of, flows_on_of, returned_register}
use Rattle.pass_core.specs.Functions.{IsStraight}
use Rattle.lowering_code.specs.declared.operation.RegisterOperation.{RegisterOperation}
use Rattle.lowering_code.specs.declared.operation.RegisterOperation.TheVariants.{Calculates, Shifts, Compares, ComparesBack}
use Rattle.lowering_code.specs.declared.item.CodeItem.{CodeItem}
use Rattle.lowering_code.specs.declared.item.CodeItem.TheVariants.{Start, Plain, Jump, Branch, Return}
use Rattle.lowering_code.specs.Items.{block_total}
use Rattle.lowering_code.specs.Expressions as code
use Rattle.lowering_code.proofs.Pieces.{Carried}
use Rattle.lowering_layout.specs.Good.{IsGood}
use Rattle.lowering_layout.specs.Tops.{registers_top, insn_top}
pub use Rattle.lowering_code.proofs.Pieces.{Has, there, value_there, address_there, move_emits, store_emits, constant_emits, moved_emits, value_load_emits, unary_emits, not_emits, converted_emits, set_scalar_emits, combine_emits, element_emits, binary_emits, step_register_emits, step_memory_emits, place_moved_emits, combine_memory_emits}

module _ (most : ℕ) where
  pub record Emits (k : ℕ) (rest is : List CodeItem) : Type 0 where
    pub good : (loops : ℕ) → IsGood most loops rest → IsGood most loops is
    pub grows : block_total rest ≤ block_total is
    pub size : length is ≤ k + length rest

  pub none : (rest : List CodeItem) → Emits 0 rest rest
  none rest = record { good = λ loops h. h; grows = omega arith; size = omega arith }

  pub joins : (j k : ℕ) (rest mid is : List CodeItem) → Emits j mid is → Emits k rest mid → Emits (j + k) rest is
  joins j k rest mid is a b = record { good = λ loops h. a.good loops (b.good loops h); grows = omega (arith, a.grows, b.grows); size = omega (arith, a.size, b.size) }

  pub at_most : (j k : ℕ) (rest is : List CodeItem) → j ≤ k → Emits j rest is → Emits k rest is
  at_most j k rest is h a = record { good = a.good; grows = a.grows; size = omega (arith, h, a.size) }

  pub plain : (i : vm.VmInsn) (rest : List CodeItem) → IsStraight targets_of flows_on_of i → insn_top i ≤ most → Emits 1 rest (Plain i ∷ rest)
  plain i rest p t = record { good = λ loops h. (p, t, h); grows = omega arith; size = omega arith }

  pub start : (rest : List CodeItem) → Emits 1 rest (Start ∷ rest)
  start rest = record { good = λ loops h. h; grows = omega arith; size = omega arith }

  pub jump : (name : ℕ) (rest : List CodeItem) → name ≤ block_total rest → Emits 1 rest (Jump name ∷ rest)
  jump name rest h = record { good = λ loops g. (h, g); grows = omega arith; size = omega arith }

  pub branch : (op : VmBranchOp) (ty : VmType) (source name : ℕ) (rest : List CodeItem) → source < most → name ≤ block_total rest → Emits 1 rest (Branch op ty source name ∷ rest)
  branch op ty source name rest s h = record { good = λ loops g. (s, h, g); grows = omega arith; size = omega arith }

  pub give : (value : Option TypedRegister) (rest : List CodeItem) → registers_top (returned_register value) ≤ most → Emits 1 rest (Return value ∷ rest)
  give value rest h = record { good = λ loops g. (h, g); grows = omega arith; size = omega arith }

  -- ---- pieces

  pub operation_emits : (op : RegisterOperation) (ty : VmType) (to left right : ℕ) (rest : List CodeItem) → to < most → left < most → right < most
      → Emits 1 rest (Plain (code.operation_insn op ty to left right) ∷ rest)
  operation_emits (Calculates op) ty to left right rest a b c = plain _ rest (refl, refl) (omega (arith, a, b, c))
  operation_emits (Shifts op) ty to left right rest a b c = plain _ rest (refl, refl) (omega (arith, a, b, c))
  operation_emits (Compares op) ty to left right rest a b c = plain _ rest (refl, refl) (omega (arith, a, b, c))
  operation_emits (ComparesBack op) ty to left right rest a b c = plain _ rest (refl, refl) (omega (arith, a, b, c))

  -- what is said of each piece
  abbrev pub carried : Carried
  carried = record {
    most = most;
    Emits = Emits;
    none = none;
    joins = joins;
    at_most = at_most;
    move = 1;
    memory = 1;
    constant = 1;
    short = 1;
    operation = 1;
    moves = λ op ty to from rest a b. plain (n.Unary op ty to from) rest (refl, refl) (omega (arith, a, b));
    converts = λ from_type ty to from rest a b. plain (n.Convert from_type ty to from) rest (refl, refl) (omega (arith, a, b));
    loads = λ ty to pointer plus rest a b. plain (n.Load ty to pointer plus) rest (refl, refl) (omega (arith, a, b));
    stores = λ ty pointer plus value rest a b. plain (n.Store ty pointer plus value) rest (refl, refl) (omega (arith, a, b));
    loads_constant = λ ty to word rest a. plain (n.LoadConstant ty to word) rest (refl, refl) (omega (arith, a));
    adds = λ ty to left right rest a b c. operation_emits (Calculates vb.Add) ty to left right rest a b c;
    subtracts = λ ty to left right rest a b c. operation_emits (Calculates vb.Subtract) ty to left right rest a b c;
    multiplies = λ ty to left right rest a b c. operation_emits (Calculates vb.Multiply) ty to left right rest a b c;
    compares = λ ty to left right rest a b c. operation_emits (Compares vc.Equal) ty to left right rest a b c;
    operates = operation_emits;
  }

  pub copy_emits : (ds : List StructDef) (to from : ℕ) (ty : PlainType) (rest : List CodeItem) → to < most → from < most → Emits 1 rest (code.copy_code ds to from ty rest)
  copy_emits ds to from ty rest a b = plain _ rest (refl, refl) (omega (arith, a, b))

  module _ (locals : ℕ) where
    pub address_emits : (d : ℕ) (place : VmObject) (plus : ℕ) (rest : List CodeItem) → Has most locals d 1 → Emits 1 rest (code.address_code locals d place plus rest)
    address_emits d place plus rest h = plain _ rest (refl, refl) (omega (arith, address_there most locals d h))

    pub branch_emits : (op : VmBranchOp) (d : ℕ) (ty : PlainType) (name : ℕ) (rest : List CodeItem) → Has most locals d 1 → name ≤ block_total rest → Emits 1 rest (code.branch_by_value_code locals op d ty name rest)
    branch_emits op d ty name rest h k = branch op _ _ name rest (value_there most locals d ty h) k

    pub set_memory_emits : (ds : List StructDef) (d plus : ℕ) (ty : PlainType) (rest : List CodeItem) → Has most locals d 2 → Emits 2 rest (code.set_memory_code locals ds d plus ty rest)
    set_memory_emits ds d plus (Struct number) rest h =
        at_most 1 2 rest _ (omega arith) (copy_emits ds _ _ (Struct number) rest (address_there most locals d (omega (arith, h))) (address_there most locals (suc d) (omega (arith, h))))
    set_memory_emits ds d plus ty rest h = set_scalar_emits carried locals d plus ty rest h
