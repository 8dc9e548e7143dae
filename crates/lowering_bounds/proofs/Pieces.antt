-- Code in front of other code: its registers are few, it names what is there, and it costs no more than a number says.
use Rattle.std.proofs.Common.{◌≡◌, ◌≤◌, ◌<◌, ℕ, suc, ◌+◌, ◌*◌, ◌%◌, ◌==◌, Bool, IsTrue, List, ◌∷◌, Option, refl, arith}
use Rattle.c_typed_tree.specs.declared.types.StructDef.{StructDef}
use Rattle.c_typed_tree.specs.Layout.{align_of}
use Rattle.c_typed_tree.specs.Types.{PlainType, Struct}
use Rattle.suifvm_ir.specs.declared.types.VmType.{VmType}
use Rattle.suifvm_ir.specs.declared.insn.VmBranchOp.{VmBranchOp}
use Rattle.suifvm_ir.specs.declared.insn.VmBinaryOp as vq
use Rattle.suifvm_ir.specs.declared.insn.VmBinaryOp.TheVariants as vb
use Rattle.suifvm_ir.specs.declared.insn.CompareOp.TheVariants as vc
use Rattle.suifvm_ir.specs.Cost.{most_binary_insns, most_binary_calls}
use Rattle.suifvm_ir.specs.declared.insn.VmObject.{VmObject}
use Rattle.suifvm_ir.specs.declared.insn.TypedRegister.{TypedRegister}
use Rattle.suifvm_ir.specs.declared.insn.VmInsn as vm
use Rattle.suifvm_ir.specs.declared.insn.VmInsn.TheVariants as n
use Rattle.mem_objects.specs.declared.DataObject.{DataObject}
use Rattle.pass_core.specs.declared.function.MemoryLocal.{MemoryLocal}
use Rattle.suifvm_ir.specs.Insns.{returned_register}
use Rattle.suifvm_ir.specs.Programs.{VmFunction, names_what_is_there, place_reaches, alignment_bytes, arguments_of}
use Rattle.lowering_code.specs.declared.operation.RegisterOperation.{RegisterOperation}
use Rattle.lowering_code.specs.declared.operation.RegisterOperation.TheVariants.{Calculates, Shifts, Compares, ComparesBack}
use Rattle.lowering_code.specs.declared.item.CodeItem.{CodeItem}
use Rattle.lowering_code.specs.declared.item.CodeItem.TheVariants.{Start, Plain, Jump, Branch, Return}
use Rattle.lowering_code.specs.Expressions as code
use Rattle.lowering_code.proofs.Pieces.{Carried}
use Rattle.lowering_layout.specs.Tops.{registers_top, insn_top}
use Rattle.lowering_bounds.specs.model.Costs.{plain_cost, items_cost}
use Rattle.lowering_bounds.specs.model.Fits.{Fits, IsNarrow}
pub use Rattle.lowering_code.proofs.Pieces.{Has, there, value_there, address_there, move_emits, store_emits, constant_emits, moved_emits, value_load_emits, unary_emits, not_emits, converted_emits, set_scalar_emits, combine_emits, element_emits, binary_emits, step_register_emits, step_memory_emits, place_moved_emits, combine_memory_emits}

operator_cost : (op : vq.VmBinaryOp) → 24 * most_binary_insns op + 160 * most_binary_calls op ≤ 352
operator_cost vb.Add = omega arith
operator_cost vb.Subtract = omega arith
operator_cost vb.Multiply = omega arith
operator_cost vb.Divide = omega arith
operator_cost vb.Remainder = omega arith
operator_cost vb.And = omega arith
operator_cost vb.Or = omega arith
operator_cost vb.ExclusiveOr = omega arith

module _ (most : ℕ) (fs : List VmFunction) (gs : List DataObject) (os : List MemoryLocal) where
  abbrev pub passes : vm.VmInsn → Bool
  passes = names_what_is_there fs gs os

  pub record Emits (k : ℕ) (rest is : List CodeItem) : Type 0 where
    pub fits : Fits most passes rest → Fits most passes is
    pub cost : items_cost is ≤ k + items_cost rest
    pub wide : (w : ℕ) → k ≤ 2048 * w → IsNarrow w rest → IsNarrow w is

  pub none : (rest : List CodeItem) → Emits 0 rest rest
  none rest = record { fits = λ h. h; cost = omega arith; wide = λ w le h. h }

  pub joins : (j k : ℕ) (rest mid is : List CodeItem) → Emits j mid is → Emits k rest mid → Emits (j + k) rest is
  joins j k rest mid is a b = record { fits = λ h. a.fits (b.fits h); cost = omega (arith, a.cost, b.cost); wide = λ w le h. a.wide w (omega (arith, le)) (b.wide w (omega (arith, le)) h) }

  pub at_most : (j k : ℕ) (rest is : List CodeItem) → j ≤ k → Emits j rest is → Emits k rest is
  at_most j k rest is h a = record { fits = a.fits; cost = omega (arith, h, a.cost); wide = λ w le. a.wide w (omega (arith, h, le)) }

  pub plain : (k : ℕ) (i : vm.VmInsn) (rest : List CodeItem) → plain_cost i ≤ k → IsTrue (passes i) → insn_top i ≤ most → arguments_of i ≡ 0 → Emits k rest (Plain i ∷ rest)
  plain k i rest c p t none = record { fits = λ h. (t, p, h); cost = omega (arith, c); wide = λ w le h. (omega (arith, none), h) }

  pub start : (rest : List CodeItem) → Emits 536 rest (Start ∷ rest)
  start rest = record { fits = λ h. h; cost = omega arith; wide = λ w le h. h }

  pub jump : (name : ℕ) (rest : List CodeItem) → Emits 560 rest (Jump name ∷ rest)
  jump name rest = record { fits = λ h. h; cost = omega arith; wide = λ w le h. h }

  pub branch : (op : VmBranchOp) (ty : VmType) (source name : ℕ) (rest : List CodeItem) → source < most → Emits 1096 rest (Branch op ty source name ∷ rest)
  branch op ty source name rest s = record { fits = λ h. (s, h); cost = omega arith; wide = λ w le h. h }

  pub give : (value : Option TypedRegister) (rest : List CodeItem) → registers_top (returned_register value) ≤ most → Emits 48 rest (Return value ∷ rest)
  give value rest t = record { fits = λ h. (t, h); cost = omega arith; wide = λ w le h. h }

  -- ---- pieces

  pub operation_emits : (op : RegisterOperation) (ty : VmType) (to left right : ℕ) (rest : List CodeItem) → to < most → left < most → right < most
      → Emits 352 rest (Plain (code.operation_insn op ty to left right) ∷ rest)
  operation_emits (Calculates op) ty to left right rest a b c = plain 352 _ rest (omega (arith, operator_cost op)) refl (omega (arith, a, b, c)) refl
  operation_emits (Shifts op) ty to left right rest a b c = plain 352 _ rest (omega arith) refl (omega (arith, a, b, c)) refl
  operation_emits (Compares op) ty to left right rest a b c = plain 352 _ rest (omega arith) refl (omega (arith, a, b, c)) refl
  operation_emits (ComparesBack op) ty to left right rest a b c = plain 352 _ rest (omega arith) refl (omega (arith, a, b, c)) refl

  -- what is said of each piece
  abbrev pub carried : Carried
  carried = record {
    most = most;
    Emits = Emits;
    none = none;
    joins = joins;
    at_most = at_most;
    move = 24;
    memory = 192;
    constant = 144;
    short = 96;
    operation = 352;
    moves = λ op ty to from rest a b. plain 24 (n.Unary op ty to from) rest (omega arith) refl (omega (arith, a, b)) refl;
    converts = λ from_type ty to from rest a b. plain 24 (n.Convert from_type ty to from) rest (omega arith) refl (omega (arith, a, b)) refl;
    loads = λ ty to pointer plus rest a b. plain 192 (n.Load ty to pointer plus) rest (omega arith) refl (omega (arith, a, b)) refl;
    stores = λ ty pointer plus value rest a b. plain 192 (n.Store ty pointer plus value) rest (omega arith) refl (omega (arith, a, b)) refl;
    loads_constant = λ ty to word rest a. plain 144 (n.LoadConstant ty to word) rest (omega arith) refl (omega (arith, a)) refl;
    adds = λ ty to left right rest a b c. plain 96 (n.Binary vb.Add ty to left right) rest (omega arith) refl (omega (arith, a, b, c)) refl;
    subtracts = λ ty to left right rest a b c. plain 96 (n.Binary vb.Subtract ty to left right) rest (omega arith) refl (omega (arith, a, b, c)) refl;
    multiplies = λ ty to left right rest a b c. plain 96 (n.Binary vb.Multiply ty to left right) rest (omega arith) refl (omega (arith, a, b, c)) refl;
    compares = λ ty to left right rest a b c. plain 96 (n.Compare vc.Equal ty to left right) rest (omega arith) refl (omega (arith, a, b, c)) refl;
    operates = operation_emits;
  }

  pub copy_emits : (ds : List StructDef) (to from : ℕ) (ty : PlainType) (rest : List CodeItem) → to < most → from < most → IsTrue (code.stride ds ty % alignment_bytes (code.alignment_of (align_of ds ty)) == 0) → Emits (24 + 96 * code.stride ds ty) rest (code.copy_code ds to from ty rest)
  copy_emits ds to from ty rest a b w = plain (24 + 96 * code.stride ds ty) _ rest (omega arith) w (omega (arith, a, b)) refl

  module _ (locals : ℕ) where
    pub address_emits : (d : ℕ) (place : VmObject) (plus : ℕ) (rest : List CodeItem) → Has most locals d 1 → IsTrue (place_reaches gs os plus place) → Emits 24 rest (code.address_code locals d place plus rest)
    address_emits d place plus rest h w = plain 24 _ rest (omega arith) w (omega (arith, address_there most locals d h)) refl

    pub branch_emits : (op : VmBranchOp) (d : ℕ) (ty : PlainType) (name : ℕ) (rest : List CodeItem) → Has most locals d 1 → Emits 1096 rest (code.branch_by_value_code locals op d ty name rest)
    branch_emits op d ty name rest h = branch op _ _ name rest (value_there most locals d ty h)

    module _ (ds : List StructDef) where
      -- a struct is copied, and of another one the number is 0
      abbrev pub struct_bytes : PlainType → ℕ
      struct_bytes (Struct number) = code.stride ds (Struct number)
      struct_bytes ty = 0

      pub set_memory_emits : ((number : ℕ) → IsTrue (code.stride ds (Struct number) % alignment_bytes (code.alignment_of (align_of ds (Struct number))) == 0))
          → (d plus : ℕ) (ty : PlainType) (rest : List CodeItem) → Has most locals d 2 → Emits (216 + 96 * struct_bytes ty) rest (code.set_memory_code locals ds d plus ty rest)
      set_memory_emits w d plus (Struct number) rest h =
          at_most (24 + 96 * code.stride ds (Struct number)) (216 + 96 * code.stride ds (Struct number)) rest _ (omega arith)
          (copy_emits ds _ _ (Struct number) rest (address_there most locals d (omega (arith, h))) (address_there most locals (suc d) (omega (arith, h))) (w number))
      set_memory_emits w d plus ty rest h = set_scalar_emits carried locals d plus ty rest h
