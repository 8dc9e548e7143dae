-- The laws of instructions.
use Rattle.std.proofs.Common.{true, refl}
use Rattle.pass_core.specs.Insns.{InsnLaws}
use Rattle.suifvm_ir.specs.declared.insn.VmInsn.{VmInsn}
use Rattle.suifvm_ir.specs.declared.insn.VmInsn.TheVariants.{LoadConstant, LoadAddress, Load, Store, Copy, Unary, Binary, Shift, Convert, Compare, Branch, Jump, Call, Return, Mark, Nop}
use Rattle.suifvm_ir.specs.Insns.{reads_of, writes_of, targets_of, with_block, jump_of, flows_on_of, may_trap_of}
use Rattle.suifvm_ir.specs.model.OneTarget.{IsJump, Kind, HasOne, HasNone, laws_of_kinds, clash}

is_jump : IsJump reads_of writes_of targets_of with_block jump_of flows_on_of may_trap_of
is_jump = record {
  goes = record {
    targets_at = λ block. refl;
    sets = λ old block. refl;
    keeps = λ old k block. refl;
    reads_at = λ a b. refl;
    writes_at = λ a b. refl;
    flow_at = λ a b. refl;
    traps_at = λ a b. refl;
    jumps_at = λ block stops. refl;
  };
  reads_none = λ block. refl;
  writes_none = λ block. refl;
  stops = λ block. refl;
  no_trap = λ block. refl;
}

kind : (i : VmInsn) → Kind reads_of writes_of targets_of with_block jump_of flows_on_of may_trap_of i
kind (Branch op ty source block) = HasOne (λ b. Branch op ty source b) block refl (record {
  targets_at = λ block. refl;
  sets = λ old block. refl;
  keeps = λ old k block. refl;
  reads_at = λ a b. refl;
  writes_at = λ a b. refl;
  flow_at = λ a b. refl;
  traps_at = λ a b. refl;
  jumps_at = λ block stops. absurd (clash true refl stops);
})
kind (Jump block) = HasOne jump_of block refl is_jump.goes
kind (LoadConstant ty destination word) = HasNone (λ k block. refl) refl
kind (LoadAddress destination place plus) = HasNone (λ k block. refl) refl
kind (Load ty destination pointer plus) = HasNone (λ k block. refl) refl
kind (Store ty pointer plus value) = HasNone (λ k block. refl) refl
kind (Copy to from size align) = HasNone (λ k block. refl) refl
kind (Unary op ty destination source) = HasNone (λ k block. refl) refl
kind (Binary op ty destination left right) = HasNone (λ k block. refl) refl
kind (Shift op ty destination source count) = HasNone (λ k block. refl) refl
kind (Convert from to destination source) = HasNone (λ k block. refl) refl
kind (Compare op ty destination left right) = HasNone (λ k block. refl) refl
kind (Call destination c arguments) = HasNone (λ k block. refl) refl
kind (Return value) = HasNone (λ k block. refl) refl
kind Mark = HasNone (λ k block. refl) refl
kind Nop = HasNone (λ k block. refl) refl

pub insn_laws : InsnLaws reads_of writes_of targets_of with_block jump_of flows_on_of may_trap_of
insn_laws = laws_of_kinds reads_of writes_of targets_of with_block jump_of flows_on_of may_trap_of is_jump kind
