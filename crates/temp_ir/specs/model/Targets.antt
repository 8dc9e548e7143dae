-- The laws of instructions.
use Rattle.std.proofs.Common.{true, refl}
use Rattle.pass_core.specs.Insns.{InsnLaws}
use Rattle.suifvm_ir.specs.model.OneTarget.{IsJump, Kind, HasOne, HasNone, laws_of_kinds, clash}
use Rattle.temp_ir.specs.declared.insn.TempInsn.{TempInsn}
use Rattle.temp_ir.specs.declared.insn.TempInsn.TheVariants.{Address, ObjectAddress, Load, Store, Operate, Extend, ToFixed, FromFixed, SetFixed, WriteArgument, ReadArgument, Branch, Jump, Call, Divide, Serve, Return, Mark}
use Rattle.temp_ir.specs.Insns.{reads_of, writes_of, targets_of, with_block, jump_of, flows_on_of, may_trap_of}

is_jump : IsJump reads_of writes_of targets_of with_block jump_of flows_on_of may_trap_of
is_jump = record {
  goes = record {
    targets_at = λ block. refl;
    sets = λ old block. refl;
    keeps = λ old k block. refl;
    reads_at = λ a b. refl;
    writes_at = λ a b. refl;
    flow_at = λ a b. refl;
    traps_at = λ a b. refl;
    jumps_at = λ block stops. refl;
  };
  reads_none = λ block. refl;
  writes_none = λ block. refl;
  stops = λ block. refl;
  no_trap = λ block. refl;
}

kind : (i : TempInsn) → Kind reads_of writes_of targets_of with_block jump_of flows_on_of may_trap_of i
kind (Branch op source block) = HasOne (λ b. Branch op source b) block refl (record {
  targets_at = λ block. refl;
  sets = λ old block. refl;
  keeps = λ old k block. refl;
  reads_at = λ a b. refl;
  writes_at = λ a b. refl;
  flow_at = λ a b. refl;
  traps_at = λ a b. refl;
  jumps_at = λ block stops. absurd (clash true refl stops);
})
kind (Jump block) = HasOne jump_of block refl is_jump.goes
kind (Address op destination base plus) = HasNone (λ k block. refl) refl
kind (ObjectAddress destination place plus) = HasNone (λ k block. refl) refl
kind (Load op destination pointer plus) = HasNone (λ k block. refl) refl
kind (Store op value pointer plus) = HasNone (λ k block. refl) refl
kind (Operate op destination left right) = HasNone (λ k block. refl) refl
kind (Extend op destination source) = HasNone (λ k block. refl) refl
kind (ToFixed register source) = HasNone (λ k block. refl) refl
kind (FromFixed destination register) = HasNone (λ k block. refl) refl
kind (SetFixed register number) = HasNone (λ k block. refl) refl
kind (WriteArgument number source) = HasNone (λ k block. refl) refl
kind (ReadArgument destination number) = HasNone (λ k block. refl) refl
kind (Call function arguments) = HasNone (λ k block. refl) refl
kind (Divide routine) = HasNone (λ k block. refl) refl
kind (Serve service) = HasNone (λ k block. refl) refl
kind (Return with_value) = HasNone (λ k block. refl) refl
kind Mark = HasNone (λ k block. refl) refl

pub insn_laws : InsnLaws reads_of writes_of targets_of with_block jump_of flows_on_of may_trap_of
insn_laws = laws_of_kinds reads_of writes_of targets_of with_block jump_of flows_on_of may_trap_of is_jump kind
