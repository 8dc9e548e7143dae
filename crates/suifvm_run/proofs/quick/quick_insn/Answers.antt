-- Each of these instructions does its case of the meaning.
use Rattle.std.proofs.Common.{refl, ap}
use Rattle.std.proofs.Common.{rules}
use Rattle.std.specs.Int.{w64}
use Rattle.std.specs.Int.RustNames.{FitsSigned}
use Rattle.std.proofs.lemmas.Int.{to_z-of_z}
use Rattle.suifvm_ir.specs.declared.insn.VmInsn.TheVariants.{LoadConstant, LoadAddress, Load, Store, Unary, Binary, Shift, Convert, Compare, Branch}
use Rattle.suifvm_meaning.specs.Effect.{takes_turn}
use Rattle.suifvm_machine.specs.declared.machine.StepResult.TheVariants as turn
use Rattle.suifvm_run.proofs.AtOnce.{stepped_turn, stepped_jump, stepped_mark}
use Rattle.suifvm_machine.proofs.Instructions.{constant_done, address_done, load_done, store_done, unary_done, binary_done, shift_done, convert_done, compare_done, branch_done}
use Rattle.suifvm_run.proofs.quick.quick_insn.Goals as goal

pub returns-in-Binary : goal.returns-in-Binary
returns-in-Binary c = record {
  done = stepped_turn c.args.machine.now c.quick_two.new.machine c.quick_two.result _ c.args.insn.now c.requires.sound (ap takes_turn c.in-Binary.is) (λ t. binary_done c.args.machine.now c.quick_two.new.machine turn.Goes c.args.insn.now _ _ _ _ _ _ _ _ c.in-Binary.is refl refl refl (t (Binary c.in-Binary.op c.in-Binary.ty c.in-Binary.destination c.in-Binary.left c.in-Binary.right) refl)) c.quick_two.ensures.done;
  kept = c.quick_two.ensures.kept;
}

pub returns-in-Compare : goal.returns-in-Compare
returns-in-Compare c = record {
  done = stepped_turn c.args.machine.now c.quick_compare.new.machine c.quick_compare.result _ c.args.insn.now c.requires.sound (ap takes_turn c.in-Compare.is) (λ t. compare_done c.args.machine.now c.quick_compare.new.machine turn.Goes c.args.insn.now _ _ _ _ _ _ _ _ c.in-Compare.is refl refl refl (t (Compare c.in-Compare.op c.in-Compare.ty c.in-Compare.destination c.in-Compare.left c.in-Compare.right) refl)) c.quick_compare.ensures.done;
  kept = c.quick_compare.ensures.kept;
}

pub returns-in-Branch : goal.returns-in-Branch
returns-in-Branch c = record {
  done = stepped_turn c.args.machine.now c.quick_branch.new.machine c.quick_branch.result _ c.args.insn.now c.requires.sound (ap takes_turn c.in-Branch.is) (λ t. branch_done c.args.machine.now c.quick_branch.new.machine turn.Goes c.args.insn.now _ _ _ _ _ _ c.in-Branch.is refl refl (t (Branch c.in-Branch.op c.in-Branch.ty c.in-Branch.source c.in-Branch.block) refl refl)) c.quick_branch.ensures.done;
  kept = c.quick_branch.ensures.kept;
}

pub returns-in-LoadConstant : goal.returns-in-LoadConstant
returns-in-LoadConstant c = record {
  done = stepped_turn c.args.machine.now c.quick_constant.new.machine c.quick_constant.result _ c.args.insn.now c.requires.sound (ap takes_turn c.in-LoadConstant.is) (λ t. constant_done c.args.machine.now c.quick_constant.new.machine turn.Goes c.args.insn.now _ _ _ _ c.in-LoadConstant.is refl (t (LoadConstant c.in-LoadConstant.ty c.in-LoadConstant.destination c.in-LoadConstant.word) refl)) c.quick_constant.ensures.done;
  kept = c.quick_constant.ensures.kept;
}

pub returns-in-Unary : goal.returns-in-Unary
returns-in-Unary c = record {
  done = stepped_turn c.args.machine.now c.quick_unary.new.machine c.quick_unary.result _ c.args.insn.now c.requires.sound (ap takes_turn c.in-Unary.is) (λ t. unary_done c.args.machine.now c.quick_unary.new.machine turn.Goes c.args.insn.now _ _ _ _ _ _ c.in-Unary.is refl refl (t (Unary c.in-Unary.op c.in-Unary.ty c.in-Unary.destination c.in-Unary.source) refl)) c.quick_unary.ensures.done;
  kept = c.quick_unary.ensures.kept;
}

pub returns-in-Convert : goal.returns-in-Convert
returns-in-Convert c = record {
  done = stepped_turn c.args.machine.now c.quick_convert.new.machine c.quick_convert.result _ c.args.insn.now c.requires.sound (ap takes_turn c.in-Convert.is) (λ t. convert_done c.args.machine.now c.quick_convert.new.machine turn.Goes c.args.insn.now _ _ _ _ _ _ c.in-Convert.is refl refl (t (Convert c.in-Convert.from c.in-Convert.to c.in-Convert.destination c.in-Convert.source) refl)) c.quick_convert.ensures.done;
  kept = c.quick_convert.ensures.kept;
}

pub returns-in-Shift : goal.returns-in-Shift
returns-in-Shift c = record {
  done = stepped_turn c.args.machine.now c.quick_shift.new.machine c.quick_shift.result _ c.args.insn.now c.requires.sound (ap takes_turn c.in-Shift.is) (λ t. shift_done c.args.machine.now c.quick_shift.new.machine turn.Goes c.args.insn.now _ _ _ _ _ _ _ _ c.in-Shift.is refl refl refl (t (Shift c.in-Shift.op c.in-Shift.ty c.in-Shift.destination c.in-Shift.source c.in-Shift.count) refl)) c.quick_shift.ensures.done;
  kept = c.quick_shift.ensures.kept;
}

pub returns-in-Jump : goal.returns-in-Jump
returns-in-Jump c = record {
  done = stepped_jump c.args.machine.now c.quick_jump.new.machine c.quick_jump.result c.args.insn.now c.in-Jump.block c.requires.sound c.in-Jump.is c.quick_jump.ensures.done;
  kept = c.quick_jump.ensures.kept;
}

pub returns-in-Mark : goal.returns-in-Mark
returns-in-Mark c = record {
  done = stepped_mark c.args.machine.now c.quick_mark.new.machine c.quick_mark.result c.args.insn.now c.in-Mark.is c.quick_mark.ensures.done;
  kept = c.quick_mark.ensures.kept;
}

pub returns-in-Load : goal.returns-in-Load
returns-in-Load c =
    let fits : FitsSigned w64 c.in-Load.plus = search rules in
    record {
      done = stepped_turn c.args.machine.now c.quick_load.new.machine c.quick_load.result _ c.args.insn.now c.requires.sound (ap takes_turn c.in-Load.is) (λ t. load_done c.args.machine.now c.quick_load.new.machine turn.Goes c.args.insn.now _ _ _ _ _ _ _ c.in-Load.is refl (to_z-of_z w64 c.in-Load.plus fits) refl (t (Load c.in-Load.ty c.in-Load.destination c.in-Load.pointer c.in-Load.plus) refl)) c.quick_load.ensures.done;
      kept = c.quick_load.ensures.kept;
    }

pub returns-in-Store : goal.returns-in-Store
returns-in-Store c =
    let fits : FitsSigned w64 c.in-Store.plus = search rules in
    record {
      done = stepped_turn c.args.machine.now c.quick_store.new.machine c.quick_store.result _ c.args.insn.now c.requires.sound (ap takes_turn c.in-Store.is) (λ t. store_done c.args.machine.now c.quick_store.new.machine turn.Goes c.args.insn.now _ _ _ _ _ c.in-Store.is (to_z-of_z w64 c.in-Store.plus fits) (t (Store c.in-Store.ty c.in-Store.pointer c.in-Store.plus c.in-Store.value) refl)) c.quick_store.ensures.done;
      kept = c.quick_store.ensures.kept;
    }

pub returns-in-LoadAddress : goal.returns-in-LoadAddress
returns-in-LoadAddress c = record {
  done = stepped_turn c.args.machine.now c.quick_address.new.machine c.quick_address.result _ c.args.insn.now c.requires.sound (ap takes_turn c.in-LoadAddress.is) (λ t. address_done c.args.machine.now c.quick_address.new.machine turn.Goes c.args.insn.now _ _ _ _ c.in-LoadAddress.is refl (t (LoadAddress c.in-LoadAddress.destination c.in-LoadAddress.place c.in-LoadAddress.plus) refl)) c.quick_address.ensures.done;
  kept = c.quick_address.ensures.kept;
}
