-- Each instruction does its case of the meaning.
use Rattle.std.proofs.Common.{refl, rules}
use Rattle.std.specs.Int.{w64}
use Rattle.std.specs.Int.RustNames.{FitsSigned}
use Rattle.std.proofs.lemmas.Int.{to_z-of_z}
use Rattle.suifvm_ir.specs.declared.insn.VmInsn.TheVariants.{LoadConstant, LoadAddress, Load, Store, Copy, Unary, Binary, Shift, Convert, Compare, Branch, Call, Return}
use Rattle.suifvm_machine.proofs.Instructions.{constant_done, address_done, load_done, store_done, copy_done, unary_done, binary_done, shift_done, convert_done, compare_done, branch_done, call_done, return_done}
use Rattle.suifvm_machine.proofs.machine.Machine.act.Goals as goal

pub returns-in-LoadConstant : goal.returns-in-LoadConstant
returns-in-LoadConstant c = constant_done c.args.self.now c.give.new.self c.give.result c.args.insn.now _ _ _ _ c.in-LoadConstant.is c.when_value.ensures (c.give.ensures (LoadConstant c.in-LoadConstant.ty c.in-LoadConstant.destination c.in-LoadConstant.word) refl)

pub returns-in-Ok : goal.returns-in-Ok
returns-in-Ok c = address_done c.args.self.now c.give-in-Ok.new.self c.give-in-Ok.result c.args.insn.now _ _ _ _ c.in-LoadAddress.is c.in-Ok.ensures (c.give-in-Ok.ensures (LoadAddress c.in-LoadAddress.destination c.in-LoadAddress.place c.in-LoadAddress.plus) refl)

pub returns-in-Load : goal.returns-in-Load
returns-in-Load c =
    let fits : FitsSigned w64 c.in-Load.plus = search rules in
    load_done c.args.self.now c.give-in-Load.new.self c.give-in-Load.result c.args.insn.now _ _ _ _ _ _ _ c.in-Load.is c.get.ensures (to_z-of_z w64 c.in-Load.plus fits) c.load-answer.ensures (c.give-in-Load.ensures (Load c.in-Load.ty c.in-Load.destination c.in-Load.pointer c.in-Load.plus) refl)

pub returns-in-Store : goal.returns-in-Store
returns-in-Store c =
    let fits : FitsSigned w64 c.in-Store.plus = search rules in
    store_done c.args.self.now c.store_value.new.self c.store_value.result c.args.insn.now _ _ _ _ _ c.in-Store.is (to_z-of_z w64 c.in-Store.plus fits) (c.store_value.ensures (Store c.in-Store.ty c.in-Store.pointer c.in-Store.plus c.in-Store.value) refl)

pub returns-in-Copy : goal.returns-in-Copy
returns-in-Copy c = copy_done c.args.self.now c.copy_cells.new.self c.copy_cells.result c.args.insn.now _ _ _ _ c.in-Copy.is (c.copy_cells.ensures (Copy c.in-Copy.to c.in-Copy.from c.in-Copy.size c.in-Copy.align) refl)

pub returns-in-Unary : goal.returns-in-Unary
returns-in-Unary c = unary_done c.args.self.now c.give-in-Unary.new.self c.give-in-Unary.result c.args.insn.now _ _ _ _ _ _ c.in-Unary.is c.get-in-Unary.ensures c.unary.ensures (c.give-in-Unary.ensures (Unary c.in-Unary.op c.in-Unary.ty c.in-Unary.destination c.in-Unary.source) refl)

pub returns-in-Binary : goal.returns-in-Binary
returns-in-Binary c = binary_done c.args.self.now c.give-in-Binary.new.self c.give-in-Binary.result c.args.insn.now _ _ _ _ _ _ _ _ c.in-Binary.is c.get-in-Binary.ensures c.get-in-Binary-2.ensures c.binary-answer.ensures (c.give-in-Binary.ensures (Binary c.in-Binary.op c.in-Binary.ty c.in-Binary.destination c.in-Binary.left c.in-Binary.right) refl)

pub returns-in-Shift : goal.returns-in-Shift
returns-in-Shift c = shift_done c.args.self.now c.give-in-Shift.new.self c.give-in-Shift.result c.args.insn.now _ _ _ _ _ _ _ _ c.in-Shift.is c.get-in-Shift.ensures c.get-in-Shift-2.ensures c.shift.ensures (c.give-in-Shift.ensures (Shift c.in-Shift.op c.in-Shift.ty c.in-Shift.destination c.in-Shift.source c.in-Shift.count) refl)

pub returns-in-Convert : goal.returns-in-Convert
returns-in-Convert c = convert_done c.args.self.now c.give-in-Convert.new.self c.give-in-Convert.result c.args.insn.now _ _ _ _ _ _ c.in-Convert.is c.get-in-Convert.ensures c.convert.ensures (c.give-in-Convert.ensures (Convert c.in-Convert.from c.in-Convert.to c.in-Convert.destination c.in-Convert.source) refl)

pub returns-in-Compare : goal.returns-in-Compare
returns-in-Compare c = compare_done c.args.self.now c.give-in-Compare.new.self c.give-in-Compare.result c.args.insn.now _ _ _ _ _ _ _ _ c.in-Compare.is c.get-in-Compare.ensures c.get-in-Compare-2.ensures c.compare-answer.ensures (c.give-in-Compare.ensures (Compare c.in-Compare.op c.in-Compare.ty c.in-Compare.destination c.in-Compare.left c.in-Compare.right) refl)

pub returns-in-Branch : goal.returns-in-Branch
returns-in-Branch c = branch_done c.args.self.now c.branch-self.new.self c.branch-self.result c.args.insn.now _ _ _ _ _ _ c.in-Branch.is c.get-in-Branch.ensures c.value_holds-test.ensures (c.branch-self.ensures (Branch c.in-Branch.op c.in-Branch.ty c.in-Branch.source c.in-Branch.block) refl refl)

pub returns-in-Call : goal.returns-in-Call
returns-in-Call c = call_done c.args.self.now c.call.new.self c.call.result c.args.insn.now _ _ _ c.as_slice.result.now c.in-Call.is c.as_slice.ensures (c.call.ensures (Call c.in-Call.destination c.in-Call.callee c.in-Call.arguments) refl)

pub returns-in-Return : goal.returns-in-Return
returns-in-Return c = return_done c.args.self.now c.give_back.new.self c.give_back.result c.args.insn.now _ c.in-Return.is (c.give_back.ensures (Return c.in-Return.value))
