use Rattle.mem_model.specs.Memory.{copy_fault}
use Rattle.mem_model.proofs.Accesses.{test_at, copy_at-fault, copy_at-free}
use Rattle.mem_model.proofs.memory.Mem.copy.Goals as goal

pub returns-in-Some-clause-err : goal.returns-in-Some-clause-err
returns-in-Some-clause-err c =
    copy_at-fault _ _ _ _ _ _ (test_at (copy_fault c.args.self.now c.args.to c.args.from c.args.size) _ _ _ _ c.copy_fault.ensures.value c.from.ensures c.in-Some.is)

pub returns-in-None-clause-ok : goal.returns-in-None-clause-ok
returns-in-None-clause-ok c =
    copy_at-free _ _ _ _ _ _ (test_at (copy_fault c.args.self.now c.args.to c.args.from c.args.size) _ _ _ _ c.copy_fault.ensures.value c.from.ensures c.in-None.is) c.copy_cells.ensures
