use Rattle.std.proofs.Common.{sym, ◌∙◌}
use Rattle.mem_model.proofs.Accesses.{init_at-fault, init_at-free}
use Rattle.mem_model.proofs.memory.Mem.init.Goals as goal

pub returns-in-Some-clause-err : goal.returns-in-Some-clause-err
returns-in-Some-clause-err c = init_at-fault _ _ _ _ (sym c.range_fault.ensures.value ∙ c.in-Some.is)

pub returns-in-None-clause-ok : goal.returns-in-None-clause-ok
returns-in-None-clause-ok c = init_at-free _ _ _ _ (sym c.range_fault.ensures.value ∙ c.in-None.is) c.init_cells.ensures
