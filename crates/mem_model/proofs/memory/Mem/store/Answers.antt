use Rattle.std.proofs.Common.{◌≡◌, None}
use Rattle.mem_model.specs.Memory.{write_fault}
use Rattle.mem_model.proofs.Accesses.{test_at, store_at-fault, store_at-free}
use Rattle.mem_model.proofs.memory.Mem.store.Goals as goal

pub returns-in-Some-clause-err : goal.returns-in-Some-clause-err
returns-in-Some-clause-err c =
    store_at-fault _ _ _ _ _ (test_at (λ n. write_fault c.args.self.now c.args.p n n) _ _ _ _ c.write_fault.ensures.value c.from-size.ensures c.in-Some.is)

pub store_cells-requires-clause-free : goal.store_cells-requires-clause-free
store_cells-requires-clause-free c = test_at (λ n. write_fault c.args.self.now c.args.p n n) _ _ _ _ c.write_fault.ensures.value c.from-size.ensures c.in-None.is

pub returns-in-None-clause-ok : goal.returns-in-None-clause-ok
returns-in-None-clause-ok c =
    let free : write_fault c.args.self.now c.args.p c.args.width c.args.width ≡ None =
    test_at (λ n. write_fault c.args.self.now c.args.p n n) _ _ _ _ c.write_fault.ensures.value c.from-size.ensures c.in-None.is in
    store_at-free _ _ _ _ _ free c.store_cells.ensures
