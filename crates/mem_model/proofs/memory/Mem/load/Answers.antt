use Rattle.std.proofs.Common.{◌≡◌, None, sym, ◌∙◌}
use Rattle.mem_model.specs.Memory.{read_fault}
use Rattle.mem_model.proofs.Accesses.{test_at, load_at-fault, load_at-free}
use Rattle.mem_model.proofs.memory.Mem.load.Goals as goal

pub returns-in-Some : goal.returns-in-Some
returns-in-Some c =
    sym (load_at-fault _ _ _ _ _ (test_at (λ n. read_fault c.args.self.now c.args.p n n) _ _ _ _ c.read_fault.ensures.value c.from-size.ensures c.in-Some.is))

pub load_cells-requires-clause-free : goal.load_cells-requires-clause-free
load_cells-requires-clause-free c = test_at (λ n. read_fault c.args.self.now c.args.p n n) _ _ _ _ c.read_fault.ensures.value c.from-size.ensures c.in-None.is

pub returns-in-None : goal.returns-in-None
returns-in-None c =
    let free : read_fault c.args.self.now c.args.p c.args.width c.args.width ≡ None =
    test_at (λ n. read_fault c.args.self.now c.args.p n n) _ _ _ _ c.read_fault.ensures.value c.from-size.ensures c.in-None.is in
    c.load_cells.ensures ∙ sym (load_at-free _ _ _ _ free)
