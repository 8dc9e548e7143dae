use Rattle.std.proofs.Common.{sym, rules}
use Rattle.mem_model.proofs.Accesses.{put_row-nothing, put_row-same}
use Rattle.mem_model.proofs.RowValues.{same_ptr}
use Rattle.mem_model.proofs.memory.Mem.copy_cells.Goals as goal

pub returns-then-size-eq0 : goal.returns-then-size-eq0
returns-then-size-eq0 c = sym (put_row-nothing c.args.self.now c.args.to c.args.from c.args.size c.if-size-eq0.true)

pub returns-else-to-from-2 : goal.returns-else-to-from-2
returns-else-to-from-2 c = sym (put_row-same c.args.self.now c.args.to c.args.from c.args.size (same_ptr c.args.to c.args.from (search rules) (search rules)))
