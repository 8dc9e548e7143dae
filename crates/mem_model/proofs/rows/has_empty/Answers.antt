use Rattle.std.proofs.Common.{sym, ap}
use Rattle.mem_model.specs.Cells.{is_empty}
use Rattle.mem_model.proofs.RowValues.{list_any-row, list_any-step, is_empty-other}
use Rattle.mem_model.proofs.rows.has_empty.Goals as goal

pub returns-in-Empty : goal.returns-in-Empty
returns-in-Empty c = sym (list_any-row c.args.cells.now c.args.at c.args.width c.loop-k.k c.get.result c.requires.within c.loop-k-test.true c.get.ensures (ap is_empty c.in-Empty.is))

pub loop-k-preserved : goal.loop-k-preserved
loop-k-preserved c = list_any-step c.args.cells.now c.args.at c.loop-k.k c.get.result c.get.ensures c.loop-k.invariant (is_empty-other c.get.result c.in_default.not-Empty)
