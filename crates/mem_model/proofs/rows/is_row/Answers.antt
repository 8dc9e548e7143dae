use Rattle.std.proofs.Common.{sym, ◌∙◌, arith}
use Rattle.mem_model.proofs.RowValues.{cells_eq-read, rows-step, rows-alike}
use Rattle.mem_model.proofs.rows.is_row.Goals as goal

pub returns-then-not-is_same : goal.returns-then-not-is_same
returns-then-not-is_same c = sym (cells_eq-read c.args.cells.now c.args.row.now c.args.at c.loop-k.k c.get.result c.requires.within c.loop-k-test.true c.get.ensures (sym c.is_same.ensures ∙ c.if-not-is_same.true))

pub loop-k-preserved : goal.loop-k-preserved
loop-k-preserved c = rows-step c.args.cells.now c.args.row.now c.args.at c.loop-k.k c.get.result c.loop-k-test.true c.get.ensures (sym c.is_same.ensures ∙ c.if-not-is_same.false) c.loop-k.invariant

pub returns : goal.returns
returns c = sym (rows-alike _ c.args.row.now c.loop-k.k (omega arith) c.loop-k.invariant)
