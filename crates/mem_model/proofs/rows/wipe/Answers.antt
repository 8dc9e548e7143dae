use Rattle.std.proofs.Common.{sym, arith}
use Rattle.std.proofs.lemmas.List.{replicate_more, length-replicate}
use Rattle.mem_model.specs.declared.value.Cell.TheVariants.{Empty}
use Rattle.mem_model.proofs.RowLaws.{with_row-step}
use Rattle.mem_model.proofs.rows.wipe.Goals as goal

pub loop-k-preserved : goal.loop-k-preserved
loop-k-preserved c = with_row-step _ _ _ _ _ c.args.at c.loop-k.k Empty c.loop-k.invariant c.set.ensures (sym (replicate_more c.loop-k.k Empty)) (length-replicate c.loop-k.k Empty) (omega arith)
