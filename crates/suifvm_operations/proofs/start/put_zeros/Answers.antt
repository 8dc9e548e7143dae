-- Some zeros more.
use Rattle.std.proofs.Common.{◌+◌, ◌≤◌, replicate, rules}
use Rattle.mem_model.specs.declared.value.Cell.TheVariants as cell
use Rattle.suifvm_operations.specs.model.Fills.{Adds}
use Rattle.suifvm_operations.proofs.Loops.{zeros_more}
use Rattle.suifvm_operations.proofs.start.put_zeros.Goals as goal

pub loop-at-preserved : goal.loop-at-preserved
loop-at-preserved c =
    let order : c.args.first ≤ c.loop-at.at + c.min-count.result = search rules in
    let within : c.loop-at.at + c.min-count.result ≤ c.args.end = search rules in
    let zeros : Adds c.loop-at.memory c.put_zero_row.new.memory c.args.object c.loop-at.at (replicate c.min-count.result (cell.Byte 0)) = search rules in record {
      order = order;
      within = within;
      adds = zeros_more c.args.memory.now c.loop-at.memory c.put_zero_row.new.memory c.args.object c.args.first c.loop-at.at c.min-count.result c.loop-at.invariant.order c.loop-at.invariant.adds zeros;
    }
