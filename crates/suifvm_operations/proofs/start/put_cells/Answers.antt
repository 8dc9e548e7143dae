-- Some cells more.
use Rattle.std.proofs.Common.{◌≤◌, length, drop, map, take, rules}
use Rattle.mem_objects.specs.Start.{memory_cell}
use Rattle.suifvm_operations.specs.model.Fills.{Adds}
use Rattle.suifvm_operations.proofs.Loops.{cells_within, cells_more}
use Rattle.suifvm_operations.proofs.start.put_cells.Goals as goal

pub loop-at-preserved : goal.loop-at-preserved
loop-at-preserved c =
    let few : c.in_ok-count.count ≤ length (drop c.loop-at.at c.args.cells.now) = search rules in
    let row : Adds c.loop-at.memory c.put_unit.new.memory c.args.object c.loop-at.at (map memory_cell (take c.in_ok-count.count (drop c.loop-at.at c.args.cells.now))) = search rules in record {
      within = cells_within c.args.cells.now c.loop-at.at c.in_ok-count.count c.loop-at.invariant.within few;
      adds = cells_more c.args.memory.now c.loop-at.memory c.put_unit.new.memory c.args.object c.loop-at.at c.in_ok-count.count c.args.cells.now c.loop-at.invariant.within c.loop-at.invariant.adds row;
    }
