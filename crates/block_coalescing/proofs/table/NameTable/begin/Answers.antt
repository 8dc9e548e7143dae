use Rattle.std.proofs.Common.{◌<◌, arith}
use Rattle.block_coalescing.specs.model.Tables.{name_of}
use Rattle.block_coalescing.proofs.Entries.{top_names}
use Rattle.block_coalescing.proofs.table.NameTable.begin.Goals as goal

pub returns-in-Some : goal.returns-in-Some
unfolding name_of
returns-in-Some c top =
    let t = c.args.self.now in
    let later : c.args.self.now.clock < c.in-Some.now = omega (arith, c.in-Some.ensures) in
    top_names t.names.items t.since.items t.written.items t.start t.clock top t.begun t.timely c.in-Some.now later
