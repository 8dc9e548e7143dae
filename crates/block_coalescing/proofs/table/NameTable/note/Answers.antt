use Rattle.std.proofs.Common.{◌<◌, ◌≤◌, arith, rules, length}
use Rattle.block_coalescing.specs.model.Tables.{name_of}
use Rattle.block_coalescing.proofs.Entries.{note_names}
use Rattle.block_coalescing.proofs.table.NameTable.note.Goals as goal

pub returns : goal.returns
unfolding name_of
returns c top r p is =
    let t = c.args.self.now in
    let within : c.args.temp < length c.args.self.now.names.items = search rules in
    let within' : c.args.temp < length c.args.self.now.since.items = omega (arith, within, t.as_many) in
    let later : c.args.self.now.clock ≤ c.args.self.now.clock = omega arith in
    note_names t.names.items t.since.items t.written.items t.start t.clock top t.begun t.timely c.args.temp c.args.name t.clock later within within' r p is
