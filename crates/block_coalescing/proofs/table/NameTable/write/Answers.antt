use Rattle.std.proofs.Common.{◌<◌, ◌≤◌, arith, rules, length, Some, refl}
use Rattle.block_coalescing.specs.model.Tables.{name_of}
use Rattle.block_coalescing.proofs.Entries.{write_names}
use Rattle.block_coalescing.proofs.table.NameTable.write.Goals as goal

pub returns-in-Some : goal.returns-in-Some
unfolding name_of
returns-in-Some c top r p is =
    let t = c.args.self.now in
    let within : c.args.temp < length c.args.self.now.names.items = search rules in
    let room : c.args.name < length c.args.self.now.names.items = search rules in
    let within' : c.args.temp < length c.args.self.now.since.items = omega (arith, within, t.as_many) in
    let room' : c.args.name < length c.args.self.now.written.items = omega (arith, room, t.written_too) in
    let after : c.args.self.now.clock < c.in-Some.now = omega (arith, c.in-Some.ensures) in
    let later : c.args.self.now.clock ≤ c.in-Some.now = omega (arith, after) in
    write_names t.names.items t.since.items t.written.items t.start t.clock top t.begun t.timely c.args.temp (Some c.args.name) c.in-Some.now later within within' c.args.name refl after room' r p is
