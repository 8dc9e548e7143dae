use Rattle.std.proofs.Common.{◌<◌, arith, rules, length}
use Rattle.block_coalescing.specs.model.Tables.{name_of}
use Rattle.block_coalescing.proofs.Entries.{old_read, young_read}
use Rattle.block_coalescing.proofs.table.NameTable.name.Goals as goal

pub returns-then-is_member : goal.returns-then-is_member
unfolding name_of
returns-then-is_member c =
    let t = c.args.self.now in
    let room : c.args.temp < length c.args.self.now.names.items = search rules in
    let within : c.args.temp < length c.args.self.now.since.items = omega (arith, room, t.as_many) in
    old_read t.names.items t.since.items t.written.items t.start c.args.top.now c.args.temp c.index-since.result.now within c.index-since.ensures c.standing.result c.if-since-self.true c.if-is_member.ensures c.standing.ensures

pub returns-in-Some : goal.returns-in-Some
unfolding name_of
returns-in-Some c =
    let t = c.args.self.now in
    let room : c.args.temp < length c.args.self.now.names.items = search rules in
    let within : c.args.temp < length c.args.self.now.since.items = omega (arith, room, t.as_many) in
    young_read t.names.items t.since.items t.written.items t.start c.args.top.now c.args.temp c.index-since.result.now within c.index-since.ensures c.standing-in-Some.result c.index.result.now c.in-Some.noted c.if-since-self.false room c.index.ensures c.in-Some.is c.standing-in-Some.ensures
