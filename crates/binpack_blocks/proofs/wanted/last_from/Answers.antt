use Rattle.std.proofs.Common.{rules, nat_lt, length, sym}
use Rattle.std.proofs.lemmas.List.Sorted.{IsPartitionPoint-from_clause}
use Rattle.std.proofs.lemmas.Bool.{ltb-true, ltb-false}
use Rattle.alloc_rules.specs.declared.scan.LifetimePart.{LifetimePart}
use Rattle.binpack_blocks.proofs.Parts.{parted, last_past, last_at}
use Rattle.binpack_blocks.proofs.wanted.last_from.Goals as goal

pub returns-in-None : goal.returns-in-None
returns-in-None c =
    let point = IsPartitionPoint-from_clause (λ (p : LifetimePart). nat_lt p.last c.args.point) c.args.parts.now c.partition_point-first_left.result c.partition_point-first_left.ensures.partitioned (parted c.args.parts.now c.requires c.args.point) (λ a r f k. search rules) in
    last_past c.args.parts.now c.requires c.args.point c.partition_point-first_left.result point (ltb-false c.partition_point-first_left.result (length c.args.parts.now) (sym c.in-None.ensures.lookup.0))

pub returns-in-Some : goal.returns-in-Some
returns-in-Some c =
    let point = IsPartitionPoint-from_clause (λ (p : LifetimePart). nat_lt p.last c.args.point) c.args.parts.now c.partition_point-first_left.result c.partition_point-first_left.ensures.partitioned (parted c.args.parts.now c.requires c.args.point) (λ a r f k. search rules) in
    last_at c.args.parts.now c.requires c.args.point c.partition_point-first_left.result c.in-Some.part.now point (ltb-true c.partition_point-first_left.result (length c.args.parts.now) (sym c.in-Some.ensures.lookup.0)) c.in-Some.ensures.lookup.1
