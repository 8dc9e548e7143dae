use Rattle.std.proofs.Common.{rules, nat_le, length, sym}
use Rattle.std.proofs.lemmas.List.Sorted.{IsPartitionPoint-from_clause}
use Rattle.std.proofs.lemmas.Bool.{ltb-true, ltb-false}
use Rattle.alloc_rules.specs.declared.scan.LifetimePart.{LifetimePart}
use Rattle.binpack_blocks.proofs.Parts.{parted_firsts, first_past, first_at}
use Rattle.binpack_blocks.proofs.wanted.first_behind.Goals as goal

pub returns-in-None : goal.returns-in-None
returns-in-None c =
    let point = IsPartitionPoint-from_clause (λ (p : LifetimePart). nat_le p.first c.args.point) c.args.parts.now c.partition_point-first_left.result c.partition_point-first_left.ensures.partitioned (parted_firsts c.args.parts.now c.requires c.args.point) (λ a r f k. search rules) in
    first_past c.args.parts.now c.requires c.args.point c.partition_point-first_left.result point (ltb-false c.partition_point-first_left.result (length c.args.parts.now) (sym c.in-None.ensures.lookup.0))

pub returns-in-Some : goal.returns-in-Some
returns-in-Some c =
    let point = IsPartitionPoint-from_clause (λ (p : LifetimePart). nat_le p.first c.args.point) c.args.parts.now c.partition_point-first_left.result c.partition_point-first_left.ensures.partitioned (parted_firsts c.args.parts.now c.requires c.args.point) (λ a r f k. search rules) in
    first_at c.args.parts.now c.requires c.args.point c.partition_point-first_left.result c.in-Some.part.now point (ltb-true c.partition_point-first_left.result (length c.args.parts.now) (sym c.in-Some.ensures.lookup.0)) c.in-Some.ensures.lookup.1
