use Rattle.std.proofs.Common.{rules, nat_le, length, sym, ℕ}
use Rattle.std.proofs.lemmas.List.Sorted.{IsPartitionPoint-from_clause}
use Rattle.std.proofs.lemmas.Bool.{ltb-true, ltb-false}
use Rattle.binpack_blocks.proofs.Parts.{parted_points, point_past, point_found}
use Rattle.binpack_blocks.proofs.wanted.first_above.Goals as goal

pub returns-in-None : goal.returns-in-None
returns-in-None c rise =
    let point = IsPartitionPoint-from_clause (λ (p : ℕ). nat_le p c.args.point) c.args.points.now c.partition_point-first_left.result c.partition_point-first_left.ensures.partitioned (parted_points c.args.points.now rise c.args.point) (λ a r f k. search rules) in
    point_past c.args.points.now rise c.args.point c.partition_point-first_left.result point (ltb-false c.partition_point-first_left.result (length c.args.points.now) (sym c.in-None.ensures.lookup.0))

pub returns-in-Some : goal.returns-in-Some
returns-in-Some c rise =
    let point = IsPartitionPoint-from_clause (λ (p : ℕ). nat_le p c.args.point) c.args.points.now c.partition_point-first_left.result c.partition_point-first_left.ensures.partitioned (parted_points c.args.points.now rise c.args.point) (λ a r f k. search rules) in
    point_found c.args.points.now rise c.args.point c.partition_point-first_left.result c.in-Some.found.now point (ltb-true c.partition_point-first_left.result (length c.args.points.now) (sym c.in-Some.ensures.lookup.0)) c.in-Some.ensures.lookup.1
