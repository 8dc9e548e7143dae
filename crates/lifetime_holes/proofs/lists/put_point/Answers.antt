use Rattle.std.proofs.Common.{rules}
use Rattle.lifetime_holes.proofs.Tables.{point_there}
use Rattle.lifetime_holes.proofs.lists.put_point.Goals as goal

pub returns-else-last-point : goal.returns-else-last-point
returns-else-last-point c =
    point_there c.args.items.now.items c.pop.new.self.items c.push-in-Some.new.self.items c.in-Some.last c.args.point
    (search rules) c.if-last-point.false c.in_ok-push-in-Some.ensures.items
