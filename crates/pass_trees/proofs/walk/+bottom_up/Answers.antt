use Rattle.std.proofs.Common.{rules, arith}
use Rattle.pass_trees.proofs.Up.{at_start, child_lower, kept_length, next_reached, is_up, refines_first, height_kept}
use Rattle.pass_trees.proofs.walk.+bottom_up.Goals as goal

pub take-child-requires : goal.take-child-requires
take-child-requires g t c = omega (arith, c.loop-k.invariant.as_many, c.arity-k-end.ensures, c.loop-k-test.true)

pub bottom_up-requires : goal.bottom_up-requires
bottom_up-requires g t c κs within =
    let below = child_lower _ _ _ _ _ g.met.R.Node.Tree.lawful _ _ _ _ _ c.loop-k.invariant _ c.take-child.ensures.child in
    (first_of (omega (arith, below, c.decreases), search (rules, below, c.decreases)), within)

pub put-requires : goal.put-requires
put-requires g t c =
    let kept = kept_length _ _ _ _ _ g.met.R.Node.Tree.lawful _ _ _ _ c.take-child.ensures.child c.take-child.ensures.left in
    omega (arith, kept, c.loop-k.invariant.as_many, c.arity-k-end.ensures, c.loop-k-test.true)

pub loop-k-init : goal.loop-k-init
loop-k-init g t c = at_start _ _ _ _ _ g.met.R.Node.Tree.lawful _ _ _

pub loop-k-preserved : goal.loop-k-preserved
loop-k-preserved g t c =
    next_reached _ _ _ _ _ g.met.R.Node.Tree.lawful _ _ _ _ _ c.loop-k.invariant _ _ _ _ c.take-child.ensures.child
    c.take-child.ensures.left c.in_ok-made.ensures.is c.in_ok-made.ensures.refines c.in_ok-made.ensures.height c.put.ensures

pub returns-clause-is : goal.returns-clause-is
returns-clause-is g t c =
    is_up _ _ _ _ _ g.met.R.Node.Tree.lawful (g.R.Rule.turned c.args.rule.now) _ _ _ _ c.loop-k.invariant _ c.apply.ensures
    (omega (arith, c.arity-k-end.ensures, c.loop-k-test.false))

pub returns-clause-refines : goal.returns-clause-refines
returns-clause-refines g t c =
    refines_first _ _ _ _ _ g.met.R.Node.Tree.lawful (g.R.Rule.turned c.args.rule.now) _ _ _ _ c.loop-k.invariant _ c.apply.ensures
    (g.met.R.Rule.refines_node c.args.rule.now)

pub returns-clause-height : goal.returns-clause-height
returns-clause-height g t c =
    height_kept _ _ _ _ _ g.met.R.Node.Tree.lawful (g.R.Rule.turned c.args.rule.now) _ _ _ _ c.loop-k.invariant _ c.apply.ensures
    (g.met.R.Rule.grows c.args.rule.now)
