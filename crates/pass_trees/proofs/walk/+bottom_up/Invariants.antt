-- The children below the counter have been replaced by what is made of them.
use Rattle.pass_trees.specs.Up.{up}
use Rattle.pass_trees.proofs.Up.{Reached}
use Rattle.pass_trees.proofs.walk.+bottom_up.Given as goal

abbrev pub decreases-bottom_up : goal.decreases-bottom_up
decreases-bottom_up g l = g.R.Node.Tree.height l.node

abbrev pub invariant-loop-k : goal.invariant-loop-k
invariant-loop-k g l =
    Reached g.R.Node.Tree.children g.R.Node.Tree.with_child g.R.Node.Tree.leaf g.R.Node.Tree.height
    g.R.Node.Tree.refines g.met.R.Node.Tree.lawful
    (λ c. up g.R.Node.Tree.children g.R.Node.Tree.with_child g.R.Node.Tree.height (g.R.Rule.turned l.rule) c)
    g.R.Rule.growth l.fn.node l.k l.node
