use Rattle.std.proofs.Common.{arith, ◌∙◌}
use Rattle.bk_ilist.proofs.Views.{pairs_same, within, next_read}
use Rattle.bk_ilist.proofs.list.IndexList.next.Goals as goal

pub index-requires : goal.index-requires
index-requires g c =
    let same = c.self.inside.nodes.ok in
    omega (arith, within _ _ _ _ _ c.self.invariant.0 (pairs_same _ _ c.self.view_is) c.requires)

pub returns : goal.returns
returns g c before after item split =
    c.id.ensures.value ∙ next_read _ _ _ _ before after c.args.id item _ c.self.invariant.0 (pairs_same _ _ c.self.view_is) split c.index.ensures
