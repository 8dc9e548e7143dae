use Rattle.std.proofs.Common.{arith, ◌∙◌, refl, ◌∷◌}
use Rattle.bk_ilist.proofs.Views.{pairs_same, within, prev_read}
use Rattle.bk_ilist.proofs.list.IndexList.insert_before.Goals as goal

pub index-requires : goal.index-requires
index-requires g c =
    let same = c.self.inside.nodes.ok in
    omega (arith, within _ _ _ _ _ c.self.invariant.0 (pairs_same _ _ c.self.view_is) c.requires.place)

pub insert_between-requires-clause-place : goal.insert_between-requires-clause-place
insert_between-requires-clause-place g c =
    let has = c.requires.place in
    record {
      before = has.before;
      after = (c.args.id, has.item) ∷ has.after;
      split = has.split;
      prev_is = c.id-prev.ensures.value ∙ prev_read _ _ _ _ has.before has.after c.args.id has.item _ c.self.invariant.0 (pairs_same _ _ c.self.view_is) has.split c.index.ensures;
      next_is = refl;
    }

pub returns-clause-pairs : goal.returns-clause-pairs
returns-clause-pairs g c before after item split =
    c.insert_between.ensures.pairs before ((c.args.id, item) ∷ after) split
    (c.id-prev.ensures.value ∙ prev_read _ _ _ _ before after c.args.id item _ c.self.invariant.0 (pairs_same _ _ c.self.view_is) split c.index.ensures)
    refl
