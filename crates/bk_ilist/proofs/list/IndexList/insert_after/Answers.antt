use Rattle.std.proofs.Common.{arith, ◌∙◌, append_assoc, [], ◌∷◌, ◌++◌}
use Rattle.bk_ilist.proofs.Views.{pairs_same, within, next_read, split_after, last_of_push}
use Rattle.bk_ilist.proofs.list.IndexList.insert_after.Goals as goal

pub index-requires : goal.index-requires
index-requires g c =
    let same = c.self.inside.nodes.ok in
    omega (arith, within _ _ _ _ _ c.self.invariant.0 (pairs_same _ _ c.self.view_is) c.requires.place)

pub insert_between-requires-clause-place : goal.insert_between-requires-clause-place
insert_between-requires-clause-place g c =
    let has = c.requires.place in
    record {
      before = has.before ++ (c.args.id, has.item) ∷ [];
      after = has.after;
      split = split_after _ has.before has.after (c.args.id, has.item) has.split;
      prev_is = last_of_push has.before (c.args.id, has.item);
      next_is = c.id-next.ensures.value ∙ next_read _ _ _ _ has.before has.after c.args.id has.item _ c.self.invariant.0 (pairs_same _ _ c.self.view_is) has.split c.index.ensures;
    }

pub returns-clause-pairs : goal.returns-clause-pairs
returns-clause-pairs g c before after item split =
    c.insert_between.ensures.pairs (before ++ (c.args.id, item) ∷ []) after (split_after _ before after (c.args.id, item) split)
    (last_of_push before (c.args.id, item))
    (c.id-next.ensures.value ∙ next_read _ _ _ _ before after c.args.id item _ c.self.invariant.0 (pairs_same _ _ c.self.view_is) split c.index.ensures)
    ∙ append_assoc before ((c.args.id, item) ∷ []) ((c.insert_between.result, c.args.item) ∷ after)
