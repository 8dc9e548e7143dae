use Rattle.std.proofs.Common.{[], refl, sym, ap, ◌∙◌, append-nil}
use Rattle.bk_ilist.specs.Listing.{last_id}
use Rattle.bk_ilist.proofs.Views.{pairs_same}
use Rattle.bk_ilist.proofs.list.IndexList.push_back.Goals as goal

pub insert_between-requires-clause-place : goal.insert_between-requires-clause-place
insert_between-requires-clause-place g c = record {
  before = c.args.self.now.pairs;
  after = [];
  split = sym (append-nil c.args.self.now.pairs);
  prev_is = c.id-prev.ensures.value ∙ c.self.invariant.0.ends ∙ ap last_id (pairs_same _ _ c.self.view_is);
  next_is = refl;
}
