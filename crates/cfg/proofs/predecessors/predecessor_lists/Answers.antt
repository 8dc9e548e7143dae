use Rattle.std.proofs.Common.{◌∙◌, []}
use Rattle.cfg.proofs.Sources.{each_of_length, predecessors_done}
use Rattle.cfg.proofs.predecessors.predecessor_lists.Goals as goal

pub add_all-requires-clause-empty : goal.add_all-requires-clause-empty
add_all-requires-clause-empty c = each_of_length _ _ [] (c.as_mut_slice.ensures.value ∙ c.in_ok-lists.ensures)

pub returns : goal.returns
returns c =
    predecessors_done _ _ _ _ _ _ c.args.followers.now c.as_mut_slice.ensures.value c.in_ok-lists.ensures c.add_all.auto.lists c.in_ok-lists.lists.ok.0 c.in_ok-add_all.ensures c.from_vec.ensures
