use Rattle.block_passes.specs.Keeps.{Keeps}
use Rattle.block_passes.proofs.Whole.{each_small, all_small, labels_below}
use Rattle.block_passes.proofs.programs.clean_and_split.Goals as goal

pub remove_unreachable_blocks-requires : goal.remove_unreachable_blocks-requires
remove_unreachable_blocks-requires c = each_small c.args.program.functions c.requires.few

pub coalesce_temporaries-requires : goal.coalesce_temporaries-requires
coalesce_temporaries-requires c = all_small c.args.program c.in_ok-reached.reached c.in_ok-reached.ensures.keeps c.requires.few

pub split_critical_edges-requires : goal.split_critical_edges-requires
split_critical_edges-requires c =
    let kept : Keeps 0 c.args.program c.in_ok-coalesced.coalesced =
    c.keeps_is_transitive.ensures 0 0 c.args.program c.in_ok-reached.reached c.in_ok-coalesced.coalesced c.in_ok-reached.ensures.keeps
    c.in_ok-coalesced.ensures.keeps in
    all_small c.args.program c.in_ok-coalesced.coalesced kept c.requires.few

pub returns-clause-keeps : goal.returns-clause-keeps
returns-clause-keeps c =
    let kept : Keeps 0 c.args.program c.in_ok-coalesced.coalesced =
    c.keeps_is_transitive.ensures 0 0 c.args.program c.in_ok-reached.reached c.in_ok-coalesced.coalesced c.in_ok-reached.ensures.keeps
    c.in_ok-coalesced.ensures.keeps in
    c.keeps_is_transitive.ensures 0 1 c.args.program c.in_ok-coalesced.coalesced c.in_ok-split.split kept c.in_ok-split.ensures.keeps

pub returns-clause-labels : goal.returns-clause-labels
returns-clause-labels c = labels_below c.args.program.functions c.in_ok-split.split.functions (returns-clause-keeps c).functions c.requires.few
