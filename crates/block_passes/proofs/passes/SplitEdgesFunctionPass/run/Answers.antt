use Rattle.block_pass_laws.proofs.BackLaws.Splits.{splits_grow}
use Rattle.block_passes.proofs.Kept.{passed_keeps}
use Rattle.block_passes.proofs.passes.SplitEdgesFunctionPass.run.Goals as goal

pub returns : goal.returns
returns c =
    let a = c.in_ok-split.ensures in
    let f = c.args.f in
    let g = c.in_ok-split.split in
    record {
      kept = passed_keeps 1 f g (record {
        name = a.name;
        params = a.params;
        temps = a.temps;
        objects = a.objects;
        contents = a.contents;
        walks = a.walks;
        back = a.back;
        sizes = splits_grow f.blocks g.blocks a.added a.edges;
      });
      reached = a.reached;
      split = a.split;
    }
