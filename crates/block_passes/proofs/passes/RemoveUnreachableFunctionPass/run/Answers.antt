use Rattle.block_pass_laws.proofs.BackLaws.Removals.{removals_grow}
use Rattle.block_passes.proofs.Kept.{passed_keeps}
use Rattle.block_passes.proofs.passes.RemoveUnreachableFunctionPass.run.Goals as goal

pub returns : goal.returns
returns c =
    let a = c.in_ok-reached.ensures in
    let f = c.args.f in
    let g = c.in_ok-reached.reached in
    record {
      kept = passed_keeps 0 f g (record {
        name = a.name;
        params = a.params;
        temps = a.temps;
        objects = a.objects;
        contents = a.contents;
        walks = a.walks;
        back = a.back;
        sizes = removals_grow f.blocks g.blocks a.measures a.edges a.blocks;
      });
      reached = a.reached;
    }
