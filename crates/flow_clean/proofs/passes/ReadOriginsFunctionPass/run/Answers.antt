use Rattle.flow_clean.proofs.BothPasses.{stay_falls}
use Rattle.flow_clean.proofs.passes.ReadOriginsFunctionPass.run.Goals as goal

pub returns : goal.returns
returns c = record {
  made = c.in_ok-copied.ensures.made;
  measures = stay_falls c.args.f.now c.in_ok-copied.copied c.in_ok-copied.ensures.measures;
}
