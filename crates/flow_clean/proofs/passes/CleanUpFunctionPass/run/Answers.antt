use Rattle.flow_clean.proofs.passes.CleanUpFunctionPass.run.Goals as goal

pub returns : goal.returns
returns c = record {
  made = c.in_ok-clean.ensures.made;
  measures = c.in_ok-clean.ensures.measures;
}
