use Rattle.flow_clean.proofs.BothPasses.{clean_of, measures_fall}
use Rattle.flow_clean.proofs.passes.clean_function.Goals as goal

pub returns-clause-made : goal.returns-clause-made
returns-clause-made c = clean_of c.args.f.now c.in_ok-live.live c.in_ok-clean.clean c.in_ok-live.ensures.made c.in_ok-clean.ensures.made

pub returns-clause-measures : goal.returns-clause-measures
returns-clause-measures c =
    measures_fall c.args.f.now c.in_ok-live.live c.in_ok-clean.clean c.in_ok-live.ensures.measures c.in_ok-clean.ensures.measures
