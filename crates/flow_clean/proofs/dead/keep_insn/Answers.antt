use Rattle.std.proofs.Common.{[], refl}
use Rattle.flow_clean.proofs.WantedSets.{kept_now}
use Rattle.flow_clean.proofs.dead.keep_insn.Goals as goal

pub returns : goal.returns
returns c =
    kept_now c.args.insn.now c.in_ok-with_origins.field-0 c.args.kept.now c.push_front.new.block c.args.wanted.now c.step_back.new.wanted [] refl
    c.in_ok-with_origins.ensures c.in_ok-push_front.ensures.ok c.step_back.ensures
