use Rattle.block_passes.proofs.Whole.{still_reached, coalesced_keeps}
use Rattle.block_passes.proofs.passes.CoalesceFunctionPass.run.Goals as goal

pub returns : goal.returns
returns c =
    let f = c.args.f in
    let g = c.in_ok-coalesced.coalesced in
    let a = c.in_ok-coalesced.ensures in
    record {
      keeps = coalesced_keeps f g a.coalesced a.shape;
      coalesced = a.coalesced;
      reached = still_reached f g a.shape;
    }
