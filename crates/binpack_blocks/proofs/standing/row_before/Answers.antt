use Rattle.std.proofs.Common.{◌∷◌}
use Rattle.alloc_rules.specs.Visits.{holds_fixed_value}
use Rattle.binpack_blocks.proofs.Rests.{has_last, one_longer}
use Rattle.binpack_blocks.proofs.standing.row_before.Goals as goal

pub loop-r-preserved : goal.loop-r-preserved
loop-r-preserved c = record {
  size = one_longer c.loop-r.row c.push.new.self c.stands_before.result c.loop-r.r c.in_ok-push.ensures.ok c.loop-r.invariant.size;
  each = λ rest stands q w. has_last (λ q. holds_fixed_value q (c.args.insn.now ∷ rest)) c.loop-r.row c.push.new.self c.stands_before.result c.loop-r.r q c.in_ok-push.ensures.ok c.loop-r.invariant.size w
      (λ low. c.loop-r.invariant.each rest stands q low) (c.stands_before.ensures rest stands);
}
