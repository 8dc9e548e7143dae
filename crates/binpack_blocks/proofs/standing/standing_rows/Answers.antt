use Rattle.std.proofs.Common.{◌+◌, ◌∙◌, ap, []}
use Rattle.std.specs.Prelude.{slice_index_or}
use Rattle.binpack_blocks.proofs.Rests.{standing_last, one_longer}
use Rattle.binpack_blocks.proofs.standing.standing_rows.Goals as goal

pub loop-done-preserved : goal.loop-done-preserved
loop-done-preserved c = record {
  size = one_longer c.loop-done.rows c.push-in-loop-done.new.self c.in_ok-row.row (c.loop-done.done + 1) c.in_ok-push-2.ensures.ok c.loop-done.invariant.size;
  rows = standing_last c.args.insns.now c.loop-done.done c.loop-done.rows c.push-in-loop-done.new.self c.row_at.result.now c.in_ok-row.row c.insn_at-insn.result c.loop-done-test.true c.in_ok-push-2.ensures.ok c.loop-done.invariant.size
      c.loop-done.invariant.rows c.insn_at-insn.ensures (c.row_at.ensures ∙ ap (λ z. slice_index_or z c.loop-done.done []) c.as_slice.ensures) c.in_ok-row.ensures;
}
