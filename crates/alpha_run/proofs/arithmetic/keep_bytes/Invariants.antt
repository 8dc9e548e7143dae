use Rattle.std.proofs.Common.{◌≡◌, ◌-◌, ◌*◌, ◌/◌, ◌^◌, ◌≤◌}
use Rattle.alpha_isa.specs.Arithmetic.{kept_bytes}
use Rattle.alpha_run.proofs.arithmetic.keep_bytes.Given as goal

abbrev pub invariant-loop-place : goal.invariant-loop-place
invariant-loop-place l = record {
  within : l.place ≤ 8;
  kept : l.kept ≡ kept_bytes (8 - l.place) (l.word / 2 ^ (8 * l.place)) (l.mask / 2 ^ l.place);
}

abbrev pub decreases-loop-place : goal.decreases-loop-place
decreases-loop-place l = l.place
