-- Each turn puts a lower byte below those that were kept.
use Rattle.std.proofs.Common.{arith}
use Rattle.alpha_run.proofs.Bytes.{kept_room, kept_next, kept_all}
use Rattle.alpha_run.proofs.arithmetic.keep_bytes.Goals as goal

pub overflow_mul-kept : goal.overflow_mul-kept
overflow_mul-kept c = omega (arith, kept_room c.loop-place.place _ _ c.loop-place.kept c.loop-place.invariant.kept c.loop-place-test.true)

pub overflow_add-kept : goal.overflow_add-kept
overflow_add-kept c = omega (arith, kept_room c.loop-place.place _ _ c.loop-place.kept c.loop-place.invariant.kept c.loop-place-test.true, c.keep_byte.ensures.small)

pub loop-place-preserved : goal.loop-place-preserved
loop-place-preserved c = record {
  within = omega (arith, c.loop-place.invariant.within);
  kept = kept_next c.loop-place.place c.args.word c.args.mask c.loop-place.kept c.keep_byte.result c.loop-place-test.true c.loop-place.invariant.within c.loop-place.invariant.kept c.keep_byte.ensures.value;
}

pub returns : goal.returns
returns c = kept_all c.loop-place.place c.args.word c.args.mask c.loop-place.kept (omega arith) c.loop-place.invariant.kept
