use Rattle.c_typing_literals.proofs.DigitSteps.{value_start, value_more}
use Rattle.c_typing_literals.proofs.digits.value_of.Goals as goal

pub loop-b-preserved : goal.loop-b-preserved
loop-b-preserved c = value_more c.args.base c.args.digits.now c.loop-b.b-index c.loop-b.value c.with_digit-value.result c.requires.some c.loop-b-test.true c.loop-b.invariant c.with_digit-value.ensures

pub loop-b-init : goal.loop-b-init
loop-b-init c = value_start c.args.base c.args.digits.now
