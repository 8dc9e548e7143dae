use Rattle.std.proofs.Common.{arith, ◌≡◌, ◌+◌, ◌/◌, length, ap}
use Rattle.alpha_items.specs.Layout.{sizes}
use Rattle.alpha_items.proofs.Far.{length-sizes}
use Rattle.alpha_asm.specs.model.Sums.{front}
use Rattle.alpha_asm.proofs.Trees.{counted_sums}
use Rattle.alpha_asm.proofs.sums.words_between.Goals as goal

pub loop-range-preserved : goal.loop-range-preserved
loop-range-preserved c = record {
  order = c.rise-range.ensures.order;
  inside = omega (arith, c.rise-range.ensures.less, c.loop-range.invariant.inside);
  words = λ leaves h. c.rise-range.ensures.words leaves _ _ h (c.loop-range.invariant.words leaves h);
}

pub returns : goal.returns
returns c items far h e order inside =
    let long = length-sizes items far e in
    let first : length c.args.sums.now / 2 + c.min-start.result ≡ length items + c.args.start
    = omega (arith, h.room, long, order, inside, c.min-end.ensures, c.min-start.ensures) in
    let last : length c.args.sums.now / 2 + c.min-end.result ≡ length items + c.args.end
    = omega (arith, h.room, long, order, inside, c.min-end.ensures) in
    let walked = c.loop-range.invariant.words (sizes items far) h in
    counted_sums items far c.args.sums.now c.args.start c.args.end c.loop-range.range.left c.loop-range.range.right c.loop-range.range.words h e order inside
    c.loop-range.invariant.order
    (omega (arith, walked, ap (front c.args.sums.now) first, ap (front c.args.sums.now) last))
