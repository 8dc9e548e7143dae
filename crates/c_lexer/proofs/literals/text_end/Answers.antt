use Rattle.std.proofs.Common.{arith, sym, ◌∙◌, length-take, length, drop, take, ◌≤◌, ◌-◌}
use Rattle.c_lexer.specs.Literals.{text_end, text_item}
use Rattle.c_lexer.proofs.QuoteEnds.{quote_end_more, quote_end_found, quote_end_broken, quote_end_over}
use Rattle.c_lexer.proofs.Items.{text_item_some, text_item_none, item_fits}
use Rattle.c_lexer.proofs.Rest.{rest_is}
use Rattle.c_lexer.proofs.literals.text_end.Goals as goal

pub returns-then-s-at-eq34-clause-value : goal.returns-then-s-at-eq34-clause-value
returns-then-s-at-eq34-clause-value c =
    quote_end_found text_item c.args.s.now c.loop-at.at (text_end c.args.s.now) c.loop-at-test.true c.if-s-at-eq34.true c.loop-at.invariant.so_far

pub returns-in-None-clause-value : goal.returns-in-None-clause-value
returns-in-None-clause-value c =
    let s = c.args.s.now in
    let at = c.loop-at.at in
    quote_end_broken text_item s at (text_end s) c.loop-at-test.true c.if-s-at-eq34.false
    (text_item_none (take (length s - at) (drop at s)) (drop at s) c.item_at.result (rest_is s at) c.item_at.ensures.value c.in-None.is) c.loop-at.invariant.so_far

pub loop-at-preserved : goal.loop-at-preserved
loop-at-preserved c =
    let s = c.args.s.now in
    let at = c.loop-at.at in
    let item = c.in-Some.item in
    let rest = take (length s - at) (drop at s) in
    let fits = item_fits 34 rest item (sym c.item_at.ensures.value ∙ c.in-Some.is) in
    let found = text_item_some rest (drop at s) c.item_at.result item (rest_is s at) c.item_at.ensures.value c.in-Some.is in
    let size : length rest ≤ length s - at = omega (arith, length-take (length s - at) (drop at s)) in
    record {
      in_range = omega arith;
      so_far = quote_end_more text_item s at item.len (text_end s) c.loop-at-test.true c.if-s-at-eq34.false found (omega (arith, fits.some)) c.loop-at.invariant.so_far;
    }

pub returns-clause-value : goal.returns-clause-value
returns-clause-value c = quote_end_over text_item c.args.s.now c.loop-at.at (text_end c.args.s.now) c.loop-at-test.false c.loop-at.invariant.so_far
