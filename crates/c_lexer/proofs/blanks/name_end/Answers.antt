use Rattle.std.proofs.Common.{◌≡◌, ◌<◌, drop, get_or, Some, sym, ap, ◌∙◌}
use Rattle.c_lexer.specs.Blanks.{name_end, name_item}
use Rattle.c_lexer.proofs.QuoteEnds.{quote_end_more, quote_end_found, quote_end_over}
use Rattle.c_lexer.proofs.Names.{name_item_at, name_item_some}
use Rattle.c_lexer.proofs.blanks.name_end.Goals as goal

pub returns-then-s-at-eq34-clause-value : goal.returns-then-s-at-eq34-clause-value
returns-then-s-at-eq34-clause-value c = quote_end_found name_item c.args.s.now c.loop-at.at (name_end c.args.s.now) c.loop-at-test.true c.if-s-at-eq34.true c.loop-at.invariant

pub loop-at-preserved : goal.loop-at-preserved
loop-at-preserved c =
    let s = c.args.s.now in
    let n = c.name_item_len-at.result in
    let item : name_item (drop c.loop-at.at s) ≡ Some n = name_item_at s c.loop-at.at c.loop-at-test.true ∙ ap Some (sym c.name_item_len-at.ensures) in
    let some : 0 < n = name_item_some (get_or s c.loop-at.at 0) n c.name_item_len-at.ensures in
    quote_end_more name_item s c.loop-at.at n (name_end s) c.loop-at-test.true c.if-s-at-eq34.false item some c.loop-at.invariant

pub returns-clause-value : goal.returns-clause-value
returns-clause-value c = quote_end_over name_item c.args.s.now c.loop-at.at (name_end c.args.s.now) c.loop-at-test.false c.loop-at.invariant
