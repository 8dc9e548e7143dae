use Rattle.std.proofs.Common.{◌≡◌, suc, ◌<◌, drop, get_or, arith, sym, ap, ◌∙◌}
use Rattle.std.proofs.lemmas.List.{drop_all}
use Rattle.std.specs.Prelude.{fold}
use Rattle.c_lexer.specs.Literals.{digit_step, value_in, byte}
use Rattle.c_lexer.proofs.Values.{fold_more, value_starts, grows, too_large, small}
use Rattle.c_lexer.proofs.literals.value_of.Goals as goal

pub returns-then-value-gt-MOST_BYTE : goal.returns-then-value-gt-MOST_BYTE
returns-then-value-gt-MOST_BYTE c =
    let xs = c.args.digits.now in
    let i = c.loop-b.b-index in
    let step = digit_step c.args.base c.loop-b.value (get_or xs i 0) in
    let same : value_in c.args.base xs ≡ fold (digit_step c.args.base) step (drop (suc i) xs) =
    value_starts c.args.base xs ∙ c.loop-b.invariant.so_far ∙ fold_more (digit_step c.args.base) c.loop-b.value i xs c.loop-b-test.true in
    let large : 255 < step = omega arith in
    sym (too_large (value_in c.args.base xs) (omega (arith, grows c.args.base step (drop (suc i) xs) c.requires.some)))

pub returns : goal.returns
returns c =
    let xs = c.args.digits.now in
    let same : value_in c.args.base xs ≡ c.loop-b.value =
    value_starts c.args.base xs ∙ c.loop-b.invariant.so_far ∙ ap (fold (digit_step c.args.base) c.loop-b.value) (drop_all c.loop-b.b-index xs c.loop-b-test.false) in
    sym (ap byte same ∙ small c.loop-b.value c.loop-b.invariant.small)
