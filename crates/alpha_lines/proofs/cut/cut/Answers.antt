-- The first mark cuts the text.
use Rattle.std.proofs.Common.{◌<◌, length, suc, add-one, sym, arith}
use Rattle.alpha_lines.proofs.Parts.{cut_at, cut_none, take_rest}
use Rattle.alpha_lines.proofs.cut.cut.Goals as goal

pub returns-then-b-mark : goal.returns-then-b-mark
returns-then-b-mark c =
    let within : c.loop-i.i < length c.args.s.now = omega arith in
    rw (add-one, take_rest c.args.s.now (suc c.loop-i.i)) (sym (cut_at c.args.mark c.args.s.now c.loop-i.i c.loop-i.invariant within c.if-b-mark.true))

pub returns : goal.returns
returns c = sym (cut_none c.args.mark c.args.s.now (λ k l. c.loop-i.invariant k (omega arith)))
