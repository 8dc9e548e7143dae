use Rattle.std.proofs.Common.{◌-◌, length, drop, take, arith, length-take}
use Rattle.c_lexer.proofs.Items.{escape_some, escape_within}
use Rattle.c_lexer.proofs.literals.item_at.Goals as goal

pub returns-in-92-clause-some : goal.returns-in-92-clause-some
returns-in-92-clause-some c = escape_some (take (length c.args.s.now - 1) (drop 1 c.args.s.now)) c.escape_at.result c.escape_at.ensures

pub returns-in-92-clause-within : goal.returns-in-92-clause-within
returns-in-92-clause-within c =
    let s = c.args.s.now in
    let rest = take (length s - 1) (drop 1 s) in
    escape_within rest (length s) c.escape_at.result (omega (arith, length-take (length s - 1) (drop 1 s))) c.escape_at.ensures
