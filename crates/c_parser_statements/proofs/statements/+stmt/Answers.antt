use Rattle.std.proofs.Common.{◌<◌, rules, arith}
use Rattle.std.proofs.lemmas.Grind.{common_steps}
use Rattle.c_parser_statements.proofs.Deeper.{stmt_deeper}
use Rattle.c_parser_statements.proofs.statements.+stmt.Goals as goal

pub stmt-returns-in-Block : goal.stmt-returns-in-Block
stmt-returns-in-Block t c =
    let some : 0 < c.args.depth = omega arith in
    let e = stmt_deeper c.args.scope.now c.args.depth c.args.tokens.now some in
    first_of (search rules, grind (arith, common_steps))
