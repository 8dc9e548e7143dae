-- A row more stands before the rows of the bytes that are left.
use Rattle.std.proofs.Common.{◌≡◌, ◌<◌, ◌++◌, length, arith}
use Rattle.std.proofs.lemmas.Bool.Decides.{nat_tests}
use Rattle.alpha_text.specs.Texts.{ended_lines, hex_lines}
use Rattle.alpha_text.proofs.Rows.{row_pushed, rows_pushed}
use Rattle.alpha_text.proofs.print.push_rows.Goals as goal

pub loop-rest-preserved : goal.loop-rest-preserved
loop-rest-preserved c =
    let some : 0 < length c.loop-rest.rest.now = grind (arith, nat_tests, c.is_empty.ensures, c.loop-rest-test.true) in
    row_pushed c.loop-rest.text.items c.push_hex.new.line.items c.push.new.self.items (c.args.text.now.items ++ ended_lines (hex_lines c.args.bytes.now)) c.loop-rest.rest.now c.split_at.result.0.now c.split_at.result.1.now c.min.result
    some c.min.ensures c.split_at.ensures.front c.split_at.ensures.back c.in_ok-push_hex.ensures c.in_ok-push.ensures.items c.loop-rest.invariant

pub returns : goal.returns
returns c =
    let none : length c.loop-rest.rest.now ≡ 0 = grind (arith, nat_tests, c.is_empty.ensures, c.loop-rest-test.false) in
    rows_pushed c.loop-rest.text.items (c.args.text.now.items ++ ended_lines (hex_lines c.args.bytes.now)) c.loop-rest.rest.now none c.loop-rest.invariant
