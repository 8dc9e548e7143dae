use Rattle.std.proofs.Common.{◌+◌, ◌*◌, ◌^◌, ◌<◌, sym, arith, rules}
use Rattle.mem_model.proofs.RowValues.{number-step, number-no_byte, number_of-none, number_bound, number_fits}
use Rattle.mem_model.proofs.rows.+number_at.Goals as goal

pub returns-then-width-eq0-clause-value : goal.returns-then-width-eq0-clause-value
returns-then-width-eq0-clause-value t c = sym (number_of-none _ c.args.width c.if-width-eq0.true)

pub returns-in_default : goal.returns-in_default
returns-in_default t c = record { value = number-no_byte c.args.cells.now c.args.at c.args.width c.get.result c.get.ensures c.in_default.not-Byte (omega arith); bound = tt }

pub returns-in_err-high-clause-value : goal.returns-in_err-high-clause-value
returns-in_err-high-clause-value t c = rw c.from_residual.ensures (number-step c.args.cells.now c.args.at c.args.width c.in-Byte.byte c.get.result _ c.get.ensures c.in-Byte.is (omega arith) c.in_err-high.ensures.value)

pub overflow_mul-result : goal.overflow_mul-result
overflow_mul-result t c =
    let b : 0 + 256 * c.in_ok-high.high < 2 ^ (8 * c.args.width) = number_bound c.args.width 0 c.in_ok-high.high (omega arith) (omega arith) c.in_ok-high.ensures.bound in
    let f : 0 + 256 * c.in_ok-high.high < 2 ^ 64 = number_fits c.args.width _ c.requires.narrow b in
    omega arith

pub overflow_add-result : goal.overflow_add-result
overflow_add-result t c =
    let byte : c.in-Byte.byte < 256 = search rules in
    let b : c.from.result + 256 * c.in_ok-high.high < 2 ^ (8 * c.args.width) = number_bound c.args.width c.from.result c.in_ok-high.high (omega arith) (omega arith) c.in_ok-high.ensures.bound in
    let f : c.from.result + 256 * c.in_ok-high.high < 2 ^ 64 = number_fits c.args.width _ c.requires.narrow b in
    omega arith

pub returns-clause-value : goal.returns-clause-value
returns-clause-value t c = rw c.from.ensures (number-step c.args.cells.now c.args.at c.args.width c.in-Byte.byte c.get.result _ c.get.ensures c.in-Byte.is (omega arith) c.in_ok-high.ensures.value)

pub returns-clause-bound : goal.returns-clause-bound
returns-clause-bound t c =
    let byte : c.in-Byte.byte < 256 = search rules in
    number_bound c.args.width c.from.result c.in_ok-high.high (omega arith) (omega arith) c.in_ok-high.ensures.bound
