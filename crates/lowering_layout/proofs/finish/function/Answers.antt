-- The blocks are those of a function.
use Rattle.std.proofs.Common.{◌≡◌, ap, max, arith}
use Rattle.lowering_layout.specs.Tops.{blocks_top}
use Rattle.lowering_layout.proofs.Kept.{top_le, is_function}
use Rattle.lowering_layout.proofs.finish.function.Goals as goal

pub overflow_cast-result : goal.overflow_cast-result
overflow_cast-result c =
    omega (arith, c.max.ensures, c.from.ensures, c.in_ok-blocks.ensures.temps, ap blocks_top c.in_ok-blocks.ensures.blocks, top_le c.args.locals c.args.main c.args.code c.requires.locals c.requires.good, c.ranges.params.fits)

pub invariant_of-result : goal.invariant_of-result
invariant_of-result c =
    let top : c.max.result ≡ max c.args.params (blocks_top c.in_ok-blocks.field-0.blocks) = omega (arith, c.max.ensures, c.from.ensures, c.in_ok-blocks.ensures.temps) in
    let h = is_function c.args.locals c.args.params c.max.result c.args.main c.args.code c.in_ok-blocks.field-0.blocks c.requires.size c.requires.good c.in_ok-blocks.ensures.blocks top in
    record { targets = h.targets; straight = h.straight; stops = h.stops; few_blocks = h.few_blocks; few_insns = h.few_insns; registers = h.registers }

pub returns-clause-marks : goal.returns-clause-marks
returns-clause-marks c =
    let top : c.max.result ≡ max c.args.params (blocks_top c.in_ok-blocks.field-0.blocks) = omega (arith, c.max.ensures, c.from.ensures, c.in_ok-blocks.ensures.temps) in
    (is_function c.args.locals c.args.params c.max.result c.args.main c.args.code c.in_ok-blocks.field-0.blocks c.requires.size c.requires.good c.in_ok-blocks.ensures.blocks top).marks
