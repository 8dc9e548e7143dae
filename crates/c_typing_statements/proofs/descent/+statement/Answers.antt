use Rattle.std.proofs.Common.{sym, ap, ◌∙◌}
use Rattle.c_typing_statement_parts.specs.Parts.{operand_of}
use Rattle.c_typing_statements.proofs.Forms.{block_done, switch_done}
use Rattle.c_typing_statements.proofs.descent.+statement.Goals as goal

pub statement-returns-in-Block : goal.statement-returns-in-Block
statement-returns-in-Block t c =
    block_done c.args.of.now c.args.jumps c.args.s.now c.in-Block.list c.as_slice.result.now (c.args.locals.now, (c.args.env.now, c.args.notes.now))
    (c.statement_block.new.locals, (c.statement_block.new.env, c.statement_block.new.notes)) c.statement_block.result
    c.in-Block.is c.as_slice.ensures c.statement_block.ensures

pub statement-returns-in_ok-o-in-Switch : goal.statement-returns-in_ok-o-in-Switch
statement-returns-in_ok-o-in-Switch t c =
    switch_done c.args.of.now c.args.jumps c.in_switch-jumps.result c.args.s.now c.in-Switch.operand c.in-Switch.sections c.as_slice-in-Switch.result.now c.args.locals.now (c.args.env.now, c.args.notes.now)
    (c.operand_of.new.env, c.operand_of.new.notes) c.in_ok-o-in-Switch.o (c.switch_statement.new.locals, (c.switch_statement.new.env, c.switch_statement.new.notes)) c.switch_statement.result
    c.in-Switch.is c.as_slice-in-Switch.ensures c.in_switch-jumps.ensures
    (ap (λ x. operand_of x (c.args.env.now, c.args.notes.now)) (sym c.deref-in-Switch.ensures) ∙ c.in_ok-o-in-Switch.ensures) c.switch_statement.ensures
