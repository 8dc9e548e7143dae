-- The arguments one after the other.
use Rattle.call_words.proofs.Parses.{next}
use Rattle.call_words.proofs.line.command_line.Goals as goal

pub returns : goal.returns
returns c =
    next _ _ _ _ _ c.in_ok-with_size.ensures c.option_arg-size.ensures.local
    (next _ _ _ _ _ c.in_ok-with_seed.ensures c.option_arg-seed.ensures.local
    (next _ _ _ _ _ c.in_ok-with_budget.ensures c.option_arg-budget.ensures.local
    (next _ _ _ _ _ c.in_ok-with_stack.ensures c.option_arg-stack.ensures.local
    (next _ _ _ _ _ c.in_ok-with_allocator.ensures c.option_arg-allocator.ensures.local
    (next _ _ _ _ _ c.in_ok-with_pass.ensures c.option_arg-pass.ensures.local
    (next _ _ _ _ _ c.in_ok-with_file.ensures c.file_arg-file.ensures.local
    (next _ _ _ _ _ c.in_ok-with_command.ensures c.command_arg-command.ensures.local
    c.bare_line.ensures
    c.command_arg-command.ensures.rule)
    c.file_arg-file.ensures.rule)
    c.option_arg-pass.ensures.rule)
    c.option_arg-allocator.ensures.rule)
    c.option_arg-stack.ensures.rule)
    c.option_arg-budget.ensures.rule)
    c.option_arg-seed.ensures.rule)
    c.option_arg-size.ensures.rule
