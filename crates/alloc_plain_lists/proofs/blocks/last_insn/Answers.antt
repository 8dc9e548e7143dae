use Rattle.std.proofs.Common.{sym, ap, ◌∙◌}
use Rattle.pass_core.specs.Functions.{last_of}
use Rattle.cfg.proofs.Lists.{last_has_id, last_item, no_last}
use Rattle.alloc_plain_lists.proofs.blocks.last_insn.Goals as goal

pub get-requires : goal.get-requires
get-requires c = last_has_id c.block.inside.insns.pairs c.in-Some.id (sym c.in-Some.is ∙ c.last.ensures)

pub returns-in-None : goal.returns-in-None
returns-in-None c = sym (no_last c.block.inside.insns.pairs (sym c.in-None.is ∙ c.last.ensures)) ∙ ap last_of c.block.view_is

pub returns-in-Some : goal.returns-in-Some
returns-in-Some c =
    sym (last_item c.block.inside.insns.pairs c.in-Some.id c.get.result.now (sym c.in-Some.is ∙ c.last.ensures) c.get.ensures)
    ∙ ap last_of c.block.view_is
