use Rattle.std.proofs.Common.{set, ap, refl, ◌∙◌, arith}
use Rattle.mem_model.proofs.TableLaws.{put_slot-value}
use Rattle.mem_model.proofs.table.put_slot.Goals as goal

pub returns-clause-value : goal.returns-clause-value
returns-clause-value c =
    put_slot-value c.use_block.new.ranks c.use_block.new.pointers.items c.args.slot _ c.args.pointer c.use_block.ensures.table (λ e. omega arith) refl (omega arith)
    ∙ ap (λ l. set l c.args.slot c.args.pointer) c.use_block.ensures.same
