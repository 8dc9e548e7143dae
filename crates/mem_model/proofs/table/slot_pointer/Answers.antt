use Rattle.std.proofs.Common.{ℕ, ◌/◌, ◌%◌, sym, ap, ◌∙◌}
use Rattle.std.proofs.lemmas.List.{get_or_past}
use Rattle.mem_model.specs.model.Table.{pointer_of_rank}
use Rattle.mem_model.proofs.TableLaws.{pointer_at-table, pointer_of_rank-none, pointer_of_rank-some}
use Rattle.mem_model.proofs.table.slot_pointer.Goals as goal

pub returns-then-block-ranks : goal.returns-then-block-ranks
returns-then-block-ranks c =
    sym (pointer_at-table c.args.ranks.now c.args.pointers.now c.args.slot
    ∙ ap (λ (r : ℕ). pointer_of_rank c.args.pointers.now r (c.args.slot % 8)) (get_or_past c.args.ranks.now (c.args.slot / 8) 0 c.if-block-ranks.true))

pub returns-then-rank-eq0 : goal.returns-then-rank-eq0
returns-then-rank-eq0 c =
    sym (pointer_at-table c.args.ranks.now c.args.pointers.now c.args.slot ∙ pointer_of_rank-none c.args.pointers.now _ (c.args.slot % 8) c.if-rank-eq0.true)

pub returns : goal.returns
returns c =
    sym (pointer_at-table c.args.ranks.now c.args.pointers.now c.args.slot ∙ pointer_of_rank-some c.args.pointers.now _ (c.args.slot % 8) c.if-rank-eq0.false)
