use Rattle.std.proofs.Common.{rules, ◌∙◌}
use Rattle.std.proofs.lemmas.Fn.{filter_same}
use Rattle.mem_model.proofs.EntryLists.{keeps_filter}
use Rattle.mem_model.proofs.entries.make_room.Goals as goal

pub returns-in_err-reserve : goal.returns-in_err-reserve
returns-in_err-reserve c = keeps_filter _ _ (c.reserve.ensures.items ∙ filter_same _ _ _ (λ x b f k. search rules) _ _ c.retain.ensures.filtered)

pub returns-in_ok-reserve : goal.returns-in_ok-reserve
returns-in_ok-reserve c = keeps_filter _ _ (c.reserve.ensures.items ∙ filter_same _ _ _ (λ x b f k. search rules) _ _ c.retain.ensures.filtered)

pub returns-else-len-room-2 : goal.returns-else-len-room-2
returns-else-len-room-2 c = keeps_filter _ _ (filter_same _ _ _ (λ x b f k. search rules) _ _ c.retain.ensures.filtered)
