use Rattle.std.proofs.Common.{[], sym, ap, ◌∙◌, set}
use Rattle.std.proofs.lemmas.List.{get_or_default}
use Rattle.lifetime_holes.proofs.Tables.{note_done}
use Rattle.lifetime_holes.proofs.lists.note.Goals as goal

pub returns : goal.returns
returns c =
    note_done c.args.table.now (set c.args.table.now c.args.temp c.replace.new.dest) _ c.args.temp c.args.point
    c.index-table-place.result c.into_vec-items.result.items c.put_point.new.items.items c.requires
    (c.index-table-place.is ∙ get_or_default c.args.table.now c.args.temp c.index-table-place.result [] c.requires)
    (c.into_vec-items.ensures ∙ c.replace.ensures.value ∙ sym c.index-table-place.is) (ap (set c.args.table.now c.args.temp) (c.replace.ensures.after ∙ c.new.ensures))
    c.in_ok-put_point.ensures (ap (set (set c.args.table.now c.args.temp c.replace.new.dest) c.args.temp) c.from_vec.ensures)
