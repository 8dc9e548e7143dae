use Rattle.std.proofs.Common.{◌<◌, length, refl, ap, sym, arith, rules}
use Rattle.mem_model.proofs.Representation.{slice_get-cells_kept, length-cells_kept, mark_at, same_part}
use Rattle.mem_model.proofs.cells.Cells.get.Goals as goal

pub index-requires : goal.index-requires
index-requires c = omega (arith, length-cells_kept c.self.inside.marks.items c.self.inside.pointers, ap length c.self.view_is)

pub overflow_add-homes-in-Stray : goal.overflow_add-homes-in-Stray
overflow_add-homes-in-Stray c = search (arith, length-cells_kept c.self.inside.marks.items c.self.inside.pointers, ap length c.self.view_is)

pub returns-in-Unwritten : goal.returns-in-Unwritten
returns-in-Unwritten c =
    let within : c.args.at < length c.self.inside.marks.items = omega (arith, length-cells_kept c.self.inside.marks.items c.self.inside.pointers, ap length c.self.view_is) in
    slice_get-cells_kept _ _ _ _ _ _ c.self.view_is within (mark_at _ _ _ _ within c.index.ensures c.in-Unwritten.is) refl

pub returns-in-Number : goal.returns-in-Number
returns-in-Number c =
    let within : c.args.at < length c.self.inside.marks.items = omega (arith, length-cells_kept c.self.inside.marks.items c.self.inside.pointers, ap length c.self.view_is) in
    slice_get-cells_kept _ _ _ _ _ _ c.self.view_is within (mark_at _ _ _ _ within c.index.ensures c.in-Number.is) refl

pub returns-in-Home : goal.returns-in-Home
returns-in-Home c =
    let within : c.args.at < length c.self.inside.marks.items = omega (arith, length-cells_kept c.self.inside.marks.items c.self.inside.pointers, ap length c.self.view_is) in
    slice_get-cells_kept _ _ _ _ _ _ c.self.view_is within (mark_at _ _ _ _ within c.index.ensures c.in-Home.is) (same_part _ _ _ _ (sym (search rules)) refl)

pub returns-in-Stray : goal.returns-in-Stray
returns-in-Stray c =
    let within : c.args.at < length c.self.inside.marks.items = omega (arith, length-cells_kept c.self.inside.marks.items c.self.inside.pointers, ap length c.self.view_is) in
    slice_get-cells_kept _ _ _ _ _ _ c.self.view_is within (mark_at _ _ _ _ within c.index.ensures c.in-Stray.is) (same_part _ _ _ _ (sym (search rules)) refl)
