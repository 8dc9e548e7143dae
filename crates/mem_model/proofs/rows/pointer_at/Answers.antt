use Rattle.std.proofs.Common.{◌∷◌, [], sym, ap, ◌∙◌}
use Rattle.mem_model.specs.Cells.{first_pointer}
use Rattle.mem_model.proofs.RowValues.{is_null, is_whole, first_pointer-row, first_pointer-other, pointer_of-null, pointer_of-part, pointer_of-broken, pointer_of-none}
use Rattle.mem_model.proofs.rows.pointer_at.Goals as goal

pub returns-then-is_row : goal.returns-then-is_row
returns-then-is_row c = sym (pointer_of-null _ (is_null _ _ _ _ c.bytes.ensures c.is_row.ensures c.if-is_row.true))

pub returns-in_default : goal.returns-in_default
returns-in_default c = sym (pointer_of-none _ (is_null _ _ _ _ c.bytes.ensures c.is_row.ensures c.if-is_row.false) (first_pointer-row c.args.cells.now c.args.at c.get.result c.get.ensures ∙ first_pointer-other c.get.result [] c.in_default.not-Part))

pub returns-then-is_row-2 : goal.returns-then-is_row-2
returns-then-is_row-2 c =
    sym (pointer_of-part _ c.in-Part.pointer (is_null _ _ _ _ c.bytes.ensures c.is_row.ensures c.if-is_row.false) (first_pointer-row c.args.cells.now c.args.at c.get.result c.get.ensures ∙ ap (λ x. first_pointer (x ∷ [])) c.in-Part.is) (is_whole _ _ _ _ _ c.parts.ensures c.is_row-2.ensures c.if-is_row-2.true))

pub returns-else-is_row-2 : goal.returns-else-is_row-2
returns-else-is_row-2 c =
    sym (pointer_of-broken _ c.in-Part.pointer (is_null _ _ _ _ c.bytes.ensures c.is_row.ensures c.if-is_row.false) (first_pointer-row c.args.cells.now c.args.at c.get.result c.get.ensures ∙ ap (λ x. first_pointer (x ∷ [])) c.in-Part.is) (is_whole _ _ _ _ _ c.parts.ensures c.is_row-2.ensures c.if-is_row-2.false))
