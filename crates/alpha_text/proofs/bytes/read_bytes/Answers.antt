use Rattle.std.proofs.Common.{◌≡◌, ℕ, ◌<◌, ◌++◌, List, [], length, sym, ap, ◌∙◌, subst, arith}
use Rattle.alpha_text.specs.Wrong.{Data, Row}
use Rattle.alpha_text.specs.model.Judged.{HasRow}
use Rattle.alpha_items.specs.declared.item.AsmItem.{AsmItem}
use Rattle.alpha_text.specs.model.Reaches.{Reaches, IsFaultFrom}
use Rattle.alpha_text.proofs.Joined.{raised_fault, said_fault}
use Rattle.alpha_text.proofs.Steps.{IsNextLine, reaches_step, fault_line, fault_end}
use Rattle.alpha_text.proofs.Judged.{no_row, row_says, row_within}
use Rattle.alpha_text.proofs.bytes.read_bytes.Goals as goal

pub returns-in_err-line-clause-fault : goal.returns-in_err-line-clause-fault
returns-in_err-line-clause-fault c =
    let room : length c.rows.bytes.items < c.args.count = omega (arith, c.len.ensures, c.rows.bytes.ok.0, c.rows-test.true) in
    let none = c.in_err-line.ensures.none in
    raised_fault (λ e. (all : List (List ℕ)) (items : List AsmItem) → IsFaultFrom all (Data items c.args.count [] []) c.args.lines.now e) c.from_residual.result c.in_err-line.field-0.0
    (λ all items. subst (IsFaultFrom all (Data items c.args.count [] []) c.args.lines.now) (sym none.0)
    (fault_end all (Data items c.args.count [] []) (Data items c.args.count c.rows.bytes.items []) c.args.lines.now c.rows.lines (c.rows.invariant.1 all items) none.1 (λ h. let full = h.0 in omega (arith, room, full)))) c.from_residual.ensures.1

pub returns-in_err-row-clause-fault : goal.returns-in_err-row-clause-fault
returns-in_err-row-clause-fault c =
    let bytes = c.rows.bytes.items in
    let line = c.in_ok-line.line.now in
    let room : length bytes < c.args.count = omega (arith, c.len.ensures, c.rows.bytes.ok.0, c.rows-test.true) in
    let done : c.len-in-rows.result ≡ length bytes = omega (arith, c.len-in-rows.ensures, c.rows.bytes.ok.0) in
    let next : IsNextLine c.rows.lines line c.due_line.new.self = record { lines = c.in_ok-line.ensures.line.0; ended = c.in_ok-line.ensures.line.1; count = c.in_ok-line.ensures.line.2 } in
    raised_fault (λ e. (all : List (List ℕ)) (items : List AsmItem) → IsFaultFrom all (Data items c.args.count [] []) c.args.lines.now e) c.from_residual-in_err-row.result c.in_err-row.field-0.0
    (λ all items. said_fault all (Data items c.args.count [] []) c.args.lines.now c.next_row-found.result c.count.result c.in_err-row.field-0.0 c.in_err-row.ensures.fault
    (λ is. (let none = rw is at c.next_row-found.ensures in
    let here = subst (λ (k : ℕ). (row : List ℕ) → HasRow line k c.args.count row → ⊥) done none in
    rw c.count.ensures (fault_line all (Data items c.args.count [] []) (Data items c.args.count bytes []) c.args.lines.now c.rows.lines c.due_line.new.self line
    (c.rows.invariant.1 all items) next (no_row all items c.args.count bytes [] line room here))))) c.from_residual-in_err-row.ensures.1

pub rows-preserved : goal.rows-preserved
rows-preserved c =
    let bytes = c.rows.bytes.items in
    let row = c.in_ok-row.row.items in
    let line = c.in_ok-line.line.now in
    let room : length bytes < c.args.count = omega (arith, c.len.ensures, c.rows.bytes.ok.0, c.rows-test.true) in
    let done : c.len-in-rows.result ≡ length bytes = omega (arith, c.len-in-rows.ensures, c.rows.bytes.ok.0) in
    let has = rw c.in_ok-row.ensures.said at c.next_row-found.ensures in
    let next : IsNextLine c.rows.lines line c.due_line.new.self = record { lines = c.in_ok-line.ensures.line.0; ended = c.in_ok-line.ensures.line.1; count = c.in_ok-line.ensures.line.2 } in
    let more : c.extend_from_slice.new.self.items ≡ bytes ++ row = c.in_ok-extend_from_slice.ensures.items ∙ ap (λ t. bytes ++ t) c.as_slice.ensures.value in (
      row_within c.args.count bytes line row c.extend_from_slice.new.self.items c.len-in-rows.result done room has more,
      λ all items. subst (λ (bs : List ℕ). Reaches all (Data items c.args.count [] []) c.args.lines.now (Data items c.args.count bs []) c.due_line.new.self) (sym more)
          (reaches_step all (Data items c.args.count [] []) (Data items c.args.count bytes []) c.args.lines.now c.rows.lines c.due_line.new.self line (Row row) (c.rows.invariant.1 all items) next (row_says all items c.args.count bytes line row c.len-in-rows.result done room has)),
    )
