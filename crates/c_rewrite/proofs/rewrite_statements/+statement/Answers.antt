use Rattle.std.proofs.Common.{rules, ◌≡◌, ◌<◌, ◌≤◌, length, Some, ap, ◌∙◌, arith}
use Rattle.std.specs.Prelude.{slice_get}
use Rattle.c_typed_tree.specs.model.View.{stmts_view}
use Rattle.c_typed_tree.specs.model.Lists.{sections_view}
use Rattle.c_rewrite.specs.Rewritten.{rewritten}
use Rattle.c_rewrite.specs.model.Mixed.{start_replaced, taken_out, turned_once, all_replaced}
use Rattle.c_rewrite.proofs.StatementViews.{StmtDone, SectionDone, stmts_done, sections_done}
use Rattle.c_rewrite.proofs.StatementHeights.{block_height, switch_height, element_height, section_height}
use Rattle.c_rewrite.proofs.rewrite_statements.+statement.Goals as goal

pub rewrite_statement-rewrite_list-requires : goal.rewrite_statement-rewrite_list-requires
rewrite_statement-rewrite_list-requires t c =
    let h = block_height _ _ c.in-Block.is in
    (first_of (omega (arith, h, c.decreases), search (rules, h, c.decreases)), tt)

pub rewrite_statement-rewrite_sections-requires : goal.rewrite_statement-rewrite_sections-requires
rewrite_statement-rewrite_sections-requires t c =
    let h = switch_height _ _ _ c.in-Switch.is in
    (first_of (omega (arith, h, c.decreases), search (rules, h, c.decreases)), tt)

pub rewrite_list-loop-i-init : goal.rewrite_list-loop-i-init
rewrite_list-loop-i-init t c = start_replaced (StmtDone (rewritten c.args.locals.now)) _ _ c.into_vec-items.ensures

pub rewrite_list-rewrite_statement-requires : goal.rewrite_list-rewrite_statement-requires
rewrite_list-rewrite_statement-requires t c =
    let many = ap length c.into_vec-items.ensures in
    let within : c.loop-i.i < length c.args.list = omega (arith, many, c.loop-i-test.true, c.len-i-end.ensures) in
    let here : slice_get c.args.list c.loop-i.i ≡ Some c.replace-s.result = taken_out (StmtDone (rewritten c.args.locals.now)) _ _ _ _ _ c.loop-i.invariant within c.index_mut-slot.ensures.value c.replace-s.ensures.value in
    let h = element_height c.args.list c.loop-i.i c.replace-s.result here in
    (first_of (omega (arith, h, c.decreases), search (rules, h, c.decreases)), tt)

pub rewrite_list-loop-i-preserved : goal.rewrite_list-loop-i-preserved
rewrite_list-loop-i-preserved t c =
    let many = ap length c.into_vec-items.ensures in
    let within : c.loop-i.i < length c.args.list = omega (arith, many, c.loop-i-test.true, c.len-i-end.ensures) in
    turned_once (StmtDone (rewritten c.args.locals.now)) _ _ _ _ _ _ _ _ c.loop-i.invariant within c.index_mut-slot.ensures.value
    c.replace-s.ensures.value c.in_ok-made.ensures c.replace-empty.ensures.after

pub rewrite_list-returns : goal.rewrite_list-returns
rewrite_list-returns t c =
    let many = ap length c.into_vec-items.ensures in
    let all : length c.args.list ≤ c.loop-i.i = omega (arith, many, c.loop-i-test.false, c.len-i-end.ensures) in
    ap stmts_view c.from_vec.ensures
    ∙ stmts_done (rewritten c.args.locals.now) _ _ (all_replaced (StmtDone (rewritten c.args.locals.now)) _ _ _ c.loop-i.invariant all)

pub rewrite_sections-loop-i-init : goal.rewrite_sections-loop-i-init
rewrite_sections-loop-i-init t c = start_replaced (SectionDone (rewritten c.args.locals.now)) _ _ c.into_vec-items.ensures

pub rewrite_sections-rewrite_section-requires : goal.rewrite_sections-rewrite_section-requires
rewrite_sections-rewrite_section-requires t c =
    let many = ap length c.into_vec-items.ensures in
    let within : c.loop-i.i < length c.args.list = omega (arith, many, c.loop-i-test.true, c.len-i-end.ensures) in
    let here : slice_get c.args.list c.loop-i.i ≡ Some c.replace-section.result = taken_out (SectionDone (rewritten c.args.locals.now)) _ _ _ _ _ c.loop-i.invariant within c.index_mut-slot.ensures.value c.replace-section.ensures.value in
    let h = section_height c.args.list c.loop-i.i c.replace-section.result here in
    (first_of (omega (arith, h, c.decreases), search (rules, h, c.decreases)), tt)

pub rewrite_sections-loop-i-preserved : goal.rewrite_sections-loop-i-preserved
rewrite_sections-loop-i-preserved t c =
    let many = ap length c.into_vec-items.ensures in
    let within : c.loop-i.i < length c.args.list = omega (arith, many, c.loop-i-test.true, c.len-i-end.ensures) in
    turned_once (SectionDone (rewritten c.args.locals.now)) _ _ _ _ _ _ _ _ c.loop-i.invariant within c.index_mut-slot.ensures.value
    c.replace-section.ensures.value c.in_ok-made.ensures c.replace-empty.ensures.after

pub rewrite_sections-returns : goal.rewrite_sections-returns
rewrite_sections-returns t c =
    let many = ap length c.into_vec-items.ensures in
    let all : length c.args.list ≤ c.loop-i.i = omega (arith, many, c.loop-i-test.false, c.len-i-end.ensures) in
    ap sections_view c.from_vec.ensures
    ∙ sections_done (rewritten c.args.locals.now) _ _ (all_replaced (SectionDone (rewritten c.args.locals.now)) _ _ _ c.loop-i.invariant all)
