use Rattle.std.proofs.Common.{◌<◌, ◌≤◌, length, map, ap, ◌∙◌, arith}
use Rattle.c_typed_tree.specs.View.{local_view}
use Rattle.c_rewrite.specs.Rewritten.{rewritten}
use Rattle.c_rewrite.specs.model.Mixed.{start_replaced, turned_once, all_replaced}
use Rattle.c_rewrite.proofs.StatementViews.{LocalDone, locals_done}
use Rattle.c_rewrite.proofs.rewrite.rewrite_locals.Goals as goal

pub loop-i-init : goal.loop-i-init
loop-i-init c = start_replaced (LocalDone (rewritten c.args.locals.now)) _ _ c.into_vec-items.ensures

pub loop-i-preserved : goal.loop-i-preserved
loop-i-preserved c =
    let many = ap length c.into_vec-items.ensures in
    let within : c.loop-i.i < length c.args.list = omega (arith, many, c.loop-i-test.true, c.len-i-end.ensures) in
    turned_once (LocalDone (rewritten c.args.locals.now)) _ _ _ _ _ _ _ _ c.loop-i.invariant within c.index_mut-slot.ensures.value
    c.replace-local.ensures.value c.in_ok-made.ensures c.replace-empty.ensures.after

pub returns : goal.returns
returns c =
    let many = ap length c.into_vec-items.ensures in
    let all : length c.args.list ≤ c.loop-i.i = omega (arith, many, c.loop-i-test.false, c.len-i-end.ensures) in
    ap (map local_view) c.from_vec.ensures
    ∙ locals_done (rewritten c.args.locals.now) _ _ (all_replaced (LocalDone (rewritten c.args.locals.now)) _ _ _ c.loop-i.invariant all)
