use Rattle.std.proofs.Common.{sym, ◌∙◌}
use Rattle.bk_ilist.proofs.Splits.{has_id_head, has_id_cons, has_id_along}
use Rattle.value_rows.proofs.lists.is_in.Goals as goal

pub loop-other-init : goal.loop-other-init
loop-other-init c = (
  tt,
  tt,
  λ id has. has_id_along _ _ id (c.into_iter-other-iterator.ensures.into_iter_gives ∙ c.iter-other-items.ensures) has,
)

pub loop-other-preserved : goal.loop-other-preserved
loop-other-preserved c = (
  tt,
  tt,
  λ id has. c.loop-other.invariant.2 id (has_id_along _ _ id (sym c.in-Some.ensures.steps) (has_id_cons _ _ id has)),
)

pub returns-then-other-id : goal.returns-then-other-id
returns-then-other-id c =
    c.loop-other.invariant.2 c.args.id
    (has_id_along _ _ c.args.id (sym c.in-Some.ensures.steps) (has_id_head _ _ c.args.id c.if-other-id.true))
