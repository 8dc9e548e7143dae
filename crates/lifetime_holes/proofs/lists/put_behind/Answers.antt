use Rattle.std.proofs.Common.{[], ◌∷◌, ◌++◌, refl, ap, ◌∙◌, arith}
use Rattle.lifetime_holes.specs.model.Spans.{span}
use Rattle.lifetime_holes.specs.model.Spans.Joins.{Extends, Follows}
use Rattle.lifetime_holes.proofs.lists.put_behind.Goals as goal

pub returns-in_ok-push : goal.returns-in_ok-push
returns-in_ok-push c = Extends c.args.items.now.items c.args.part refl (omega arith) c.in_ok-push.ensures.items

pub returns-in_ok-push-3 : goal.returns-in_ok-push-3
returns-in_ok-push-3 c = Follows c.args.items.now.items c.args.part refl (omega arith)
    (c.in_ok-push-3.ensures.items ∙ ap (λ l. l ++ span c.args.first c.args.last ∷ []) c.in_ok-push-2.ensures.items)
