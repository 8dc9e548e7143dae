-- One more of each.
use Rattle.std.proofs.lemmas.List.Elements.{All-get_or}
use Rattle.std.proofs.Common.{◌+◌, sym, subst, take, refl}
use Rattle.lowering.specs.Lowered.{AreLowered}
use Rattle.lowering.specs.model.Premises.{CanBeLowered}
use Rattle.lowering.proofs.Programs.{lowered_more, lowered_all}
use Rattle.lowering.proofs.units.all_functions.Goals as goal

pub one-requires : goal.one-requires
one-requires c =
    subst (CanBeLowered c.args.structs.now) (sym c.f-item.is)
    (All-get_or (CanBeLowered c.args.structs.now) c.args.list.now c.loop-f.f-index c.f-item.result c.loop-f-test.true c.requires)

pub loop-f-init : goal.loop-f-init
loop-f-init c = subst (λ gs. AreLowered c.args.structs.now (take 0 c.args.list.now) gs) (sym c.new-functions.ensures) tt

pub loop-f-preserved : goal.loop-f-preserved
loop-f-preserved c =
    subst (λ gs. AreLowered c.args.structs.now (take (c.loop-f.f-index + 1) c.args.list.now) gs) (sym c.in_ok-push.ensures.ok)
    (lowered_more c.args.structs.now c.args.list.now c.loop-f.functions c.loop-f.f-index (c.loop-f.f-index + 1) c.f-item.result c.in_ok-one.field-0 refl c.loop-f-test.true c.f-item.is c.loop-f.invariant c.in_ok-one.ensures)

pub returns : goal.returns
returns c = lowered_all c.args.structs.now c.args.list.now c.loop-f.functions c.loop-f.f-index c.loop-f-test.false c.loop-f.invariant
