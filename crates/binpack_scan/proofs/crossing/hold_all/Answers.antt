use Rattle.std.proofs.Common.{◌∙◌, ap, get_or}
use Rattle.alloc_model.specs.declared.allocation.Loc.TheVariants as loc
use Rattle.alloc_model.specs.declared.allocation.TempPlace.{TempPlace}
use Rattle.binpack_scan.specs.model.Edges.{held_with}
use Rattle.binpack_scan.proofs.Crossings.{held_more, place_there}
use Rattle.binpack_scan.proofs.crossing.hold_all.Goals as goal

pub loop-s-preserved : goal.loop-s-preserved
loop-s-preserved c =
    let d : TempPlace = record { temp = 0; place = loc.Reg 0 } in
    held_more c.args.bottom.now c.loop-s.s-index (get_or c.args.bottom.now c.loop-s.s-index d) c.loop-s.holders c.hold.new.holders c.requires.map (place_there c.args.bottom.now c.loop-s.s-index d c.loop-s-test.true) c.loop-s.invariant
    (c.hold.ensures ∙ ap (λ o. held_with (get_or c.args.bottom.now c.loop-s.s-index d).temp o c.loop-s.holders) c.register_at.ensures)
