use Rattle.std.proofs.Common.{sym}
use Rattle.binpack_blocks.specs.model.Steps.Step.{Stores}
use Rattle.binpack_blocks.specs.model.Steps.Steps.{More}
use Rattle.binpack_blocks.proofs.bins.Scan.save.Goals as goal

pub returns-in_ok-store-in-Some-clause-steps : goal.returns-in_ok-store-in-Some-clause-steps
returns-in_ok-store-in-Some-clause-steps c s u may before =
    More before (Stores c.args.r c.in-Some.held (sym c.in-Some.ensures) (sym c.if-is_unsaved.ensures) (may c.in-Some.held (sym c.in-Some.ensures) c.if-live.true) c.in_ok-store-in-Some.ensures.bins c.in_ok-store-in-Some.ensures.made c.in_ok-store-in-Some.ensures.relied)
