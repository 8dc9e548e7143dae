use Rattle.std.proofs.Common.{sym, subst}
use Rattle.std.specs.Prelude.{slice_set, slice_index}
use Rattle.par_move.specs.model.Rest.{IsCounted}
use Rattle.par_move.proofs.Cycles.{the_count}
use Rattle.par_move.proofs.moves.break_cycle.Goals as goal

pub release-requires : goal.release-requires
release-requires c = record { counted = subst (λ z. IsCounted z (slice_set (slice_set c.args.reads.now c.args.scratch (slice_index c.args.reads.now c.args.first)) c.args.first 0)) (sym c.redirect_all.ensures) (the_count c.args.first c.args.scratch c.args.sources.now c.args.reads.now c.requires.counted c.requires.still (λ z. c.requires.apart (sym z)) c.ranges.scratch.fits c.ranges.first.fits c.requires.idle) }
