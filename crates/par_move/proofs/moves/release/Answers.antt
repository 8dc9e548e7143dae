use Rattle.par_move.specs.model.Rest.{Stays}
use Rattle.par_move.proofs.Chains.{ready_within, waits_less, counted_more, chain_more}
use Rattle.par_move.proofs.moves.release.Goals as goal

pub loop-from-init : goal.loop-from-init
loop-from-init c = record { counted = c.requires.counted; chain = Stays; within = c.ranges.start.fits }

pub make-requires-clause-read : goal.make-requires-clause-read
make-requires-clause-read c = (ready_within c.loop-from.sources c.loop-from.reads c.loop-from.to c.in-Some.from c.loop-from.invariant.counted c.in-Some.ensures).1

pub loop-from-smaller : goal.loop-from-smaller
loop-from-smaller c = waits_less c.loop-from.sources c.make.new.sources c.loop-from.reads c.loop-from.to c.in-Some.from c.in-Some.ensures c.in_ok-make.ensures.sources

pub loop-from-preserved : goal.loop-from-preserved
loop-from-preserved c = record {
  counted = counted_more _ _ _ _ c.loop-from.to c.in-Some.from c.loop-from.invariant.counted c.in-Some.ensures c.in_ok-make.ensures.sources c.in_ok-make.ensures.reads;
  chain = chain_more _ _ _ _ _ _ _ _ c.loop-from.to c.in-Some.from c.loop-from.invariant.chain c.in-Some.ensures c.in_ok-make.ensures.sources c.in_ok-make.ensures.reads c.in_ok-make.ensures.made;
  within = (ready_within c.loop-from.sources c.loop-from.reads c.loop-from.to c.in-Some.from c.loop-from.invariant.counted c.in-Some.ensures).0;
}
