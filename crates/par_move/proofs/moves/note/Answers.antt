use Rattle.std.proofs.Common.{arith}
use Rattle.par_move.proofs.Loops.{few_reads}
use Rattle.par_move.proofs.moves.note.Goals as goal

pub overflow_add-reads : goal.overflow_add-reads
overflow_add-reads c = let a = few_reads c.args.sources.now c.args.reads.now c.args.m.from c.requires.counted in omega (arith, a)
