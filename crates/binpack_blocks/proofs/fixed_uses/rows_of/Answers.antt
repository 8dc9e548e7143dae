use Rattle.std.proofs.Common.{rules, arith}
use Rattle.binpack_blocks.proofs.Uses.{rows_next}
use Rattle.binpack_blocks.proofs.fixed_uses.rows_of.Goals as goal

pub loop-r-preserved : goal.loop-r-preserved
loop-r-preserved c = record {
  many = search rules;
  uses = λ q w. rows_next c.args.insns.now c.loop-r.rows.items c.push.new.self.items c.in_ok-uses.uses c.loop-r.r c.in_ok-push.ensures.items c.loop-r.invariant.many c.in_ok-uses.ensures c.loop-r.invariant.uses q w;
}

pub returns-clause-uses : goal.returns-clause-uses
returns-clause-uses c q w = c.loop-r.invariant.uses q (omega (arith, w, c.loop-r-test.false))
