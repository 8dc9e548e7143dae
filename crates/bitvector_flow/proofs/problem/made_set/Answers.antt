use Rattle.std.proofs.Common.{◌≡◌, false, ap, ◌∙◌, length, arith}
use Rattle.std.proofs.lemmas.List.{length-replicate}
use Rattle.bk_bits.specs.Sets.{has}
use Rattle.bitvector_flow.proofs.Tested.{member_more, none_yet, empty_set, test_all}
use Rattle.bitvector_flow.proofs.problem.made_set.Goals as goal

pub loop-k-init : goal.loop-k-init
loop-k-init g c = record {
  bound = ap length c.in_ok-set.ensures ∙ length-replicate c.size-size.result false;
  members = λ j. none_yet (g.P.Problem.made c.args.problem.now c.args.block) j (has c.in_ok-set.set j) (empty_set c.in_ok-set.set c.size-size.result j c.in_ok-set.ensures);
}

pub loop-k-preserved : goal.loop-k-preserved
loop-k-preserved g c = record {
  bound = c.put_if.ensures.bound ∙ c.loop-k.invariant.bound;
  members = λ j. member_more (g.P.Problem.made c.args.problem.now c.args.block) j c.loop-k.k (has c.loop-k.set j) (has c.put_if.new.set j) c.makes.result
      (c.loop-k.invariant.members j) c.makes.ensures (c.put_if.ensures.members j);
}

pub returns-clause-members : goal.returns-clause-members
returns-clause-members g c = λ j.
    test_all (g.P.Problem.made c.args.problem.now c.args.block) j c.loop-k.k 0 c.size-size.result (g.P.Problem.bound c.args.problem.now) (has c.loop-k.set j) (c.loop-k.invariant.members j)
    (let end : c.loop-k.k ≡ c.size-size.result = omega arith in end) c.size-size.ensures
