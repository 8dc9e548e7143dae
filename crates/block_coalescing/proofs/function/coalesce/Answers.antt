use Rattle.std.proofs.Common.{refl, arith}
use Rattle.block_coalescing.proofs.Shape.{coalesced_by, itself, valid_after, sizes_after, all_few}
use Rattle.block_coalescing.proofs.function.coalesce.Goals as goal

pub liveness-requires-clause-few : goal.liveness-requires-clause-few
liveness-requires-clause-few c = all_few _

pub invariant_of-result : goal.invariant_of-result
invariant_of-result c =
    let f = c.args.f in
    let new = c.in-Some.new in
    let is =
    coalesced_by f c.as_slice.result.now c.in_ok-top.field-0.top c.in_ok-top.field-0.bottom c.as_slice-2.result.now c.as_slice-3.result.now
    c.as_slice.ensures c.as_slice-2.ensures c.as_slice-3.ensures c.in_ok-top.ensures
    c.in_ok-walked.walked new c.in-Some.is c.in_ok-walked.ensures in
    let valid = valid_after f new is in
    let sizes = sizes_after f new is in
    let few_blocks = f.few_blocks in
    let few_insns = f.few_insns in
    record {
      targets = valid.targets;
      straight = valid.straight;
      stops = valid.ends;
      few_blocks = omega (arith, few_blocks, sizes.0);
      few_insns = omega (arith, few_insns, sizes.1);
      registers = valid.registers;
    }

pub returns-in-None-clause-coalesced : goal.returns-in-None-clause-coalesced
returns-in-None-clause-coalesced c = itself c.args.f

pub returns-in-None-clause-shape : goal.returns-in-None-clause-shape
returns-in-None-clause-shape c = c.coalesced_functions_keep_shape.ensures c.args.f c.args.f (itself c.args.f)

pub returns-in-Some-clause-coalesced : goal.returns-in-Some-clause-coalesced
returns-in-Some-clause-coalesced c = record {
  name = refl;
  params = refl;
  temps = refl;
  objects = refl;
  blocks =
      coalesced_by c.args.f c.as_slice.result.now c.in_ok-top.field-0.top c.in_ok-top.field-0.bottom c.as_slice-2.result.now c.as_slice-3.result.now
      c.as_slice.ensures c.as_slice-2.ensures c.as_slice-3.ensures c.in_ok-top.ensures
      c.in_ok-walked.walked c.in-Some.new c.in-Some.is c.in_ok-walked.ensures;
}

pub returns-in-Some-clause-shape : goal.returns-in-Some-clause-shape
returns-in-Some-clause-shape c = c.coalesced_functions_keep_shape.ensures c.args.f _ (returns-in-Some-clause-coalesced c)
