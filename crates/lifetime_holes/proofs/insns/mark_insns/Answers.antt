use Rattle.std.proofs.Common.{◌≡◌, ◌+◌, ◌*◌, rules, refl, sym, ap, ◌∙◌, subst, length, All, arith}
use Rattle.bk_ilist.specs.Listing.{items}
use Rattle.pass_core.specs.Functions.{UsesRegisters}
use Rattle.temp_ir.specs.Insns.{reads_of, writes_of}
use Rattle.bitvector_flow.proofs.Registers.{first_left, others_left}
use Rattle.lifetime_holes.proofs.Stepping.{all_behind, few_here, left_next, walk_begins, count_begins, walk_next, count_next, walk_done, count_done}
use Rattle.lifetime_holes.proofs.insns.mark_insns.Goals as goal

pub loop-line-init : goal.loop-line-init
loop-line-init c =
    let whole : items c.into_iter-line-iterator.result ≡ c.args.block.now = search rules in
    record {
      next = ap (λ xs. c.args.number + length xs) whole;
      low = omega arith;
      parts_many = refl;
      refs_many = refl;
      parts_inside = subst (All (UsesRegisters reads_of writes_of (length c.args.parts.now))) (sym whole) c.requires.parts;
      refs_inside = subst (All (UsesRegisters reads_of writes_of (length c.args.refs.now))) (sym whole) c.requires.refs;
      walked = walk_begins (2 * c.args.number) c.args.number c.into_iter-line-iterator.result c.args.block.now c.args.parts.now whole;
      counted = count_begins c.args.number c.into_iter-line-iterator.result c.args.block.now c.args.refs.now whole;
    }

pub mark_insn-requires-clause-few : goal.mark_insn-requires-clause-few
mark_insn-requires-clause-few c =
    few_here c.loop-line.next (c.args.number + length c.args.block.now) _ c.in-Some.line.0 c.in-Some.line.1.now _ _ c.in-Some.ensures.steps c.loop-line.invariant.next c.requires.few

pub mark_insn-requires-clause-inside : goal.mark_insn-requires-clause-inside
mark_insn-requires-clause-inside c =
    subst (λ n. UsesRegisters reads_of writes_of n c.in-Some.line.1.now) (sym c.loop-line.invariant.parts_many)
    (first_left (UsesRegisters reads_of writes_of (length c.args.parts.now)) c.in-Some.line.1.now _ _ c.in-Some.line.0 c.in-Some.ensures.steps c.loop-line.invariant.parts_inside)

pub note_insn-requires-clause-few : goal.note_insn-requires-clause-few
note_insn-requires-clause-few c =
    few_here c.loop-line.next (c.args.number + length c.args.block.now) _ c.in-Some.line.0 c.in-Some.line.1.now _ _ c.in-Some.ensures.steps c.loop-line.invariant.next c.requires.few

pub note_insn-requires-clause-inside : goal.note_insn-requires-clause-inside
note_insn-requires-clause-inside c =
    subst (λ n. UsesRegisters reads_of writes_of n c.in-Some.line.1.now) (sym c.loop-line.invariant.refs_many)
    (first_left (UsesRegisters reads_of writes_of (length c.args.refs.now)) c.in-Some.line.1.now _ _ c.in-Some.line.0 c.in-Some.ensures.steps c.loop-line.invariant.refs_inside)

pub loop-line-preserved : goal.loop-line-preserved
loop-line-preserved c =
    let low = c.loop-line.invariant.low in
    record {
      next = left_next c.loop-line.next (c.args.number + length c.args.block.now) c.in-Some.line.0 _ c.in-Some.line.1.now _ _ c.in-Some.ensures.steps c.loop-line.invariant.next refl;
      low = omega (arith, low);
      parts_many = c.in_ok-mark_insn.ensures.as_many ∙ c.loop-line.invariant.parts_many;
      refs_many = c.in_ok-note_insn.ensures.as_many ∙ c.loop-line.invariant.refs_many;
      parts_inside = others_left (UsesRegisters reads_of writes_of (length c.args.parts.now)) c.in-Some.line.1.now _ _ c.in-Some.line.0 c.in-Some.ensures.steps c.loop-line.invariant.parts_inside;
      refs_inside = others_left (UsesRegisters reads_of writes_of (length c.args.refs.now)) c.in-Some.line.1.now _ _ c.in-Some.line.0 c.in-Some.ensures.steps c.loop-line.invariant.refs_inside;
      walked = walk_next (2 * c.args.number) c.loop-line.next _ c.args.number c.in-Some.line.1.now _ _ c.args.block.now c.in-Some.line.0 c.args.parts.now c.loop-line.parts c.mark_insn.new.table
          c.in-Some.ensures.steps refl (omega (arith, low)) c.in_ok-mark_insn.ensures c.loop-line.invariant.walked;
      counted = count_next c.loop-line.next _ c.args.number c.in-Some.line.1.now _ _ c.args.block.now c.in-Some.line.0 c.args.refs.now c.loop-line.refs c.note_insn.new.table
          c.in-Some.ensures.steps refl c.in_ok-note_insn.ensures c.loop-line.invariant.counted;
    }

pub returns : goal.returns
returns c = record {
  next = all_behind c.loop-line.next (c.args.number + length c.args.block.now) _ c.in-None.ensures.steps.0 c.loop-line.invariant.next;
  parts = walk_done (2 * c.args.number) c.loop-line.next c.args.number _ c.args.block.now c.args.parts.now c.loop-line.parts c.in-None.ensures.steps.0 c.loop-line.invariant.walked;
  refs = count_done c.loop-line.next c.args.number _ c.args.block.now c.args.refs.now c.loop-line.refs c.in-None.ensures.steps.0 c.loop-line.invariant.counted;
}
