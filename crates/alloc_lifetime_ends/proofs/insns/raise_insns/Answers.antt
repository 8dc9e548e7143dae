use Rattle.std.proofs.Common.{◌≡◌, ◌+◌, rules, refl, sym, ap, ◌∙◌, subst, length, All}
use Rattle.bk_ilist.specs.Listing.{items}
use Rattle.pass_core.specs.Functions.{UsesRegisters}
use Rattle.temp_ir.specs.Insns.{reads_of, writes_of}
use Rattle.bitvector_flow.proofs.Registers.{first_left, others_left}
use Rattle.alloc_lifetime_ends.specs.model.Raised.{IsOfInsns, IsRaised}
use Rattle.alloc_lifetime_ends.proofs.Raising.{insns_next, few_here, left_next}
use Rattle.alloc_lifetime_ends.proofs.insns.raise_insns.Goals as goal

pub loop-line-init : goal.loop-line-init
loop-line-init c =
    let whole : items c.into_iter-line-iterator.result ≡ c.args.block.now = search rules in
    record {
      next = ap (λ xs. c.args.number + length xs) whole;
      as_many = refl;
      inside = subst (All (UsesRegisters reads_of writes_of (length c.args.ends.now))) (sym whole) c.requires.inside;
      leads = λ new r. subst (λ xs. IsRaised (IsOfInsns c.args.number xs) c.args.ends.now new) whole r;
    }

pub raise_insn-requires-clause-few : goal.raise_insn-requires-clause-few
raise_insn-requires-clause-few c =
    few_here c.loop-line.next (c.args.number + length c.args.block.now) _ c.in-Some.line.0 c.in-Some.line.1.now _ _ c.in-Some.ensures.steps c.loop-line.invariant.next c.requires.few

pub raise_insn-requires-clause-inside : goal.raise_insn-requires-clause-inside
raise_insn-requires-clause-inside c =
    subst (λ n. UsesRegisters reads_of writes_of n c.in-Some.line.1.now) (sym c.loop-line.invariant.as_many)
    (first_left (UsesRegisters reads_of writes_of (length c.args.ends.now)) c.in-Some.line.1.now _ _ c.in-Some.line.0 c.in-Some.ensures.steps c.loop-line.invariant.inside)

pub loop-line-preserved : goal.loop-line-preserved
loop-line-preserved c = record {
  next = left_next c.loop-line.next (c.args.number + length c.args.block.now) c.in-Some.line.0 _ c.in-Some.line.1.now _ _ c.in-Some.ensures.steps c.loop-line.invariant.next refl;
  as_many = c.raise_insn.ensures.as_many ∙ c.loop-line.invariant.as_many;
  inside = others_left (UsesRegisters reads_of writes_of (length c.args.ends.now)) c.in-Some.line.1.now _ _ c.in-Some.line.0 c.in-Some.ensures.steps c.loop-line.invariant.inside;
  leads = insns_next c.loop-line.next _ c.args.number c.in-Some.line.1.now _ _ c.args.block.now c.in-Some.line.0 c.args.ends.now c.loop-line.ends c.raise_insn.new.ends
      c.in-Some.ensures.steps refl c.raise_insn.ensures c.loop-line.invariant.leads;
}
