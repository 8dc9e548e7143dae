use Rattle.std.proofs.Common.{◌≡◌, ◌&&◌, ◌||◌, not, rules, refl, sym, ap, ◌∙◌, subst, length, All}
use Rattle.bk_ilist.specs.Listing.{items}
use Rattle.bk_bits.specs.Sets.{has}
use Rattle.pass_core.specs.Functions.{UsesRegisters}
use Rattle.bitvector_flow.specs.Lives.{reads_first, some_writes, HasFewRegisters}
use Rattle.bitvector_flow.proofs.Registers.{insn_reads, insn_writes, first_left, others_left, same_bound}
use Rattle.bitvector_flow.proofs.blocks.add_block.Goals as goal

pub loop-line-init : goal.loop-line-init
loop-line-init g c =
    let whole : items c.into_iter-line-iterator.result ≡ c.args.block.now = search rules in
    record {
      bound = refl;
      bound_writes = refl;
      inside = subst (All (UsesRegisters g.I.Insn.reads g.I.Insn.writes (length c.args.reads.now))) (sym whole) c.requires.inside;
      few = subst (All (HasFewRegisters g.I.Insn.reads g.I.Insn.writes)) (sym whole) c.requires.few;
      reads = λ k. ap (λ xs. has c.args.reads.now k || (not (has c.args.writes.now k) && reads_first g.I.Insn.reads g.I.Insn.writes xs k)) whole;
      writes = λ k. ap (λ xs. has c.args.writes.now k || some_writes g.I.Insn.writes xs k) whole;
    }

pub add_reads-requires-clause-inside : goal.add_reads-requires-clause-inside
add_reads-requires-clause-inside g c =
    same_bound (g.I.Insn.reads c.in-Some.line.1.now) _ _ c.loop-line.invariant.bound
    (first_left (UsesRegisters g.I.Insn.reads g.I.Insn.writes (length c.args.reads.now)) c.in-Some.line.1.now _ _ c.in-Some.line.0 c.in-Some.ensures.steps c.loop-line.invariant.inside).0

pub add_reads-requires-clause-few : goal.add_reads-requires-clause-few
add_reads-requires-clause-few g c =
    (first_left (HasFewRegisters g.I.Insn.reads g.I.Insn.writes) c.in-Some.line.1.now _ _ c.in-Some.line.0 c.in-Some.ensures.steps c.loop-line.invariant.few).0

pub add_writes-requires-clause-inside : goal.add_writes-requires-clause-inside
add_writes-requires-clause-inside g c =
    same_bound (g.I.Insn.writes c.in-Some.line.1.now) _ _ (c.loop-line.invariant.bound_writes ∙ c.requires.same)
    (first_left (UsesRegisters g.I.Insn.reads g.I.Insn.writes (length c.args.reads.now)) c.in-Some.line.1.now _ _ c.in-Some.line.0 c.in-Some.ensures.steps c.loop-line.invariant.inside).1

pub add_writes-requires-clause-few : goal.add_writes-requires-clause-few
add_writes-requires-clause-few g c =
    (first_left (HasFewRegisters g.I.Insn.reads g.I.Insn.writes) c.in-Some.line.1.now _ _ c.in-Some.line.0 c.in-Some.ensures.steps c.loop-line.invariant.few).1

pub loop-line-preserved : goal.loop-line-preserved
loop-line-preserved g c = record {
  bound = c.add_reads.ensures.bound ∙ c.loop-line.invariant.bound;
  bound_writes = c.add_writes.ensures.bound ∙ c.loop-line.invariant.bound_writes;
  inside = others_left (UsesRegisters g.I.Insn.reads g.I.Insn.writes (length c.args.reads.now)) c.in-Some.line.1.now _ _ c.in-Some.line.0 c.in-Some.ensures.steps c.loop-line.invariant.inside;
  few = others_left (HasFewRegisters g.I.Insn.reads g.I.Insn.writes) c.in-Some.line.1.now _ _ c.in-Some.line.0 c.in-Some.ensures.steps c.loop-line.invariant.few;
  reads = λ k. insn_reads g.I.Insn.reads g.I.Insn.writes c.in-Some.line.1.now _ _ c.in-Some.line.0 k (has c.loop-line.reads k) (has c.loop-line.writes k)
      (has c.add_reads.new.reads k) (has c.add_writes.new.writes k) _ c.in-Some.ensures.steps (c.add_reads.ensures.members k) (c.add_writes.ensures.members k) (c.loop-line.invariant.reads k);
  writes = λ k. insn_writes g.I.Insn.reads g.I.Insn.writes c.in-Some.line.1.now _ _ c.in-Some.line.0 k (has c.loop-line.writes k) (has c.add_writes.new.writes k) _
      c.in-Some.ensures.steps (c.add_writes.ensures.members k) (c.loop-line.invariant.writes k);
}
