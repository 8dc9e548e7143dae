use Rattle.std.proofs.Common.{◌<◌, sym, ◌∙◌, subst, length, All}
use Rattle.bk_bits.specs.Sets.{has}
use Rattle.suifvm_ir.specs.Insns.{reads_of}
use Rattle.flow_clean.proofs.WantedSets.{first_inside, back_one}
use Rattle.flow_clean.proofs.wanted.step_back.Goals as goal

pub remove-requires : goal.remove-requires
remove-requires c = first_inside (λ k. k < length c.args.wanted.now) c.args.insn.now c.write_at.result c.requires.inside.1 c.write_at.ensures

pub insert_reads-requires-clause-inside : goal.insert_reads-requires-clause-inside
insert_reads-requires-clause-inside c = subst (λ n. All (λ register. register < n) (reads_of c.args.insn.now)) (sym c.remove.ensures.bound) c.requires.inside.0

pub returns : goal.returns
returns c = record {
  bound = c.insert_reads.ensures.bound ∙ c.remove.ensures.bound;
  members = λ k. back_one c.args.insn.now c.write_at.result k (has c.args.wanted.now k) (has c.remove.new.wanted k) (has c.insert_reads.new.wanted k)
      c.write_at.ensures (c.remove.ensures.members k) (c.insert_reads.ensures.members k);
}
