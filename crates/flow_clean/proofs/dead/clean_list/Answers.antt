use Rattle.std.proofs.Common.{sym, subst, length}
use Rattle.pass_core.specs.Functions.{UsesRegisters}
use Rattle.bk_bits.specs.Sets.{has}
use Rattle.bitvector_flow.specs.Lives.{HasFewRegisters}
use Rattle.suifvm_ir.specs.Insns.{reads_of, writes_of}
use Rattle.flow_clean.proofs.CleanedLists.{at_some, at_none, there, item_inside, smaller, steps, ends}
use Rattle.flow_clean.proofs.dead.clean_list.Goals as goal

pub get-requires : goal.get-requires
get-requires c =
    there (has c.args.wanted.now) (length c.args.wanted.now) c.args.list.now.pairs c.in-Some.id c.loop-at.kept c.loop-at.wanted
    (at_some (has c.args.wanted.now) (length c.args.wanted.now) c.args.list.now.pairs c.loop-at.at c.in-Some.id c.loop-at.kept c.loop-at.wanted c.in-Some.is c.loop-at.invariant)

pub visit_insn-requires-clause-inside : goal.visit_insn-requires-clause-inside
visit_insn-requires-clause-inside c =
    subst (λ n. UsesRegisters reads_of writes_of n c.get.result.now) (sym c.loop-at.invariant.bound)
    (item_inside (has c.args.wanted.now) (length c.args.wanted.now) c.args.list.now.pairs c.in-Some.id c.loop-at.kept c.loop-at.wanted
    (at_some (has c.args.wanted.now) (length c.args.wanted.now) c.args.list.now.pairs c.loop-at.at c.in-Some.id c.loop-at.kept c.loop-at.wanted c.in-Some.is c.loop-at.invariant)
    (UsesRegisters reads_of writes_of (length c.args.wanted.now)) c.get.result.now c.get.ensures c.requires.inside)

pub visit_insn-requires-clause-few : goal.visit_insn-requires-clause-few
visit_insn-requires-clause-few c =
    (item_inside (has c.args.wanted.now) (length c.args.wanted.now) c.args.list.now.pairs c.in-Some.id c.loop-at.kept c.loop-at.wanted
    (at_some (has c.args.wanted.now) (length c.args.wanted.now) c.args.list.now.pairs c.loop-at.at c.in-Some.id c.loop-at.kept c.loop-at.wanted c.in-Some.is c.loop-at.invariant)
    (HasFewRegisters reads_of writes_of) c.get.result.now c.get.ensures c.requires.few).0

pub prev-at-requires : goal.prev-at-requires
prev-at-requires c =
    there (has c.args.wanted.now) (length c.args.wanted.now) c.args.list.now.pairs c.in-Some.id c.loop-at.kept c.loop-at.wanted
    (at_some (has c.args.wanted.now) (length c.args.wanted.now) c.args.list.now.pairs c.loop-at.at c.in-Some.id c.loop-at.kept c.loop-at.wanted c.in-Some.is c.loop-at.invariant)

pub loop-at-smaller : goal.loop-at-smaller
loop-at-smaller c =
    smaller (has c.args.wanted.now) (length c.args.wanted.now) c.args.list.now.pairs c.loop-at.at c.in-Some.id c.in-Some.is c.loop-at.kept c.loop-at.wanted c.loop-at.invariant
    c.prev-at.result c.prev-at.ensures c.made-given.ensures.lawful.distinct

pub loop-at-preserved : goal.loop-at-preserved
loop-at-preserved c =
    steps (has c.args.wanted.now) (length c.args.wanted.now) c.args.list.now.pairs c.in-Some.id c.loop-at.kept c.loop-at.wanted
    (at_some (has c.args.wanted.now) (length c.args.wanted.now) c.args.list.now.pairs c.loop-at.at c.in-Some.id c.loop-at.kept c.loop-at.wanted c.in-Some.is c.loop-at.invariant)
    c.prev-at.result c.get.result.now c.visit_insn.new.kept c.visit_insn.new.wanted c.prev-at.ensures c.get.ensures c.in_ok-visit_insn.ensures

pub returns-clause-kept : goal.returns-clause-kept
returns-clause-kept c =
    ends (has c.args.wanted.now) (length c.args.wanted.now) c.args.list.now.pairs c.loop-at.kept c.loop-at.wanted
    (at_none (has c.args.wanted.now) (length c.args.wanted.now) c.args.list.now.pairs c.loop-at.at c.loop-at.kept c.loop-at.wanted c.in_default.is c.loop-at.invariant)
