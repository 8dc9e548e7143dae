use Rattle.std.proofs.Common.{◌≡◌, ◌+◌, ◌<◌, ◌++◌, rules, sym, ap, ◌∙◌, subst, arith, length, All}
use Rattle.pass_core.specs.Functions.{UsesRegisters}
use Rattle.bk_ilist.specs.Listing.{items}
use Rattle.suifvm_ir.specs.Insns.{reads_of, writes_of}
use Rattle.bitvector_flow.proofs.Registers.{first_left, others_left}
use Rattle.flow_clean.specs.Copies.{no_copies, without_copies}
use Rattle.flow_clean.proofs.LastWrites.{at_top, line_last, line_made, uses_now, last_now, sources_now}
use Rattle.flow_clean.proofs.copies.copy_lines.Goals as goal

pub loop-line-init : goal.loop-line-init
loop-line-init c =
    let whole : items c.into_iter-line-iterator.result ≡ c.args.block.now = search rules in
    record {
      made = ap (λ o. c.args.made.now ++ without_copies o (items c.into_iter-line-iterator.result)) (at_top c.args.writes.now c.args.start c.requires.last.before)
          ∙ ap (λ l. c.args.made.now ++ without_copies no_copies l) whole;
      count = ap (λ l. c.args.start + length l) whole;
      later = omega arith;
      last = c.requires.last;
      uses = subst (All (UsesRegisters reads_of writes_of (length c.args.writes.now))) (sym whole) c.requires.inside;
    }

pub copy_line-requires : goal.copy_line-requires
copy_line-requires c = record {
  inside =
      subst (λ n. All (λ register. register < n) (writes_of c.in-Some.line.1.now)) (sym c.loop-line.invariant.last.as_many)
      (first_left (UsesRegisters reads_of writes_of (length c.args.writes.now)) c.in-Some.line.1.now _ _ c.in-Some.line.0 c.in-Some.ensures.steps c.loop-line.invariant.uses).1;
}

pub loop-line-preserved : goal.loop-line-preserved
loop-line-preserved c =
    let last = c.loop-line.invariant.last in
    let uses = uses_now c.in-Some.line.1.now c.loop-line.writes (length c.args.writes.now) last.as_many
    (first_left (UsesRegisters reads_of writes_of (length c.args.writes.now)) c.in-Some.line.1.now _ _ c.in-Some.line.0 c.in-Some.ensures.steps c.loop-line.invariant.uses) in
    let sources = sources_now (length c.args.writes.now) c.loop-line.now c.loop-line.writes last in
    let size = ap length (ap items c.in-Some.ensures.steps) in
    let count = c.loop-line.invariant.count in
    let later = c.loop-line.invariant.later in
    record {
      made = line_made c.args.start c.loop-line.now c.in-Some.line.1.now c.loop-line.made c.copy_line.new.made c.loop-line.writes c.copy_line.new.writes c.in_ok-copy_line.ensures
          last.before sources later uses c.in-Some.line.0 _ _ _ c.in-Some.ensures.steps c.loop-line.invariant.made;
      count = omega (arith, size, count);
      later = omega (arith, later);
      last = last_now (length c.args.writes.now) (c.loop-line.now + 1) c.loop-line.writes c.copy_line.new.writes last.as_many
          (line_last c.args.start c.loop-line.now c.in-Some.line.1.now c.loop-line.made c.copy_line.new.made c.loop-line.writes c.copy_line.new.writes c.in_ok-copy_line.ensures
          last.before sources later uses);
      uses = others_left (UsesRegisters reads_of writes_of (length c.args.writes.now)) c.in-Some.line.1.now _ _ c.in-Some.line.0 c.in-Some.ensures.steps c.loop-line.invariant.uses;
    }
