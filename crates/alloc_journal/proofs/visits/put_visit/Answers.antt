use Rattle.std.proofs.Common.{sym, ap, ◌∙◌, subst, ◌≡◌}
use Rattle.alloc_journal.specs.model.Holders.{left_below, all_come, written_pairs, holders_left, holders_behind}
use Rattle.alloc_journal.specs.model.Tables.{AreBelow}
use Rattle.alloc_journal.proofs.Loops.{all_named, left_below_bound, visit_made}
use Rattle.alloc_journal.proofs.visits.put_visit.Goals as goal

pub move_all-requires-clause-given : goal.move_all-requires-clause-given
move_all-requires-clause-given c = all_named c.args.temps c.args.transfers.now c.requires.transfers

pub put_all_leaving-requires-clause-before_below : goal.put_all_leaving-requires-clause-before_below
put_all_leaving-requires-clause-before_below c = subst (AreBelow c.args.temps) (sym (c.as_slice.ensures.value ∙ c.in_ok-before.ensures.items)) c.requires.below

pub put_all_leaving-requires-clause-left_below : goal.put_all_leaving-requires-clause-left_below
put_all_leaving-requires-clause-left_below c =
    left_below_bound c.args.temps c.args.insn.now c.args.transfers.now c.args.holders.now c.as_slice-2.result.now c.requires.transfers
    (c.as_slice-2.ensures.value ∙ c.in_ok-left.ensures.items ∙ c.leave_all.ensures ∙ ap (left_below c.args.insn.now 26) c.move_all.ensures) c.requires.below

pub returns-clause-events : goal.returns-clause-events
returns-clause-events c =
    let left_is : c.leave_all.new.holders ≡ holders_left c.args.insn.now c.args.transfers.now c.args.holders.now = c.leave_all.ensures ∙ ap (left_below c.args.insn.now 26) c.move_all.ensures in
    visit_made c.args.temps c.args.number c.args.lives.now c.args.insn.now c.args.transfers.now c.args.registers.now c.args.holders.now c.as_slice.result.now c.as_slice-2.result.now c.as_slice-3.result.now c.write.new.holders
    (written_pairs c.written_with-written.result) c.args.out.now c.push.new.self c.put_all_leaving.new.out c.put_transfers.new.out c.put_all_loaded.new.out c.put_writes.new.out
    (c.as_slice.ensures.value ∙ c.in_ok-before.ensures.items) (c.as_slice-2.ensures.value ∙ c.in_ok-left.ensures.items ∙ left_is) (c.as_slice-3.ensures.value ∙ c.in_ok-left.ensures.items ∙ left_is)
    c.written_with-written.ensures.pairs
    (c.write.ensures ∙ ap (all_come (written_pairs c.written_with-written.result)) left_is
    ∙ ap (λ ws. all_come ws (holders_left c.args.insn.now c.args.transfers.now c.args.holders.now)) c.written_with-written.ensures.pairs)
    c.in_ok-push.ensures.ok c.in_ok-put_all_leaving.ensures c.in_ok-put_transfers.ensures c.in_ok-put_all_loaded.ensures c.in_ok-put_writes.ensures

pub returns-clause-behind : goal.returns-clause-behind
returns-clause-behind c =
    let left_is : c.leave_all.new.holders ≡ holders_left c.args.insn.now c.args.transfers.now c.args.holders.now = c.leave_all.ensures ∙ ap (left_below c.args.insn.now 26) c.move_all.ensures in
    c.write.ensures ∙ ap (all_come (written_pairs c.written_with-written.result)) left_is
    ∙ ap (λ ws. all_come ws (holders_left c.args.insn.now c.args.transfers.now c.args.holders.now)) c.written_with-written.ensures.pairs
