use Rattle.std.proofs.Common.{sym, ◌∙◌, arith}
use Rattle.alloc_journal.proofs.Nexts.{found_next, leaving_next, leaving_done}
use Rattle.alloc_journal.proofs.visits.put_all_leaving.Goals as goal

pub overflow_add-from : goal.overflow_add-from
overflow_add-from c =
    let found = found_next c.args.temps c.loop-temp.from c.args.before.now c.args.left.now c.args.behind.now c.in-Some.temp c.requires.before_below c.requires.left_below
    (sym c.next_gone.ensures ∙ c.in-Some.is) in
    let below = found.1 in
    let few = c.ranges.temps in
    omega (arith, below, few)

pub loop-temp-smaller : goal.loop-temp-smaller
loop-temp-smaller c =
    let found = found_next c.args.temps c.loop-temp.from c.args.before.now c.args.left.now c.args.behind.now c.in-Some.temp c.requires.before_below c.requires.left_below
    (sym c.next_gone.ensures ∙ c.in-Some.is) in
    let low = found.0 in
    let below = found.1 in
    omega (arith, low, below)

pub loop-temp-preserved : goal.loop-temp-preserved
loop-temp-preserved c =
    let is = sym c.next_gone.ensures ∙ c.in-Some.is in
    let found = found_next c.args.temps c.loop-temp.from c.args.before.now c.args.left.now c.args.behind.now c.in-Some.temp c.requires.before_below c.requires.left_below is in
    let below = found.1 in
    record {
      within = omega (arith, below);
      events = leaving_next c.args.lives.now c.args.number c.loop-temp.from c.in-Some.temp c.args.before.now c.args.left.now c.args.behind.now
          c.args.out.now c.loop-temp.out c.put_leaving_at.new.out c.requires.before c.requires.left is found.0 c.loop-temp.invariant.events c.in_ok-put_leaving_at.ensures;
    }

pub returns : goal.returns
returns c =
    leaving_done c.args.temps c.args.lives.now c.args.number c.loop-temp.from c.args.before.now c.args.left.now c.args.behind.now c.args.out.now c.loop-temp.out
    c.requires.before c.requires.left (sym c.next_gone.ensures ∙ c.in_default.is) c.loop-temp.invariant.within c.loop-temp.invariant.events
