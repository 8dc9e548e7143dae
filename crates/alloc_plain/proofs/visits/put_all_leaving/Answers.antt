use Rattle.std.proofs.Common.{◌<◌, sym, ◌∙◌, length, arith}
use Rattle.alloc_plain.proofs.Nexts.{found_next, leaving_next, leaving_done}
use Rattle.alloc_plain.proofs.visits.put_all_leaving.Goals as goal

pub put_leaving_at-requires-clause-inside : goal.put_leaving_at-requires-clause-inside
put_leaving_at-requires-clause-inside c =
    (found_next (λ t. t < length c.args.ends.now) c.loop-temp.from c.args.visit.before c.args.visit.left c.in-Some.temp c.requires.before c.requires.left
    (sym c.next_held.ensures ∙ c.in-Some.is)).1

pub overflow_add-from : goal.overflow_add-from
overflow_add-from c =
    let found = found_next (λ t. t < length c.args.ends.now) c.loop-temp.from c.args.visit.before c.args.visit.left c.in-Some.temp c.requires.before c.requires.left
    (sym c.next_held.ensures ∙ c.in-Some.is) in
    let below = found.1 in
    let few = c.requires.few_ends in
    omega (arith, below, few)

pub loop-temp-smaller : goal.loop-temp-smaller
loop-temp-smaller c =
    let found = found_next (λ t. t < length c.args.ends.now) c.loop-temp.from c.args.visit.before c.args.visit.left c.in-Some.temp c.requires.before c.requires.left
    (sym c.next_held.ensures ∙ c.in-Some.is) in
    let low = found.0 in
    let below = found.1 in
    omega (arith, low, below)

pub loop-temp-preserved : goal.loop-temp-preserved
loop-temp-preserved c =
    let is = sym c.next_held.ensures ∙ c.in-Some.is in
    let found = found_next (λ t. t < length c.args.ends.now) c.loop-temp.from c.args.visit.before c.args.visit.left c.in-Some.temp c.requires.before c.requires.left is in
    let below = found.1 in
    record {
      within = omega (arith, below);
      events = leaving_next c.args.ends.now c.args.visit.number c.loop-temp.from c.in-Some.temp c.args.visit.before c.args.visit.left c.args.visit.behind
          c.args.out.now c.loop-temp.out c.put_leaving_at.new.out is found.0 c.loop-temp.invariant.events c.in_ok-put_leaving_at.ensures;
    }

pub returns : goal.returns
returns c =
    leaving_done c.args.ends.now c.args.visit.number c.loop-temp.from c.args.visit.before c.args.visit.left c.args.visit.behind c.args.out.now c.loop-temp.out
    (sym c.next_held.ensures ∙ c.in_default.is) c.loop-temp.invariant.within c.loop-temp.invariant.events
