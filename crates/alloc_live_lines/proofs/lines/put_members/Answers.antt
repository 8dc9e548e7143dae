use Rattle.std.proofs.Common.{◌++◌, ap, ◌∙◌}
use Rattle.std.specs.Prelude.{decimal}
use Rattle.alloc_live_lines.proofs.Loops.{member_within, members_step}
use Rattle.alloc_live_lines.proofs.lines.put_members.Goals as goal

pub loop-temp-preserved : goal.loop-temp-preserved
loop-temp-preserved c = record {
  within = member_within c.args.set.now c.loop-temp.from c.in-Some.temp c.in-Some.ensures.some;
  text = members_step c.args.out.now.items c.loop-temp.out.items c.put.new.out.items c.put_number.new.out.items c.args.set.now c.loop-temp.from c.in-Some.temp
      c.in-Some.ensures.some c.in_ok-put.ensures (c.in_ok-put_number.ensures ∙ ap (λ n. c.put.new.out.items ++ decimal n) c.from.ensures) c.loop-temp.invariant.text;
}
