use Rattle.std.proofs.Common.{ap}
use Rattle.alloc_model.specs.Places.{Plan}
use Rattle.alloc_plain_lists.proofs.Faithfulness.{faithful_by_plan, slots_by_plan}
use Rattle.alloc_plain_lists.proofs.Lean.{lean_by_plan}
use Rattle.alloc_plain_lists.proofs.allocation.spill_everywhere.Goals as goal

pub returns : goal.returns
returns c =
    let f = c.args.f.now in
    let a = c.in_ok-lists.lists in
    let made = c.in_ok-lists.ensures in
    record {
      name = made.name;
      params = ap (λ (p : Plan). p.params) made.plan;
      temps = ap (λ (p : Plan). p.temps) made.plan;
      objects = made.objects;
      blocks = ap (λ (p : Plan). p.function.blocks) made.plan;
      plan = made.plan;
      faithful = faithful_by_plan f c.requires.settled a made.plan;
      lean = lean_by_plan f a made.plan;
      slots = slots_by_plan f a made.plan;
      journal = made.journal;
    }
