use Rattle.std.proofs.Common.{◌<◌, ◌≤◌, sym, ◌∙◌, subst}
use Rattle.std.specs.Vec.Iter.{into_iter_items}
use Rattle.image_assembly.specs.Layouts.{first_label}
use Rattle.alloc_layouts.specs.model.Parts.{CanBeLaidOut}
use Rattle.alloc_layouts.proofs.Turns.{turn_can, turn_number, turn_first, turn_labels, turn_more, last_turn}
use Rattle.alloc_layouts.proofs.assemblies.lay_out_all.Goals as goal

pub lay_out-requires-clause-can : goal.lay_out-requires-clause-can
lay_out-requires-clause-can g c =
    subst (λ n. CanBeLaidOut n c.args.globals.now c.in-Some.f) (sym c.len-count.ensures)
    (turn_can g.A.Allocates.gives g.met.A.Allocates.lawful _ _ _ _ _ _ _ c.in-Some.f _ c.loop-f.invariant c.in-Some.ensures.steps.0)

pub lay_out-requires-clause-number : goal.lay_out-requires-clause-number
lay_out-requires-clause-number g c =
    subst (λ n. c.loop-f.number < n) (sym c.len-count.ensures)
    (turn_number g.A.Allocates.gives g.met.A.Allocates.lawful _ _ _ _ _ _ _ c.in-Some.f _ c.loop-f.invariant c.in-Some.ensures.steps.0)

pub lay_out-requires-clause-first : goal.lay_out-requires-clause-first
lay_out-requires-clause-first g c =
    subst (λ n. first_label n ≤ c.loop-f.first) (sym c.len-count.ensures)
    (turn_first g.A.Allocates.gives g.met.A.Allocates.lawful _ _ _ _ _ _ _ c.in-Some.f _ c.loop-f.invariant c.in-Some.ensures.steps.0)

pub lay_out-requires-clause-labels : goal.lay_out-requires-clause-labels
lay_out-requires-clause-labels g c =
    turn_labels g.A.Allocates.gives g.met.A.Allocates.lawful _ _ _ _ _ _ _ c.in-Some.f _ c.loop-f.invariant c.in-Some.ensures.steps.0

pub loop-f-preserved : goal.loop-f-preserved
loop-f-preserved g c =
    turn_more g.A.Allocates.gives g.met.A.Allocates.lawful _ _ _ _ _ _ _ c.in-Some.f _ c.loop-f.invariant c.in-Some.ensures.steps.0 c.in_ok-made.made
    c.append.new.self.items c.len.result c.in_ok-made.ensures c.in_ok-append.ensures.items c.len.ensures

pub returns : goal.returns
returns g c =
    let left = c.loop-f.f-iterator in
    last_turn g.A.Allocates.gives g.met.A.Allocates.lawful _ _ (into_iter_items left) _ _ _ _ c.loop-f.invariant (sym left.rest.ok.0 ∙ c.in-None.ensures.steps.0)
