use Rattle.std.proofs.Common.{ap, ◌∙◌, ◌≡◌, length, ℕ}
use Rattle.std.specs.Prelude.{replicate, Option, None, false}
use Rattle.binpack_blocks.specs.declared.held.Held.{Held}
use Rattle.binpack_blocks.specs.model.Bins.{held_in}
use Rattle.binpack_scan.proofs.Functions.{resized, held_none, replicate_length, nothing_inside, nothing_once}
use Rattle.binpack_scan.proofs.scan.new_scan.Goals as goal

pub returns-clause-none : goal.returns-clause-none
returns-clause-none c r = ap (λ z. held_in z r) (resized _ _ 26 _ c.new-bins.ensures.items c.new-bins.ensures.len c.in_ok-resize.ensures.items) ∙ held_none 26 r

pub invariant_of-result : goal.invariant_of-result
invariant_of-result c =
    let items : c.resize.new.self.items ≡ replicate 26 None = resized _ _ 26 _ c.new-bins.ensures.items c.new-bins.ensures.len c.in_ok-resize.ensures.items in
    let none : (r : ℕ) → held_in c.resize.new.self.items r ≡ None = λ r. ap (λ z. held_in z r) items ∙ held_none 26 r in
    record {
      many = ap (λ z. length z) items ∙ replicate_length {A = Option Held} 26 None;
      bound = ap (λ z. length z) c.in_ok-relied.ensures ∙ replicate_length c.args.f.now.temps false;
      inside = nothing_inside c.args.f.now.temps c.resize.new.self.items none;
      once = nothing_once c.resize.new.self.items none;
    }
