use Rattle.std.proofs.Common.{subst}
use Rattle.image_assembly.specs.Layouts.{FunctionsAreLaidOut}
use Rattle.compiler.proofs.Stages.{whole_of_slices, assembly_of_slices}
use Rattle.compiler.proofs.assembly.assembly_of.Goals as goal

pub gather-requires-clause-whole : goal.gather-requires-clause-whole
gather-requires-clause-whole c =
    whole_of_slices c.assemblies_are_whole.ensures c.args.temps.now c.args.allocations.now c.requires
    c.in_ok-finals.ensures.numbers c.in_ok-finals.finals.items
    (subst (λ gs. FunctionsAreLaidOut gs c.args.allocations.now c.in_ok-finals.finals.items) c.as_slice.ensures c.in_ok-finals.ensures.laid_out)
    c.as_slice-2.result.now c.as_slice-2.ensures.value c.as_slice-3.result.now c.as_slice-3.ensures

pub returns : goal.returns
returns c =
    assembly_of_slices c.assemblies_are_whole.ensures c.args.temps.now c.args.allocations.now c.requires
    c.in_ok-finals.ensures.numbers c.in_ok-finals.finals.items
    (subst (λ gs. FunctionsAreLaidOut gs c.args.allocations.now c.in_ok-finals.finals.items) c.as_slice.ensures c.in_ok-finals.ensures.laid_out)
    c.as_slice-2.result.now c.as_slice-2.ensures.value c.as_slice-3.result.now c.as_slice-3.ensures c.gather.result
    c.gather.ensures
