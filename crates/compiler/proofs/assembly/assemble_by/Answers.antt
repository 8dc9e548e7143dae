use Rattle.std.proofs.Common.{None, refl, sym, subst}
use Rattle.compiler.specs.declared.built.AssemblyParts.{AssemblyParts}
use Rattle.compiler.specs.model.Parts.{AreAssemblyPartsOf}
use Rattle.compiler.specs.model.Stages.{CanBeLaidOut, IsAssemblyOf}
use Rattle.compiler.proofs.Parts.{alone}
use Rattle.compiler.proofs.assembly.assemble_by.Goals as goal

pub assembly_of-requires : goal.assembly_of-requires
assembly_of-requires g c =
    let made = c.in_ok-allocations-in-Everything in
    subst (CanBeLaidOut c.args.temps) (sym c.as_slice.ensures.value)
    (c.requires.laid_out made.allocations.items made.ensures.allocations)

pub returns-in_ok-asm-in-Everything : goal.returns-in_ok-asm-in-Everything
returns-in_ok-asm-in-Everything g c =
    let made = c.in_ok-allocations-in-Everything in
    let asm = c.in_ok-asm-in-Everything in
    record {
      allocations = made.allocations;
      are = made.ensures.allocations;
      by = made.ensures.gives;
      assembly = subst (λ list. IsAssemblyOf c.args.temps list asm.asm) c.as_slice.ensures.value asm.ensures;
      program = λ e. refl;
      kept = λ e. refl;
    }

pub returns-in_ok-asm-in-Image : goal.returns-in_ok-asm-in-Image
returns-in_ok-asm-in-Image g c =
    let parts : AssemblyParts = record { temps = None; allocations = None; asm = c.in_ok-asm-in-Image.asm } in
    subst (λ w. AreAssemblyPartsOf g.A.Allocates.gives c.args.temps w parts) (sym c.in-Image.is)
    (alone c.args.alloc g.A.Allocates.gives g.met.A.Allocates.lawful c.args.temps parts c.requires c.in_ok-asm-in-Image.ensures)
