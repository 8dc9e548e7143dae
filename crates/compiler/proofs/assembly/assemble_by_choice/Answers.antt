use Rattle.std.proofs.Common.{sym, subst}
use Rattle.std.specs.Prelude.{IfOk}
use Rattle.compiler.specs.Made.{gives}
use Rattle.compiler.specs.model.Parts.{AreAssemblyPartsOf}
use Rattle.compiler.proofs.assembly.assemble_by_choice.Goals as goal

pub returns-in-Plain : goal.returns-in-Plain
returns-in-Plain c = subst (λ a. IfOk c.assemble_by.result (AreAssemblyPartsOf (gives a) c.args.temps c.args.wanted)) (sym c.in-Plain.is) c.assemble_by.ensures

pub returns-in-Binpack : goal.returns-in-Binpack
returns-in-Binpack c = subst (λ a. IfOk c.assemble_by-in-Binpack.result (AreAssemblyPartsOf (gives a) c.args.temps c.args.wanted)) (sym c.in-Binpack.is) c.assemble_by-in-Binpack.ensures
