use Rattle.compiler.proofs.Parts.{lowered_unit}
use Rattle.compiler.proofs.code.lower_unit.Goals as goal

pub returns-in_ok-vm-in-Everything-clause-made : goal.returns-in_ok-vm-in-Everything-clause-made
returns-in_ok-vm-in-Everything-clause-made c =
    let is = c.in_ok-vm-in-Everything.ensures in
    lowered_unit c.programs_keep_meaning.ensures c.args.typed c.in_ok-vm-in-Everything.vm c.requires is.functions is.globals is.weights is.size

pub returns-in_ok-vm-in-Image-clause-made : goal.returns-in_ok-vm-in-Image-clause-made
returns-in_ok-vm-in-Image-clause-made c =
    let is = c.in_ok-vm-in-Image.ensures in
    lowered_unit c.programs_keep_meaning.ensures c.args.typed c.in_ok-vm-in-Image.vm c.requires is.functions is.globals is.weights is.size
