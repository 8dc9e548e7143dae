-- Clause by clause.
use Rattle.lowering.proofs.units.one.Goals as goal

pub lower_function-requires-clause-few : goal.lower_function-requires-clause-few
lower_function-requires-clause-few c = c.requires.few

pub lower_function-requires-clause-sizes : goal.lower_function-requires-clause-sizes
lower_function-requires-clause-sizes c = c.requires.sizes

pub lower_function-requires-clause-registers : goal.lower_function-requires-clause-registers
lower_function-requires-clause-registers c = c.requires.registers

pub lower_function-requires-clause-size : goal.lower_function-requires-clause-size
lower_function-requires-clause-size c = c.requires.size

pub returns : goal.returns
returns c =
    let e = c.in_ok-g.ensures in
    record { name = e.name; params = e.params; objects = e.objects; blocks = e.blocks; temps = e.temps; marks = e.marks }
