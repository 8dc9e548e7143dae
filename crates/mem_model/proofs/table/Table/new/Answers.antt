use Rattle.std.proofs.Common.{◌≡◌, [], length, replicate, ap, ◌∙◌, arith}
use Rattle.std.proofs.lemmas.Grind.{common_steps}
use Rattle.mem_model.specs.model.Table.{free_blocks}
use Rattle.mem_model.proofs.TableLaws.{table-fresh, is_table-fresh, free_blocks-none}
use Rattle.mem_model.proofs.table.Table.new.Goals as goal

pub invariant_of-result : goal.invariant_of-result
invariant_of-result c =
    let ranks : c.resize.new.self.items ≡ replicate c.args.blocks 0 = grind (arith, common_steps, c.resize.ensures.items) in
    let pointers : c.in_ok-pointers.pointers.items ≡ [] = grind (arith, common_steps, c.in_ok-pointers.ensures.items) in
    let free : free_blocks c.resize.new.self.items ≡ c.args.blocks = ap free_blocks ranks ∙ free_blocks-none c.args.blocks in
    let len : length c.in_ok-pointers.pointers.items ≡ 0 = ap length pointers in
    (is_table-fresh c.resize.new.self.items c.in_ok-pointers.pointers.items c.args.blocks ranks pointers, omega (arith, c.in_ok-pointers.ensures.capacity))

pub returns : goal.returns
returns c =
    let ranks : c.resize.new.self.items ≡ replicate c.args.blocks 0 = grind (arith, common_steps, c.resize.ensures.items) in
    table-fresh c.resize.new.self.items c.in_ok-pointers.pointers.items c.args.blocks ranks
