-- What code costs: that of its instructions, and of each edge of the blocks that it becomes, as `cost` counts them.
use Rattle.std.specs.Prelude.{ℕ, ◌+◌, ◌*◌, List, [], ◌∷◌}
use Rattle.suifvm_ir.specs.declared.insn.VmInsn.{VmInsn}
use Rattle.suifvm_ir.specs.declared.insn.VmInsn.TheVariants.{Copy, Nop}
use Rattle.suifvm_ir.specs.Cost.{insn_cost}
use Rattle.lowering_code.specs.declared.item.CodeItem.{CodeItem}
use Rattle.lowering_code.specs.declared.item.CodeItem.TheVariants.{Start, Plain, Jump, Branch, Loop, Enter, Again, Repeat, Return}

-- an instruction has the cost of one of Alpha at least, also a copy of no bytes and what does nothing
abbrev pub plain_cost : VmInsn → ℕ
plain_cost (Copy to from size align) = 24 + 96 * size
plain_cost Nop = 24
plain_cost i = insn_cost i

-- one edge leads on where a block begins; a branch has two
abbrev pub items_cost : List CodeItem → ℕ
items_cost [] = 0
items_cost (Start ∷ is) = 536 + items_cost is
items_cost (Plain insn ∷ is) = plain_cost insn + items_cost is
items_cost (Jump name ∷ is) = 560 + items_cost is
items_cost (Branch op ty source name ∷ is) = 1096 + items_cost is
items_cost (Loop name ∷ is) = 584 + items_cost is
items_cost (Enter ∷ is) = 560 + items_cost is
items_cost (Again ty source ∷ is) = 1096 + items_cost is
items_cost (Repeat ∷ is) = 560 + items_cost is
items_cost (Return value ∷ is) = 48 + items_cost is
