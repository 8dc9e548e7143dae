-- The blocks of code.
--
-- Items are laid out from the first one on. The block with a name is that which stands as many blocks before the end.
use Rattle.std.specs.Prelude.{ℕ, suc, ◌-◌, List, [], ◌∷◌, ◌++◌, length}
use Rattle.suifvm_ir.specs.declared.insn.VmBranchOp.TheVariants.{IfTrue}
use Rattle.suifvm_ir.specs.declared.insn.VmInsn as vm
use Rattle.suifvm_ir.specs.declared.insn.VmInsn.TheVariants as n
use Rattle.lowering_code.specs.declared.item.CodeItem.{CodeItem}
use Rattle.lowering_code.specs.declared.item.CodeItem.TheVariants.{Start, Plain, Jump, Branch, Loop, Enter, Again, Repeat, Return}
use Rattle.lowering_code.specs.Items.{block_total}

-- how far the layout has come: the number of the last block, which has the name 0; the blocks that are whole, the
-- instructions of the next one, and the first blocks of the bodies of the loops that are open, the inner one first
pub record Layout : Type 0 where
  pub last : ℕ
  pub blocks : List (List vm.VmInsn)
  pub insns : List vm.VmInsn
  pub heads : List ℕ

abbrev pub with_insn : vm.VmInsn → Layout → Layout
with_insn insn l = record l { insns = l.insns ++ insn ∷ [] }

-- the block is whole, and the next one begins
abbrev pub end_block : Layout → Layout
end_block l = record l { blocks = l.blocks ++ l.insns ∷ []; insns = [] }

abbrev pub end_with : vm.VmInsn → Layout → Layout
end_with insn l = end_block (with_insn insn l)

-- the block that begins next is the first one of a body
abbrev pub open_loop : Layout → Layout
open_loop l = with_insn n.Mark (record l { heads = length l.blocks ∷ l.heads })

abbrev pub head_or_zero : List ℕ → ℕ
head_or_zero [] = 0
head_or_zero (head ∷ heads) = head

abbrev pub outer_heads : List ℕ → List ℕ
outer_heads [] = []
outer_heads (head ∷ heads) = heads

abbrev pub close_loop : Layout → Layout
close_loop l = record l { heads = outer_heads l.heads }

-- the number of the block with a name
abbrev pub block_with : (name : ℕ) → Layout → ℕ
block_with name l = l.last - name

abbrev pub add_item : CodeItem → Layout → Layout
add_item Start l = end_block l
add_item (Plain insn) l = with_insn insn l
add_item (Jump name) l = end_with (n.Jump (block_with name l)) l
add_item (Branch op ty source name) l = end_with (n.Branch op ty source (block_with name l)) l
add_item (Loop name) l = open_loop (end_with (n.Jump (block_with name l)) l)
add_item Enter l = open_loop (end_block l)
add_item (Again ty source) l = close_loop (end_with (n.Branch IfTrue ty source (head_or_zero l.heads)) l)
add_item Repeat l = close_loop (end_with (n.Jump (head_or_zero l.heads)) l)
add_item (Return value) l = end_with (n.Return value) l

abbrev pub with_items : List CodeItem → Layout → Layout
with_items [] l = l
with_items (i ∷ is) l = with_items is (add_item i l)

abbrev pub no_block : (last : ℕ) → Layout
no_block last = record { last = last; blocks = []; insns = []; heads = [] }

-- the blocks of the code of a function, of which the last one ends with these instructions
abbrev pub blocks_of : (end : List vm.VmInsn) → List CodeItem → List (List vm.VmInsn)
blocks_of end is =
    let l = with_items is (no_block (block_total is)) in
    l.blocks ++ (l.insns ++ end) ∷ []
