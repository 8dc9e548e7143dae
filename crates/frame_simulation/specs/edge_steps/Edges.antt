-- What the machine does on the edges between blocks: at the end of a block, at its jump, and at the top of the next
-- one.
use Rattle.std.specs.Prelude.{◌≡◌, ℕ, suc, List, [], ◌∷◌, drop, Some, slice_get}
use Rattle.alpha_isa.specs.declared.insn.BranchOp.TheVariants.{Br}
use Rattle.alpha_isa.specs.Program.{Program}
use Rattle.alpha_isa.specs.State.{State}
use Rattle.alpha_items.specs.declared.item.AsmItem.{AsmItem}
use Rattle.alpha_items.specs.declared.item.AsmItem.TheVariants.{Label, Branch}
use Rattle.frame_steps.specs.item_steps.Standing.{Labels}
use Rattle.mem_model.specs.World.{Outer}
use Rattle.temp_ir.specs.declared.insn.TempInsn.{TempInsn}
use Rattle.temp_ir.specs.declared.insn.TempInsn.TheVariants as i
use Rattle.alloc_model.specs.declared.allocation.Transfer.{Transfer}
use Rattle.alloc_model.specs.Places.{Places, Plan, placed_site, do_all}
use Rattle.frame_steps.specs.frame_transfers.Items.{items_of_transfers}
use Rattle.frame_steps.specs.frame_transfers.Laws.{CallAt, FitsTheStack, StandsFor, CanTransferAll}
use Rattle.frame_steps.specs.function_items.InstructionItems.{ItemSetting}
use Rattle.frame_steps.specs.function_items.InstructionItemsLaws.{is_usable, HasOuter}
use Rattle.frame_simulation.specs.placed_steps.Stacks.{WaitingCall, Start, StackIs}
use Rattle.frame_simulation.specs.placed_steps.Points.{AllMayTransfer, PointIsPassed, PointIsLeft}
use Rattle.frame_steps.specs.function_items.Items.{top_transfers, insns_items, end_transfers, blocks_items, exit_items}
use Rattle.frame_steps.specs.function_items.Laws.{FunctionStands}

-- transfers of an edge, which may name register 28 once it holds something
abbrev pub EdgesAreDone : Type 0
EdgesAreDone =
    (p : Program) (there : Labels) (start : Start) (rest : List AsmItem) (end : ℕ) (c : CallAt) (gs : List WaitingCall)
    (o : Outer) (store : Places) (s : State) → FitsTheStack c → StackIs p there start c gs store s → HasOuter o s →
    (xs : List Transfer) → CanTransferAll c.shape is_usable xs →
    StandsFor p there (items_of_transfers c.shape xs rest) end c o.memory is_usable store s →
    PointIsPassed p there start rest end c gs o (do_all xs store) s

-- a jump, with the transfers before it and those of its edge
abbrev pub JumpsAreDone : Type 0
JumpsAreDone =
    (p : Program) (there : Labels) (start : Start) (rest : List AsmItem) (end : ℕ) (c : CallAt) (gs : List WaitingCall)
    (o : Outer) (store : Places) (s : State) → FitsTheStack c → StackIs p there start c gs store s → HasOuter o s →
    (transfers edge : List Transfer) → AllMayTransfer c.shape transfers → CanTransferAll c.shape is_usable edge →
    (l widest block : ℕ) (registers : List ℕ) → registers ≡ [] →
    StandsFor p there
    (items_of_transfers c.shape transfers
    (items_of_transfers c.shape edge (Branch Br 31 l ∷ rest))) end c o.memory is_usable
    store s →
    PointIsLeft p there start rest end l c gs o
    (do_all edge ((placed_site widest transfers registers (i.Jump block)).put [] store)) s

-- behind a block that ends without a jump, its last transfers are done and the machine has come to the next label
abbrev pub EndsAreDone : Type 0
EndsAreDone =
    (p : Program) (there : Labels) (start : Start) (items : List AsmItem) (end : ℕ) (c : CallAt) (gs : List WaitingCall)
    (o : Outer) (store : Places) (s : State) → FitsTheStack c → StackIs p there start c gs store s → HasOuter o s →
    (xs : List Transfer) (l : ℕ) → CanTransferAll c.shape is_usable xs →
    StandsFor p there (items_of_transfers c.shape xs (Label l ∷ items)) end c o.memory is_usable store s →
    PointIsPassed p there start items end c gs o (do_all xs store) s

-- from the label of a block the machine comes to its first instruction, with the transfers at its top done
abbrev pub BlocksAreEntered : Type 0
BlocksAreEntered =
    (p : Program) (there : Labels) (start : Start) (a : Plan) (g : ItemSetting) (number : ℕ) (behind : List AsmItem)
    (end : ℕ) (c : CallAt) (gs : List WaitingCall) (o : Outer) (held : Places) (s : State) → FitsTheStack c →
    g.shape ≡ c.shape →
    FunctionStands p there a g number behind end → (block : ℕ) (insns : List TempInsn) →
    slice_get a.function.blocks block ≡ Some insns → CanTransferAll c.shape is_usable (top_transfers a block) →
    (rest : List AsmItem) (last : ℕ) (left : PointIsLeft p there start rest last (g.block_label block) c gs o held s) →
    PointIsPassed p there start
    (insns_items a g block 0 insns (items_of_transfers g.shape (end_transfers a block insns)
    (blocks_items a g (suc block) (drop (suc block) a.function.blocks) (exit_items g behind))))
    end c gs o (do_all (top_transfers a block) held) left.to
