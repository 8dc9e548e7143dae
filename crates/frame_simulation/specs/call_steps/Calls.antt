-- What the machine does at a point with a call of a function, and at one with a return.
use Rattle.std.specs.Prelude.{◌≡◌, ℕ, ◌+◌, ◌≤◌, Bool, List, [], ◌∷◌, ◌++◌, drop, length, Some, slice_get}
use Rattle.alpha_isa.specs.Program.{Program}
use Rattle.alpha_isa.specs.State.{State}
use Rattle.alpha_isa.specs.Step.{Done}
use Rattle.alpha_items.specs.declared.item.AsmItem.{AsmItem}
use Rattle.frame_steps.specs.item_steps.Standing.{Labels, HasLabel}
use Rattle.mem_model.specs.World.{Outer}
use Rattle.machine_model.specs.Machine.{end_locals}
use Rattle.temp_ir.specs.declared.insn.TempInsn.{TempInsn}
use Rattle.temp_ir.specs.declared.insn.TempInsn.TheVariants as i
use Rattle.alloc_model.specs.declared.allocation.Transfer.{Transfer}
use Rattle.alloc_model.specs.Temporaries.{result_status}
use Rattle.alloc_model.specs.Places.{Places, Plan, placed_site, do_all}
use Rattle.frame_steps.specs.frame_transfers.Items.{items_of_transfers}
use Rattle.frame_steps.specs.frame_transfers.Laws.{CallAt, FitsTheStack, StandsFor}
use Rattle.frame_simulation.specs.call_entries.Items.{ItemSetting, insn_items}
use Rattle.frame_simulation.specs.call_entries.Laws.{is_usable, HasOuter, RunIsOver}
use Rattle.frame_simulation.specs.call_entries.Stacks.{WaitingCall, Start, StackIs}
use Rattle.frame_simulation.specs.call_entries.Entering.{entry_places, called_frame, HasRoom, EntryIs}
use Rattle.frame_simulation.specs.call_exits.Leaving.{caller_of, resumed_places, ending_items, ExitIs}
use Rattle.frame_simulation.specs.edge_steps.Points.{AllMayTransfer}
use Rattle.frame_simulation.specs.edge_steps.Items.{top_transfers, insns_items, end_transfers, blocks_items, exit_items}
use Rattle.frame_simulation.specs.edge_steps.Laws.{FunctionStands}

-- the items of the first block of a function from its first instruction on, where nothing stands at its top
abbrev pub first_items : Plan → ItemSetting → List TempInsn → (behind : List AsmItem) → List AsmItem
first_items a g insns behind =
    insns_items a g 0 0 insns (items_of_transfers g.shape (end_transfers a 0 insns)
    (blocks_items a g 1 (drop 1 a.function.blocks) (exit_items g behind)))

-- a call of a function: the machine comes to the first instruction of that
abbrev pub CallsAreDone : Type 0
CallsAreDone =
    (p : Program) (there : Labels) (start : Start) (g : ItemSetting) (rest : List AsmItem) (end : ℕ) (c : CallAt)
    (gs : List WaitingCall) (o : Outer) (store : Places) (s : State) → FitsTheStack c →
    StackIs p there start c gs store s → HasOuter o s → (transfers : List Transfer) → AllMayTransfer c.shape transfers →
    (widest function arguments : ℕ) (registers : List ℕ) → registers ≡ [] → arguments ≤ c.shape.outgoing + 6 →
    (a : Plan) (f : ItemSetting) (behind : List AsmItem) (last : ℕ) → FunctionStands p there a f function behind last →
    (insns : List TempInsn) → slice_get a.function.blocks 0 ≡ Some insns → top_transfers a 0 ≡ [] →
    HasRoom p c f.shape →
    StandsFor p there
    (items_of_transfers c.shape transfers (insn_items g registers (i.Call function arguments) ++ rest)) end c o.memory
    is_usable store s →
    EntryIs p there start (first_items a f insns behind) last c (called_frame c f.shape (length o.memory)) gs o
    (do_all transfers store)
    (entry_places ((placed_site widest transfers registers (i.Call function arguments)).fetch store)) rest end s

-- a return to a call that waits
abbrev pub ReturnsAreDone : Type 0
ReturnsAreDone =
    (p : Program) (there : Labels) (start : Start) (g : ItemSetting) (rest : List AsmItem) (end : ℕ) (c : CallAt)
    (w : WaitingCall) (gs : List WaitingCall) (o : Outer) (store : Places) (s : State) → FitsTheStack c →
    g.shape ≡ c.shape → StackIs p there start c (w ∷ gs) store s → HasOuter o s →
    (transfers : List Transfer) → AllMayTransfer c.shape transfers →
    (widest function arguments number : ℕ) (with_value : Bool) (registers : List ℕ) → registers ≡ [] →
    (a : Plan) (behind : List AsmItem) (last : ℕ) → FunctionStands p there a g number behind last →
    HasLabel g.exit_label rest →
    StandsFor p there
    (items_of_transfers c.shape transfers (insn_items g registers (i.Return with_value) ++ rest)) end c o.memory
    is_usable store s →
    ExitIs p there start w gs (caller_of c (length gs) w) (end_locals o c.own (length c.shape.sizes))
    (resumed_places function arguments w ((placed_site widest transfers registers (i.Return with_value)).fetch store)) s

-- the return of the first function ends the run
abbrev pub LastReturnsAreDone : Type 0
LastReturnsAreDone =
    (p : Program) (there : Labels) (start : Start) (g : ItemSetting) (rest : List AsmItem) (end : ℕ) (c : CallAt)
    (o : Outer) (store : Places) (s : State) → FitsTheStack c → g.shape ≡ c.shape →
    StackIs p there start c [] store s → HasOuter o s → start.behind ≡ ending_items →
    (transfers : List Transfer) → AllMayTransfer c.shape transfers →
    (widest number status : ℕ) (with_value : Bool) (registers : List ℕ) → registers ≡ [] →
    (a : Plan) (behind : List AsmItem) (last : ℕ) → FunctionStands p there a g number behind last →
    HasLabel g.exit_label rest →
    result_status ((placed_site widest transfers registers (i.Return with_value)).fetch store) ≡ Some status →
    StandsFor p there
    (items_of_transfers c.shape transfers (insn_items g registers (i.Return with_value) ++ rest)) end c o.memory
    is_usable store s →
    RunIsOver p (end_locals o c.own (length c.shape.sizes)) (Done status) s
