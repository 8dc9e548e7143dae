-- A call is left: its objects end, its frame is nobody's, and the call that waited goes on.
use Rattle.std.specs.Prelude.{◌≡◌, ℕ, ◌+◌, ◌≤◌, nat_lt, pos, Bool, List, [], ◌∷◌, map, length, Some, if◌then◌else◌}
use Rattle.alpha_isa.specs.declared.insn.Fields.TheVariants.{Memory, Operate, Pal}
use Rattle.alpha_isa.specs.declared.insn.Operand.TheVariants.{Reg}
use Rattle.alpha_isa.specs.declared.insn.MemoryOp.TheVariants.{Lda}
use Rattle.alpha_isa.specs.declared.insn.OperateOp.TheVariants.{Bis}
use Rattle.alpha_isa.specs.Program.{Program, word_address}
use Rattle.alpha_isa.specs.State.{State}
use Rattle.alpha_isa.specs.Step.{Done}
use Rattle.alpha_items.specs.declared.item.AsmItem.{AsmItem}
use Rattle.alpha_items.specs.declared.item.AsmItem.TheVariants.{Plain}
use Rattle.frame_steps.specs.item_steps.Standing.{Labels}
use Rattle.frame_steps.specs.item_steps.Steps.{Leaves}
use Rattle.mem_model.specs.World.{Outer}
use Rattle.machine_model.specs.Machine.{end_locals}
use Rattle.temp_ir.specs.declared.insn.TempInsn.TheVariants as i
use Rattle.alloc_model.specs.Contents.{Content}
use Rattle.alloc_model.specs.Temporaries.{result_status}
use Rattle.alloc_model.specs.Places.{Places, places_read_at}
use Rattle.frame_memory.specs.Relation.{Owners, Nobody}
use Rattle.frame_memory.specs.flat_frames.Shapes.{frame_size}
use Rattle.frame_steps.specs.frame_transfers.Laws.{CallAt, FitsTheStack, StandsFor}
use Rattle.frame_steps.specs.call_parts.Items.{exit_part}
use Rattle.frame_simulation.specs.call_stacks.InstructionItemsLaws.{is_usable, HasOuter, RunIsOver, store_behind}
use Rattle.frame_simulation.specs.call_stacks.Stacks.{WaitingCall, call_frame, Start, StackIs}

-- what a call returns, and what the call that waited holds then
abbrev pub result_contents : (with_value : Bool) → Places → List Content
result_contents with_value held = map held (places_read_at [] (i.Return with_value))

abbrev pub resumed_places : (function arguments : ℕ) → WaitingCall → List Content → Places
resumed_places function arguments g cs = store_behind [] (i.Call function arguments) g.held cs

-- the frame is nobody's any more
abbrev pub left_owner : CallAt → Owners
left_owner c y =
    if nat_lt y c.sp then c.owner y else if nat_lt y (c.sp + frame_size c.shape) then Nobody else c.owner y

abbrev pub caller_of : CallAt → (depth : ℕ) → WaitingCall → CallAt
caller_of c depth g = call_frame c.extents (left_owner c) (c.sp + frame_size c.shape) depth g

-- the machine stands behind the call, for the call that waited
pub record ExitIs (p : Program) (there : Labels) (start : Start) (g : WaitingCall) (gs : List WaitingCall) (d : CallAt)
    (o : Outer)
    (held : Places) (s : State) : Type 0 where
  pub to : State
  pub comes : Leaves p (word_address (length p.words)) s to
  pub at_place : to.pc ≡ word_address g.place
  pub some : 1 ≤ comes.steps
  pub stands : StandsFor p there g.behind g.end d o.memory is_usable held to
  pub stack : StackIs p there start d gs held to
  pub outer : HasOuter o to

abbrev pub CallsAreLeft : Type 0
CallsAreLeft =
    (p : Program) (there : Labels) (start : Start) (c : CallAt) (g : WaitingCall) (gs : List WaitingCall) (o : Outer)
    (held : Places) (rest : List AsmItem) (end : ℕ) (s : State) → FitsTheStack c →
    StackIs p there start c (g ∷ gs) held s →
    HasOuter o s → (function arguments : ℕ) (with_value : Bool) →
    StandsFor p there (exit_part c.shape c.shape.saves rest) end c o.memory is_usable held s →
    ExitIs p there start g gs (caller_of c (length gs) g) (end_locals o c.own (length c.shape.sizes))
    (resumed_places function arguments g (result_contents with_value held)) s

-- behind the call of the first function the run is ended, with what it returned as its status
abbrev pub ending_items : List AsmItem
ending_items =
    Plain (Operate Bis 31 (Reg 0) 16) ∷ Plain (Memory Lda 0 31 (pos 1)) ∷ Plain (Pal 0x83) ∷ []

abbrev pub RunsAreEnded : Type 0
RunsAreEnded =
    (p : Program) (there : Labels) (start : Start) (c : CallAt) (o : Outer) (held : Places) (rest : List AsmItem)
    (end : ℕ)
    (s : State) → FitsTheStack c → StackIs p there start c [] held s → HasOuter o s → start.behind ≡ ending_items →
    (with_value : Bool) (status : ℕ) → result_status (result_contents with_value held) ≡ Some status →
    StandsFor p there (exit_part c.shape c.shape.saves rest) end c o.memory is_usable held s →
    RunIsOver p (end_locals o c.own (length c.shape.sizes)) (Done status) s
