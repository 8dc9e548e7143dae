-- Divisions, which are calls of routines.
use Rattle.std.specs.Prelude.{◌≡◌, ℕ, ◌+◌, ◌<◌, ◌≤◌, true, List, [], ◌∷◌}
use Rattle.alpha_isa.specs.declared.insn.BranchOp.TheVariants.{Bsr}
use Rattle.alpha_isa.specs.Program.{Program, stack_start}
use Rattle.alpha_isa.specs.State.{State}
use Rattle.alpha_items.specs.declared.item.AsmItem.{AsmItem}
use Rattle.alpha_items.specs.declared.item.AsmItem.TheVariants.{Branch}
use Rattle.frame_steps.specs.item_steps.Standing.{Labels}
use Rattle.alpha_rt.specs.Routine as rt
use Rattle.alpha_rt.specs.Code.{entry}
use Rattle.alpha_rt.specs.Calls.{RoutinesStandAt, scratch_size}
use Rattle.alpha_rt.specs.Items.{entry_label}
use Rattle.mem_model.specs.World.{Outer}
use Rattle.temp_ir.specs.declared.operation.DivisionRoutine.{DivisionRoutine}
use Rattle.temp_ir.specs.declared.insn.TempInsn.TheVariants as i
use Rattle.alloc_model.specs.Effect.{routine_of, writes, division_answer}
use Rattle.alloc_model.specs.Places.{Places, Reg}
use Rattle.frame_memory.specs.Relation.{Nobody}
use Rattle.frame_memory.specs.Machine.{is_reached}
use Rattle.frame_steps.specs.frame_transfers.Laws.{CallAt, FitsTheStack, StandsFor}
use Rattle.frame_simulation.specs.call_stacks.Items.{ItemSetting}
use Rattle.frame_simulation.specs.call_stacks.InstructionItemsLaws.{is_usable, HasOuter, ActIsDone, store_behind}

-- the routines stand in the text, and their labels at their entries
pub record RoutinesStand (p : Program) (there : Labels) : Type 0 where
  pub word : ℕ
  pub code_stands : RoutinesStandAt p word
  pub labels : (r : rt.Routine) → there (entry_label r) ≡ word + entry r

-- below the frame the stack has the scratch bytes of a routine, and is nobody's
pub record HasScratch (p : Program) (c : CallAt) (s : State) : Type 0 where
  pub room : stack_start p + scratch_size ≤ c.sp
  pub free : (y : ℕ) → stack_start p ≤ y → y < c.sp → c.owner y ≡ Nobody
  pub reached : (y : ℕ) → stack_start p ≤ y → y < c.sp → is_reached p s y ≡ true

-- at the call of a routine the machine does what the division does with the contents of registers 24 and 25
abbrev pub DivisionsAreDone : Type 0
DivisionsAreDone =
    (p : Program) (there : Labels) (g : ItemSetting) (rest : List AsmItem) (end : ℕ) (c : CallAt) (o : Outer)
    (held : Places)
    (s : State) → FitsTheStack c → HasOuter o s → RoutinesStand p there → HasScratch p c s → (r : DivisionRoutine) →
    StandsFor p there (Branch Bsr 23 (entry_label (routine_of r)) ∷ rest) end c o.memory is_usable held s →
    ActIsDone p there g rest end c (store_behind [] (i.Divide r) held) (i.Divide r) s
    (writes (division_answer r (held (Reg 24)) (held (Reg 25))) o)
