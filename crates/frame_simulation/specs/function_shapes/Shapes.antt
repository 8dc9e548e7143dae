-- The shape of a function's frame, by its allocation: it saves each register that the allocation names.
use Rattle.std.specs.Prelude.{◌≡◌, ℕ, ◌+◌, ◌-◌, ◌≤◌, ◌||◌, Bool, List, Some}
use Rattle.std.specs.List.{list_any}
use Rattle.pass_core.specs.Functions.{insn_at}
use Rattle.temp_ir.specs.declared.insn.TempInsn.{TempInsn}
use Rattle.temp_ir.specs.Fixed.{has_number}
use Rattle.alloc_model.specs.declared.allocation.Transfer.{Transfer}
use Rattle.alloc_model.specs.Effect.{widest_call}
use Rattle.alloc_model.specs.Places.{Plan, transfers_at, registers_at}
use Rattle.alloc_model.specs.Faithful.{named_registers, HasLists}
use Rattle.frame_memory.specs.flat_frames.Shapes.{FrameShape}
use Rattle.frame_simulation.specs.placed_steps.Laws.{IsStated}
use Rattle.frame_simulation.specs.placed_steps.Points.{AllMayTransfer}

-- transfers, or an allocation, name a register
abbrev pub names_in : List Transfer → (register : ℕ) → Bool
names_in xs r = list_any (λ x. has_number (named_registers x) r) xs

abbrev pub plan_names : Plan → (register : ℕ) → Bool
plan_names a r =
    list_any (λ xs. names_in xs r) a.at
    || (list_any (λ rs. has_number rs r) a.regs || list_any (λ e. names_in e.code r) a.edges)

abbrev pub shape_of : Plan → FrameShape
shape_of a = record {
  outgoing = widest_call a.function.blocks - 6;
  temps = a.temps;
  sizes = a.function.sizes;
  saves = plan_names a;
}

-- so the transfers and registers of each point fit the frame
pub record PointFits (a : Plan) (block at : ℕ) (x : TempInsn) : Type 0 where
  pub transfers : AllMayTransfer (shape_of a) (transfers_at a block at)
  pub stated : IsStated (shape_of a) (registers_at a block at) x

pub record PlanFits (a : Plan) : Type 0 where
  pub points : (block at : ℕ) (x : TempInsn) → insn_at a.function.blocks block at ≡ Some x → PointFits a block at x
  pub widest : widest_call a.function.blocks ≤ (shape_of a).outgoing + 6

abbrev pub PlansFit : Type 0
PlansFit = (a : Plan) → HasLists a → PlanFits a
