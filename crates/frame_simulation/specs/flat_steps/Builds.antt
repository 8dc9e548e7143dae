-- A program over registers and slots as it was built in an image: the items of each function stand there, frames are
-- small and fit their rooms, and what instructions name is there.
use Rattle.std.specs.Prelude.{◌≡◌, ℕ, suc, ◌+◌, ◌^◌, ◌<◌, ◌≤◌, ◌⊎◌, true, List, [], ◌++◌, length, Some, slice_get}
use Rattle.alpha_isa.specs.Program.{Program}
use Rattle.alpha_items.specs.declared.item.AsmItem.{AsmItem}
use Rattle.frame_steps.specs.item_steps.Standing.{Labels}
use Rattle.alpha_rt.specs.Calls.{scratch_size}
use Rattle.mem_model.specs.World.{Rooms, room_of}
use Rattle.pass_core.specs.Functions.{insn_at}
use Rattle.temp_ir.specs.declared.operation.TempBranchOp.{TempBranchOp}
use Rattle.temp_ir.specs.declared.insn.TempInsn.{TempInsn}
use Rattle.temp_ir.specs.declared.insn.TempInsn.TheVariants as i
use Rattle.temp_ir.specs.Insns.{targets_of}
use Rattle.alloc_model.specs.Temporaries.{flows_out}
use Rattle.alloc_model.specs.Places.{Plan, edge_transfers}
use Rattle.alloc_model.specs.Faithful.{Faithful}
use Rattle.frame_memory.specs.Relation.{Extents, Nobody}
use Rattle.frame_memory.specs.flat_frames.Shapes.{frame_size}
use Rattle.frame_steps.specs.frame_transfers.Laws.{CallAt}
use Rattle.frame_simulation.specs.stack_rooms.Items.{ItemSetting}
use Rattle.frame_simulation.specs.stack_rooms.Laws.{IsThere}
use Rattle.frame_simulation.specs.call_steps.Stacks.{Start}
use Rattle.frame_simulation.specs.call_steps.Leaving.{ending_items}
use Rattle.frame_simulation.specs.edge_shapes.Divisions.{RoutinesStand}
use Rattle.frame_simulation.specs.edge_shapes.Items.{top_transfers, end_transfers}
use Rattle.frame_simulation.specs.edge_shapes.Laws.{FunctionStands}
use Rattle.frame_simulation.specs.edge_shapes.Shapes.{shape_of}

-- ---- edges

-- Each edge of a plan leads to a block that is there, and its transfers stand where the run comes by: at the end of the
-- first block where that has one successor, and else at the top of the second one. No edge leads to the first block
pub record EdgesLead (a : Plan) : Type 0 where
  pub entry : 0 < length a.function.blocks
  pub first : top_transfers a 0 ≡ []
  pub targets : (block at : ℕ) (x : TempInsn) → insn_at a.function.blocks block at ≡ Some x → (k to : ℕ) →
      slice_get (targets_of x) k ≡ Some to → to < length a.function.blocks
  pub jumps : (block at to : ℕ) → insn_at a.function.blocks block at ≡ Some (i.Jump to) → top_transfers a to ≡ []
  pub branches : (block at : ℕ) (op : TempBranchOp) (source to : ℕ) →
      insn_at a.function.blocks block at ≡ Some (i.Branch op source to) →
      top_transfers a to ≡ edge_transfers a block to
  -- each edge back leads to a block that begins with a mark
  pub marks : (block at : ℕ) (x : TempInsn) → insn_at a.function.blocks block at ≡ Some x → (k to : ℕ) →
      slice_get (targets_of x) k ≡ Some to → (block < to) ⊎ (insn_at a.function.blocks to 0 ≡ Some i.Mark)
  pub follows : (block : ℕ) (insns : List TempInsn) → slice_get a.function.blocks block ≡ Some insns →
      flows_out insns ≡ true → suc block < length a.function.blocks
  pub ends : (block : ℕ) (insns : List TempInsn) → slice_get a.function.blocks block ≡ Some insns →
      flows_out insns ≡ true →
      end_transfers a block insns ++ top_transfers a (suc block) ≡ edge_transfers a block (suc block)

-- ---- builds

-- a program as it was built: the image with the places of its labels, how a run starts in it, the plan and the room of
-- each function with what its items refer to and the items behind them, where the items end, and where the objects of
-- static storage lie
pub record Build : Type 0 where
  pub program : Program
  pub there : Labels
  pub start : Start
  pub plans : List Plan
  pub rooms : Rooms
  pub setting : (function : ℕ) → ItemSetting
  pub behind : (function : ℕ) → List AsmItem
  pub end : ℕ
  pub globals : Extents

-- what any call of a function has
abbrev pub any_call : Build → (function : ℕ) → CallAt
any_call b f = record {
  extents = b.globals;
  owner = λ y. Nobody;
  sp = 0;
  depth = 0;
  own = 0;
  shape = (b.setting f).shape;
}

-- a function with a number stands in the image, its frame with the scratch bytes of a routine fits its room, and what
-- its instructions name is there
pub record FunctionIsBuilt (b : Build) (f : ℕ) (a : Plan) : Type 0 where
  pub stands : FunctionStands b.program b.there a (b.setting f) f (b.behind f) b.end
  pub shape : (b.setting f).shape ≡ shape_of a
  pub faithful : Faithful a
  pub edges : EdgesLead a
  pub small : frame_size (shape_of a) < 2 ^ 29
  pub room : frame_size (shape_of a) + scratch_size ≤ room_of b.rooms f
  pub names : (block at : ℕ) (x : TempInsn) → insn_at a.function.blocks block at ≡ Some x →
      IsThere b.program (b.setting f) (any_call b f) x
  pub calls : (block at function arguments : ℕ) →
      insn_at a.function.blocks block at ≡ Some (i.Call function arguments) → function < length b.plans

-- so do all functions and the division routines; a run ends behind its first call
pub record BuildStands (b : Build) : Type 0 where
  pub functions : (f : ℕ) (a : Plan) → slice_get b.plans f ≡ Some a → FunctionIsBuilt b f a
  pub routines : RoutinesStand b.program b.there
  pub ending : b.start.behind ≡ ending_items
  pub top : b.start.top < 2 ^ 64
  pub within : b.end ≤ length b.program.words
