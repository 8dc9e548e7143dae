-- An assembly that has the items of a program over temporaries, by an allocation for each of its functions, and what
-- its image does.
use Rattle.std.specs.Prelude.{◌≡◌, ℕ, ◌+◌, ◌^◌, ◌<◌, ◌≤◌, List, ◌∷◌, ◌++◌, map, Some, slice_get}
use Rattle.alpha_isa.specs.declared.insn.BranchOp.TheVariants.{Bsr}
use Rattle.alpha_isa.specs.Program.{Program, IsLawful}
use Rattle.alpha_isa.specs.Behave.{IsStack, behave_a}
use Rattle.alpha_items.specs.declared.item.AsmItem.{AsmItem}
use Rattle.alpha_items.specs.declared.item.AsmItem.TheVariants.{Label, Branch}
use Rattle.alpha_items.specs.Assembly.{Assembly, IsWhole}
use Rattle.alpha_items.specs.Words.{Words}
use Rattle.alpha_rt.specs.Calls.{scratch_size}
use Rattle.alpha_rt.specs.Items.{all_items}
use Rattle.mem_model.specs.World.{Rooms, room_of}
use Rattle.mem_model.specs.Ending.{Ending, ending_peak}
use Rattle.mem_objects.specs.declared.DataObject.{DataObject}
use Rattle.cfg_edges.specs.Critical.{NoneCritical}
use Rattle.temp_ir.specs.declared.program.TempProgram.{TempProgram}
use Rattle.temp_ir.specs.Programs.{TempFn}
use Rattle.temp_ir.specs.Insns.{targets_of, flows_on_of}
use Rattle.alloc_model.specs.declared.allocation.Allocation.{Allocation}
use Rattle.alloc_model.specs.Temporaries.{code_of, main_of, TempsEnd}
use Rattle.alloc_model.specs.Places.{Plan, plan_of, functions_of}
use Rattle.alloc_model.specs.Laws.{AllFaithful}
use Rattle.mem_model.specs.Bytes.{AreBytes}
use Rattle.frame_memory.specs.flat_frames.Shapes.{frame_size}
use Rattle.frame_steps.specs.instruction_items.Items.{ItemSetting, function_label}
use Rattle.frame_simulation.specs.edge_leads.Leaving.{ending_items}
use Rattle.frame_simulation.specs.edge_leads.Items.{function_items}
use Rattle.frame_simulation.specs.edge_leads.Shapes.{shape_of}
use Rattle.image_theorem.specs.image_runs.Runs.{turns_for}
use Rattle.frame_memory.specs.global_data.GlobalBytes.{global_bytes, global_fixes}
use Rattle.image_theorem.specs.image_runs.Images.{HasBehaviour, AgreesWith}

abbrev pub plans_of : List Allocation → List Plan
plans_of allocations = map plan_of allocations

-- each function of a program has a faithful allocation, in a frame that fits its room, and no edge that has to be split
pub record IsAllocated (program : TempProgram) (allocations : List Allocation) (rooms : Rooms) : Type 0 where
  pub functions : map code_of program.functions ≡ functions_of (plans_of allocations)
  pub faithful : AllFaithful (plans_of allocations)
  pub split : (f : ℕ) (x : TempFn) → slice_get program.functions f ≡ Some x →
      NoneCritical targets_of flows_on_of x.blocks
  pub frames : (f : ℕ) (a : Plan) → slice_get (plans_of allocations) f ≡ Some a → frame_size (shape_of a) < 2 ^ 29
  pub room : (f : ℕ) (a : Plan) → slice_get (plans_of allocations) f ≡ Some a →
      frame_size (shape_of a) + scratch_size ≤ room_of rooms f

-- the start piece, by which the first function is called and the run ends
abbrev pub start_items : (main : ℕ) → (rest : List AsmItem) → List AsmItem
start_items main rest = Label 0 ∷ Branch Bsr 26 (function_label main) ∷ (ending_items ++ rest)

-- what the items of each function refer to, and what stands before and behind them; what stands behind the start piece;
-- and what stands before and behind the division routines
pub record ProgramPlacement : Type 0 where
  pub setting : (function : ℕ) → ItemSetting
  pub front : (function : ℕ) → List AsmItem
  pub behind : (function : ℕ) → List AsmItem
  pub after_start : List AsmItem
  pub before_routines : List AsmItem
  pub behind_routines : List AsmItem

-- an assembly has the items and the data of a program so
pub record HasItemsOf (asm : Assembly) (program : TempProgram) (plans : List Plan) (q : ProgramPlacement) : Type 0 where
  pub start : asm.items ≡ start_items (main_of program.functions) q.after_start
  pub functions : (f : ℕ) (a : Plan) → slice_get plans f ≡ Some a →
      asm.items ≡ q.front f ++ function_items a (q.setting f) f (q.behind f)
  pub shapes : (f : ℕ) (a : Plan) → slice_get plans f ≡ Some a → (q.setting f).shape ≡ shape_of a
  pub routines : asm.items ≡ q.before_routines ++ (all_items ++ q.behind_routines)
  pub bytes : asm.bytes ≡ global_bytes program.globals
  pub fixes : asm.fixes ≡ global_fixes program.globals
  pub offsets : (f : ℕ) (a : Plan) → slice_get plans f ≡ Some a → (k : ℕ) (o : DataObject) →
      slice_get program.globals k ≡ Some o → (q.setting f).global_at k ≡ o.offset

-- the image does what an ending of the program is, where the run may take so many turns, and nothing else
pub record ImageBehaves (p : Program) (plans : List Plan) (stack : ℕ) (input : List ℕ) (turns : ℕ) (e : Ending) : Type 0
  where
    pub behaves : HasBehaviour p stack input turns e
    pub only : (m : ℕ) → turns_for plans m ≤ turns → AgreesWith (behave_a p stack input m) e

-- the image of such an assembly, which is whole, behaves as the program does over temporaries, on each stack that holds
-- its rooms
abbrev pub ProgramsBehave : Type 0
ProgramsBehave =
    (asm : Assembly) (p : Program) → IsLawful p → IsWhole asm → Words asm p →
    (program : TempProgram) (allocations : List Allocation) (rooms : Rooms) (q : ProgramPlacement) →
    IsAllocated program allocations rooms → HasItemsOf asm program (plans_of allocations) q →
    (stack : ℕ) → IsStack stack → (input : List ℕ) → AreBytes input → (turns : ℕ) (e : Ending) →
    TempsEnd rooms program input turns e → ending_peak e ≤ stack →
    ImageBehaves p (plans_of allocations) stack input turns e
