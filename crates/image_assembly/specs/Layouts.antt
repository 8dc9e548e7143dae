-- The functions of a program, laid out one behind the other: each with its own number, and with labels from the end of
-- those of the one before it.
use Rattle.std.specs.Prelude.{◌≡◌, ℕ, suc, ◌+◌, ◌^◌, ◌≤◌, List, [], ◌∷◌, map, length, sum_by}
use Rattle.alpha_items.specs.declared.item.AsmItem.TheVariants.{Name}
use Rattle.alpha_items.specs.declared.final_fn.FinalFn.{FinalFn}
use Rattle.mem_objects.specs.declared.DataObject.{DataObject}
use Rattle.mem_objects.specs.declared.TheConstants.{MOST_DATA}
use Rattle.pass_core.specs.Functions.{AllInsns}
use Rattle.alloc_model.specs.declared.allocation.Allocation.{Allocation}
use Rattle.alloc_model.specs.Effect.{widest_call}
use Rattle.alloc_model.specs.Places.{plan_of}
use Rattle.alloc_model.specs.Faithful.{Faithful}
use Rattle.frame_memory.specs.flat_frames.Shapes.{objects_size}
use Rattle.frame_steps.specs.instruction_items.Items.{function_label}
use Rattle.image_theorem.specs.program_images.Items.{function_items}
use Rattle.frame_layout.specs.Settings.{near_plan, setting_of}
use Rattle.frame_layout.specs.Names.{NamesObjects, CallsBelow}

-- ---- what is asked

-- the label of the first block of the first one of so many functions: it is the one behind those of their entries
abbrev pub first_label : (functions : ℕ) → ℕ
first_label functions = function_label functions

-- how many labels the blocks and the exit part of a function have
abbrev pub label_count : Allocation → ℕ
label_count a = length a.func.blocks + 1

-- an allocation of one of so many functions, beside these objects of static storage: it is faithful, the functions that
-- it calls are among them, each object that it names is there, and its numbers are within the bounds of a frame
pub record FitsProgram (functions : ℕ) (globals : List DataObject) (a : Allocation) : Type 0 where
  pub faithful : Faithful (plan_of a)
  pub calls : AllInsns (CallsBelow (first_label functions)) a.func.blocks
  pub names : AllInsns (NamesObjects globals a.func.objects) a.func.blocks
  pub objects : objects_size (map (λ o. o.size) a.func.objects) ≤ MOST_DATA
  pub temps : a.func.temps ≤ 2 ^ 24
  pub arguments : widest_call a.func.blocks ≤ 2 ^ 24

-- the label behind those of all functions
abbrev pub end_label : List Allocation → ℕ
end_label allocations = first_label (length allocations) + sum_by label_count allocations

-- ---- what is made

-- a function with a number and a first label
pub record FunctionIsLaidOut (globals : List DataObject) (number first : ℕ) (a : Allocation) (f : FinalFn) : Type 0 where
  pub name : f.name ≡ a.func.name
  pub items : f.items.items ≡ Name a.func.name ∷
      function_items (near_plan (plan_of a)) (setting_of (near_plan (plan_of a)) globals first) number []

-- functions from a number and a first label on
abbrev pub FollowFrom : List DataObject → (number first : ℕ) → List Allocation → List FinalFn → Type 0
FollowFrom globals number first [] [] = Unit {0}
FollowFrom globals number first (a ∷ allocations) (f ∷ finals) =
    FunctionIsLaidOut globals number first a f × FollowFrom globals (suc number) (first + label_count a) allocations
    finals
FollowFrom globals number first _ _ = ⊥

abbrev pub FunctionsAreLaidOut : List DataObject → List Allocation → List FinalFn → Type 0
FunctionsAreLaidOut globals allocations finals =
    FollowFrom globals 0 (first_label (length allocations)) allocations finals
