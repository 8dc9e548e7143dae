-- How many words the text of an assembly has, by the weight of the unit whose functions it has.
use Rattle.std.specs.Prelude.{◌≡◌, ℕ, ◌+◌, ◌*◌, ◌≤◌, Bool, List, All, length, slice_get, Some}
use Rattle.bk_memory.specs.Shortage.{MemoryIsShort}
use Rattle.alpha_items.specs.Assembly.{Assembly}
use Rattle.alpha_items.specs.Layout.{text_words}
use Rattle.alpha_items.specs.declared.final_fn.FinalFn.{FinalFn}
use Rattle.alpha_asm.specs.declared.assemble.AsmFault.{AsmFault}
use Rattle.alpha_asm.specs.declared.assemble.AsmFault.TheVariants.{NoMemory}
use Rattle.alpha_asm.specs.Fault.{HasFewWords, IsAsmFault}
use Rattle.alpha_rt.specs.Items.{all_items}
use Rattle.c_typed_tree.specs.declared.units.TypedFn.{TypedFn}
use Rattle.c_typed_tree.specs.declared.units.TypedUnit.{TypedUnit}
use Rattle.c_typed_tree.specs.Weight.{function_weight, unit_weight}
use Rattle.c_typing_weight.specs.Limits.{most_weight}
use Rattle.mem_objects.specs.declared.DataObject.{DataObject}
use Rattle.pass_core.specs.Functions.{AllInsns}
use Rattle.temp_ir.specs.Cost.{bulk}
use Rattle.alloc_model.specs.declared.allocation.Allocation.{Allocation}
use Rattle.alloc_model.specs.Places.{plan_of}
use Rattle.alloc_model.specs.Faithful.{HasLists}
use Rattle.alloc_rules.specs.Lean.{IsLean}
use Rattle.image_code_bounds.specs.frame_words.Words.{most_words_of}
use Rattle.frame_bounds.specs.Near.{IsNear}
use Rattle.image_assembly.specs.Programs.{start_items}
use Rattle.image_assembly.specs.Layouts.{FunctionIsLaidOut, FunctionsAreLaidOut}
use Rattle.image_assembly.specs.Assemblies.{whole_assembly}

-- ---- parts of a text

-- a function with a lean allocation, of which no argument place is cut, has at most the words of its bulk
abbrev pub LaidOutFunctionsAreShort : Type 0
LaidOutFunctionsAreShort =
    (globals : List DataObject) (number first : ℕ) (a : Allocation) (f : FinalFn) → HasLists (plan_of a) →
    IsLean (plan_of a) → AllInsns IsNear a.func.blocks → FunctionIsLaidOut globals number first a f →
    most_words_of f.items.items ≤ bulk a.func

-- the start piece, with the division routines behind it, is no longer than one unit of weight allows
abbrev pub StartsAreShort : Type 0
StartsAreShort = (main : ℕ) → most_words_of (start_items main all_items) ≤ 2048

-- ---- a text

-- the functions of a unit have such allocations, by their numbers, and the bulk of each is at most 2,048 words for each
-- unit of its weight and for one more
pub record AreLight (unit : TypedUnit) (allocations : List Allocation) : Type 0 where
  pub count : length allocations ≡ length unit.functions
  pub lists : All (λ (a : Allocation). HasLists (plan_of a)) allocations
  pub lean : All (λ (a : Allocation). IsLean (plan_of a)) allocations
  pub near : All (λ (a : Allocation). AllInsns IsNear a.func.blocks) allocations
  pub bulks : (k : ℕ) (f : TypedFn) (a : Allocation) → slice_get unit.functions k ≡ Some f →
      slice_get allocations k ≡ Some a → bulk a.func ≤ 2048 * (function_weight unit.structs f + 1)

-- what holds of the assembly of a unit whose functions are laid out by such allocations
abbrev pub OfAssemblies : ((unit : TypedUnit) → (asm : Assembly) → Type 0) → Type 0
OfAssemblies P =
    (unit : TypedUnit) (globals : List DataObject) (allocations : List Allocation) (finals : List FinalFn) →
    AreLight unit allocations → FunctionsAreLaidOut globals allocations finals → P unit (whole_assembly finals globals)

-- its text has at most 2,048 words for each unit of weight, whichever branches are far
abbrev pub TextIsWithinWeight : (unit : TypedUnit) → (asm : Assembly) → Type 0
TextIsWithinWeight unit asm = (far : List Bool) → text_words asm.items far ≤ 2048 * unit_weight unit

abbrev pub TextsAreWithinWeight : Type 0
TextsAreWithinWeight = OfAssemblies TextIsWithinWeight

-- so it fits an image where the unit is no heavier than a unit may be
abbrev pub FitsImages : (unit : TypedUnit) → (asm : Assembly) → Type 0
FitsImages unit asm = unit_weight unit ≤ most_weight → HasFewWords asm

abbrev pub LightTextsFitImages : Type 0
LightTextsFitImages = OfAssemblies FitsImages

-- such an assembly is refused only where memory is short
abbrev pub OnlyMemoryIsShort : Type 0
OnlyMemoryIsShort =
    (asm : Assembly) (fault : AsmFault) → HasFewWords asm → IsAsmFault asm fault → (fault ≡ NoMemory) × MemoryIsShort
