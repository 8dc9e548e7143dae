-- What is asked of a function before it is allocated, and what is known of those that are laid out so far.
use Rattle.std.specs.Prelude.{◌≡◌, ℕ, ◌+◌, ◌^◌, ◌<◌, ◌++◌, IsTrue, List, All, length, sum_by}
use Rattle.std.specs.List.{AllZip}
use Rattle.alpha_items.specs.declared.item.AsmItem.{AsmItem}
use Rattle.alpha_items.specs.declared.final_fn.FinalFn.{FinalFn}
use Rattle.alpha_rt.specs.Items.{all_items}
use Rattle.mem_objects.specs.declared.DataObject.{DataObject}
use Rattle.pass_core.specs.Functions.{AllInsns}
use Rattle.temp_ir.specs.Fixed.{is_settled}
use Rattle.temp_ir.specs.Programs.{TempFn}
use Rattle.alloc_model.specs.declared.allocation.Allocation.{Allocation}
use Rattle.alloc_rules.specs.Allocations.{IsAllocationOf}
use Rattle.image_assembly.specs.Assemblies.{final_items, main_of}
use Rattle.image_assembly.specs.Layouts.{first_label, label_count, FitsProgram, FunctionIsLaidOut, FollowFrom, FunctionsAreLaidOut}
use Rattle.image_assembly.specs.Programs.{start_items}
use Rattle.image_assembly.specs.Ranges.{HasSmallNumbers}

-- how many labels a function has, with that of its entry
abbrev pub label_bound : TempFn → ℕ
label_bound f = length f.blocks + 2

-- the numbers in the instructions of an allocation's function have the ranges of their types
abbrev pub IsSmallAllocation : Allocation → Type 0
IsSmallAllocation a = AllInsns HasSmallNumbers a.func.blocks

-- one of so many functions can be allocated, and whatever its allocation is, it fits the program with these objects of
-- static storage
pub record CanBeLaidOut (functions : ℕ) (globals : List DataObject) (f : TempFn) : Type 0 where
  pub settled : IsTrue (is_settled f.params f.blocks)
  pub fits : (a : Allocation) → IsAllocationOf f a → FitsProgram functions globals a

-- a function with a number and a first label is laid out by an allocation that an allocator gives for it
pub record IsLayoutBy (gives : TempFn → Allocation → Type 0) (globals : List DataObject) (number first : ℕ)
    (f : TempFn) (final : FinalFn) : Type 0 where
  pub allocation : Allocation
  pub is : gives f allocation
  pub laid_out : FunctionIsLaidOut globals number first allocation final
  pub small : IsSmallAllocation allocation

-- those before the rest of all functions are laid out, and their items stand behind the ones before them; the number
-- of the next function and its first label are the ones behind theirs
pub record AreLaidOutSoFar (gives : TempFn → Allocation → Type 0) (globals : List DataObject)
    (all rest : List TempFn) (before : List AsmItem) (number first : ℕ) (items : List AsmItem) : Type 0 where
  pub can : All (CanBeLaidOut (length all) globals) rest
  pub so_far : List TempFn
  pub split : all ≡ so_far ++ rest
  pub allocations : List Allocation
  pub are : AllZip gives so_far allocations
  pub small : All IsSmallAllocation allocations
  pub finals : List FinalFn
  pub laid_out : FollowFrom globals 0 (first_label (length all)) allocations finals
  pub place : number ≡ length so_far
  pub next : first ≡ first_label (length all) + sum_by label_count allocations
  pub few : length so_far + sum_by label_count allocations + sum_by label_bound rest < 2 ^ 30
  pub text : items ≡ before ++ final_items finals

-- all functions are laid out by what an allocator gives for them, and their items stand behind the ones before them
pub record AreLayoutsBy (gives : TempFn → Allocation → Type 0) (globals : List DataObject) (functions : List TempFn)
    (before items : List AsmItem) : Type 0 where
  pub allocations : List Allocation
  pub are : AllZip gives functions allocations
  pub small : All IsSmallAllocation allocations
  pub finals : List FinalFn
  pub laid_out : FunctionsAreLaidOut globals allocations finals
  pub text : items ≡ before ++ final_items finals

-- so the items of an assembly are those of its functions between the start piece and the division routines
pub record AreItemsBy (gives : TempFn → Allocation → Type 0) (globals : List DataObject) (functions : List TempFn)
    (items : List AsmItem) : Type 0 where
  pub allocations : List Allocation
  pub are : AllZip gives functions allocations
  pub small : All IsSmallAllocation allocations
  pub finals : List FinalFn
  pub laid_out : FunctionsAreLaidOut globals allocations finals
  pub text : items ≡ start_items (main_of finals) (final_items finals ++ all_items)
