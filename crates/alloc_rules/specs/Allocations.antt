-- Allocations of the functions of a program, whatever allocator makes them.
use Rattle.std.specs.Prelude.{◌≡◌, List}
use Rattle.std.specs.List.{AllZip}
use Rattle.temp_ir.specs.Programs.{TempFn}
use Rattle.alloc_model.specs.declared.allocation.Allocation.{Allocation}
use Rattle.alloc_model.specs.Places.{plan_of}
use Rattle.alloc_model.specs.Faithful.{Faithful}
use Rattle.alloc_rules.specs.Lean.{IsLean}
use Rattle.alloc_rules.specs.Journal.{IsJournal}

-- an allocation of a function: its function has the same name, numbers, objects and blocks, it is faithful and lean,
-- and its journal is the one of the replay
pub record IsAllocationOf (f : TempFn) (a : Allocation) : Type 0 where
  pub name : a.func.name ≡ f.name
  pub params : a.func.params ≡ f.params
  pub temps : a.func.temps ≡ f.temps
  pub objects : a.func.objects ≡ f.objects
  pub blocks : a.func.blocks ≡ f.blocks
  pub faithful : Faithful (plan_of a)
  pub lean : IsLean (plan_of a)
  pub journal : IsJournal (plan_of a) a.journal

-- one for each function, in order
abbrev pub AreAllocationsOf : List TempFn → List Allocation → Type 0
AreAllocationsOf functions allocations = AllZip IsAllocationOf functions allocations
