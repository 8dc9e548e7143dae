-- The allocations of a program in which every temporary lives in its slot.
use Rattle.std.specs.Prelude.{◌≡◌, List, [], All}
use Rattle.std.specs.List.{AllZip}
use Rattle.temp_ir.specs.Programs.{TempFn}
use Rattle.alloc_model.specs.declared.allocation.Allocation.{Allocation}
use Rattle.alloc_model.specs.Temporaries.{code_of}
use Rattle.alloc_model.specs.Places.{plan_of}
use Rattle.alloc_plain_lists.specs.Plain.{plain_plan}
use Rattle.alloc_rules.specs.Allocations.{IsAllocationOf}

-- an allocation of a function whose maps, transfers, registers and edges are the plainest ones
pub record IsPlainAllocationOf (f : TempFn) (a : Allocation) : Type 0 where
  pub allocation : IsAllocationOf f a
  pub plan : plan_of a ≡ plain_plan (code_of f) f.params f.temps

-- the same, in which no map names a temporary: each lives in its slot
pub record IsAllocationInSlotsOf (f : TempFn) (a : Allocation) : Type 0 where
  pub plain : IsPlainAllocationOf f a
  pub slots : All (λ named. named ≡ []) a.top

-- one for each function, in order
abbrev pub ArePlainAllocationsOf : List TempFn → List Allocation → Type 0
ArePlainAllocationsOf functions allocations = AllZip IsPlainAllocationOf functions allocations
