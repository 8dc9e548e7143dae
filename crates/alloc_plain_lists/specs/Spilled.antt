-- The allocation of a function in which every temporary lives in its slot, before it has a journal.
use Rattle.std.specs.Prelude.{◌≡◌, List, [], All}
use Rattle.temp_ir.specs.Programs.{TempFn}
use Rattle.alloc_model.specs.declared.allocation.Allocation.{Allocation}
use Rattle.alloc_model.specs.Temporaries.{code_of}
use Rattle.alloc_model.specs.Places.{plan_of}
use Rattle.alloc_model.specs.Faithful.{Faithful}
use Rattle.alloc_rules.specs.Lean.{IsLean}
use Rattle.alloc_plain_lists.specs.Plain.{plain_plan}

-- an allocation of a function: its function has the same name, numbers, objects and blocks, its maps, transfers,
-- registers and edges are the plainest ones, so it is faithful and lean, and nothing stands in its journal
pub record IsSpilledAllocationOf (f : TempFn) (a : Allocation) : Type 0 where
  pub name : a.func.name ≡ f.name
  pub params : a.func.params ≡ f.params
  pub temps : a.func.temps ≡ f.temps
  pub objects : a.func.objects ≡ f.objects
  pub blocks : a.func.blocks ≡ f.blocks
  pub plan : plan_of a ≡ plain_plan (code_of f) f.params f.temps
  pub faithful : Faithful (plan_of a)
  pub lean : IsLean (plan_of a)
  -- no map names a temporary
  pub slots : All (λ named. named ≡ []) a.top
  pub journal : a.journal ≡ []
