-- The lists of a function, as they are made.
use Rattle.std.specs.Prelude.{◌≡◌, []}
use Rattle.temp_ir.specs.Programs.{TempFn}
use Rattle.alloc_model.specs.declared.allocation.Allocation.{Allocation}
use Rattle.alloc_model.specs.Temporaries.{code_of}
use Rattle.alloc_model.specs.Places.{plan_of}
use Rattle.alloc_plain_lists.specs.Plain.{plain_plan}

-- the plainest maps, transfers, registers and edges of a function, and nothing in the journal
pub record HasPlainLists (f : TempFn) (a : Allocation) : Type 0 where
  pub name : a.func.name ≡ f.name
  pub objects : a.func.objects ≡ f.objects
  pub plan : plan_of a ≡ plain_plan (code_of f) f.params f.temps
  pub journal : a.journal ≡ []
