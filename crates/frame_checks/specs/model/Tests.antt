-- All that is asked, by the parts that are tested.
use Rattle.std.specs.Prelude.{ℕ, ◌+◌, ◌<◌, ◌≤◌, ◌^◌, ◌&&◌, Bool, List, length}
use Rattle.std.specs.List.{list_all}
use Rattle.mem_objects.specs.declared.DataObject.{DataObject}
use Rattle.alloc_model.specs.declared.allocation.Allocation.{Allocation}
use Rattle.frame_steps.specs.instruction_items.Items.{function_label}
use Rattle.frame_checks.specs.model.Asked.{is_asked}
use Rattle.frame_checks.specs.model.Storage.{lie_from, are_small_from}

-- labels and temporaries are few enough
abbrev pub Numbers : Allocation → (number first : ℕ) → Type 0
Numbers a number first =
    (function_label number < first) × (first + length a.func.blocks < 4294967295) × (a.func.temps ≤ 2 ^ 24)

-- objects lie where they may, and each instruction is as is asked
abbrev pub names_fit : Allocation → List DataObject → (first : ℕ) → Bool
names_fit a globals first =
    lie_from 0 globals && (are_small_from 0 a.func.objects
    && list_all (list_all (is_asked globals a.func.objects first)) a.func.blocks)
