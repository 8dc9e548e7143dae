-- Where the division routines stand in the image of an assembly.
use Rattle.std.specs.Prelude.{◌≡◌, List, ◌++◌}
use Rattle.alpha_isa.specs.Program.{Program}
use Rattle.alpha_items.specs.declared.item.AsmItem.{AsmItem}
use Rattle.alpha_items.specs.Assembly.{Assembly, IsWhole}
use Rattle.alpha_items.specs.Layout.{label_place}
use Rattle.alpha_items.specs.Words.{Words}
use Rattle.alpha_rt.specs.Items.{all_items}
use Rattle.frame_simulation.specs.division_calls.Divisions.{RoutinesStand}

-- where an assembly has the items of the routines, whatever stands before and behind them, no branch within them is
-- far, and they stand in its image with their labels at their entries
abbrev pub AssembledRoutinesStand : Type 0
AssembledRoutinesStand =
    (asm : Assembly) (p : Program) → IsWhole asm → (w : Words asm p) → (front back : List AsmItem) →
    asm.items ≡ front ++ (all_items ++ back) → RoutinesStand p (label_place asm.items w.far)
