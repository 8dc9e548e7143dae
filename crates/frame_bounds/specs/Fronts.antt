-- The items of a function in front of others.
use Rattle.std.specs.Prelude.{◌≡◌, ℕ, List, [], ◌++◌}
use Rattle.alpha_items.specs.declared.item.AsmItem.{AsmItem}
use Rattle.alloc_model.specs.Places.{Plan}
use Rattle.frame_emitter.specs.InstructionItems.{ItemSetting}
use Rattle.frame_emitter.specs.Items.{function_items}

abbrev pub ItemsStandInFront : Type 0
ItemsStandInFront =
    (a : Plan) (g : ItemSetting) (number : ℕ) (rest : List AsmItem) →
    function_items a g number [] ++ rest ≡ function_items a g number rest
