-- What is known of a text before its words are made, as the code has it.
use Rattle.std.specs.Prelude.{List}
use Rattle.alpha_items.specs.declared.item.AsmItem.{AsmItem}
use Rattle.alpha_asm.specs.declared.assemble.Plan.{Plan}
use Rattle.alpha_asm.specs.model.Text.{IsPlan}

-- this is the plan of the text of these items
abbrev pub IsPlanOf : List AsmItem → Plan → Type 0
IsPlanOf items plan =
    IsPlan items plan.targets.of_items.items plan.targets.entry plan.layout.far.items plan.layout.places.items
