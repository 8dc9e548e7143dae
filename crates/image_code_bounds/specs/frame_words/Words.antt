-- The most words of items, and of a function.
use Rattle.std.specs.Prelude.{ℕ, ◌+◌, ◌*◌, ◌≤◌, Bool, List, [], ◌∷◌, All, if◌then◌else◌}
use Rattle.alpha_isa.specs.Step.{links}
use Rattle.alpha_items.specs.declared.item.AsmItem.{AsmItem}
use Rattle.alpha_items.specs.declared.item.AsmItem.TheVariants.{Label, Name, Plain, Branch, TextAddress, DataAddress}
use Rattle.alpha_items.specs.Layout.{text_words}
use Rattle.pass_core.specs.Functions.{count_of, edge_count, EndsLate}
use Rattle.temp_ir.specs.declared.insn.TempInsn.{TempInsn}
use Rattle.temp_ir.specs.Insns.{targets_of, flows_on_of}
use Rattle.temp_ir.specs.Cost.{call_count}
use Rattle.alloc_model.specs.Places.{Plan}
use Rattle.alloc_model.specs.Faithful.{HasLists}
use Rattle.alloc_rules.specs.Lean.{IsLean}
use Rattle.frame_steps.specs.instruction_items.Items.{ItemSetting}
use Rattle.frame_steps.specs.function_items.Items.{function_items}

-- a far branch is an address and a jump, behind the inverse branch where it has a condition
abbrev pub most_item_words : AsmItem → ℕ
most_item_words (Label l) = 0
most_item_words (Name bytes) = 0
most_item_words (Plain insn) = 1
most_item_words (Branch op ra l) = if links op then 3 else 4
most_item_words (TextAddress ra l) = 2
most_item_words (DataAddress ra offset) = 2

abbrev pub most_words_of : List AsmItem → ℕ
most_words_of [] = 0
most_words_of (i ∷ items) = most_item_words i + most_words_of items

abbrev pub TextsHaveMostWords : Type 0
TextsHaveMostWords = (items : List AsmItem) (far : List Bool) → text_words items far ≤ most_words_of items

-- the bulk of a function with these blocks
abbrev pub bulk_of : List (List TempInsn) → ℕ
bulk_of blocks = 64 + 24 * count_of blocks + 160 * call_count blocks + 256 * edge_count targets_of flows_on_of blocks

abbrev pub LeanFunctionsAreShort : Type 0
LeanFunctionsAreShort =
    (a : Plan) (g : ItemSetting) (number : ℕ) (rest : List AsmItem) → IsLean a → HasLists a →
    All (EndsLate targets_of flows_on_of) a.function.blocks →
    most_words_of (function_items a g number rest) ≤ bulk_of a.function.blocks + most_words_of rest
