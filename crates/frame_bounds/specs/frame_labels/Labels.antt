-- The labels that the items of a function name and use.
use Rattle.std.specs.Prelude.{◌≡◌, ◌≢◌, ℕ, ◌+◌, ◌<◌, ◌≤◌, ◌⊎◌, List, ◌∷◌, ◌++◌, All, length, Some, IfSome}
use Rattle.std.specs.List.{AllPairs, range_with_len}
use Rattle.alpha_items.specs.declared.item.AsmItem.{AsmItem}
use Rattle.alpha_items.specs.Items.{label_used}
use Rattle.alpha_items.specs.Assembly.{labels}
use Rattle.mem_objects.specs.declared.DataObject.{DataObject}
use Rattle.pass_core.specs.Functions.{AllInsns, GoesToBlocks, insn_at}
use Rattle.temp_ir.specs.declared.insn.TempInsn.TheVariants.{Call}
use Rattle.temp_ir.specs.Insns.{targets_of}
use Rattle.alloc_model.specs.Places.{Plan}
use Rattle.frame_steps.specs.instruction_items.Items.{function_label}
use Rattle.frame_emitter.specs.Items.{function_items}
use Rattle.frame_emitter.specs.Settings.{setting_of}

-- the label of its entry, and from a first one on those of its blocks and of its exit part
abbrev pub own_labels : Plan → (first number : ℕ) → List ℕ
own_labels a first number = function_label number ∷ range_with_len first (length a.function.blocks + 1)

abbrev pub LabelsAreNamed : Type 0
LabelsAreNamed =
    (a : Plan) (globals : List DataObject) (first number : ℕ) (rest : List AsmItem) →
    labels (function_items a (setting_of a globals first) number rest) ≡ own_labels a first number ++ labels rest

-- none of them twice
abbrev pub LabelsDiffer : Type 0
LabelsDiffer =
    (a : Plan) (first number : ℕ) → function_label number < first → AllPairs (λ l m. l ≢ m) (own_labels a first number)

-- a function is called at this label
pub record IsCalledAt (a : Plan) (label : ℕ) : Type 0 where
  pub block : ℕ
  pub at : ℕ
  pub function : ℕ
  pub arguments : ℕ
  pub call : insn_at a.function.blocks block at ≡ Some (Call function arguments)
  pub label_is : label ≡ function_label function

-- labels that may be used: those of blocks and of the exit part, of the division routines, and of called functions
abbrev pub IsUsable : Plan → (first label : ℕ) → Type 0
IsUsable a first l =
    ((first ≤ l) × (l ≤ first + length a.function.blocks)) ⊎ (((1 ≤ l) × (l ≤ 8)) ⊎ IsCalledAt a l)

abbrev pub UsesOnly : Plan → (first : ℕ) → AsmItem → Type 0
UsesOnly a first i = IfSome (label_used i) (IsUsable a first)

abbrev pub LabelsAreUsable : Type 0
LabelsAreUsable =
    (a : Plan) (globals : List DataObject) (first number : ℕ) (rest : List AsmItem) →
    AllInsns (GoesToBlocks targets_of (length a.function.blocks)) a.function.blocks → All (UsesOnly a first) rest →
    All (UsesOnly a first) (function_items a (setting_of a globals first) number rest)
