-- The text of each pass of a compile.
use Rattle.std.specs.Prelude.{◌≡◌, ℕ, ◌+◌, List, [], ◌∷◌, ◌++◌, flat_map}
use Rattle.c_tree.specs.Nodes.{text_of as tree_text}
use Rattle.pass_core.specs.Functions.{count_of}
use Rattle.suifvm_ir.specs.Text as vm
use Rattle.cfg.specs.cfg_text.Text.{graphs_text}
use Rattle.temp_ir.specs.Text as temps
use Rattle.alloc_model.specs.declared.allocation.Allocation.{Allocation}
use Rattle.alloc_live_lines.specs.Lives.{AreLiveTexts}
use Rattle.alloc_lines.specs.Text.{allocation_text, journal_lines}
use Rattle.alpha_text.specs.Texts.{asm_text}
use Rattle.call_words.specs.declared.compile_options.PassName.{PassName}
use Rattle.call_words.specs.declared.compile_options.PassName.TheVariants.{Tree, Vm, Graph, Select, Live, Alloc, Journal, Asm}
use Rattle.compiler.specs.declared.built.Built.{Built}

-- the allocations, whose instructions are counted over all of them, as over the program that they are of
abbrev pub allocations_text : (number : ℕ) → List Allocation → List ℕ
allocations_text number [] = []
allocations_text number (a ∷ allocations) =
    allocation_text number a ++ allocations_text (number + count_of a.func.blocks) allocations

-- what the allocator did, function by function
abbrev pub journals_text : List Allocation → List ℕ
journals_text allocations = flat_map journal_lines allocations

-- A text is that of a pass: the tree; the code over virtual registers, and its flow graphs; the code over temporaries,
-- and what is live in it; where the temporaries live, and what the allocator did; the assembly.
abbrev pub IsTextOfPass : PassName → Built → List ℕ → Type 0
IsTextOfPass Tree b shown = shown ≡ tree_text b.unit
IsTextOfPass Vm b shown = shown ≡ vm.program_text b.vm.functions
IsTextOfPass Graph b shown = shown ≡ graphs_text b.vm.functions
IsTextOfPass Select b shown = shown ≡ temps.program_text b.temps.functions
IsTextOfPass Live b shown = AreLiveTexts b.temps.functions shown
IsTextOfPass Alloc b shown = shown ≡ allocations_text 0 b.allocations.items
IsTextOfPass Journal b shown = shown ≡ journals_text b.allocations.items
IsTextOfPass Asm b shown = shown ≡ asm_text b.asm
