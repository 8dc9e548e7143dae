-- The text of the flow graphs of a program: each function with its blocks, and the blocks that may follow each.
use Rattle.std.specs.Prelude.{ℕ, ◌+◌, List, [], ◌∷◌, ◌++◌, codes}
use Rattle.suifvm_ir.specs.Insns.{targets_of, flows_on_of}
use Rattle.suifvm_ir.specs.Programs.{VmFunction}
use Rattle.suifvm_ir.specs.Lines.{block_name}
use Rattle.cfg.specs.Edges.{successors_from}

-- each with a blank before it
abbrev pub followers_text : List ℕ → List ℕ
followers_text [] = []
followers_text (block ∷ blocks) = codes " " ++ block_name block ++ followers_text blocks

-- a block with its number, and the blocks that may follow it
abbrev pub block_line : (block : ℕ) → List ℕ → List ℕ
block_line block followers = block_name block ++ codes ":" ++ followers_text followers ++ codes "\n"

-- the blocks from a number on
abbrev pub lines_text : (block : ℕ) → List (List ℕ) → List ℕ
lines_text block [] = []
lines_text block (followers ∷ others) = block_line block followers ++ lines_text (block + 1) others

-- a function with its name, and its blocks
abbrev pub function_graph : VmFunction → List ℕ
function_graph f = codes "func " ++ f.name ++ codes "\n" ++ lines_text 0
    (successors_from targets_of flows_on_of 0 f.blocks)

abbrev pub graphs_text : List VmFunction → List ℕ
graphs_text [] = []
graphs_text (f ∷ fs) = function_graph f ++ graphs_text fs
