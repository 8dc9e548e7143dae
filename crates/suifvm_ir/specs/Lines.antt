-- The lines of functions over instructions of any kind: each function with its blocks and instructions. What an
-- instruction is printed as is a parameter, and so are the name and the blocks of a function.
use Rattle.std.specs.Prelude.{ℕ, ◌+◌, List, [], ◌∷◌, ◌++◌, length, codes, decimal}
use Rattle.pass_core.specs.Functions.{count_of}

abbrev pub block_name : ℕ → List ℕ
block_name block = codes "B" ++ decimal block

module _ {I : Type 0} (insn_text : I → List ℕ) where
  -- an instruction with its number
  abbrev pub line_text : (number : ℕ) → I → List ℕ
  line_text number i = decimal number ++ codes " " ++ insn_text i ++ codes "\n"

  -- the instructions from a number on
  abbrev pub insns_text : (number : ℕ) → List I → List ℕ
  insns_text number [] = []
  insns_text number (i ∷ insns) = line_text number i ++ insns_text (number + 1) insns

  -- a block with its number, and its instructions
  abbrev pub block_text : (block number : ℕ) → List I → List ℕ
  block_text block number insns = block_name block ++ codes ":\n" ++ insns_text number insns

  -- the blocks from a number on
  abbrev pub blocks_text : (block number : ℕ) → List (List I) → List ℕ
  blocks_text block number [] = []
  blocks_text block number (insns ∷ blocks) =
      block_text block number insns ++ blocks_text (block + 1) (number + length insns) blocks

  -- a function with its name, and its blocks
  abbrev pub function_text : (name : List ℕ) → (number : ℕ) → List (List I) → List ℕ
  function_text name number blocks = codes "func " ++ name ++ codes "\n" ++ blocks_text 0 number blocks

  -- the functions, whose instructions are counted over all of them
  abbrev pub functions_text : {F : Type 0} → (name_of : F → List ℕ) → (blocks_of : F → List (List I)) → (number : ℕ) →
      List F → List ℕ
  functions_text name_of blocks_of number [] = []
  functions_text name_of blocks_of number (f ∷ fs) =
      function_text (name_of f) number (blocks_of f)
      ++ functions_text name_of blocks_of (number + count_of (blocks_of f)) fs
