-- The text of what is live at the ends of blocks, and of lifetimes.
use Rattle.std.specs.Prelude.{ℕ, suc, ◌+◌, Bool, true, false, List, [], ◌∷◌, ◌++◌, slice_index_or, flat_map, codes, decimal}
use Rattle.suifvm_ir.specs.Lines.{block_name}
use Rattle.alloc_rules.specs.declared.scan.LifetimePart.{LifetimePart}

-- the members of a set whose first number is this, each with a blank before it
abbrev pub members_text : (first : ℕ) → List Bool → List ℕ
members_text first [] = []
members_text first (true ∷ set) = codes " t" ++ decimal first ++ members_text (suc first) set
members_text first (false ∷ set) = members_text (suc first) set

-- a block with the temporaries that are live at its top and at its bottom
abbrev pub live_block_line : (block : ℕ) → (top bottom : List Bool) → List ℕ
live_block_line block top bottom =
    block_name block ++ codes " in" ++ members_text 0 top ++ codes " out" ++ members_text 0 bottom ++ codes "\n"

-- the blocks from one on
abbrev pub live_blocks_text : (block : ℕ) → (bottoms tops : List (List Bool)) → List ℕ
live_blocks_text block bottoms [] = []
live_blocks_text block bottoms (top ∷ tops) =
    live_block_line block top (slice_index_or bottoms block []) ++ live_blocks_text (block + 1) bottoms tops

-- a part, from its first to its last point
abbrev pub part_text : LifetimePart → List ℕ
part_text part = codes " " ++ decimal part.first ++ codes "-" ++ decimal part.last

abbrev pub parts_text : List LifetimePart → List ℕ
parts_text parts = flat_map part_text parts

-- a temporary with the parts of its lifetime
abbrev pub lifetime_line : (temp : ℕ) → List LifetimePart → List ℕ
lifetime_line temp parts = codes "t" ++ decimal temp ++ parts_text parts ++ codes "\n"

-- the temporaries from one on
abbrev pub lifetimes_text : (temp : ℕ) → List (List LifetimePart) → List ℕ
lifetimes_text temp [] = []
lifetimes_text temp (parts ∷ lists) = lifetime_line temp parts ++ lifetimes_text (temp + 1) lists

abbrev pub name_line : List ℕ → List ℕ
name_line name = codes "func " ++ name ++ codes "\n"

-- a function: its name, its blocks, its temporaries
abbrev pub live_function_text : (name : List ℕ) → (tops bottoms : List (List Bool)) →
    (lists : List (List LifetimePart)) → List ℕ
live_function_text name tops bottoms lists = name_line name ++ live_blocks_text 0 bottoms tops ++ lifetimes_text 0 lists
