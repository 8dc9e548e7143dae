-- Names of blocks.
use Rattle.std.specs.Prelude.{ℕ, suc, List, [], ◌∷◌}
use Rattle.lowering_code.specs.declared.item.CodeItem.{CodeItem}
use Rattle.lowering_code.specs.declared.item.CodeItem.TheVariants.{Start, Plain, Jump, Branch, Loop, Enter, Again, Repeat, Return}

-- how many blocks begin in the code: this is the name of the block that begins with it
abbrev pub block_total : List CodeItem → ℕ
block_total [] = 0
block_total (Start ∷ is) = suc (block_total is)
block_total (Plain insn ∷ is) = block_total is
block_total (Jump name ∷ is) = suc (block_total is)
block_total (Branch op ty source name ∷ is) = suc (block_total is)
block_total (Loop name ∷ is) = suc (block_total is)
block_total (Enter ∷ is) = suc (block_total is)
block_total (Again ty source ∷ is) = suc (block_total is)
block_total (Repeat ∷ is) = suc (block_total is)
block_total (Return value ∷ is) = suc (block_total is)
