-- No more blocks begin in code than it has items.
use Rattle.std.proofs.Common.{◌≤◌, ℕ, List, [], ◌∷◌, length, arith}
use Rattle.lowering_code.specs.declared.item.CodeItem.{CodeItem}
use Rattle.lowering_code.specs.declared.item.CodeItem.TheVariants.{Start, Plain, Jump, Branch, Loop, Enter, Again, Repeat, Return}
use Rattle.lowering_code.specs.Items.{block_total}

pub count_le : (is : List CodeItem) → block_total is ≤ length is
count_le [] = omega arith
count_le (Start ∷ is) = omega (arith, count_le is)
count_le (Plain insn ∷ is) = omega (arith, count_le is)
count_le (Jump name ∷ is) = omega (arith, count_le is)
count_le (Branch op ty source name ∷ is) = omega (arith, count_le is)
count_le (Loop name ∷ is) = omega (arith, count_le is)
count_le (Enter ∷ is) = omega (arith, count_le is)
count_le (Again ty source ∷ is) = omega (arith, count_le is)
count_le (Repeat ∷ is) = omega (arith, count_le is)
count_le (Return value ∷ is) = omega (arith, count_le is)
