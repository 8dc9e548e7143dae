-- A text has at most the most words of its items.
use Rattle.std.proofs.Common.{◌≤◌, Bool, true, false, List, [], ◌∷◌, arith}
use Rattle.std.specs.Prelude.{if◌then◌else◌}
use Rattle.std.proofs.lemmas.List.Sums.{sum_by-cons}
use Rattle.alpha_isa.specs.Step.{links}
use Rattle.alpha_items.specs.declared.item.AsmItem.{AsmItem}
use Rattle.alpha_items.specs.declared.item.AsmItem.TheVariants.{Label, Name, Plain, Branch, TextAddress, DataAddress}
use Rattle.alpha_items.specs.Layout.{item_words, sizes, text_words}
use Rattle.image_code_bounds.specs.frame_words.Words.{most_item_words, most_words_of}

branch-le : (far linked : Bool) → (if far then (if linked then 3 else 4) else 1) ≤ (if linked then 3 else 4)
branch-le true true = omega arith
branch-le true false = omega arith
branch-le false true = omega arith
branch-le false false = omega arith

item-le : (far : Bool) (i : AsmItem) → item_words far i ≤ most_item_words i
item-le far (Label l) = omega arith
item-le far (Name bytes) = omega arith
item-le far (Plain insn) = omega arith
item-le far (Branch op ra l) = branch-le far (links op)
item-le far (TextAddress ra l) = omega arith
item-le far (DataAddress ra offset) = omega arith

pub text_le : (items : List AsmItem) (far : List Bool) → text_words items far ≤ most_words_of items
text_le [] far = omega arith
text_le (i ∷ items) [] = omega arith
text_le (i ∷ items) (f ∷ far) =
    let e = sum_by-cons (λ x. x) (item_words f i) (sizes items far) in
    let one = item-le f i in
    let rest = text_le items far in
    omega (arith, e, one, rest)
