-- Lists of far branches: what grows with them, and that they stay within every list with which the others reach.
use Rattle.std.proofs.Common.{◌≡◌, ℕ, zero, suc, ◌+◌, ◌<◌, ◌≤◌, Bool, true, false, List, [], ◌∷◌, length, get_or, refl, sym, ◌∙◌, ap, subst, arith, ◌-◌}
use native.Mathlib.Numerals.{unary_clauses}
use Rattle.alpha_items.specs.declared.item.AsmItem.{AsmItem}
use Rattle.alpha_items.specs.declared.item.AsmItem.TheVariants.{Label, Name, Plain, Branch, TextAddress, DataAddress}
use Rattle.alpha_isa.specs.declared.insn.BranchOp.{BranchOp}
use Rattle.alpha_isa.specs.declared.insn.BranchOp.TheVariants.{Br, Bsr, Blbc, Beq, Blt, Ble, Blbs, Bne, Bge, Bgt}
use Rattle.alpha_items.specs.Layout.{item_words, sizes, item_place, is_far, Within}
use Rattle.alpha_items.proofs.Sums.{sum-more, part_grows}

-- a text has as many sizes as items
pub length-sizes : (items : List AsmItem) (far : List Bool) → length far ≡ length items → length (sizes items far) ≡ length items
length-sizes [] far e = refl
length-sizes (i ∷ items) [] e = absurd (omega (arith, e))
length-sizes (i ∷ items) (f ∷ far) e = ap suc (length-sizes items far (omega (arith, e)))

-- the size of the k-th item
pub sizes-at : (items : List AsmItem) (far : List Bool) (k : ℕ) (d : AsmItem) → length far ≡ length items → k < length items →
    get_or (sizes items far) k 0 ≡ item_words (is_far far k) (get_or items k d)
sizes-at [] far k d e h = absurd (omega (arith, h))
sizes-at (i ∷ items) [] k d e h = absurd (omega (arith, e))
sizes-at (i ∷ items) (f ∷ far) zero d e h = refl
sizes-at (i ∷ items) (f ∷ far) (suc k) d e h = sizes-at items far k d (omega (arith, e)) (omega (arith, h))

-- the words before the next item
pub place-more : (items : List AsmItem) (far : List Bool) (k : ℕ) (d : AsmItem) → length far ≡ length items → k < length items →
    item_place items far (suc k) ≡ item_place items far k + item_words (is_far far k) (get_or items k d)
place-more items far k d e h = sum-more (sizes items far) k ∙ ap (λ n. item_place items far k + n) (sizes-at items far k d e h)

-- an item that is far has no fewer words
branch_grows : (op : BranchOp) (ra l : ℕ) → 1 ≤ item_words true (Branch op ra l)
branch_grows Br ra l = omega arith
branch_grows Bsr ra l = omega arith
branch_grows Blbc ra l = omega arith
branch_grows Beq ra l = omega arith
branch_grows Blt ra l = omega arith
branch_grows Ble ra l = omega arith
branch_grows Blbs ra l = omega arith
branch_grows Bne ra l = omega arith
branch_grows Bge ra l = omega arith
branch_grows Bgt ra l = omega arith

far_grows : (i : AsmItem) → item_words false i ≤ item_words true i
far_grows (Label l) = omega arith
far_grows (Name bytes) = omega arith
far_grows (Plain insn) = omega arith
far_grows (Branch op ra l) = branch_grows op ra l
far_grows (TextAddress ra l) = omega arith
far_grows (DataAddress ra offset) = omega arith

item_grows : (f g : Bool) (i : AsmItem) → (f ≡ true → g ≡ true) → item_words f i ≤ item_words g i
item_grows false false i h = omega arith
item_grows true true i h = omega arith
item_grows false true i h = far_grows i
item_grows true false i h = let clash : true ≡ false = sym (h refl) in absurd (cc)

pub sizes_grow : (items : List AsmItem) (far other : List Bool) → length far ≡ length items → length other ≡ length items → Within far other →
    (k : ℕ) → get_or (sizes items far) k 0 ≤ get_or (sizes items other) k 0
sizes_grow [] far other e f within k = omega arith
sizes_grow (i ∷ items) [] other e f within k = absurd (omega (arith, e))
sizes_grow (i ∷ items) (b ∷ far) [] e f within k = absurd (omega (arith, f))
sizes_grow (i ∷ items) (b ∷ far) (c ∷ other) e f within zero = item_grows b c i (within 0)
sizes_grow (i ∷ items) (b ∷ far) (c ∷ other) e f within (suc k) =
    sizes_grow items far other (omega (arith, e)) (omega (arith, f)) (λ n. within (suc n)) k

-- the words between two items only grow with the far branches
pub gap_grows : (items : List AsmItem) (far other : List Bool) → length far ≡ length items → length other ≡ length items → Within far other →
    (i j : ℕ) → i ≤ j → item_place items far j + item_place items other i ≤ item_place items other j + item_place items far i
gap_grows items far other e f within i j h =
    let n : ℕ = j - i in
    let at : i + n ≡ j = omega (arith, h) in
    let grown = part_grows (sizes items far) (sizes items other) (sizes_grow items far other e f within) i n in
    let P : ℕ → Type 0 = λ m. item_place items far m + item_place items other i ≤ item_place items other m + item_place items far i in
    subst P at grown

-- places rise
place_rises : (items : List AsmItem) (far : List Bool) (k n : ℕ) → item_place items far k ≤ item_place items far (k + n)
place_rises items far k zero = simp unary_clauses (omega arith)
place_rises items far k (suc n) =
    let before = place_rises items far k n in
    let more = sum-more (sizes items far) (k + n) in
    simp unary_clauses (omega (arith, before, more))

pub place_mono : (items : List AsmItem) (far : List Bool) (i j : ℕ) → i ≤ j → item_place items far i ≤ item_place items far j
place_mono items far i j h =
    let n : ℕ = j - i in
    let at : i + n ≡ j = omega (arith, h) in
    let P : ℕ → Type 0 = λ m. item_place items far i ≤ item_place items far m in
    subst P at (place_rises items far i n)
