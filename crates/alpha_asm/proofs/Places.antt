-- Bounds of places, and what a sweep keeps of them.
use Rattle.std.proofs.Common.{◌≡◌, ℕ, zero, suc, ◌*◌, ◌<◌, ◌≤◌, Bool, true, false, List, [], ◌∷◌, length, take, drop, get_or, set, refl, ◌∙◌, ap, arith}
use native.Mathlib.Numerals.{unary_clauses}
use Rattle.std.specs.List.{sum}
use Rattle.std.proofs.lemmas.List.{take-set-le, drop-set-lt}
use Rattle.alpha_isa.specs.declared.insn.BranchOp.TheVariants.{Br, Bsr, Blbc, Beq, Blt, Ble, Blbs, Bne, Bge, Bgt}
use Rattle.alpha_items.specs.declared.item.AsmItem.{AsmItem}
use Rattle.alpha_items.specs.declared.item.AsmItem.TheVariants.{Label, Name, Plain, Branch, TextAddress, DataAddress}
use Rattle.alpha_items.specs.Layout.{item_words, sizes, item_place}
use Rattle.alpha_items.proofs.Sums.{sum-cons, sum-more}
use Rattle.alpha_asm.specs.model.Sweeps.{rest}

-- an item has at most four words
pub item_words-most : (f : Bool) (i : AsmItem) → item_words f i ≤ 4
item_words-most f (Label l) = omega arith
item_words-most f (Name bytes) = omega arith
item_words-most f (Plain insn) = omega arith
item_words-most false (Branch op ra l) = omega arith
item_words-most true (Branch Br ra l) = omega arith
item_words-most true (Branch Bsr ra l) = omega arith
item_words-most true (Branch Blbc ra l) = omega arith
item_words-most true (Branch Beq ra l) = omega arith
item_words-most true (Branch Blt ra l) = omega arith
item_words-most true (Branch Ble ra l) = omega arith
item_words-most true (Branch Blbs ra l) = omega arith
item_words-most true (Branch Bne ra l) = omega arith
item_words-most true (Branch Bge ra l) = omega arith
item_words-most true (Branch Bgt ra l) = omega arith
item_words-most f (TextAddress ra l) = omega arith
item_words-most f (DataAddress ra offset) = omega arith

sizes-most : (items : List AsmItem) (far : List Bool) (k : ℕ) → get_or (sizes items far) k 0 ≤ 4
sizes-most [] far k = omega arith
sizes-most (i ∷ items) [] k = omega arith
sizes-most (i ∷ items) (f ∷ far) zero = item_words-most f i
sizes-most (i ∷ items) (f ∷ far) (suc k) = sizes-most items far k

pub place-most : (items : List AsmItem) (far : List Bool) (k : ℕ) → item_place items far k ≤ 4 * k
place-most items far zero = omega arith
place-most items far (suc k) =
    let before = place-most items far k in
    let more = sum-more (sizes items far) k in
    let here = sizes-most items far k in
    simp unary_clauses (omega (arith, before, more, here))

pub rest-most : (items : List AsmItem) (far : List Bool) (k : ℕ) → rest items far k ≤ 4 * length items
rest-most [] far zero = omega arith
rest-most [] far (suc k) = omega arith
rest-most (i ∷ items) [] zero = omega arith
rest-most (i ∷ items) [] (suc k) = omega arith
rest-most (i ∷ items) (f ∷ far) zero =
    let whole = sum-cons (item_words f i) (sizes items far) in
    let here = item_words-most f i in
    let more = rest-most items far zero in
    simp unary_clauses (omega (arith, whole, here, more))
rest-most (i ∷ items) (f ∷ far) (suc k) =
    let more = rest-most items far k in
    simp unary_clauses (omega (arith, more))

-- a change of what is far changes the size of that item alone
pub sizes-set : (items : List AsmItem) (far : List Bool) (k : ℕ) (b : Bool) (d : AsmItem) →
    sizes items (set far k b) ≡ set (sizes items far) k (item_words b (get_or items k d))
sizes-set [] far k b d = refl
sizes-set (i ∷ items) [] k b d = refl
sizes-set (i ∷ items) (f ∷ far) zero b d = refl
sizes-set (i ∷ items) (f ∷ far) (suc k) b d = ap (λ (s : List ℕ). item_words f i ∷ s) (sizes-set items far k b d)

-- and no place up to it, and nothing from behind it on
pub place-set : (items : List AsmItem) (far : List Bool) (k n : ℕ) (b : Bool) → n ≤ k → item_place items (set far k b) n ≡ item_place items far n
place-set items far k n b h =
    ap (λ s. sum (take n s)) (sizes-set items far k b (Label 0))
    ∙ ap sum (take-set-le n (sizes items far) k (item_words b (get_or items k (Label 0))) h)

pub rest-set : (items : List AsmItem) (far : List Bool) (k n : ℕ) (b : Bool) → k < n → rest items (set far k b) n ≡ rest items far n
rest-set items far k n b h =
    ap (λ s. sum (drop n s)) (sizes-set items far k b (Label 0))
    ∙ ap sum (drop-set-lt n (sizes items far) k (item_words b (get_or items k (Label 0))) h)
