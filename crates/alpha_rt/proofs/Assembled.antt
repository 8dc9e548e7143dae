-- The items of the routines, wherever they stand in a text, are its code.
use Rattle.std.proofs.Common.{◌≡◌, ℕ, ◌+◌, ◌≤◌, List, [], ◌∷◌, length, Bool, true, false, ◌&&◌, leb, refl, ap, ◌∙◌, arith}
use Rattle.std.specs.Prelude.{replicate}
use Rattle.std.specs.List.{list_all}
use Rattle.std.proofs.lemmas.Bool.{and_parts, leb-true}
use Rattle.std.proofs.lemmas.Int.{ints}
use Rattle.alpha_isa.specs.declared.insn.Fields.TheVariants as fields
use Rattle.alpha_items.specs.declared.item.AsmItem.{AsmItem}
use Rattle.alpha_items.specs.declared.item.AsmItem.TheVariants.{Label, Name, Plain, Branch, TextAddress, DataAddress}
use Rattle.alpha_items.specs.Layout.{displacement, label_place}
use Rattle.alpha_items.specs.Words.{text_insns}
use Rattle.alpha_rt.specs.Routine.{Routine, Divq, Remq, Divqu, Remqu, Divl, Reml, Divlu, Remlu}
use Rattle.alpha_rt.specs.Code.{entry}
use Rattle.alpha_rt.specs.model.Written.{behind, signed_behind, unsigned_behind, long_behind, quads_behind, longs_behind, common_behind, all_behind}
use Rattle.alpha_rt.specs.Items.{all_items, all_near, entry_label, last_label, GiveCode}

-- an item that names no label but those of the routines, and no address
abbrev is_own : AsmItem → Bool
is_own (Label l) = true
is_own (Name bytes) = true
is_own (Plain insn) = true
is_own (Branch op ra l) = leb 1 l && leb l last_label
is_own (TextAddress ra l) = false
is_own (DataAddress ra offset) = false

moved : (before h t : ℕ) → displacement (before + h) (before + t) ≡ displacement h t
moved before h t = omega (arith, ints)

abbrev near : List AsmItem → List Bool
near items = replicate (length items) false

-- the labels of a text that stand as these do, so many words further
abbrev IsMoved : (ℕ → ℕ) → (ℕ → ℕ) → ℕ → Type 0
IsMoved there place before = (l : ℕ) → 1 ≤ l → l ≤ last_label → there l ≡ before + place l

text_moved : (items : List AsmItem) (there place : ℕ → ℕ) (start before h : ℕ) → IsMoved there place before → list_all is_own items ≡ true →
    text_insns there start (before + h) items (near items) ≡ text_insns place start h items (near items)
text_moved [] there place start before h m own = refl
text_moved (Label l ∷ items) there place start before h m own =
    let same : before + h + 0 ≡ before + (h + 0) = omega arith in
    ap (λ n. text_insns there start n items (near items)) same ∙ text_moved items there place start before (h + 0) m own
text_moved (Name bytes ∷ items) there place start before h m own =
    let same : before + h + 0 ≡ before + (h + 0) = omega arith in
    ap (λ n. text_insns there start n items (near items)) same ∙ text_moved items there place start before (h + 0) m own
text_moved (Plain insn ∷ items) there place start before h m own =
    let same : before + h + 1 ≡ before + (h + 1) = omega arith in
    ap (λ n. insn ∷ text_insns there start n items (near items)) same ∙ ap (λ r. insn ∷ r) (text_moved items there place start before (h + 1) m own)
text_moved (Branch op ra l ∷ items) there place start before h m own =
    let same : before + h + 1 ≡ before + (h + 1) = omega arith in
    let both = and_parts (leb 1 l && leb l last_label) (list_all is_own items) own in
    let range = and_parts (leb 1 l) (leb l last_label) both.0 in
    ap (λ n. fields.Branch op ra (displacement (before + h) n) ∷ text_insns there start (before + h + 1) items (near items)) (m l (leb-true 1 l range.0) (leb-true l last_label range.1))
    ∙ ap (λ d. fields.Branch op ra d ∷ text_insns there start (before + h + 1) items (near items)) (moved before h (place l))
    ∙ ap (λ n. fields.Branch op ra (displacement h (place l)) ∷ text_insns there start n items (near items)) same
    ∙ ap (λ r. fields.Branch op ra (displacement h (place l)) ∷ r) (text_moved items there place start before (h + 1) m both.1)
text_moved (TextAddress ra l ∷ items) there place start before h m own = let impossible : ⊥ = cc in absurd impossible
text_moved (DataAddress ra offset ∷ items) there place start before h m own = let impossible : ⊥ = cc in absurd impossible

pub give_code : GiveCode
give_code there start before m =
    let none : before ≡ before + 0 = omega arith in
    ap (λ n. text_insns there start n all_items all_near) none ∙ text_moved all_items there (label_place all_items all_near) start before 0 m refl

pub entries_labelled : (r : Routine) → label_place all_items all_near (entry_label r) ≡ entry r
entries_labelled Divq = refl
entries_labelled Remq = refl
entries_labelled Divqu = refl
entries_labelled Remqu = refl
entries_labelled Divl = refl
entries_labelled Reml = refl
entries_labelled Divlu = refl
entries_labelled Remlu = refl

-- what is written behind no items
pub from_none : (l m : List AsmItem) → l ≡ [] → m ≡ all_behind l → m ≡ all_items
unfolding all_behind common_behind longs_behind quads_behind signed_behind unsigned_behind long_behind behind
from_none l m e f = f ∙ ap all_behind e
