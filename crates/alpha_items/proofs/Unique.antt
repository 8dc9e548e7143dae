-- That an assembly has one image at most.
use Rattle.std.proofs.Common.{◌≡◌, ℕ, ◌+◌, ◌*◌, Bool, true, false, List, [], ◌∷◌, length, map, get_or, refl, sym, ◌∙◌, ap, arith}
use Rattle.std.proofs.lemmas.List.{ext_get_or, length-append, length-map}
use Rattle.alpha_isa.specs.declared.insn.BranchOp.TheVariants.{Br, Bsr, Blbc, Beq, Blt, Ble, Blbs, Bne, Bge, Bgt}
use Rattle.alpha_isa.specs.Words.{insn_word}
use Rattle.alpha_isa.specs.Program.{Program, data_of, data_start, next_part, text_start}
use Rattle.alpha_isa.proofs.Zeros.{same_bytes_cut}
use Rattle.alpha_items.specs.declared.item.AsmItem.{AsmItem}
use Rattle.alpha_items.specs.declared.item.AsmItem.TheVariants.{Label, Name, Plain, Branch, TextAddress, DataAddress}
use Rattle.alpha_items.specs.Assembly.{Assembly}
use Rattle.alpha_items.specs.Layout.{item_words, sizes, text_words, label_place, Within, IsLeastFar}
use Rattle.alpha_items.specs.Words.{item_insns, text_insns, fixed_data, Words}
use Rattle.alpha_items.proofs.Sums.{sum-cons}

-- two truth values, of which each is true where the other is
same_truth : (a b : Bool) → (a ≡ true → b ≡ true) → (b ≡ true → a ≡ true) → a ≡ b
same_truth true b f g = sym (f refl)
same_truth false true f g = g refl
same_truth false false f g = refl

pub far_unique : (items : List AsmItem) (far other : List Bool) → IsLeastFar items far → IsLeastFar items other → far ≡ other
far_unique items far other a b =
    let there : Within far other = a.least other b.one_each b.others_reach in
    let back : Within other far = b.least far a.one_each a.others_reach in
    ext_get_or false far other (a.one_each ∙ sym b.one_each) (λ k h. same_truth (get_or far k false) (get_or other k false) (there k) (back k))

-- an item has as many instructions as words
pub length-item_insns : (there : ℕ → ℕ) (start here : ℕ) (f : Bool) (i : AsmItem) → length (item_insns there start here f i) ≡ item_words f i
length-item_insns there start here f (Label l) = refl
length-item_insns there start here f (Name bytes) = refl
length-item_insns there start here f (Plain insn) = refl
length-item_insns there start here false (Branch op ra l) = refl
length-item_insns there start here true (Branch Br ra l) = refl
length-item_insns there start here true (Branch Bsr ra l) = refl
length-item_insns there start here true (Branch Blbc ra l) = refl
length-item_insns there start here true (Branch Beq ra l) = refl
length-item_insns there start here true (Branch Blt ra l) = refl
length-item_insns there start here true (Branch Ble ra l) = refl
length-item_insns there start here true (Branch Blbs ra l) = refl
length-item_insns there start here true (Branch Bne ra l) = refl
length-item_insns there start here true (Branch Bge ra l) = refl
length-item_insns there start here true (Branch Bgt ra l) = refl
length-item_insns there start here f (TextAddress ra l) = refl
length-item_insns there start here f (DataAddress ra offset) = refl

-- and so has a text
pub length-text_insns : (there : ℕ → ℕ) (start here : ℕ) (items : List AsmItem) (far : List Bool) →
    length (text_insns there start here items far) ≡ text_words items far
length-text_insns there start here [] far = refl
length-text_insns there start here (i ∷ items) [] = refl
length-text_insns there start here (i ∷ items) (f ∷ far) =
    let both = length-append (item_insns there start here f i) (text_insns there start (here + item_words f i) items far) in
    let first = length-item_insns there start here f i in
    let rest = length-text_insns there start (here + item_words f i) items far in
    let whole = sum-cons (item_words f i) (sizes items far) in
    omega (arith, both, first, rest, whole)

-- the words of an image are those of its text
pub length-words : (a : Assembly) (p : Program) (w : Words a p) → length p.words ≡ text_words a.items w.far
length-words a p w =
    let insns = text_insns (label_place a.items w.far) (data_start p) 0 a.items w.far in
    ap length w.words ∙ length-map insns insn_word ∙ length-text_insns (label_place a.items w.far) (data_start p) 0 a.items w.far

-- images are equal where their parts are
abbrev program : List ℕ → List ℕ → ℕ → ℕ → Program
program words bytes z entry = record { words = words; bytes = bytes; zeros = z; entry = entry }

same_program : (p q : Program) → p.words ≡ q.words → p.bytes ≡ q.bytes → p.zeros ≡ q.zeros → p.entry ≡ q.entry → p ≡ q
same_program p q words bytes z entry =
    ap (λ w. program w p.bytes p.zeros p.entry) words ∙ ap (λ b. program q.words b p.zeros p.entry) bytes
    ∙ ap (λ n. program q.words q.bytes n p.entry) z ∙ ap (program q.words q.bytes q.zeros) entry

pub image_unique : (a : Assembly) (p q : Program) → Words a p → Words a q → p ≡ q
image_unique a p q v w =
    let far = far_unique a.items v.far w.far v.least w.least in
    let counts = length-words a p v ∙ ap (text_words a.items) far ∙ sym (length-words a q w) in
    let starts : data_start p ≡ data_start q = ap (λ n. next_part (text_start + 4 * n)) counts in
    let words : p.words ≡ q.words = v.words ∙ ap (λ f. map insn_word (text_insns (label_place a.items f) (data_start p) 0 a.items f)) far
    ∙ ap (λ s. map insn_word (text_insns (label_place a.items w.far) s 0 a.items w.far)) starts ∙ sym w.words in
    let held : data_of p ≡ data_of q = v.data_bytes ∙ ap (λ s. fixed_data s a.bytes a.fixes) starts ∙ sym w.data_bytes in
    let bytes = same_bytes_cut p.bytes q.bytes p.zeros q.zeros held v.last w.last in
    let entry : p.entry ≡ q.entry = v.entry ∙ ap (λ f. label_place a.items f 0) far ∙ sym w.entry in
    same_program p q words bytes.0 bytes.1 entry
