-- The routines stand in the image.
use Rattle.std.proofs.Common.{◌≡◌, ◌≢◌, ℕ, ◌+◌, ◌≤◌, Bool, List, [], ◌∷◌, ◌++◌, length, map, refl, sym, ap, ◌∙◌, subst, arith}
use Rattle.std.proofs.lemmas.List.{length-map}
use Rattle.std.specs.List.{AllPairs}
use Rattle.alpha_isa.specs.declared.insn.Fields.{Fields}
use Rattle.alpha_isa.specs.Words.{insn_word}
use Rattle.alpha_isa.specs.Program.{Program, data_start}
use Rattle.alpha_items.specs.declared.item.AsmItem.{AsmItem}
use Rattle.alpha_items.specs.Assembly.{Assembly, labels, IsWhole}
use Rattle.alpha_items.specs.Layout.{text_words, label_place, IsLeastFar}
use Rattle.alpha_items.specs.Words.{text_insns, Words}
use Rattle.alpha_items.proofs.Unique.{length-text_insns}
use Rattle.alpha_rt.specs.Routine.{Routine, Divq, Remq, Divqu, Remqu, Divl, Reml, Divlu, Remlu}
use Rattle.alpha_rt.specs.Code.{all_code}
use Rattle.alpha_rt.specs.Calls.{RoutinesStandAt}
use Rattle.alpha_rt.specs.Items.{all_items, all_near, entry_label}
use Rattle.alpha_rt.proofs.Assembled.{give_code, entries_labelled}
use Rattle.alpha_rt.proofs.Found.{code_stands}
use Rattle.frame_simulation.specs.division_calls.Divisions.{RoutinesStand}
use Rattle.image_theorem.proofs.RoutinePlaces.Texts.{text-append}
use Rattle.image_theorem.proofs.RoutinePlaces.Near.{F1, F2, F1-size, W, label-in, same-far}

map-append : (f : Fields → ℕ) (xs ys : List Fields) → map f (xs ++ ys) ≡ map f xs ++ map f ys
map-append f [] ys = refl
map-append f (x ∷ xs) ys = ap (λ l. f x ∷ l) (map-append f xs ys)

record EntryLabel (r : Routine) : Type 0 where
  from : 1 ≤ entry_label r
  to : entry_label r ≤ 20

entry-labels : (r : Routine) → EntryLabel r
entry-labels Divq = record { from = omega arith; to = omega arith }
entry-labels Remq = record { from = omega arith; to = omega arith }
entry-labels Divqu = record { from = omega arith; to = omega arith }
entry-labels Remqu = record { from = omega arith; to = omega arith }
entry-labels Divl = record { from = omega arith; to = omega arith }
entry-labels Reml = record { from = omega arith; to = omega arith }
entry-labels Divlu = record { from = omega arith; to = omega arith }
entry-labels Remlu = record { from = omega arith; to = omega arith }

-- with the items and their far branches as they are
routines-at : (p : Program) (front back : List AsmItem) (once : AllPairs (λ l m. l ≢ m) (labels (front ++ (all_items ++ back)))) (far : List Bool) (least : IsLeastFar (front ++ (all_items ++ back)) far) → p.words ≡ map insn_word (text_insns (label_place (front ++ (all_items ++ back)) far) (data_start p) 0 (front ++ (all_items ++ back)) far) → RoutinesStand p (label_place (front ++ (all_items ++ back)) far)
routines-at p front back once far least words =
    let items : List AsmItem = front ++ (all_items ++ back) in
    let there : ℕ → ℕ = label_place (front ++ (all_items ++ back)) far in
    let at : ℕ = W front back once far least in
    let label : (l : ℕ) → 1 ≤ l → l ≤ 20 → label_place (front ++ (all_items ++ back)) far l ≡ W front back once far least + label_place all_items all_near l =
    λ l a b. ap (λ fs. label_place (front ++ (all_items ++ back)) fs l) (sym (same-far front back once far least)) ∙ label-in front back once far least l a b in
    let A : List Fields = text_insns (label_place (front ++ (all_items ++ back)) far) (data_start p) 0 front (F1 front back once far least) in
    let B : List Fields = text_insns (label_place (front ++ (all_items ++ back)) far) (data_start p) (0 + W front back once far least + text_words all_items all_near) back (F2 front back once far least) in
    let none : 0 + W front back once far least ≡ W front back once far least = omega arith in
    let coded : text_insns (label_place (front ++ (all_items ++ back)) far) (data_start p) (0 + W front back once far least) all_items all_near ≡ all_code =
    ap (λ h. text_insns (label_place (front ++ (all_items ++ back)) far) (data_start p) h all_items all_near) none ∙ give_code (label_place (front ++ (all_items ++ back)) far) (data_start p) (W front back once far least) label in
    let whole : text_insns (label_place (front ++ (all_items ++ back)) far) (data_start p) 0 (front ++ (all_items ++ back)) far ≡ A ++ (all_code ++ B) =
    ap (text_insns (label_place (front ++ (all_items ++ back)) far) (data_start p) 0 (front ++ (all_items ++ back))) (sym (same-far front back once far least))
    ∙ text-append (label_place (front ++ (all_items ++ back)) far) (data_start p) 0 front (all_items ++ back) (F1 front back once far least) (all_near ++ F2 front back once far least) (F1-size front back once far least)
    ∙ ap (λ l. A ++ l) (text-append (label_place (front ++ (all_items ++ back)) far) (data_start p) (0 + W front back once far least) all_items back all_near (F2 front back once far least) refl)
    ∙ ap (λ l. A ++ (l ++ B)) coded in
    let split : p.words ≡ map insn_word A ++ (map insn_word all_code ++ map insn_word B) =
    words ∙ ap (map insn_word) whole ∙ map-append insn_word A (all_code ++ B) ∙ ap (λ l. map insn_word A ++ l) (map-append insn_word all_code B) in
    let size : length (map insn_word A) ≡ W front back once far least = length-map A insn_word ∙ length-text_insns (label_place (front ++ (all_items ++ back)) far) (data_start p) 0 front (F1 front back once far least) in
    record {
      word = W front back once far least;
      code_stands = subst (RoutinesStandAt p) size (code_stands p (map insn_word A) (map insn_word B) split);
      labels = λ r. let e = entry-labels r in label (entry_label r) e.from e.to ∙ ap (λ z. W front back once far least + z) (entries_labelled r);
    }

pub routines_stand : (asm : Assembly) (p : Program) → IsWhole asm → (w : Words asm p) → (front back : List AsmItem) → asm.items ≡ front ++ (all_items ++ back) → RoutinesStand p (label_place asm.items w.far)
routines_stand asm p whole w front back e =
    subst (λ (items : List AsmItem). AllPairs (λ l m. l ≢ m) (labels items) → IsLeastFar items w.far → p.words ≡ map insn_word (text_insns (label_place items w.far) (data_start p) 0 items w.far) → RoutinesStand p (label_place items w.far)) (sym e)
    (λ once least words. routines-at p front back once w.far least words)
    whole.labels_once w.least w.words
