-- Turns of the loops that put code: what was put, with the code of what is left behind it, is the whole.
use Rattle.std.proofs.Common.{◌≡◌, ℕ, zero, suc, ◌+◌, ◌-◌, ◌^◌, ◌<◌, ◌≤◌, List, [], ◌∷◌, ◌++◌, length, drop, get_or, All, refl, sym, ap, ◌∙◌, subst, arith}
use Rattle.std.proofs.lemmas.List.{append_assoc}
use Rattle.std.proofs.lemmas.List.Elements.{All-cons, All-head, All-tail}
use Rattle.bk_ilist.specs.Listing.{items}
use Rattle.suifvm_ir.specs.declared.insn.VmInsn.{VmInsn}
use Rattle.temp_ir.specs.declared.insn.TempInsn.{TempInsn}
use Rattle.selection_code.specs.Instructions.{temp_of, pass_item, pass_items, take_item, take_items, selected_insn}
use Rattle.selection_code.specs.Functions.{selected_insns}
use Rattle.selection_code.specs.Fields.{HasFields, HasNumbers}
use Rattle.suifvm_zero_branches.specs.declared.known.RegisterFact.{RegisterFact}
use Rattle.suifvm_zero_branches.specs.Tests.{facts_after, tested_insn, tested_from}
use Rattle.suifvm_zero_branches.specs.model.Registers.{KnownIsBelow}
use Rattle.suifvm_zero_branches.proofs.Functions.{after_below}

append_nil : (xs : List TempInsn) → xs ++ [] ≡ xs
append_nil [] = refl
append_nil (x ∷ xs) = ap (λ l. x ∷ l) (append_nil xs)

-- one more, in front of the rest
one_more : (xs ys rest whole : List TempInsn) (z : TempInsn) → ys ≡ xs ++ z ∷ [] → xs ++ z ∷ rest ≡ whole → ys ++ rest ≡ whole
one_more xs ys rest whole z put is = ap (λ l. l ++ rest) put ∙ append_assoc xs (z ∷ []) rest ∙ is

-- ---- arguments

drop_more : (xs : List ℕ) (i : ℕ) → i < length xs → drop i xs ≡ get_or xs i 0 ∷ drop (i + 1) xs
drop_more [] i lt = absurd (omega (arith, lt))
drop_more (x ∷ xs) zero lt = refl
drop_more (x ∷ xs) (suc i) lt =
    let next : suc i + 1 ≡ suc (i + 1) = omega arith in
    drop_more xs i (omega (arith, lt)) ∙ ap (λ k. get_or xs i 0 ∷ drop k (x ∷ xs)) (sym next)

pub passed_turn : (arguments : List ℕ) (i : ℕ) (xs ys whole : List TempInsn) → i < length arguments → ys ≡ xs ++ pass_item i (temp_of (get_or arguments i 0)) ∷ [] →
    xs ++ pass_items i (drop i arguments) ≡ whole → ys ++ pass_items (i + 1) (drop (i + 1) arguments) ≡ whole
passed_turn arguments i xs ys whole lt put is =
    let next : suc i ≡ i + 1 = omega arith in
    one_more xs ys (pass_items (i + 1) (drop (i + 1) arguments)) whole (pass_item i (temp_of (get_or arguments i 0))) put
    (ap (λ k. xs ++ pass_item i (temp_of (get_or arguments i 0)) ∷ pass_items k (drop (i + 1) arguments)) (sym next)
    ∙ sym (ap (λ l. xs ++ pass_items i l) (drop_more arguments i lt)) ∙ is)

drop_all : (xs : List ℕ) (i : ℕ) → length xs ≤ i → drop i xs ≡ []
drop_all [] zero le = refl
drop_all [] (suc i) le = refl
drop_all (x ∷ xs) zero le = absurd (omega (arith, le))
drop_all (x ∷ xs) (suc i) le = drop_all xs i (omega (arith, le))

pub passed_end : (arguments : List ℕ) (i : ℕ) (xs whole : List TempInsn) → length arguments ≤ i → xs ++ pass_items i (drop i arguments) ≡ whole → xs ≡ whole
passed_end arguments i xs whole le is = sym (append_nil xs) ∙ ap (λ l. xs ++ pass_items i l) (sym (drop_all arguments i le)) ∙ is

-- ---- parameters

pub taken_turn : (count i : ℕ) (xs ys whole : List TempInsn) → i < count → ys ≡ xs ++ take_item i (temp_of i) ∷ [] →
    xs ++ take_items i (count - i) ≡ whole → ys ++ take_items (i + 1) (count - (i + 1)) ≡ whole
taken_turn count i xs ys whole lt put is =
    let next : suc i ≡ i + 1 = omega arith in
    let left : suc (count - (i + 1)) ≡ count - i = omega (arith, lt) in
    one_more xs ys (take_items (i + 1) (count - (i + 1))) whole (take_item i (temp_of i)) put
    (ap (λ k. xs ++ take_item i (temp_of i) ∷ take_items k (count - (i + 1))) (sym next) ∙ ap (λ k. xs ++ take_items i k) left ∙ is)

pub taken_end : (count i : ℕ) (xs whole : List TempInsn) → count ≤ i → xs ++ take_items i (count - i) ≡ whole → xs ≡ whole
taken_end count i xs whole le is =
    let none : count - i ≡ 0 = omega (arith, le) in
    sym (append_nil xs) ∙ ap (λ k. xs ++ take_items i k) (sym none) ∙ is

-- ---- instructions of a block

module _ (all : List (ℕ × VmInsn)) (id : ℕ) (y : VmInsn) (rest : List (ℕ × VmInsn)) (is : all ≡ (id, y) ∷ rest) where
  pub insn_turn : (k next : RegisterFact) → next ≡ facts_after k y → (xs ys whole : List TempInsn) → ys ≡ xs ++ selected_insn (tested_insn k y) → xs ++ selected_insns (tested_from k (items all)) ≡ whole → ys ++ selected_insns (tested_from next (items rest)) ≡ whole
  insn_turn k next behind xs ys whole put e =
      ap (λ j. ys ++ selected_insns (tested_from j (items rest))) behind ∙ ap (λ l. l ++ selected_insns (tested_from (facts_after k y) (items rest))) put
      ∙ append_assoc xs (selected_insn (tested_insn k y)) (selected_insns (tested_from (facts_after k y) (items rest))) ∙ ap (λ l. xs ++ selected_insns (tested_from k (items l))) (sym is) ∙ e

  pub numbers_here : All HasNumbers (items all) → HasNumbers y
  numbers_here h = All-head HasNumbers y (items rest) (subst (λ l. All HasNumbers (items l)) is h)

  pub known_turn : (k next : RegisterFact) → next ≡ facts_after k y → All HasNumbers (items all) → KnownIsBelow (2 ^ 32 - 4) next
  known_turn k next behind h = let here = numbers_here h in subst (KnownIsBelow (2 ^ 32 - 4)) (sym behind) (after_below (2 ^ 32 - 4) k y (here.reads, here.writes))

  pub numbers_left : All HasNumbers (items all) → All HasNumbers (items rest)
  numbers_left h = All-tail HasNumbers y (items rest) (subst (λ l. All HasNumbers (items l)) is h)

  pub fields_turn : (block : List VmInsn) → (All HasFields (items all) → All HasFields block) → HasFields y → All HasFields (items rest) → All HasFields block
  fields_turn block h first left = h (subst (λ l. All HasFields (items l)) (sym is) (All-cons HasFields y (items rest) first left))
