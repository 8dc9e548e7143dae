-- Blocks with the contents of settled ones are settled.
use Rattle.std.proofs.Common.{◌≡◌, ◌⊎◌, inl, inr, ℕ, zero, suc, ◌<◌, List, [], ◌∷◌, length, Bool, true, refl, sym, ap, ◌∙◌, arith}
use Rattle.std.specs.Prelude.{◌&&◌, filter}
use Rattle.std.specs.List.{list_all}
use Rattle.std.proofs.lemmas.Bool.{and_from, and_parts}
use Rattle.temp_ir.specs.declared.insn.TempInsn.{TempInsn}
use Rattle.temp_ir.specs.declared.insn.TempInsn.TheVariants as i
use Rattle.temp_ir.specs.Insns.{targets_of, with_block, flows_on_of}
use Rattle.temp_ir.specs.Fixed.{argument_registers, fixed_reads_of, has_number, written_behind, is_settled_block, is_settled}
use Rattle.cfg.specs.Walks.{block_at}
use Rattle.cfg.specs.Contents.{HasContents}
use Rattle.block_pass_laws.specs.back_laws.Kept.{KeepContents, SettledIsKept}
use Rattle.block_pass_laws.proofs.BackLaws.Forms.{contents_of, Kind, Jumps, Branches, Stays, kind, stays_first}

-- an instruction that ends no register leaves those that were written
all_kept : (w : List ℕ) → filter (λ (register : ℕ). true) w ≡ w
all_kept [] = refl
all_kept (r ∷ w) = ap (λ l. r ∷ l) (all_kept w)

same_settled : (w : List ℕ) (xs : List TempInsn) → is_settled_block w (contents_of xs) ≡ is_settled_block w xs
same_settled w [] = refl
same_settled w (z ∷ xs) = by_kind z (kind z) (λ v. same_settled v xs)
  where
    by_kind : (y : TempInsn) → Kind y → ((v : List ℕ) → is_settled_block v (contents_of xs) ≡ is_settled_block v xs) → is_settled_block w (contents_of (y ∷ xs)) ≡ is_settled_block w (y ∷ xs)
    by_kind y (Jumps block) rest = rest w ∙ ap (λ v. is_settled_block v xs) (sym (all_kept w))
    by_kind y (Branches op a block) rest = rest (written_behind w (i.Branch op a block))
    by_kind y (Stays y2 e same none) rest =
        ap (is_settled_block w) (stays_first y xs e same)
        ∙ ap (λ b. list_all (has_number w) (fixed_reads_of y) && b) (rest (written_behind w y))

-- ---- blocks

test_at : (p : List TempInsn → Bool) (blocks : List (List TempInsn)) (n : ℕ) → list_all p blocks ≡ true → n < length blocks → p (block_at blocks n) ≡ true
test_at p [] n h lt = absurd (omega (arith, lt))
test_at p (block ∷ blocks) zero h lt = (and_parts (p block) (list_all p blocks) h).0
test_at p (block ∷ blocks) (suc n) h lt = test_at p blocks n (and_parts (p block) (list_all p blocks) h).1 (omega (arith, lt))

tests_from : (p : List TempInsn → Bool) (blocks : List (List TempInsn)) → ((n : ℕ) → n < length blocks → p (block_at blocks n) ≡ true) → list_all p blocks ≡ true
tests_from p [] h = refl
tests_from p (block ∷ blocks) h =
    and_from (p block) (list_all p blocks) (h 0 (omega arith)) (tests_from p blocks (λ n lt. h (suc n) (omega (arith, lt))))

first_settled : (params : ℕ) (blocks : List (List TempInsn)) → is_settled params blocks ≡ true → is_settled_block (argument_registers params) (block_at blocks 0) ≡ true
first_settled params [] h = refl
first_settled params (block ∷ blocks) h = (and_parts (is_settled_block (argument_registers params) block) (list_all (is_settled_block []) blocks) h).0

other_settled : (params : ℕ) (blocks : List (List TempInsn)) (n : ℕ) → is_settled params blocks ≡ true → 0 < n → n < length blocks → is_settled_block [] (block_at blocks n) ≡ true
other_settled params [] n h some lt = absurd (omega (arith, lt))
other_settled params (block ∷ blocks) zero h some lt = absurd (omega (arith, some))
other_settled params (block ∷ blocks) (suc n) h some lt =
    test_at (is_settled_block []) blocks n (and_parts (is_settled_block (argument_registers params) block) (list_all (is_settled_block []) blocks) h).1 (omega (arith, lt))

all_settled : (params : ℕ) (blocks : List (List TempInsn)) → is_settled_block (argument_registers params) (block_at blocks 0) ≡ true
    → ((n : ℕ) → 0 < n → n < length blocks → is_settled_block [] (block_at blocks n) ≡ true) → is_settled params blocks ≡ true
all_settled params [] first others = refl
all_settled params (block ∷ blocks) first others =
    and_from (is_settled_block (argument_registers params) block) (list_all (is_settled_block []) blocks) first
    (tests_from (is_settled_block []) blocks (λ n lt. others (suc n) (omega arith) (omega (arith, lt))))

-- ---- the law

module _ (params : ℕ) (before after : List (List TempInsn)) (kept : KeepContents before after) (h : is_settled params before ≡ true) where
  by_contents : (w : List ℕ) (xs ys : List TempInsn) → contents_of xs ≡ contents_of ys → is_settled_block w ys ≡ true → is_settled_block w xs ≡ true
  by_contents w xs ys e settled = sym (same_settled w xs) ∙ ap (is_settled_block w) e ∙ same_settled w ys ∙ settled

  other : (n : ℕ) → (contents_of (block_at after n) ≡ []) ⊎ HasContents targets_of with_block flows_on_of before (block_at after n) → is_settled_block [] (block_at after n) ≡ true
  other n (inl none) = sym (same_settled [] (block_at after n)) ∙ ap (is_settled_block []) none
  other n (inr c) = by_contents [] (block_at after n) (block_at before c.number) c.same (other_settled params before c.number h c.later c.within)

  pub settled_after : is_settled params after ≡ true
  settled_after =
      all_settled params after
      (by_contents (argument_registers params) (block_at after 0) (block_at before 0) kept.entry (first_settled params before h))
      (λ n some lt. other n (kept.others n some lt))

pub settled_kept : SettledIsKept
settled_kept params before after kept h = settled_after params before after kept h
