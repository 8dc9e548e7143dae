-- Blocks with the contents of others name no other argument places and have no wider calls.
use Rattle.std.proofs.Common.{◌≡◌, ◌⊎◌, inl, inr, ℕ, zero, suc, ◌<◌, ◌≤◌, List, [], ◌∷◌, length, refl, sym, ap, ◌∙◌, subst, arith}
use Rattle.std.specs.Prelude.{All}
use Rattle.std.proofs.lemmas.List.Elements.{All-nil, All-cons, All-head, All-tail}
use Rattle.temp_ir.specs.declared.operation.TempBranchOp.{TempBranchOp}
use Rattle.temp_ir.specs.declared.insn.TempInsn.{TempInsn}
use Rattle.temp_ir.specs.declared.insn.TempInsn.TheVariants as i
use Rattle.temp_ir.specs.Insns.{targets_of, with_block, flows_on_of}
use Rattle.cfg.specs.Walks.{block_at}
use Rattle.cfg.specs.Contents.{HasContents}
use Rattle.alloc_model.specs.Effect.{widest_in, widest_call}
use Rattle.block_pass_laws.specs.back_laws.Kept.{KeepContents}
use Rattle.block_pass_laws.specs.temp_walk_laws.SameRuns.{WritesWithin}
use Rattle.block_pass_laws.specs.argument_laws.Kept.{NamesPlacesTo, IsWithinBlock, ArgumentsAreKept}
use Rattle.block_pass_laws.proofs.BackLaws.Forms.{contents_of, Kind, Jumps, Branches, Stays, kind, stays_first}

-- ---- contents

-- what holds of each jump and branch holds of all instructions where it holds of the contents, and the other way round
module _ (P : TempInsn → Type 0) (jumps : (block : ℕ) → P (i.Jump block)) (branches : (op : TempBranchOp) (a block : ℕ) → P (i.Branch op a block)) where
  of_contents : (xs : List TempInsn) → All P (contents_of xs) → All P xs
  of_contents [] h = All-nil P
  of_contents (z ∷ xs) h = by_kind z (kind z) (of_contents xs) h
    where
      by_kind : (y : TempInsn) → Kind y → (All P (contents_of xs) → All P xs) → All P (contents_of (y ∷ xs)) → All P (y ∷ xs)
      by_kind y (Jumps block) rest g = All-cons P (i.Jump block) xs (jumps block) (rest g)
      by_kind y (Branches op a block) rest g = All-cons P (i.Branch op a block) xs (branches op a block) (rest (All-tail P (i.Branch op a 0) (contents_of xs) g))
      by_kind y (Stays y2 e same none) rest g =
          let k : All P (y ∷ contents_of xs) = subst (All P) (stays_first y xs e same) g in
          All-cons P y xs (All-head P y (contents_of xs) k) (rest (All-tail P y (contents_of xs) k))

  to_contents : (xs : List TempInsn) → All P xs → All P (contents_of xs)
  to_contents [] h = All-nil P
  to_contents (z ∷ xs) h = by_kind z (kind z) (to_contents xs) h
    where
      by_kind : (y : TempInsn) → Kind y → (All P xs → All P (contents_of xs)) → All P (y ∷ xs) → All P (contents_of (y ∷ xs))
      by_kind y (Jumps block) rest g = rest (All-tail P (i.Jump block) xs g)
      by_kind y (Branches op a block) rest g = All-cons P (i.Branch op a 0) (contents_of xs) (branches op a 0) (rest (All-tail P (i.Branch op a block) xs g))
      by_kind y (Stays y2 e same none) rest g =
          subst (All P) (sym (stays_first y xs e same)) (All-cons P y (contents_of xs) (All-head P y xs g) (rest (All-tail P y xs g)))

  by_contents : (xs ys : List TempInsn) → contents_of xs ≡ contents_of ys → All P ys → All P xs
  by_contents xs ys e h = of_contents xs (subst (All P) (sym e) (to_contents ys h))

same_width : (xs : List TempInsn) → widest_in (contents_of xs) ≡ widest_in xs
same_width [] = refl
same_width (z ∷ xs) = by_kind z (kind z) (same_width xs)
  where
    by_kind : (y : TempInsn) → Kind y → widest_in (contents_of xs) ≡ widest_in xs → widest_in (contents_of (y ∷ xs)) ≡ widest_in (y ∷ xs)
    by_kind y (Jumps block) rest = omega (arith, rest)
    by_kind y (Branches op a block) rest = omega (arith, rest)
    by_kind y (Stays y2 e same none) rest = omega (arith, ap widest_in (stays_first y xs e same), rest)

width_by_contents : (xs ys : List TempInsn) → contents_of xs ≡ contents_of ys → widest_in xs ≡ widest_in ys
width_by_contents xs ys e = sym (same_width xs) ∙ ap widest_in e ∙ same_width ys

within_by_contents : (xs ys : List TempInsn) → contents_of xs ≡ contents_of ys → IsWithinBlock ys → IsWithinBlock xs
within_by_contents xs ys e h =
    subst (λ w. All (WritesWithin w) xs) (sym (width_by_contents xs ys e))
    (by_contents (WritesWithin (widest_in ys)) (λ block. tt) (λ op a block. tt) xs ys e h)

-- ---- blocks by their numbers

module _ (P : List TempInsn → Type 0) where
  all_at : P [] → (blocks : List (List TempInsn)) (n : ℕ) → All P blocks → P (block_at blocks n)
  all_at none [] n h = none
  all_at none (block ∷ blocks) zero h = All-head P block blocks h
  all_at none (block ∷ blocks) (suc n) h = all_at none blocks n (All-tail P block blocks h)

  all_from : (blocks : List (List TempInsn)) → ((n : ℕ) → n < length blocks → P (block_at blocks n)) → All P blocks
  all_from [] h = All-nil P
  all_from (block ∷ blocks) h =
      All-cons P block blocks (h 0 (omega arith)) (all_from blocks (λ n lt. h (suc n) (omega (arith, lt))))

width_at : (blocks : List (List TempInsn)) (n : ℕ) → widest_in (block_at blocks n) ≤ widest_call blocks
width_at [] n = omega arith
width_at (block ∷ blocks) zero = omega arith
width_at (block ∷ blocks) (suc n) = omega (arith, width_at blocks n)

all_narrow : (most : ℕ) (blocks : List (List TempInsn)) → ((n : ℕ) → n < length blocks → widest_in (block_at blocks n) ≤ most) → widest_call blocks ≤ most
all_narrow most [] h = omega arith
all_narrow most (block ∷ blocks) h =
    omega (arith, h 0 (omega arith), all_narrow most blocks (λ n lt. h (suc n) (omega (arith, lt))))

-- ---- all blocks

module _ (before after : List (List TempInsn)) (kept : KeepContents before after) where
  -- each has the contents of none or of one before
  source : (P : List TempInsn → Type 0) → P [] → ((n : ℕ) → P (block_at before n))
      → ((xs ys : List TempInsn) → contents_of xs ≡ contents_of ys → P ys → P xs) → (n : ℕ) → n < length after → P (block_at after n)
  source P none all by zero lt = by (block_at after 0) (block_at before 0) kept.entry (all 0)
  source P none all by (suc n) lt = other (kept.others (suc n) (omega arith) lt)
    where
      other : (contents_of (block_at after (suc n)) ≡ []) ⊎ HasContents targets_of with_block flows_on_of before (block_at after (suc n)) → P (block_at after (suc n))
      other (inl e) = by (block_at after (suc n)) [] e none
      other (inr c) = by (block_at after (suc n)) (block_at before c.number) c.same (all c.number)

  -- what holds of blocks before and hangs on their contents alone holds of those after
  blocks_kept : (P : List TempInsn → Type 0) → P [] → ((xs ys : List TempInsn) → contents_of xs ≡ contents_of ys → P ys → P xs) → All P before → All P after
  blocks_kept P none by h = all_from P after (source P none (λ n. all_at P none before n h) by)

  narrow_kept : widest_call after ≤ widest_call before
  narrow_kept =
      all_narrow (widest_call before) after
      (source (λ xs. widest_in xs ≤ widest_call before) (omega arith) (λ n. width_at before n)
      (λ xs ys e le. omega (arith, width_by_contents xs ys e, le)))

pub arguments_kept : ArgumentsAreKept
arguments_kept before after kept = record {
  places = λ most. blocks_kept before after kept (All (NamesPlacesTo most)) (All-nil (NamesPlacesTo most)) (by_contents (NamesPlacesTo most) (λ block. tt) (λ op a block. tt));
  within = blocks_kept before after kept IsWithinBlock (All-nil (WritesWithin 0)) within_by_contents;
  narrow = narrow_kept before after kept;
}
