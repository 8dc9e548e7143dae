-- What blocks with the contents of others name is there.
use Rattle.std.proofs.Common.{◌≡◌, ◌⊎◌, inl, inr, ℕ, zero, suc, ◌<◌, List, [], ◌∷◌, length, refl, sym, subst, arith}
use Rattle.std.specs.Prelude.{All, IsTrue}
use Rattle.std.proofs.lemmas.List.Elements.{All-nil, All-cons, All-head, All-tail}
use Rattle.mem_objects.specs.declared.DataObject.{DataObject}
use Rattle.pass_core.specs.declared.function.MemoryLocal.{MemoryLocal}
use Rattle.pass_core.specs.Functions.{AllInsns}
use Rattle.temp_ir.specs.declared.insn.TempInsn.{TempInsn}
use Rattle.temp_ir.specs.declared.insn.TempInsn.TheVariants as i
use Rattle.temp_ir.specs.Insns.{targets_of, with_block, flows_on_of}
use Rattle.temp_ir.specs.Programs.{TempFn, names_what_is_there}
use Rattle.cfg.specs.Walks.{block_at}
use Rattle.cfg.specs.Contents.{HasContents}
use Rattle.block_pass_laws.specs.back_laws.Kept.{KeepContents, NamesAreKept}
use Rattle.block_pass_laws.proofs.BackLaws.Forms.{contents_of, Kind, Jumps, Branches, Stays, kind, stays_first}

module _ (functions : List TempFn) (globals : List DataObject) (objects : List MemoryLocal) where
  abbrev Names : TempInsn → Type 0
  Names z = IsTrue (names_what_is_there functions globals objects z)

  of_contents : (xs : List TempInsn) → All Names (contents_of xs) → All Names xs
  of_contents [] h = All-nil Names
  of_contents (z ∷ xs) h = by_kind z (kind z) (of_contents xs) h
    where
      by_kind : (y : TempInsn) → Kind y → (All Names (contents_of xs) → All Names xs) → All Names (contents_of (y ∷ xs)) → All Names (y ∷ xs)
      by_kind y (Jumps block) rest g = All-cons Names (i.Jump block) xs refl (rest g)
      by_kind y (Branches op a block) rest g = All-cons Names (i.Branch op a block) xs refl (rest (All-tail Names (i.Branch op a 0) (contents_of xs) g))
      by_kind y (Stays y2 e same none) rest g =
          let k : All Names (y ∷ contents_of xs) = subst (All Names) (stays_first y xs e same) g in
          All-cons Names y xs (All-head Names y (contents_of xs) k) (rest (All-tail Names y (contents_of xs) k))

  to_contents : (xs : List TempInsn) → All Names xs → All Names (contents_of xs)
  to_contents [] h = All-nil Names
  to_contents (z ∷ xs) h = by_kind z (kind z) (to_contents xs) h
    where
      by_kind : (y : TempInsn) → Kind y → (All Names xs → All Names (contents_of xs)) → All Names (y ∷ xs) → All Names (contents_of (y ∷ xs))
      by_kind y (Jumps block) rest g = rest (All-tail Names (i.Jump block) xs g)
      by_kind y (Branches op a block) rest g = All-cons Names (i.Branch op a 0) (contents_of xs) refl (rest (All-tail Names (i.Branch op a block) xs g))
      by_kind y (Stays y2 e same none) rest g =
          subst (All Names) (sym (stays_first y xs e same)) (All-cons Names y (contents_of xs) (All-head Names y xs g) (rest (All-tail Names y xs g)))

  -- blocks by their numbers
  at_number : (blocks : List (List TempInsn)) (n : ℕ) → AllInsns Names blocks → All Names (block_at blocks n)
  at_number [] n h = All-nil Names
  at_number (block ∷ blocks) zero h = All-head (All Names) block blocks h
  at_number (block ∷ blocks) (suc n) h = at_number blocks n (All-tail (All Names) block blocks h)

  from_numbers : (blocks : List (List TempInsn)) → ((n : ℕ) → n < length blocks → All Names (block_at blocks n)) → AllInsns Names blocks
  from_numbers [] h = All-nil (All Names)
  from_numbers (block ∷ blocks) h =
      All-cons (All Names) block blocks (h 0 (omega arith)) (from_numbers blocks (λ n lt. h (suc n) (omega (arith, lt))))

  module _ (before after : List (List TempInsn)) (kept : KeepContents before after) (h : AllInsns Names before) where
    by_contents : (xs ys : List TempInsn) → contents_of xs ≡ contents_of ys → All Names ys → All Names xs
    by_contents xs ys e named = of_contents xs (subst (All Names) (sym e) (to_contents ys named))

    other : (n : ℕ) → (contents_of (block_at after n) ≡ []) ⊎ HasContents targets_of with_block flows_on_of before (block_at after n) → All Names (block_at after n)
    other n (inl none) = of_contents (block_at after n) (subst (All Names) (sym none) (All-nil Names))
    other n (inr c) = by_contents (block_at after n) (block_at before c.number) c.same (at_number before c.number h)

    named : (n : ℕ) → n < length after → All Names (block_at after n)
    named zero lt = by_contents (block_at after 0) (block_at before 0) kept.entry (at_number before 0 h)
    named (suc n) lt = other (suc n) (kept.others (suc n) (omega arith) lt)

    pub named_after : AllInsns Names after
    named_after = from_numbers after named

pub names_kept : NamesAreKept
names_kept functions globals objects before after kept h = named_after functions globals objects before after kept h
