-- Jumps back go to blocks that begin with a mark.
use Rattle.std.proofs.Common.{◌≡◌, ℕ, zero, suc, ◌-◌, ◌≤◌, List, [], ◌∷◌, length, take, Bool, true, false, Option, Some, None, inl, inr, refl, sym, ap, ◌∙◌, subst, arith}
use Rattle.std.specs.Prelude.{◌||◌, All, IsTrue, nat_lt, slice_get, slice_index_or}
use Rattle.std.specs.List.{list_all, Contains}
use Rattle.std.proofs.lemmas.Bool.{and_from, and_parts}
use Rattle.std.proofs.lemmas.Bool.Decides.{leb_tells}
use Rattle.std.proofs.lemmas.Option.{slice_get_within, slice_get-get_or, get_or_from_slice_get}
use Rattle.std.proofs.lemmas.List.Elements.{All-nil, All-head, All-tail}
use Rattle.pass_core.specs.Functions.{EndsLate, IsStraight, front_of, insn_in, insn_at}
use Rattle.temp_ir.specs.declared.insn.TempInsn.{TempInsn}
use Rattle.temp_ir.specs.declared.insn.TempInsn.TheVariants as i
use Rattle.temp_ir.specs.Insns.{targets_of, with_block, flows_on_of}
use Rattle.temp_ir.specs.Programs.{first_is_mark, begins_with_mark, goes_back_to_marks}
use Rattle.cfg.specs.Walks.{block_at}
use Rattle.cfg.specs.Paths.{GoesBack}
use Rattle.cfg.specs.Contents.{KeepsBack}
use Rattle.block_pass_laws.specs.back_laws.Kept.{GoBackToMarks, MarksAreKept}
use Rattle.block_pass_laws.proofs.BackLaws.Forms.{contents_of, Kind, Jumps, Branches, Stays, kind, stays_first}

second : (a b : Bool) → (a || b) ≡ true → a ≡ false → b ≡ true
second true b h e = absurd (cc)
second false b h e = h

not_later : (n m : ℕ) → m ≤ n → nat_lt n m ≡ false
not_later n m le = elim (leb_tells (suc n) m) [
  | inl holds ↦ absurd (omega (arith, holds.1, le))
  | inr fails ↦ fails.0
]

earlier : (n m : ℕ) → nat_lt n m ≡ false → m ≤ n
earlier n m e = elim (leb_tells (suc n) m) [
  | inl holds ↦ let clash : true ≡ false = sym holds.0 ∙ e in let never : ⊥ = cc in absurd never
  | inr fails ↦ omega (arith, fails.1)
]

-- ---- the first instruction of a block, and of its contents

contents_mark : (xs : List TempInsn) → first_is_mark (slice_get xs 0) ≡ true → first_is_mark (slice_get (contents_of xs) 0) ≡ true
contents_mark [] h = absurd (cc)
contents_mark (z ∷ xs) h = by_kind z (kind z) h
  where
    by_kind : (y : TempInsn) → Kind y → first_is_mark (Some y) ≡ true → first_is_mark (slice_get (contents_of (y ∷ xs)) 0) ≡ true
    by_kind y (Jumps block) g = absurd (cc)
    by_kind y (Branches op a block) g = absurd (cc)
    by_kind y (Stays y2 e same none) g = ap (λ l. first_is_mark (slice_get l 0)) (stays_first y xs e same) ∙ g

front_more : (x y : TempInsn) (xs : List TempInsn) → front_of (x ∷ y ∷ xs) ≡ x ∷ front_of (y ∷ xs)
front_more x y xs = let e : length (x ∷ y ∷ xs) - 1 ≡ suc (length (y ∷ xs) - 1) = omega arith in ap (λ k. take k (x ∷ y ∷ xs)) e

-- a jump stands last, so nothing stands behind it
late_mark : (xs : List TempInsn) → EndsLate targets_of flows_on_of xs → first_is_mark (slice_get (contents_of xs) 0) ≡ true → first_is_mark (slice_get xs 0) ≡ true
late_mark [] late h = h
late_mark (z ∷ []) late h = by_kind z (kind z) h
  where
    by_kind : (y : TempInsn) → Kind y → first_is_mark (slice_get (contents_of (y ∷ [])) 0) ≡ true → first_is_mark (Some y) ≡ true
    by_kind y (Jumps block) g = absurd (cc)
    by_kind y (Branches op a block) g = absurd (cc)
    by_kind y (Stays y2 e same none) g = sym (ap (λ l. first_is_mark (slice_get l 0)) (stays_first y [] e same)) ∙ g
late_mark (z ∷ x ∷ xs) late h =
    by_kind z (kind z) (All-head (IsStraight targets_of flows_on_of) z (front_of (x ∷ xs)) (subst (All (IsStraight targets_of flows_on_of)) (front_more z x xs) late)) h
  where
    by_kind : (y : TempInsn) → Kind y → IsStraight targets_of flows_on_of y → first_is_mark (slice_get (contents_of (y ∷ x ∷ xs)) 0) ≡ true → first_is_mark (Some y) ≡ true
    by_kind y (Jumps block) straight g = let clash : false ≡ true = straight.1 in let never : ⊥ = cc in absurd never
    by_kind y (Branches op a block) straight g = absurd (cc)
    by_kind y (Stays y2 e same none) straight g = sym (ap (λ l. first_is_mark (slice_get l 0)) (stays_first y (x ∷ xs) e same)) ∙ g

-- ---- blocks by their numbers

same_begin : (blocks : List (List TempInsn)) (n : ℕ) → first_is_mark (slice_get (block_at blocks n) 0) ≡ begins_with_mark (slice_get blocks n)
same_begin [] n = refl
same_begin (block ∷ blocks) zero = refl
same_begin (block ∷ blocks) (suc n) = same_begin blocks n

late_at : (blocks : List (List TempInsn)) (n : ℕ) → All (EndsLate targets_of flows_on_of) blocks → EndsLate targets_of flows_on_of (block_at blocks n)
late_at [] n h = All-nil (IsStraight targets_of flows_on_of)
late_at (block ∷ blocks) zero h = All-head (EndsLate targets_of flows_on_of) block blocks h
late_at (block ∷ blocks) (suc n) h = late_at blocks n (All-tail (EndsLate targets_of flows_on_of) block blocks h)

-- ---- jumps back before

passes : (p : ℕ → Bool) (ts : List ℕ) (to : ℕ) → list_all p ts ≡ true → Contains ts to → p to ≡ true
passes p [] to h (k, lt, is) = absurd (omega (arith, lt))
passes p (t ∷ ts) to h (zero, lt, is) = subst (λ x. p x ≡ true) is (and_parts (p t) (list_all p ts) h).0
passes p (t ∷ ts) to h (suc k, lt, is) = passes p ts to (and_parts (p t) (list_all p ts) h).1 (k, omega (arith, lt), is)

-- what goes back goes to a mark
goes_to_mark : (blocks : List (List TempInsn)) → GoBackToMarks blocks → (to : ℕ) → GoesBack targets_of blocks to → begins_with_mark (slice_get blocks to) ≡ true
goes_to_mark blocks h to back = by_block (slice_get blocks back.block) refl back.stands
  where
    by_block : (o : Option (List TempInsn)) → slice_get blocks back.block ≡ o → insn_in o back.at ≡ Some back.insn → begins_with_mark (slice_get blocks to) ≡ true
    by_block None there stands = absurd (cc)
    by_block (Some block) there stands =
        let all : All (λ z. IsTrue (goes_back_to_marks blocks back.block z)) block =
        subst (All (λ z. IsTrue (goes_back_to_marks blocks back.block z))) (get_or_from_slice_get blocks back.block block [] there) (h back.block (slice_get_within blocks back.block block there)) in
        let one : IsTrue (goes_back_to_marks blocks back.block back.insn) =
        subst (λ z. IsTrue (goes_back_to_marks blocks back.block z)) (get_or_from_slice_get block back.at back.insn i.Mark stands) (all back.at i.Mark (slice_get_within block back.at back.insn stands)) in
        second (nat_lt back.block to) (begins_with_mark (slice_get blocks to))
        (passes (λ target. nat_lt back.block target || begins_with_mark (slice_get blocks target)) (targets_of back.insn) to one back.leads) (not_later back.block to back.back)

-- ---- the law

module _ (before after : List (List TempInsn)) (kept : KeepsBack targets_of with_block flows_on_of before after) (late : All (EndsLate targets_of flows_on_of) after) (h : GoBackToMarks before) where
  begins : (to : ℕ) → GoesBack targets_of after to → begins_with_mark (slice_get after to) ≡ true
  begins to back =
      let was = kept to back in
      let before_mark : first_is_mark (slice_get (block_at before was.0) 0) ≡ true = same_begin before was.0 ∙ goes_to_mark before h was.0 was.1 in
      let mark : first_is_mark (slice_get (contents_of (block_at after to)) 0) ≡ true =
      ap (λ l. first_is_mark (slice_get l 0)) was.2 ∙ contents_mark (block_at before was.0) before_mark in
      sym (same_begin after to) ∙ late_mark (block_at after to) (late_at after to late) mark

  module _ (block at : ℕ) (z : TempInsn) (stands : insn_at after block at ≡ Some z) where
    target : (to : ℕ) → Contains (targets_of z) to → (b : Bool) → nat_lt block to ≡ b → (b || begins_with_mark (slice_get after to)) ≡ true
    target to leads true e = refl
    target to leads false e = begins to (record { block = block; at = at; insn = z; stands = stands; leads = leads; back = earlier block to e })

    test : ℕ → Bool
    test to = nat_lt block to || begins_with_mark (slice_get after to)

    each : (ts : List ℕ) → ((to : ℕ) → Contains ts to → test to ≡ true) → list_all test ts ≡ true
    each [] f = refl
    each (t ∷ ts) f =
        and_from (test t) (list_all test ts) (f t (0, omega arith, refl)) (each ts (λ to c. f to (suc c.0, omega (arith, c.1), c.2)))

    pub goes : IsTrue (goes_back_to_marks after block z)
    unfolding test
    goes = each (targets_of z) (λ to leads. target to leads (nat_lt block to) refl)

  pub marks_after : GoBackToMarks after
  marks_after block lt = λ k d inside.
      goes block k (slice_index_or (block_at after block) k d)
      (ap (λ o. insn_in o k) (slice_get-get_or after block [] lt) ∙ slice_get-get_or (block_at after block) k d inside)

pub marks_kept : MarksAreKept
marks_kept before after kept late h = marks_after before after kept late h
