-- What the definitions say of what is left of a list.
use Rattle.std.proofs.Common.{◌≡◌, ◌≢◌, ℕ, ◌+◌, ◌<◌, ◌≤◌, Bool, true, false, List, [], ◌∷◌, ◌++◌, refl, sym, ap, ◌∙◌, length, drop, filter, get_or, append_assoc, append-nil}
use Rattle.std.specs.Prelude.{◌==◌, ◌&&◌, ◌||◌, not}
use Rattle.std.specs.List.{list_all}
use Rattle.std.proofs.lemmas.Bool.{ne_eqb, eq-eqb}
use Rattle.std.proofs.lemmas.List.{at_drop_more, at_drop_all}
use Rattle.bk_ilist.specs.Listing.{items}
use Rattle.temp_ir.specs.declared.insn.TempInsn.{TempInsn}
use Rattle.temp_ir.specs.Fixed.{has_number, fixed_reads_of, ended_of, written_behind, is_settled_block}

-- ---- all of a list, or one of them

module _ {A : Type 0} (p : A → Bool) (xs : List A) (i : ℕ) (x : A) (is : x ≡ get_or xs i x) (within : i < length xs) where
  all_here : list_all p (drop i xs) ≡ (p x && list_all p (drop (i + 1) xs))
  all_here = at_drop_more (list_all p) xs i x within ∙ ap (λ y. p y && list_all p (drop (i + 1) xs)) (sym is)

  pub all_next : p x ≡ true → list_all p (drop i xs) ≡ list_all p (drop (i + 1) xs)
  all_next e = all_here ∙ ap (λ b. b && list_all p (drop (i + 1) xs)) e

  pub all_wrong : p x ≡ false → list_all p (drop i xs) ≡ false
  all_wrong e = all_here ∙ ap (λ b. b && list_all p (drop (i + 1) xs)) e

  kept_here : filter p (drop i xs) ≡ filter p (x ∷ []) ++ filter p (drop (i + 1) xs)
  kept_here =
      at_drop_more (filter p) xs i x within
      ∙ ap (λ y. filter p (y ∷ drop (i + 1) xs)) (sym is)
      ∙ one_kept (p x) x (drop (i + 1) xs) refl
    where
      one_kept : (b : Bool) (y : A) (ys : List A) → p y ≡ b → filter p (y ∷ ys) ≡ filter p (y ∷ []) ++ filter p ys
      one_kept true y ys e = rw e refl
      one_kept false y ys e = rw e refl

pub all_end : {A : Type 0} (p : A → Bool) (xs : List A) (i : ℕ) → length xs ≤ i → list_all p (drop i xs) ≡ true
all_end p xs i past = at_drop_all (list_all p) xs i past

pub has_next : (xs : List ℕ) (i x r : ℕ) → x ≡ get_or xs i x → i < length xs → x ≢ r → has_number (drop i xs) r ≡ has_number (drop (i + 1) xs) r
has_next xs i x r is within ne =
    at_drop_more (λ ys. has_number ys r) xs i x within
    ∙ ap (λ y. (y == r) || has_number (drop (i + 1) xs) r) (sym is)
    ∙ ap (λ b. b || has_number (drop (i + 1) xs) r) (ne_eqb x r ne)

pub has_found : (xs : List ℕ) (i x r : ℕ) → x ≡ get_or xs i x → i < length xs → x ≡ r → has_number (drop i xs) r ≡ true
has_found xs i x r is within e =
    at_drop_more (λ ys. has_number ys r) xs i x within
    ∙ ap (λ y. (y == r) || has_number (drop (i + 1) xs) r) (sym is)
    ∙ ap (λ b. b || has_number (drop (i + 1) xs) r) (eq-eqb x r e)

pub has_end : (xs : List ℕ) (i r : ℕ) → length xs ≤ i → has_number (drop i xs) r ≡ false
has_end xs i r past = at_drop_all (λ ys. has_number ys r) xs i past

-- ---- what an instruction keeps

abbrev pub kept_numbers : TempInsn → List ℕ → List ℕ
kept_numbers insn registers = filter (λ register. not (has_number (ended_of insn) register)) registers

pub kept_next : (insn : TempInsn) (out xs : List ℕ) (i x : ℕ) → x ≡ get_or xs i x → i < length xs →
    (out ++ kept_numbers insn (x ∷ [])) ++ kept_numbers insn (drop (i + 1) xs) ≡ out ++ kept_numbers insn (drop i xs)
kept_next insn out xs i x is within =
    append_assoc out (kept_numbers insn (x ∷ [])) (kept_numbers insn (drop (i + 1) xs))
    ∙ sym (ap (λ y. out ++ y) (kept_here (λ register. not (has_number (ended_of insn) register)) xs i x is within))

pub kept_end : (insn : TempInsn) (out xs : List ℕ) (i : ℕ) → length xs ≤ i → out ++ kept_numbers insn (drop i xs) ≡ out
kept_end insn out xs i past =
    ap (λ y. out ++ y) (at_drop_all (kept_numbers insn) xs i past) ∙ append-nil out

pub is_kept : (insn : TempInsn) (x : ℕ) → has_number (ended_of insn) x ≡ false → kept_numbers insn (x ∷ []) ≡ x ∷ []
is_kept insn x e = rw e refl

pub is_lost : (insn : TempInsn) (x : ℕ) → has_number (ended_of insn) x ≡ true → kept_numbers insn (x ∷ []) ≡ []
is_lost insn x e = rw e refl

-- ---- the instructions of a block

module _ (written : List ℕ) (insn : TempInsn) (rest all : List (ℕ × TempInsn)) (id : ℕ) (is : all ≡ (id, insn) ∷ rest) where
  block_here : is_settled_block written (items all)
      ≡ (list_all (has_number written) (fixed_reads_of insn) && is_settled_block (written_behind written insn) (items rest))
  block_here = ap (λ pairs. is_settled_block written (items pairs)) is

  pub block_next : list_all (has_number written) (fixed_reads_of insn) ≡ true →
      is_settled_block written (items all) ≡ is_settled_block (written_behind written insn) (items rest)
  block_next e = block_here ∙ ap (λ b. b && is_settled_block (written_behind written insn) (items rest)) e

  pub block_wrong : list_all (has_number written) (fixed_reads_of insn) ≡ false → is_settled_block written (items all) ≡ false
  block_wrong e = block_here ∙ ap (λ b. b && is_settled_block (written_behind written insn) (items rest)) e
