-- The lists of all blocks, read at a place of a block.
use Rattle.std.proofs.Common.{◌≡◌, ℕ, zero, suc, ◌+◌, ◌<◌, List, [], ◌∷◌, ◌++◌, true, Option, Some, None, refl, sym, ap, ◌∙◌, subst, length, map, take, drop, arith}
use Rattle.std.specs.Prelude.{slice_get, slice_index_or, flat_map}
use Rattle.std.specs.List.{range_with_len, list_all}
use Rattle.std.proofs.lemmas.Option.{none-some, same_Some}
use Rattle.std.proofs.lemmas.List.Sums.{sum_by-cons}
use Rattle.pass_core.specs.Functions.{count_of, insn_in, last_of}
use Rattle.temp_ir.specs.declared.insn.TempInsn.{TempInsn}
use Rattle.temp_ir.specs.Insns.{reads_of}
use Rattle.temp_ir.specs.Fixed.{fixed_reads_of, has_number, written_behind, is_settled_block}
use Rattle.alloc_plain_lists.specs.Plain.{loads, plain_registers, stores_behind, transfers_from}
use Rattle.alloc_plain_lists.proofs.Registers.{and_first, and_second}

module _ {A : Type 0} where
  get_left : (xs ys : List A) (k : ℕ) (d : A) → k < length xs → slice_index_or (xs ++ ys) k d ≡ slice_index_or xs k d
  get_left [] ys k d within = absurd (omega (arith, within))
  get_left (x ∷ xs) ys zero d within = refl
  get_left (x ∷ xs) ys (suc k) d within = get_left xs ys k d (omega (arith, within))

  get_right : (xs ys : List A) (n k : ℕ) (d : A) → n ≡ length xs + k → slice_index_or (xs ++ ys) n d ≡ slice_index_or ys k d
  get_right [] ys n k d e = ap (λ j. slice_index_or ys j d) (omega (arith, e))
  get_right (x ∷ xs) ys zero k d e = absurd (omega (arith, e))
  get_right (x ∷ xs) ys (suc n) k d e = get_right xs ys n k d (omega (arith, e))

  pub length_both : (xs ys : List A) → length (xs ++ ys) ≡ length xs + length ys
  length_both [] ys = omega arith
  length_both (x ∷ xs) ys = let rest = length_both xs ys in omega (arith, rest)

  -- what stands at a place before the end
  pub there : (xs : List A) (k : ℕ) → k < length xs → (x : A) × (slice_get xs k ≡ Some x)
  there [] k within = absurd (omega (arith, within))
  there (x ∷ xs) zero within = (x, refl)
  there (x ∷ xs) (suc k) within = there xs k (omega (arith, within))

  module _ (f : List TempInsn → List A) (same : (insns : List TempInsn) → length (f insns) ≡ length insns) where
    pub read_in_block : (blocks : List (List TempInsn)) (block at : ℕ) (insns : List TempInsn) (d : A) → slice_get blocks block ≡ Some insns → at < length insns → slice_index_or (flat_map f blocks) (count_of (take block blocks) + at) d ≡ slice_index_or (f insns) at d
    read_in_block [] block at insns d is within = absurd (none-some insns is)
    read_in_block (b ∷ bs) zero at insns d is within =
        let e = same_Some b insns is in
        let size = same b in
        let inside = subst (λ xs. at < length xs) (sym e) within in
        ap (λ j. slice_index_or (f b ++ flat_map f bs) j d) (let start : 0 + at ≡ at = omega arith in start)
        ∙ get_left (f b) (flat_map f bs) at d (omega (arith, size, inside)) ∙ ap (λ xs. slice_index_or (f xs) at d) e
    read_in_block (b ∷ bs) (suc block) at insns d is within =
        let sum = sum_by-cons (λ block. length block) b (take block bs) in
        let size = same b in
        get_right (f b) (flat_map f bs) (count_of (b ∷ take block bs) + at) (count_of (take block bs) + at) d (omega (arith, sum, size))
        ∙ read_in_block bs block at insns d is within

    pub length_of_blocks : (blocks : List (List TempInsn)) → length (flat_map f blocks) ≡ count_of blocks
    length_of_blocks [] = refl
    length_of_blocks (b ∷ bs) =
        let sum = sum_by-cons (λ block. length block) b bs in
        let size = same b in
        let rest = length_of_blocks bs in
        let both = length_both (f b) (flat_map f bs) in
        omega (arith, sum, size, rest, both)

-- the block of an instruction that is there
pub block_there : (block : Option (List TempInsn)) (at : ℕ) (x : TempInsn) → insn_in block at ≡ Some x → (insns : List TempInsn) × (block ≡ Some insns) × (slice_get insns at ≡ Some x)
block_there None at x is = absurd (none-some x is)
block_there (Some insns) at x is = (insns, refl, is)

-- ---- along a block

-- the instruction before a place, and the fixed registers that are written there
abbrev pub previous : Option TempInsn → List TempInsn → ℕ → Option TempInsn
previous p insns zero = p
previous p [] (suc at) = p
previous p (x ∷ insns) (suc at) = previous (Some x) insns at

abbrev pub settled_at : List ℕ → List TempInsn → ℕ → List ℕ
settled_at ws insns zero = ws
settled_at ws [] (suc at) = ws
settled_at ws (x ∷ insns) (suc at) = settled_at (written_behind ws x) insns at

pub previous_next : (p : Option TempInsn) (insns : List TempInsn) (at : ℕ) (x : TempInsn) → slice_get insns at ≡ Some x → previous p insns (suc at) ≡ Some x
previous_next p [] at x is = absurd (none-some x is)
previous_next p (y ∷ insns) zero x is = is
previous_next p (y ∷ insns) (suc at) x is = previous_next (Some y) insns at x is

pub settled_next : (ws : List ℕ) (insns : List TempInsn) (at : ℕ) (x : TempInsn) → slice_get insns at ≡ Some x → settled_at ws insns (suc at) ≡ written_behind (settled_at ws insns at) x
settled_next ws [] at x is = absurd (none-some x is)
settled_next ws (y ∷ insns) zero x is = ap (written_behind ws) (same_Some y x is)
settled_next ws (y ∷ insns) (suc at) x is = settled_next (written_behind ws y) insns at x is

pub settled_reads : (ws : List ℕ) (insns : List TempInsn) (at : ℕ) (x : TempInsn) → is_settled_block ws insns ≡ true → slice_get insns at ≡ Some x → list_all (has_number (settled_at ws insns at)) (fixed_reads_of x) ≡ true
settled_reads ws [] at x all is = absurd (none-some x is)
settled_reads ws (y ∷ insns) zero x all is =
    subst (λ z. list_all (has_number ws) (fixed_reads_of z) ≡ true) (same_Some y x is)
    (and_first (list_all (has_number ws) (fixed_reads_of y)) (is_settled_block (written_behind ws y) insns) all)
settled_reads ws (y ∷ insns) (suc at) x all is =
    settled_reads (written_behind ws y) insns at x
    (and_second (list_all (has_number ws) (fixed_reads_of y)) (is_settled_block (written_behind ws y) insns) all) is

last_behind : (y : TempInsn) (insns : List TempInsn) → previous (Some y) insns (length insns) ≡ slice_get (y ∷ insns) (length insns)
last_behind y [] = refl
last_behind y (x ∷ insns) = last_behind x insns

pub previous_last : (insns : List TempInsn) → previous None insns (length insns) ≡ last_of insns
previous_last [] = refl
previous_last (x ∷ insns) = last_behind x insns ∙ ap (slice_get (x ∷ insns)) (omega arith)

-- ---- the two lists

pub transfers_length : (p : Option TempInsn) (insns : List TempInsn) → length (transfers_from p insns) ≡ length insns
transfers_length p [] = refl
transfers_length p (x ∷ insns) = ap suc (transfers_length (Some x) insns)

pub transfers_get : (p : Option TempInsn) (insns : List TempInsn) (at : ℕ) (x : TempInsn) → slice_get insns at ≡ Some x → slice_index_or (transfers_from p insns) at [] ≡ stores_behind (previous p insns at) ++ loads (reads_of x) 1
transfers_get p [] at x is = absurd (none-some x is)
transfers_get p (y ∷ insns) zero x is = ap (λ z. stores_behind p ++ loads (reads_of z) 1) (same_Some y x is)
transfers_get p (y ∷ insns) (suc at) x is = transfers_get (Some y) insns at x is

pub registers_get : (insns : List TempInsn) (at : ℕ) (x : TempInsn) → slice_get insns at ≡ Some x → slice_index_or (map plain_registers insns) at [] ≡ plain_registers x
registers_get [] at x is = absurd (none-some x is)
registers_get (y ∷ insns) zero x is = ap plain_registers (same_Some y x is)
registers_get (y ∷ insns) (suc at) x is = registers_get insns at x is

pub range_length : (a n : ℕ) → length (range_with_len a n) ≡ n
range_length a zero = refl
range_length a (suc n) = ap suc (range_length (a + 1) n)

pub range_behind : (n a k m : ℕ) → k ≡ n + m → drop n (range_with_len a k) ≡ range_with_len (a + n) m
range_behind zero a k m e =
    ap (λ j. range_with_len a j) (omega (arith, e)) ∙ ap (λ b. range_with_len b m) (omega arith)
range_behind (suc n) a zero m e = absurd (omega (arith, e))
range_behind (suc n) a (suc k) m e =
    range_behind n (a + 1) k m (omega (arith, e)) ∙ ap (λ b. range_with_len b m) (omega arith)
