-- The code of shifts comes to what they answer.
use Rattle.std.proofs.Common.{◌≡◌, ℕ, ◌+◌, ◌*◌, ◌/◌, ◌%◌, ◌^◌, ◌<◌, ◌≤◌, [], ◌∷◌, Bool, true, false, ℤ, pos, negsuc, Option, Some, None, refl, sym, ap, ◌∙◌, subst, arith}
use Rattle.std.specs.Prelude.{◌&&◌, if◌then◌else◌, unsigned_abs, int_lt, int_le}
use Rattle.std.specs.Int.{Width, w32, w64, int_shr}
use Rattle.std.specs.Int.RustNames.{FitsSigned}
use mir.Val.{bits}
use Rattle.std.proofs.lemmas.Nat.{shr_le}
use Rattle.std.proofs.lemmas.Bool.{eqb-true, ltb-true, and_parts}
use Rattle.mem_model.specs.declared.value.Value.{Value}
use Rattle.mem_model.specs.declared.value.Value.TheVariants.{Word, Address, Unset}
use Rattle.mem_model.specs.World.{Outer}
use Rattle.alpha_isa.specs.Arithmetic.{word_at, word_from, signed_value, sign_extension, kept_bytes}
use Rattle.alpha_isa.proofs.Arithmetic.{sign_extended-same, kept_bytes-long}
use Rattle.bk_arithmetic.specs.declared.integer_type.IntegerType.{IntegerType}
use Rattle.bk_arithmetic.specs.declared.integer_type.IntegerType.TheVariants.{Int, UnsignedInt, Long, UnsignedLong}
use Rattle.bk_arithmetic.specs.IntegerTypes.{width}
use Rattle.bk_arithmetic.specs.Words.{value, extension, is_word}
use Rattle.bk_arithmetic.specs.Words as words
use Rattle.bk_arithmetic.specs.Operations.{shift_count, left_shift_by, right_shift_by}
use Rattle.bk_arithmetic.proofs.LowBits.{extension-below}
use Rattle.bk_arithmetic.proofs.Values.{signed_fits}
use Rattle.suifvm_ir.specs.declared.types.VmType.{VmType}
use Rattle.suifvm_ir.specs.declared.types.VmType.TheVariants.{S32, U32, S64, U64, P64}
use Rattle.suifvm_ir.specs.declared.insn.ShiftOp.{ShiftOp}
use Rattle.suifvm_ir.specs.declared.insn.ShiftOp.TheVariants.{ArithmeticRight, Left, LogicalRight}
use Rattle.suifvm_meaning.specs.declared.answer.Answer as vm
use Rattle.suifvm_meaning.specs.declared.answer.Answer.TheVariants as v
use Rattle.suifvm_meaning.specs.Operations.{on_number, outcome_answer, shift_number, shift_by, shift_answer}
use Rattle.temp_ir.specs.declared.operation.Operation.TheVariants as code
use Rattle.alloc_model.specs.Contents as contents
use Rattle.alloc_model.specs.Contents.{Content, Plain, word_content, operate_answer}
use Rattle.alloc_model.specs.Effect.{Temp, writes}
use Rattle.alloc_model.specs.Temporaries.{Temps}
use Rattle.selection_forms.specs.alpha_forms.Straight.{runs}
use Rattle.selection_forms.specs.alpha_forms.Registers.{IsOfRegister, CodeAnswers}
use Rattle.selection_forms.specs.alpha_forms.Operations.{on_two, extended_long}
use Rattle.selection_forms.specs.alpha_forms.Operations as items
use Rattle.selection_forms.specs.alpha_forms.Laws.{ShiftIsDone}
use Rattle.selection_forms.proofs.AlphaForms.Prepares.{nothing_yet, prepare, finish}
use Rattle.selection_forms.proofs.AlphaForms.Comparing.{signed_as}
use Rattle.selection_forms.proofs.AlphaForms.Converting.{int_word, long_word}
use Rattle.selection_forms.proofs.AlphaForms.Done.{two_comes}

-- ---- what a shift asks of its operands

-- both are numbers, or it fails
by_operands : (op : ShiftOp) (t : IntegerType) (x y : Value) (P : vm.Answer → Type 0) → P v.Fails →
    ((n k : ℕ) → x ≡ Word n → y ≡ Word k → extension t n ≡ n → k < 2 ^ 64 → P (shift_number op t n k)) →
    P (on_number (Some t) x (shift_by op y))
by_operands op t (Address p) y P fails numbers = fails
by_operands op t Unset y P fails numbers = fails
by_operands op t (Word n) y P fails numbers = by_word (is_word t n) refl
  where
    by_count : (y : Value) → ((k : ℕ) → y ≡ Word k → k < 2 ^ 64 → P (shift_number op t n k)) → P (shift_by op y t n)
    by_count (Address p) h = fails
    by_count Unset h = fails
    by_count (Word k) h = by_test (is_word UnsignedLong k) refl
      where
        by_test : (b : Bool) → is_word UnsignedLong k ≡ b → P (if b then shift_number op t n k else v.Fails)
        by_test true e = h k refl (subst (λ i. i < 2 ^ 64) (eqb-true (extension UnsignedLong k) k e) (extension-below UnsignedLong k))
        by_test false e = fails

    by_word : (b : Bool) → is_word t n ≡ b → P (if b then shift_by op y t n else v.Fails)
    by_word true e = by_count y (λ k is small. numbers n k refl is (eqb-true (extension t n) n e) small)
    by_word false e = fails

-- the count is below the width, or it fails
by_places : (t : IntegerType) (k : ℕ) (P : Option ℕ → Type 0) → k < 2 ^ 64 → P None → (k < bits (width t) → P (Some k)) →
    P (shift_count t UnsignedLong k)
by_places t k P small fails places = by_test (int_le (pos 0) (value UnsignedLong k) && int_lt (value UnsignedLong k) (pos (bits (width t)))) refl
  where
    same : k % 2 ^ 64 ≡ k
    same = omega arith

    by_test : (b : Bool) → (int_le (pos 0) (value UnsignedLong k) && int_lt (value UnsignedLong k) (pos (bits (width t)))) ≡ b →
        P (if b then Some (unsigned_abs (value UnsignedLong k)) else None)
    by_test false e = fails
    by_test true e =
        let h = and_parts (int_le (pos 0) (value UnsignedLong k)) (int_lt (value UnsignedLong k) (pos (bits (width t)))) e in
        let lt : k % 2 ^ 64 < bits (width t) = ltb-true (k % 2 ^ 64) (bits (width t)) h.1 in
        subst (λ i. P (Some i)) (sym same) (places (subst (λ i. i < bits (width t)) same lt))

-- ---- words

shr_fits : (w : Width) (z : ℤ) (k : ℕ) → FitsSigned w z → FitsSigned w (int_shr z k)
shr_fits w (pos n) k f = record { sfits = omega (arith, f.sfits, shr_le n k) }
shr_fits w (negsuc n) k f = record { sfits = omega (arith, f.sfits, shr_le n k) }

few : (k w : ℕ) → k < w → w ≤ 64 → k % 64 ≡ k
few k w small narrow = omega arith

module _ (widest own : ℕ) (s : Temps) (o : Outer) (d a b : ℕ) (ia : IsOfRegister a) (ib : IsOfRegister b) (x y : Value)
    (ha : s (Temp a) ≡ Plain x) (hb : s (Temp b) ≡ Plain y) where
  -- ---- to the right with the sign

  -- the word that the machine makes
  signed_word : (n k i : ℕ) → contents.word_answer (word_from (int_shr (signed_value w64 n) k)) ≡ contents.word_answer i →
      x ≡ Word n → y ≡ Word k → k < 64 → CodeAnswers s o d (v.Gives (Word i)) (runs widest (on_two code.Sra d a b ∷ []) own s o)
  signed_word n k i is ex ey small =
      two_comes widest own s o d code.Sra a b (Word n) (Word k) (v.Gives (Word i)) (ha ∙ ap Plain ex) (hb ∙ ap Plain ey)
      (ap (λ j. contents.word_answer (word_from (int_shr (signed_value w64 n) j))) (few k 64 small (omega arith)) ∙ is)

  arithmetic_int : (n k : ℕ) → x ≡ Word n → y ≡ Word k → extension Int n ≡ n → k < 2 ^ 64 →
      CodeAnswers s o d (outcome_answer (right_shift_by Int n (shift_count Int UnsignedLong k))) (runs widest (on_two code.Sra d a b ∷ []) own s o)
  arithmetic_int n k ex ey e small =
      by_places Int k (λ c. CodeAnswers s o d (outcome_answer (right_shift_by Int n c)) (runs widest (on_two code.Sra d a b ∷ []) own s o)) small tt
      (λ lt. signed_word n k (words.word Int (int_shr (value Int n) k))
      (ap (λ z. contents.word_answer (word_from (int_shr z k))) (signed_as Int n refl e)
      ∙ ap contents.word_answer (sym (int_word (int_shr (value Int n) k) (shr_fits w32 (value Int n) k (signed_fits Int n))))) ex ey (omega arith))

  arithmetic_long : (n k : ℕ) → x ≡ Word n → y ≡ Word k → extension Long n ≡ n → k < 2 ^ 64 →
      CodeAnswers s o d (outcome_answer (right_shift_by Long n (shift_count Long UnsignedLong k))) (runs widest (on_two code.Sra d a b ∷ []) own s o)
  arithmetic_long n k ex ey e small =
      by_places Long k (λ c. CodeAnswers s o d (outcome_answer (right_shift_by Long n c)) (runs widest (on_two code.Sra d a b ∷ []) own s o)) small tt
      (λ lt. signed_word n k (words.word Long (int_shr (value Long n) k))
      (ap (λ z. contents.word_answer (word_from (int_shr z k))) (signed_as Long n refl e)
      ∙ ap contents.word_answer (sym (long_word (int_shr (value Long n) k) (shr_fits w64 (value Long n) k (signed_fits Long n))))) ex ey lt)

  arithmetic_comes : (ty : VmType) → CodeAnswers s o d (shift_answer ArithmeticRight ty x y) (runs widest (items.shift_items ArithmeticRight ty d a b) own s o)
  arithmetic_comes S32 = by_operands ArithmeticRight Int x y (λ w. CodeAnswers s o d w (runs widest (on_two code.Sra d a b ∷ []) own s o)) tt arithmetic_int
  arithmetic_comes U32 = by_operands ArithmeticRight UnsignedInt x y (λ w. CodeAnswers s o d w (runs widest (on_two code.Sra d a b ∷ []) own s o)) tt arithmetic_int
  arithmetic_comes S64 = by_operands ArithmeticRight Long x y (λ w. CodeAnswers s o d w (runs widest (on_two code.Sra d a b ∷ []) own s o)) tt arithmetic_long
  arithmetic_comes U64 = by_operands ArithmeticRight UnsignedLong x y (λ w. CodeAnswers s o d w (runs widest (on_two code.Sra d a b ∷ []) own s o)) tt arithmetic_long
  arithmetic_comes P64 = tt

  -- ---- to the left

  low_extended : (n k w : ℕ) → k < w → w ≤ 64 → sign_extension w32 (word_at (n * 2 ^ (k % 64)) + 0) ≡ sign_extension w32 (n * 2 ^ k)
  low_extended n k w small narrow =
      ap (λ i. sign_extension w32 (word_at (n * 2 ^ i) + 0)) (few k w small narrow)
      ∙ sign_extended-same w32 (word_at (n * 2 ^ k) + 0) (n * 2 ^ k) (in_low (n * 2 ^ k))
    where
      in_low : (i : ℕ) → (i % 2 ^ 64 + 0) % 2 ^ 32 ≡ i % 2 ^ 32
      in_low i = omega arith

  left_narrow : (t : IntegerType) → bits (width t) ≡ 32 → ((i : ℕ) → extension t i ≡ sign_extension w32 i) → (n k : ℕ) → x ≡ Word n → y ≡ Word k →
      extension t n ≡ n → k < 2 ^ 64 →
      CodeAnswers s o d (outcome_answer (left_shift_by t n (shift_count t UnsignedLong k))) (runs widest (on_two code.Sll 0 a b ∷ extended_long d 0 ∷ []) own s o)
  left_narrow t wide is n k ex ey e small =
      by_places t k (λ c. CodeAnswers s o d (outcome_answer (left_shift_by t n c)) (runs widest (on_two code.Sll 0 a b ∷ extended_long d 0 ∷ []) own s o)) small tt
      (λ lt.
      let h = prepare widest own s o [] (s (Temp 0)) (nothing_yet widest own s o) (on_two code.Sll 0 a b) (word_content (word_at (n * 2 ^ (k % 64)))) (record { turn = refl; call = refl; written = refl })
      (ap (λ c. writes (operate_answer o.memory code.Sll c (s (Temp b))) o) (ha ∙ ap Plain ex) ∙ ap (λ c. writes (operate_answer o.memory code.Sll (word_content n) c) o) (hb ∙ ap Plain ey)) in
      finish widest own s o (on_two code.Sll 0 a b ∷ []) (word_content (word_at (n * 2 ^ (k % 64)))) h (extended_long d 0) d (operate_answer o.memory code.Addl (h.after (Temp 0)) (word_content 0))
      (v.Gives (Word (extension t (n * 2 ^ k)))) (record { turn = refl; call = refl; written = refl }) refl
      (ap (λ c. operate_answer o.memory code.Addl c (word_content 0)) h.holds ∙ ap contents.word_answer (low_extended n k (bits (width t)) lt (omega (arith, wide)) ∙ sym (is (n * 2 ^ k)))))

  left_wide : (t : IntegerType) → bits (width t) ≡ 64 → ((i : ℕ) → extension t i ≡ word_at i) → (n k : ℕ) → x ≡ Word n → y ≡ Word k →
      extension t n ≡ n → k < 2 ^ 64 →
      CodeAnswers s o d (outcome_answer (left_shift_by t n (shift_count t UnsignedLong k))) (runs widest (on_two code.Sll d a b ∷ []) own s o)
  left_wide t wide is n k ex ey e small =
      by_places t k (λ c. CodeAnswers s o d (outcome_answer (left_shift_by t n c)) (runs widest (on_two code.Sll d a b ∷ []) own s o)) small tt
      (λ lt. two_comes widest own s o d code.Sll a b (Word n) (Word k) (v.Gives (Word (extension t (n * 2 ^ k)))) (ha ∙ ap Plain ex) (hb ∙ ap Plain ey)
      (ap (λ i. contents.word_answer (word_at (n * 2 ^ i))) (few k (bits (width t)) lt (omega (arith, wide))) ∙ ap contents.word_answer (sym (is (n * 2 ^ k)))))

  left_comes : (ty : VmType) → CodeAnswers s o d (shift_answer Left ty x y) (runs widest (items.shift_items Left ty d a b) own s o)
  left_comes S32 = by_operands Left Int x y (λ w. CodeAnswers s o d w (runs widest (items.left_items true d a b) own s o)) tt (left_narrow Int refl (λ i. refl))
  left_comes U32 = by_operands Left UnsignedInt x y (λ w. CodeAnswers s o d w (runs widest (items.left_items true d a b) own s o)) tt (left_narrow UnsignedInt refl (λ i. refl))
  left_comes S64 = by_operands Left Long x y (λ w. CodeAnswers s o d w (runs widest (items.left_items false d a b) own s o)) tt (left_wide Long refl (λ i. refl))
  left_comes U64 = by_operands Left UnsignedLong x y (λ w. CodeAnswers s o d w (runs widest (items.left_items false d a b) own s o)) tt (left_wide UnsignedLong refl (λ i. refl))
  left_comes P64 = tt

  -- ---- to the right with zeros

  right_extended : (n k : ℕ) → k < 32 → sign_extension w32 (n % 2 ^ 32 / 2 ^ (k % 64) + 0) ≡ sign_extension w32 (n % 2 ^ 32 / 2 ^ k % 2 ^ 64)
  right_extended n k small =
      ap (λ i. sign_extension w32 (n % 2 ^ 32 / 2 ^ i + 0)) (few k 32 small (omega arith))
      ∙ ap (λ i. sign_extension w32 i) (in_word (n % 2 ^ 32) (n % 2 ^ 32 / 2 ^ k) (omega arith) (shr_le (n % 2 ^ 32) k))
    where
      in_word : (m i : ℕ) → m < 2 ^ 32 → i ≤ m → i + 0 ≡ i % 2 ^ 64
      in_word m i small le = omega arith

  logical_narrow : (n k : ℕ) → x ≡ Word n → y ≡ Word k → k < 2 ^ 64 →
      CodeAnswers s o d (outcome_answer (right_shift_by UnsignedInt n (shift_count UnsignedInt UnsignedLong k))) (runs widest (items.logical_right_items true d a b) own s o)
  logical_narrow n k ex ey small =
      by_places UnsignedInt k (λ c. CodeAnswers s o d (outcome_answer (right_shift_by UnsignedInt n c)) (runs widest (items.logical_right_items true d a b) own s o)) small tt
      (λ lt.
      let f = prepare widest own s o [] (s (Temp 0)) (nothing_yet widest own s o) (items.on_literal code.Zapnot 0 a 15) (word_content (kept_bytes 8 n 15)) (record { turn = refl; call = refl; written = refl })
      (ap (λ c. writes (operate_answer o.memory code.Zapnot c (word_content 15)) o) (ha ∙ ap Plain ex)) in
      let g = prepare widest own s o (items.on_literal code.Zapnot 0 a 15 ∷ []) (word_content (kept_bytes 8 n 15)) f (on_two code.Srl 0 0 b) (word_content (kept_bytes 8 n 15 / 2 ^ (k % 64))) (record { turn = refl; call = refl; written = refl })
      (ap (λ c. writes (operate_answer o.memory code.Srl c (f.after (Temp b))) o) f.holds ∙ ap (λ c. writes (operate_answer o.memory code.Srl (word_content (kept_bytes 8 n 15)) c) o) (f.kept b ib ∙ hb ∙ ap Plain ey)) in
      finish widest own s o (items.on_literal code.Zapnot 0 a 15 ∷ on_two code.Srl 0 0 b ∷ []) (word_content (kept_bytes 8 n 15 / 2 ^ (k % 64))) g (extended_long d 0) d (operate_answer o.memory code.Addl (g.after (Temp 0)) (word_content 0))
      (v.Gives (Word (words.word UnsignedInt (int_shr (value UnsignedInt n) k)))) (record { turn = refl; call = refl; written = refl }) refl
      (ap (λ c. operate_answer o.memory code.Addl c (word_content 0)) g.holds
      ∙ ap (λ i. contents.word_answer (sign_extension w32 (i / 2 ^ (k % 64) + 0))) (kept_bytes-long n)
      ∙ ap contents.word_answer (right_extended n k lt)))

  wide_word : (n k : ℕ) → n < 2 ^ 64 → n / 2 ^ k ≡ n % 2 ^ 64 / 2 ^ k % 2 ^ 64 % 2 ^ 64
  wide_word n k small =
      in_word n (n / 2 ^ k) small (shr_le n k) ∙ ap (λ i. i / 2 ^ k % 2 ^ 64 % 2 ^ 64) (same n small)
    where
      in_word : (m i : ℕ) → m < 2 ^ 64 → i ≤ m → i ≡ i % 2 ^ 64 % 2 ^ 64
      in_word m i small le = omega arith

      same : (n : ℕ) → n < 2 ^ 64 → n ≡ n % 2 ^ 64
      same n small = omega arith

  logical_wide : (n k : ℕ) → x ≡ Word n → y ≡ Word k → n < 2 ^ 64 → k < 2 ^ 64 →
      CodeAnswers s o d (outcome_answer (right_shift_by UnsignedLong n (shift_count UnsignedLong UnsignedLong k))) (runs widest (on_two code.Srl d a b ∷ []) own s o)
  logical_wide n k ex ey nb small =
      by_places UnsignedLong k (λ c. CodeAnswers s o d (outcome_answer (right_shift_by UnsignedLong n c)) (runs widest (on_two code.Srl d a b ∷ []) own s o)) small tt
      (λ lt. two_comes widest own s o d code.Srl a b (Word n) (Word k) (v.Gives (Word (words.word UnsignedLong (int_shr (value UnsignedLong n) k)))) (ha ∙ ap Plain ex) (hb ∙ ap Plain ey)
      (ap (λ i. contents.word_answer (n / 2 ^ i)) (few k 64 lt (omega arith)) ∙ ap contents.word_answer (wide_word n k nb)))

  logical_comes : (ty : VmType) → CodeAnswers s o d (shift_answer LogicalRight ty x y) (runs widest (items.shift_items LogicalRight ty d a b) own s o)
  logical_comes S32 = by_operands LogicalRight Int x y (λ w. CodeAnswers s o d w (runs widest (items.logical_right_items true d a b) own s o)) tt (λ n k ex ey e small. logical_narrow n k ex ey small)
  logical_comes U32 = by_operands LogicalRight UnsignedInt x y (λ w. CodeAnswers s o d w (runs widest (items.logical_right_items true d a b) own s o)) tt (λ n k ex ey e small. logical_narrow n k ex ey small)
  logical_comes S64 =
      by_operands LogicalRight Long x y (λ w. CodeAnswers s o d w (runs widest (items.logical_right_items false d a b) own s o)) tt
      (λ n k ex ey e small. logical_wide n k ex ey (subst (λ i. i < 2 ^ 64) e (extension-below Long n)) small)
  logical_comes U64 =
      by_operands LogicalRight UnsignedLong x y (λ w. CodeAnswers s o d w (runs widest (items.logical_right_items false d a b) own s o)) tt
      (λ n k ex ey e small. logical_wide n k ex ey (subst (λ i. i < 2 ^ 64) e (extension-below UnsignedLong n)) small)
  logical_comes P64 = tt

pub arithmetic_shifts_done : ShiftIsDone ArithmeticRight
arithmetic_shifts_done ty widest own d a b s o x y i j ha hb = arithmetic_comes widest own s o d a b i j x y ha hb ty

pub left_shifts_done : ShiftIsDone Left
left_shifts_done ty widest own d a b s o x y i j ha hb = left_comes widest own s o d a b i j x y ha hb ty

pub logical_shifts_done : ShiftIsDone LogicalRight
logical_shifts_done ty widest own d a b s o x y i j ha hb = logical_comes widest own s o d a b i j x y ha hb ty
