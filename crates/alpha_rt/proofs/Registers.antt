-- The 32 registers, each by its number, so that code which names its registers computes on them.
use Rattle.std.proofs.Common.{◌≡◌, ℕ, zero, suc, List, [], ◌∷◌, length, refl, ap, arith}
use Rattle.std.specs.Prelude.{slice_index}

pub record RegisterFile : Type 0 where
  pub r0 : ℕ
  pub r1 : ℕ
  pub r2 : ℕ
  pub r3 : ℕ
  pub r4 : ℕ
  pub r5 : ℕ
  pub r6 : ℕ
  pub r7 : ℕ
  pub r8 : ℕ
  pub r9 : ℕ
  pub r10 : ℕ
  pub r11 : ℕ
  pub r12 : ℕ
  pub r13 : ℕ
  pub r14 : ℕ
  pub r15 : ℕ
  pub r16 : ℕ
  pub r17 : ℕ
  pub r18 : ℕ
  pub r19 : ℕ
  pub r20 : ℕ
  pub r21 : ℕ
  pub r22 : ℕ
  pub r23 : ℕ
  pub r24 : ℕ
  pub r25 : ℕ
  pub r26 : ℕ
  pub r27 : ℕ
  pub r28 : ℕ
  pub r29 : ℕ
  pub r30 : ℕ
  pub r31 : ℕ

abbrev pub listed_registers : RegisterFile → List ℕ
listed_registers x = x.r0 ∷ x.r1 ∷ x.r2 ∷ x.r3 ∷ x.r4 ∷ x.r5 ∷ x.r6 ∷ x.r7 ∷ x.r8 ∷ x.r9 ∷ x.r10 ∷ x.r11 ∷ x.r12 ∷ x.r13 ∷ x.r14 ∷ x.r15 ∷ x.r16 ∷ x.r17 ∷ x.r18 ∷ x.r19 ∷ x.r20 ∷ x.r21 ∷ x.r22 ∷ x.r23 ∷ x.r24 ∷ x.r25 ∷ x.r26 ∷ x.r27 ∷ x.r28 ∷ x.r29 ∷ x.r30 ∷ x.r31 ∷ []

-- the list behind its first word, a word of it, and so many of its words from the first on
abbrev rest : List ℕ → List ℕ
rest [] = []
rest (r ∷ rs) = rs

abbrev reading : ℕ → List ℕ → ℕ
reading zero rs = slice_index rs 0
reading (suc k) rs = reading k (rest rs)

abbrev readings : ℕ → List ℕ → List ℕ
readings zero rs = []
readings (suc n) rs = slice_index rs 0 ∷ readings n (rest rs)

all_read : (n : ℕ) (rs : List ℕ) → length rs ≡ n → rs ≡ readings n rs
all_read zero [] e = refl
all_read zero (r ∷ rs) e = absurd (omega arith)
all_read (suc n) [] e = absurd (omega arith)
all_read (suc n) (r ∷ rs) e = ap (λ l. r ∷ l) (all_read n rs (omega arith))

-- a list of 32 words is a register file
pub file_of : (rs : List ℕ) → length rs ≡ 32 → (x : RegisterFile) × (rs ≡ listed_registers x)
file_of rs e = (
  record { r0 = reading 0 rs; r1 = reading 1 rs; r2 = reading 2 rs; r3 = reading 3 rs; r4 = reading 4 rs; r5 = reading 5 rs; r6 = reading 6 rs; r7 = reading 7 rs; r8 = reading 8 rs; r9 = reading 9 rs; r10 = reading 10 rs; r11 = reading 11 rs; r12 = reading 12 rs; r13 = reading 13 rs; r14 = reading 14 rs; r15 = reading 15 rs; r16 = reading 16 rs; r17 = reading 17 rs; r18 = reading 18 rs; r19 = reading 19 rs; r20 = reading 20 rs; r21 = reading 21 rs; r22 = reading 22 rs; r23 = reading 23 rs; r24 = reading 24 rs; r25 = reading 25 rs; r26 = reading 26 rs; r27 = reading 27 rs; r28 = reading 28 rs; r29 = reading 29 rs; r30 = reading 30 rs; r31 = reading 31 rs },
  all_read 32 rs e,
)
