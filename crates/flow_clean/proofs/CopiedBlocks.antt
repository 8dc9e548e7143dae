-- One block more that reads no copies.
use Rattle.std.proofs.Common.{◌≡◌, ℕ, zero, suc, ◌+◌, ◌<◌, ◌≤◌, List, [], ◌∷◌, ◌++◌, length, take, get_or, map, All, sym, ap, ◌∙◌, subst, arith}
use Rattle.std.proofs.lemmas.List.{take_more, map-append}
use Rattle.std.proofs.lemmas.List.Sums.{sum_by-cons}
use Rattle.pass_core.specs.Functions.{UsesRegisters, count_of}
use Rattle.suifvm_ir.specs.declared.insn.VmInsn.{VmInsn}
use Rattle.suifvm_ir.specs.Insns.{reads_of, writes_of}
use Rattle.flow_clean.specs.declared.origins.LastWrite.{LastWrite}
use Rattle.flow_clean.specs.Copies.{no_copies, without_copies}
use Rattle.flow_clean.specs.model.Origins.{AreLast, IsBlockPushed}

count_push : (blocks : List (List VmInsn)) (b : List VmInsn) → count_of (blocks ++ b ∷ []) ≡ count_of blocks + length b
count_push [] b = omega (arith, sum_by-cons (λ (x : List VmInsn). length x) b [])
count_push (a ∷ blocks) b =
    omega (arith, count_push blocks b, sum_by-cons (λ (x : List VmInsn). length x) a (blocks ++ b ∷ []), sum_by-cons (λ (x : List VmInsn). length x) a blocks)

count_below : (i : ℕ) (blocks : List (List VmInsn)) → count_of (take i blocks) ≤ count_of blocks
count_below zero [] = omega arith
count_below zero (b ∷ blocks) = omega arith
count_below (suc i) [] = omega arith
count_below (suc i) (b ∷ blocks) =
    omega (arith, count_below i blocks, sum_by-cons (λ (x : List VmInsn). length x) b blocks, sum_by-cons (λ (x : List VmInsn). length x) b (take i blocks))

module _ (blocks : List (List VmInsn)) (i : ℕ) (b : List VmInsn) (within : i < length blocks) (b_is : b ≡ get_or blocks i b) where
  more : take (i + 1) blocks ≡ take i blocks ++ b ∷ []
  more = take_more blocks i b within ∙ ap (λ x. take i blocks ++ x ∷ []) (sym b_is)

  count_next : count_of (take (i + 1) blocks) ≡ count_of (take i blocks) + length b
  count_next = ap count_of more ∙ count_push (take i blocks) b

  pub few_next : (start : ℕ) → start ≡ 1 + count_of (take i blocks) → count_of blocks < 1073741824 → start + length b < 4294967296
  few_next start start_is few =
      let next = count_next in
      let below = count_below (i + 1) blocks in
      omega (arith, next, below, start_is, few)

  module _ (start next : ℕ) (made made_new : List (List VmInsn)) (writes writes_new : List LastWrite) (p : IsBlockPushed start next b made made_new writes writes_new) where
    pub made_next : made ≡ map (without_copies no_copies) (take i blocks) → made_new ≡ map (without_copies no_copies) (take (i + 1) blocks)
    made_next is =
        p.made_is ∙ ap (λ l. l ++ without_copies no_copies b ∷ []) is ∙ sym (map-append (without_copies no_copies) (take i blocks) (b ∷ []))
        ∙ ap (map (without_copies no_copies)) (sym more)

    pub start_next : start ≡ 1 + count_of (take i blocks) → next ≡ 1 + count_of (take (i + 1) blocks)
    start_next start_is =
        let next_is = p.next_is in
        let count = count_next in
        omega (arith, next_is, count, start_is)

    pub last_next : (registers : ℕ) → length writes ≡ registers → AreLast registers next writes_new
    last_next registers many = subst (λ n. AreLast n next writes_new) many p.last

pub uses_there : (b : List VmInsn) (writes : List LastWrite) (registers : ℕ) → length writes ≡ registers → All (UsesRegisters reads_of writes_of registers) b → All (UsesRegisters reads_of writes_of (length writes)) b
uses_there b writes registers many h = subst (λ n. All (UsesRegisters reads_of writes_of n) b) (sym many) h

pub last_there : (registers time : ℕ) (writes : List LastWrite) → AreLast registers time writes → AreLast (length writes) time writes
last_there registers time writes last = subst (λ n. AreLast n time writes) (sym last.as_many) last
