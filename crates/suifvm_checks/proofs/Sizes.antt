-- Turns of the loops that take sizes from a number.
use Rattle.std.proofs.Common.{◌≡◌, ℕ, suc, ◌+◌, ◌<◌, List, [], ◌∷◌, length, take, get_or, sum_by, refl, sym, ap, ◌∙◌, subst, arith}
use Rattle.std.proofs.lemmas.List.Sums.{sum_by-cons, sum_by_more}
use Rattle.bk_ilist.specs.Listing.{items}
use Rattle.suifvm_ir.specs.declared.insn.VmInsn.{VmInsn}
use Rattle.pass_core.specs.Functions.{count_of}
use Rattle.suifvm_ir.specs.Programs.{VmFunction, weight_of, function_size, program_size}

pub insn_turn : (all : List (ℕ × VmInsn)) (id : ℕ) (y : VmInsn) (rest : List (ℕ × VmInsn)) → all ≡ (id, y) ∷ rest →
    (now middle next left : ℕ) (xs : List VmInsn) → middle + weight_of y ≡ now → next + 1 ≡ middle →
    now + length xs + sum_by weight_of xs ≡ left + length (items all) + sum_by weight_of (items all) →
    next + length xs + sum_by weight_of xs ≡ left + length (items rest) + sum_by weight_of (items rest)
insn_turn all id y rest is now middle next left xs taken one h =
    let h2 = subst (λ l. now + length xs + sum_by weight_of xs ≡ left + length (items l) + sum_by weight_of (items l)) is h in
    omega (arith, h2, taken, one, sum_by-cons weight_of y (items rest))

pub insns_end : (all : List (ℕ × VmInsn)) → all ≡ [] → (now left : ℕ) (xs : List VmInsn) →
    now + length xs + sum_by weight_of xs ≡ left + length (items all) + sum_by weight_of (items all) → now + length xs + sum_by weight_of xs ≡ left
insns_end all is now left xs h =
    let h2 = subst (λ l. now + length xs + sum_by weight_of xs ≡ left + length (items l) + sum_by weight_of (items l)) is h in
    omega (arith, h2)

pub blocks_turn : (i now next left : ℕ) (blocks : List (List VmInsn)) (block d : List VmInsn) → i < length blocks → block ≡ get_or blocks i d →
    next + length block + sum_by weight_of block ≡ now →
    now + count_of (take i blocks) + sum_by (λ b. sum_by weight_of b) (take i blocks) ≡ left →
    next + count_of (take (i + 1) blocks) + sum_by (λ b. sum_by weight_of b) (take (i + 1) blocks) ≡ left
blocks_turn i now next left blocks block d lt at taken h =
    omega (
      arith,
      h,
      taken,
      ap (λ (b : List VmInsn). length b) at,
      ap (λ (b : List VmInsn). sum_by weight_of b) at,
      sum_by_more (λ (b : List VmInsn). length b) blocks i d lt,
      sum_by_more (λ (b : List VmInsn). sum_by weight_of b) blocks i d lt,
    )

pub functions_turn : (i now next left : ℕ) (fs : List VmFunction) (f d : VmFunction) → i < length fs → f ≡ get_or fs i d →
    next + function_size f ≡ now → now + program_size (take i fs) ≡ left → next + program_size (take (i + 1) fs) ≡ left
functions_turn i now next left fs f d lt at taken h = omega (arith, h, taken, ap function_size at, sum_by_more function_size fs i d lt)
