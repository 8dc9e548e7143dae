-- How many temporaries an instruction reads and writes, by what stands at each place.
use Rattle.std.proofs.Common.{◌≡◌, ℕ, zero, suc, ◌+◌, ◌≤◌, List, [], ◌∷◌, ◌++◌, Some, None, refl, sym, ap, ◌∙◌, length, append_assoc, append-nil, arith}
use Rattle.std.specs.Prelude.{slice_get}
use Rattle.std.specs.List.{range_with_len}
use Rattle.std.proofs.lemmas.Option.{none-some, same_Some}
use Rattle.temp_ir.specs.declared.insn.TempInsn.{TempInsn}
use Rattle.temp_ir.specs.Insns.{reads_of, writes_of}
use Rattle.alloc_model.specs.declared.allocation.Transfer.{Transfer}
use Rattle.alloc_model.specs.declared.allocation.Transfer.TheVariants.{Store, Load}
use Rattle.alloc_plain_lists.specs.Plain.{loads, stores}
use Rattle.alloc_plain_lists.proofs.Registers.{few}

pub nothing : (xs : List ℕ) → None ≡ slice_get xs 0 → xs ≡ []
nothing [] is = refl
nothing (x ∷ xs) is = absurd (none-some x is)

pub only_one : (xs : List ℕ) (a : ℕ) → Some a ≡ slice_get xs 0 → None ≡ slice_get xs 1 → xs ≡ a ∷ []
only_one [] a first second = absurd (none-some a (sym first))
only_one (x ∷ []) a first second = ap (λ y. y ∷ []) (sym (same_Some a x first))
only_one (x ∷ y ∷ xs) a first second = absurd (none-some y second)

pub only_two : (xs : List ℕ) (a b : ℕ) → length xs ≤ 2 → Some a ≡ slice_get xs 0 → Some b ≡ slice_get xs 1 → xs ≡ a ∷ b ∷ []
only_two [] a b most first second = absurd (none-some a (sym first))
only_two (x ∷ []) a b most first second = absurd (none-some b (sym second))
only_two (x ∷ y ∷ []) a b most first second =
    let e = same_Some a x first in
    let f = same_Some b y second in
    cc
only_two (x ∷ y ∷ z ∷ xs) a b most first second = absurd (omega (arith, most))

pub single : (xs : List ℕ) (a : ℕ) → length xs ≤ 1 → Some a ≡ slice_get xs 0 → xs ≡ a ∷ []
single [] a most first = absurd (none-some a (sym first))
single (x ∷ []) a most first = ap (λ y. y ∷ []) (sym (same_Some a x first))
single (x ∷ y ∷ xs) a most first = absurd (omega (arith, most))

pub none_read : (x : TempInsn) → None ≡ slice_get (reads_of x) 0 → 0 ≡ length (reads_of x)
none_read x first = sym (ap length (nothing (reads_of x) first))

pub one_read : (x : TempInsn) (a : ℕ) → Some a ≡ slice_get (reads_of x) 0 → None ≡ slice_get (reads_of x) 1 → 1 ≡ length (reads_of x)
one_read x a first second = sym (ap length (only_one (reads_of x) a first second))

pub two_read : (x : TempInsn) (a b : ℕ) → Some a ≡ slice_get (reads_of x) 0 → Some b ≡ slice_get (reads_of x) 1 → 2 ≡ length (reads_of x)
two_read x a b first second = sym (ap length (only_two (reads_of x) a b (few x).0 first second))

pub none_written : (x : TempInsn) → None ≡ slice_get (writes_of x) 0 → 0 ≡ length (writes_of x)
none_written x first = sym (ap length (nothing (writes_of x) first))

pub one_written : (x : TempInsn) (a : ℕ) → Some a ≡ slice_get (writes_of x) 0 → 1 ≡ length (writes_of x)
one_written x a first = sym (ap length (single (writes_of x) a (few x).1 first))

pub few_registers : (x : TempInsn) → length (reads_of x) + length (writes_of x) ≤ 3
few_registers x = let most = few x in let reads = most.0 in let writes = most.1 in omega (arith, reads, writes)

range_push : (a n : ℕ) → range_with_len a (n + 1) ≡ range_with_len a n ++ (n + a) ∷ []
range_push a zero = ap (λ k. k ∷ []) (let start : a ≡ 0 + a = omega arith in start)
range_push a (suc n) =
    let next : suc n + 1 ≡ suc (n + 1) = omega arith in
    let last : n + (a + 1) ≡ suc n + a = omega arith in
    ap (range_with_len a) next ∙ ap (λ ns. a ∷ ns) (range_push (a + 1) n) ∙ ap (λ k. a ∷ (range_with_len (a + 1) n ++ k ∷ [])) last

pub registers_next : (k : ℕ) → range_with_len 1 k ++ (k + 1) ∷ [] ≡ range_with_len 1 (k + 1)
registers_next k = sym (range_push 1 k)

pub no_load : (out : List Transfer) (x : TempInsn) → None ≡ slice_get (reads_of x) 0 → out ≡ out ++ loads (reads_of x) 1
no_load out x first = sym (append-nil out) ∙ sym (ap (λ ts. out ++ loads ts 1) (nothing (reads_of x) first))

pub one_load : (out : List Transfer) (x : TempInsn) (a : ℕ) → Some a ≡ slice_get (reads_of x) 0 → None ≡ slice_get (reads_of x) 1 → out ++ Load a 1 ∷ [] ≡ out ++ loads (reads_of x) 1
one_load out x a first second = sym (ap (λ ts. out ++ loads ts 1) (only_one (reads_of x) a first second))

pub two_loads : (out : List Transfer) (x : TempInsn) (a b : ℕ) → Some a ≡ slice_get (reads_of x) 0 → Some b ≡ slice_get (reads_of x) 1 → (out ++ Load a 1 ∷ []) ++ Load b 2 ∷ [] ≡ out ++ loads (reads_of x) 1
two_loads out x a b first second =
    append_assoc out (Load a 1 ∷ []) (Load b 2 ∷ []) ∙ sym (ap (λ ts. out ++ loads ts 1) (only_two (reads_of x) a b (few x).0 first second))

pub nothing_stored : (out : List Transfer) → out ≡ out ++ stores [] 1
nothing_stored out = sym (append-nil out)

pub no_store : (out : List Transfer) (x : TempInsn) (r : ℕ) → None ≡ slice_get (writes_of x) 0 → out ≡ out ++ stores (writes_of x) r
no_store out x r first = sym (append-nil out) ∙ sym (ap (λ ts. out ++ stores ts r) (nothing (writes_of x) first))

pub one_store : (out : List Transfer) (x : TempInsn) (r a : ℕ) → Some a ≡ slice_get (writes_of x) 0 → out ++ Store a r ∷ [] ≡ out ++ stores (writes_of x) r
one_store out x r a first = sym (ap (λ ts. out ++ stores ts r) (single (writes_of x) a (few x).1 first))
