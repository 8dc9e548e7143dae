-- One turn of the loops over the arguments of a call, and their ends.
use Rattle.std.proofs.Common.{◌≡◌, ℕ, ◌+◌, ◌<◌, ◌≤◌, true, false, List, [], ◌∷◌, ◌++◌, take, drop, map, length, get_or, sym, ap, ◌∙◌, append_assoc, arith}
use Rattle.std.specs.Prelude.{◌&&◌}
use Rattle.std.specs.List.{list_all}
use Rattle.std.proofs.lemmas.List.{map-append, take_more, take-append-le, at_drop_more, at_drop_all, take_all}
use Rattle.mem_model.specs.declared.value.Value.{Value}
use Rattle.suifvm_meaning.specs.Behave.{Registers, registers_of}
use Rattle.suifvm_meaning.specs.Operations.{is_set}

-- the front of a stack that grew is what it was
front : (old more stack : List Value) (end : ℕ) → stack ≡ old ++ more → end ≡ length old → take end stack ≡ old
front old more stack end is all =
    ap (take end) is ∙ take-append-le end old more (omega (arith, all)) ∙ take_all end old (omega (arith, all))

pub push_next : (old stack : List Value) (base end i register : ℕ) (registers : List ℕ) (v : Value) → stack ≡ old ++ map (registers_of (drop base old)) (take i registers) → end ≡ length old → i < length registers → register ≡ get_or registers i register → v ≡ registers_of (drop base (take end stack)) register → stack ++ v ∷ [] ≡ old ++ map (registers_of (drop base old)) (take (i + 1) registers)
push_next old stack base end i register registers v is all within read value =
    ap (λ xs. xs ++ v ∷ []) is
    ∙ append_assoc old (map rs (take i registers)) (v ∷ [])
    ∙ ap (λ x. old ++ (map rs (take i registers) ++ x ∷ [])) (value ∙ ap (λ xs. registers_of (drop base xs) register) (front old (map rs (take i registers)) stack end is all))
    ∙ ap (λ xs. old ++ xs) (sym (map-append rs (take i registers) (register ∷ [])))
    ∙ ap (λ xs. old ++ map rs xs) (sym (take_more registers i register within ∙ ap (λ r. take i registers ++ r ∷ []) (sym read)))
  where
    rs : Registers
    rs = registers_of (drop base old)

module _ (f : ℕ → Value) where
  pub set_next : (i register : ℕ) (registers : List ℕ) → i < length registers → register ≡ get_or registers i register → is_set (f register) ≡ true → list_all is_set (map f (drop (i + 1) registers)) ≡ list_all is_set (map f (drop i registers))
  set_next i register registers within read is =
      ap (λ b. b && list_all is_set (map f (drop (i + 1) registers))) (sym (ap (λ r. is_set (f r)) (sym read) ∙ is))
      ∙ sym (at_drop_more (λ xs. list_all is_set (map f xs)) registers i register within)

  pub unset_one : (i register : ℕ) (registers : List ℕ) → i < length registers → register ≡ get_or registers i register → is_set (f register) ≡ false → false ≡ list_all is_set (map f (drop i registers))
  unset_one i register registers within read is =
      ap (λ b. b && list_all is_set (map f (drop (i + 1) registers))) (sym (ap (λ r. is_set (f r)) (sym read) ∙ is))
      ∙ sym (at_drop_more (λ xs. list_all is_set (map f xs)) registers i register within)

  pub set_end : (i : ℕ) (registers : List ℕ) → length registers ≤ i → true ≡ list_all is_set (map f (drop i registers))
  set_end i registers past = sym (at_drop_all (λ xs. list_all is_set (map f xs)) registers i past)

pub push_end : (i : ℕ) (registers : List ℕ) → length registers ≤ i → take i registers ≡ registers
push_end i registers past = take_all i registers past
