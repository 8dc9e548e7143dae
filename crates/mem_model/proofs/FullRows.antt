-- Rows that stand for a value have no empty cell.
use Rattle.std.proofs.Common.{◌≡◌, ℕ, Bool, true, false, List, [], ◌∷◌, Option, Some, None, Ok, Err, refl, ap, ◌∙◌}
use Rattle.std.specs.Prelude.{Result, ◌+◌, ◌*◌, option_map, if◌then◌else◌}
use Rattle.std.specs.List.{list_any}
use Rattle.mem_model.specs.declared.value.Ptr.{Ptr}
use Rattle.mem_model.specs.declared.value.Value.{Value}
use Rattle.mem_model.specs.declared.value.Value.TheVariants.{Word}
use Rattle.mem_model.specs.declared.value.Cell.{Cell}
use Rattle.mem_model.specs.declared.value.Cell.TheVariants.{Empty, Byte, Part}
use Rattle.mem_model.specs.declared.value.MemFault.{MemFault}
use Rattle.mem_model.specs.declared.value.MemFault.TheVariants.{Never, PartPointer}
use Rattle.mem_model.specs.Cells.{parts_of, number_of, value_of, is_empty, value_or_fault}
use Rattle.mem_model.proofs.LoadsBack.{bytes-full}
use Rattle.mem_model.proofs.RelatedRows.{PointerIs, IsNull, IsParts, pointer_is}

number-full : (cs : List Cell) (n : ℕ) → number_of cs ≡ Some n → list_any is_empty cs ≡ false
unfolding number_of
number-full [] n e = refl
number-full (Empty ∷ cs) n e = absurd (cc)
number-full (Part p k ∷ cs) n e = absurd (cc)
number-full (Byte b ∷ cs) n e = by_rest (number_of cs) (number-full cs) refl e
  where
    by_rest : (o : Option ℕ) → ((m : ℕ) → number_of cs ≡ Some m → list_any is_empty cs ≡ false) → number_of cs ≡ o → option_map (λ n. b + 256 * n) o ≡ Some n → list_any is_empty cs ≡ false
    by_rest None f h x = absurd (cc)
    by_rest (Some m) f h x = f m h

parts-full : (p : Ptr) → list_any is_empty (parts_of p) ≡ false
unfolding parts_of
parts-full p = refl

pointer-full : (cs : List Cell) (v : Value) → PointerIs cs v → list_any is_empty cs ≡ false
pointer-full cs v (IsNull is word) = ap (list_any is_empty) is ∙ bytes-full 8 0
pointer-full cs v (IsParts p is pointer) = ap (list_any is_empty) is ∙ parts-full p

word_is : (o : Option ℕ) (v : Value) → option_map Word o ≡ Some v → (n : ℕ) × (o ≡ Some n)
word_is None v e = absurd (cc)
word_is (Some n) v e = (n, refl)

value-full : (pointer : Bool) (cs : List Cell) (v : Value) → value_of pointer cs ≡ Some v → list_any is_empty cs ≡ false
value-full false cs v e = let n = word_is (number_of cs) v e in number-full cs n.0 n.1
value-full true cs v e = pointer-full cs v (pointer_is cs v e)

-- what a load answers, by the value
pub value_or_fault-some : (pointer : Bool) (cs : List Cell) (v : Value) → value_of pointer cs ≡ Some v → value_or_fault pointer cs ≡ Ok v
unfolding value_or_fault
value_or_fault-some pointer cs v e = rw (value-full pointer cs v e, e) refl

abbrev value_of_test : Bool → Result Value MemFault
value_of_test b = if b then Err Never else Err PartPointer

choice : (b : Bool) → value_of_test b ≡ Err (if b then Never else PartPointer)
choice true = refl
choice false = refl

pub value_or_fault-none : (pointer : Bool) (cs : List Cell) → value_of pointer cs ≡ None → value_or_fault pointer cs ≡ Err (if list_any is_empty cs then Never else PartPointer)
unfolding value_or_fault
value_or_fault-none pointer cs e = rw e (choice (list_any is_empty cs))
