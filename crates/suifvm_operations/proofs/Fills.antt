-- An object whose front is filled: a row that is put behind the front makes it longer.
use Rattle.std.proofs.Common.{◌≡◌, ℕ, ◌+◌, ◌-◌, Bool, true, List, [], ◌∷◌, ◌++◌, drop, length, length-append, replicate, pos, refl, sym, ap, ◌∙◌, append_assoc, arith}
use Rattle.std.specs.Prelude.{slice_set}
use Rattle.std.proofs.Math.Seq.{take-append_seam, drop-append-add, get_or-append_seam}
use Rattle.std.proofs.lemmas.List.{drop-replicate, append-nil}
use Rattle.mem_model.specs.declared.value.Cell.{Cell}
use Rattle.mem_model.specs.declared.value.Cell.TheVariants.{Empty}
use Rattle.mem_model.specs.Cells.{with_row}
use Rattle.mem_model.specs.Memory.{Memory, Object, no_object, put_row}
use Rattle.suifvm_operations.specs.Tidy.{MemoryIsTidy}
use Rattle.suifvm_operations.specs.model.Fills.{with_front, Adds}

set_last : (old : Memory) (x y : Object) → slice_set (old ++ x ∷ []) (length old) y ≡ old ++ y ∷ []
set_last [] x y = refl
set_last (o ∷ old) x y = ap (λ rest. o ∷ rest) (set_last old x y)

longer : (size : ℕ) (front row : List Cell) → with_row (front ++ replicate (size - length front) Empty) (length front) row ≡ (front ++ row) ++ replicate (size - length (front ++ row)) Empty
longer size front row =
    ap (λ xs. xs ++ (row ++ drop (length front + length row) (front ++ replicate (size - length front) Empty))) (take-append_seam front (replicate (size - length front) Empty))
    ∙ ap (λ xs. front ++ (row ++ xs)) (drop-append-add front (replicate (size - length front) Empty) (length row) ∙ drop-replicate (length row) (size - length front) Empty ∙ ap (λ j. replicate j Empty) rest)
    ∙ sym (append_assoc front row (replicate (size - length (front ++ row)) Empty))
  where
    rest : size - length front - length row ≡ size - length (front ++ row)
    rest = let len = length-append front row in omega (arith, len)

put_front : (old : Memory) (writable : Bool) (size : ℕ) (front row : List Cell) → put_row (old ++ with_front writable size front ∷ []) (record { object = length old; offset = pos (length front) }) row ≡ old ++ with_front writable size (front ++ row) ∷ []
put_front old writable size front row =
    ap (λ (x : Object). slice_set (old ++ with_front writable size front ∷ []) (length old) (record x { cells = with_row x.cells (length front) row })) (get_or-append_seam old (with_front writable size front) [] no_object)
    ∙ set_last old (with_front writable size front) (record { live = true; writable = writable; cells = with_row (front ++ replicate (size - length front) Empty) (length front) row })
    ∙ ap (λ (cells : List Cell). old ++ record { live = true; writable = writable; cells = cells } ∷ []) (longer size front row)

pub adds_row : (m new : Memory) (object at : ℕ) (row : List Cell) → new ≡ put_row m (record { object = object; offset = pos at }) row → MemoryIsTidy new → Adds m new object at row
adds_row m new object at row put tidy = record {
  fronts = λ before writable size front o a is.
      put
      ∙ ap (λ (x : Memory). put_row x (record { object = object; offset = pos at }) row) is
      ∙ ap (λ i. put_row (before ++ with_front writable size front ∷ []) (record { object = i; offset = pos at }) row) o
      ∙ ap (λ j. put_row (before ++ with_front writable size front ∷ []) (record { object = length before; offset = pos j }) row) a
      ∙ put_front before writable size front row;
  tidy = tidy;
}

pub adds_nothing : (m : Memory) (object at : ℕ) → MemoryIsTidy m → Adds m m object at []
adds_nothing m object at tidy = record {
  fronts = λ before writable size front o a is. is ∙ ap (λ cells. before ++ with_front writable size cells ∷ []) (sym (append-nil front));
  tidy = tidy;
}

-- a row, and another one behind it
pub adds_more : (m mid new : Memory) (object at : ℕ) (row more all : List Cell) → Adds m mid object at row → Adds mid new object (at + length row) more → row ++ more ≡ all → Adds m new object at all
adds_more m mid new object at row more all first second joined = record {
  fronts = λ before writable size front o a is.
      second.fronts before writable size (front ++ row) o (ap (λ n. n + length row) a ∙ sym (length-append front row)) (first.fronts before writable size front o a is)
      ∙ ap (λ cells. before ++ with_front writable size cells ∷ []) (append_assoc front row more ∙ ap (λ xs. front ++ xs) joined);
  tidy = second.tidy;
}
