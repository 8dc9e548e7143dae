-- What rows of cells stand for: a load that answers a value reads that value as a content.
use Rattle.std.proofs.Common.{◌≡◌, ℕ, zero, suc, ◌+◌, ◌*◌, ◌^◌, ◌<◌, List, [], ◌∷◌, take, drop, Bool, true, false, Option, Some, None, Ok, Err, refl, sym, ap, ◌∙◌, arith}
use Rattle.std.specs.Prelude.{if◌then◌else◌, option_map, option_and_then, ok_or}
use Rattle.std.specs.List.{list_any}
use Rattle.std.proofs.Math.Nat.{pow-suc}
use Rattle.std.proofs.lemmas.Option.{none-some, same_Some}
use Rattle.mem_model.specs.declared.value.Ptr.{Ptr}
use Rattle.mem_model.specs.declared.value.Value.{Value}
use Rattle.mem_model.specs.declared.value.Value.TheVariants.{Word, Address}
use Rattle.mem_model.specs.declared.value.Cell.{Cell}
use Rattle.mem_model.specs.declared.value.Cell.TheVariants.{Empty, Byte, Part}
use Rattle.mem_model.specs.declared.value.MemFault.{MemFault}
use Rattle.mem_model.specs.declared.value.MemFault.TheVariants.{Never, PartPointer}
use Rattle.mem_model.specs.Cells.{bytes_of, parts_of, number_of, pointer_of, first_pointer, cells_eq, is_empty, value_of, value_or_fault}
use Rattle.mem_model.specs.Memory.{Memory, read_fault, fault_or, row_at, load_at, object_at, place_of}
use Rattle.mem_model.proofs.RowValues.{cells_eq-true, cell_eq-true, pointer_of-null}
use Rattle.temp_ir.specs.declared.operation.LoadOp.{LoadOp}
use Rattle.alloc_model.specs.Contents.{Plain, word_content, content_of, number_or, pointer_or_bundle, load_width, extended_content, content_in, unless_fault}
use Rattle.selection_forms.specs.alpha_forms.Registers.{AreCells, MemoryHasBytes}

-- ---- values

ok_some : (a : Option Value) (v : Value) (f : MemFault) → ok_or a f ≡ Ok v → a ≡ Some v
ok_some (Some w) v f e = let same : w ≡ v = cc in ap Some same
ok_some None v f e = absurd cc

number_content : (cells : List Cell) (v : Value) → option_map Word (number_of cells) ≡ Some v → content_of cells ≡ Plain v
number_content cells v = by_number (number_of cells)
  where
    by_number : (n : Option ℕ) → option_map Word n ≡ Some v → number_or n (pointer_or_bundle (pointer_of cells) cells) ≡ Plain v
    by_number (Some n) e = ap Plain (same_Some (Word n) v e)
    by_number None e = absurd (none-some v e)

null_content : content_of (bytes_of 8 0) ≡ word_content 0
unfolding number_of bytes_of pointer_of
null_content = refl

part_number : (p : Ptr) → number_of (parts_of p) ≡ None
unfolding number_of parts_of
part_number p = refl

opened : (cells : List Cell) → cells_eq cells (bytes_of 8 0) ≡ false →
    pointer_of cells ≡ option_and_then (λ p. if cells_eq cells (parts_of p) then Some (Address p) else None) (first_pointer cells)
unfolding pointer_of
opened cells e =
    ap (λ b. if b then Some (Word 0) else option_and_then (λ p. if cells_eq cells (parts_of p) then Some (Address p) else None) (first_pointer cells)) e

pointer_content : (cells : List Cell) (v : Value) → pointer_of cells ≡ Some v → content_of cells ≡ Plain v
pointer_content cells v = by_null (cells_eq cells (bytes_of 8 0)) refl
  where
    whole : (p : Ptr) → cells ≡ parts_of p → pointer_of cells ≡ Some v → content_of cells ≡ Plain v
    whole p same e =
        ap (λ n. number_or n (pointer_or_bundle (pointer_of cells) cells)) (ap number_of same ∙ part_number p)
        ∙ ap (λ w. pointer_or_bundle w cells) e

    by_whole : (p : Ptr) (b : Bool) → cells_eq cells (parts_of p) ≡ b → pointer_of cells ≡ Some v →
        (if b then Some (Address p) else None) ≡ Some v → content_of cells ≡ Plain v
    by_whole p true same e f = whole p (cells_eq-true cell_eq-true cells (parts_of p) same) e
    by_whole p false same e f = absurd (none-some v f)

    by_part : (q : Option Ptr) → pointer_of cells ≡ Some v →
        option_and_then (λ p. if cells_eq cells (parts_of p) then Some (Address p) else None) q ≡ Some v → content_of cells ≡ Plain v
    by_part (Some p) e f = by_whole p (cells_eq cells (parts_of p)) refl e f
    by_part None e f = absurd (none-some v f)

    by_null : (b : Bool) → cells_eq cells (bytes_of 8 0) ≡ b → pointer_of cells ≡ Some v → content_of cells ≡ Plain v
    by_null true null e =
        ap content_of (cells_eq-true cell_eq-true cells (bytes_of 8 0) null) ∙ null_content
        ∙ ap Plain (same_Some (Word 0) v (sym (pointer_of-null cells null) ∙ e))
    by_null false other e = by_part (first_pointer cells) e (sym (opened cells other) ∙ e)

value_content : (pointer : Bool) (cells : List Cell) (v : Value) → value_of pointer cells ≡ Some v → content_of cells ≡ Plain v
value_content false cells v e = number_content cells v e
value_content true cells v e = pointer_content cells v e

pub read_content : (pointer : Bool) (cells : List Cell) (v : Value) → value_or_fault pointer cells ≡ Ok v → content_of cells ≡ Plain v
unfolding value_or_fault
read_content pointer cells v = by_empty (list_any is_empty cells)
  where
    by_empty : (b : Bool) → (if b then Err Never else ok_or (value_of pointer cells) PartPointer) ≡ Ok v → content_of cells ≡ Plain v
    by_empty true e = absurd cc
    by_empty false e = value_content pointer cells v (ok_some (value_of pointer cells) v PartPointer e)

-- ---- loads

pub loaded_row : (m : Memory) (p : Ptr) (op : LoadOp) (pointer : Bool) (v : Value) → load_at m p (load_width op) pointer ≡ Ok v →
    content_in m op p ≡ Some (extended_content op (Plain v))
unfolding load_at
loaded_row m p op pointer v = by_fault (read_fault m p (load_width op) (load_width op))
  where
    by_fault : (f : Option MemFault) → fault_or f (value_or_fault pointer (row_at m p (load_width op))) ≡ Ok v →
        unless_fault f (extended_content op (content_of (row_at m p (load_width op)))) ≡ Some (extended_content op (Plain v))
    by_fault (Some f) e = absurd cc
    by_fault None e = ap (λ c. Some (extended_content op c)) (read_content pointer (row_at m p (load_width op)) v e)

-- ---- numbers of bytes that are below 256

cells_drop : (k : ℕ) (cells : List Cell) → AreCells cells → AreCells (drop k cells)
cells_drop zero cells h = h
cells_drop (suc k) [] h = h
cells_drop (suc k) (c ∷ cells) h = cells_drop k cells h.1

room : (w : ℕ) → 0 < 256 ^ w
room zero = omega arith
room (suc w) = omega (arith, room w, pow-suc 256 w)

number_small : (w : ℕ) (cells : List Cell) (n : ℕ) → AreCells cells → number_of (take w cells) ≡ Some n → n < 256 ^ w
unfolding number_of
number_small zero cells n h e = let z : 0 ≡ n = same_Some 0 n e in omega (arith, z)
number_small (suc w) [] n h e = let z : 0 ≡ n = same_Some 0 n e in omega (arith, z, room (suc w))
number_small (suc w) (Empty ∷ cells) n h e = absurd (none-some n e)
number_small (suc w) (Part p k ∷ cells) n h e = absurd (none-some n e)
number_small (suc w) (Byte b ∷ cells) n h e = by_rest (λ k f. number_small w cells k h.1 f) (number_of (take w cells)) refl e
  where
    by_rest : ((k : ℕ) → number_of (take w cells) ≡ Some k → k < 256 ^ w) → (r : Option ℕ) → number_of (take w cells) ≡ r →
        option_map (λ k. b + 256 * k) r ≡ Some n → n < 256 ^ suc w
    by_rest rest None f g = absurd (none-some n g)
    by_rest rest (Some k) f g =
        let small : k < 256 ^ w = rest k f in
        let is : b + 256 * k ≡ n = same_Some (b + 256 * k) n g in
        let byte : b < 256 = h.0 in
        omega (arith, small, is, byte, pow-suc 256 w)

row_small : (m : Memory) (p : Ptr) (w n : ℕ) → MemoryHasBytes m → number_of (row_at m p w) ≡ Some n → n < 256 ^ w
row_small m p w n h e =
    number_small w (drop (place_of p.offset) (object_at m p.object).cells) n (cells_drop (place_of p.offset) (object_at m p.object).cells (h p.object)) e

word_number : (cells : List Cell) (n : ℕ) → option_map Word (number_of cells) ≡ Some (Word n) → number_of cells ≡ Some n
word_number cells n = by_number (number_of cells)
  where
    word_same : (k n : ℕ) → Word k ≡ Word n → k ≡ n
    word_same k n e = cc

    by_number : (r : Option ℕ) → option_map Word r ≡ Some (Word n) → r ≡ Some n
    by_number (Some k) e = ap Some (word_same k n (same_Some (Word k) (Word n) e))
    by_number None e = absurd (none-some (Word n) e)

pub loaded_small : (m : Memory) (p : Ptr) (w n : ℕ) → MemoryHasBytes m → load_at m p w false ≡ Ok (Word n) → n < 256 ^ w
unfolding load_at value_or_fault
loaded_small m p w n h = by_fault (read_fault m p w w)
  where
    by_empty : (b : Bool) → (if b then Err Never else ok_or (value_of false (row_at m p w)) PartPointer) ≡ Ok (Word n) → n < 256 ^ w
    by_empty true e = absurd cc
    by_empty false e = row_small m p w n h (word_number (row_at m p w) n (ok_some (value_of false (row_at m p w)) (Word n) PartPointer e))

    by_fault : (f : Option MemFault) → fault_or f (value_or_fault false (row_at m p w)) ≡ Ok (Word n) → n < 256 ^ w
    by_fault (Some f) e = absurd cc
    by_fault None e = by_empty (list_any is_empty (row_at m p w)) e

-- a number alone is loaded where no pointer is asked for
pub number_loaded : (m : Memory) (p : Ptr) (w : ℕ) (v : Value) → load_at m p w false ≡ Ok v → (n : ℕ) × (v ≡ Word n)
unfolding load_at value_or_fault
number_loaded m p w v = by_fault (read_fault m p w w)
  where
    by_number : (r : Option ℕ) → option_map Word r ≡ Some v → (n : ℕ) × (v ≡ Word n)
    by_number (Some k) e = (k, sym (same_Some (Word k) v e))
    by_number None e = absurd (none-some v e)

    by_empty : (b : Bool) → (if b then Err Never else ok_or (value_of false (row_at m p w)) PartPointer) ≡ Ok v → (n : ℕ) × (v ≡ Word n)
    by_empty true e = absurd cc
    by_empty false e = by_number (number_of (row_at m p w)) (ok_some (value_of false (row_at m p w)) v PartPointer e)

    by_fault : (f : Option MemFault) → fault_or f (value_or_fault false (row_at m p w)) ≡ Ok v → (n : ℕ) × (v ≡ Word n)
    by_fault (Some f) e = absurd cc
    by_fault None e = by_empty (list_any is_empty (row_at m p w)) e
