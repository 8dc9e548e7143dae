-- Loads and stores of contents, and the bytes at their addresses.
use Rattle.std.proofs.Common.{◌≡◌, ℕ, ◌+◌, ◌/◌, ◌%◌, ◌^◌, Bool, true, false, List, [], ◌∷◌, length, Option, Some, None, refl, sym, ap, ◌∙◌, subst, arith, inl, inr}
use Rattle.std.specs.Prelude.{◌==◌, ℤ, option_and_then}
use Rattle.std.specs.Int.{w32}
use Rattle.std.proofs.lemmas.Bool.{eqb-true}
use Rattle.alpha_isa.specs.Arithmetic.{word_at, word_from, sign_extension}
use Rattle.alpha_isa.proofs.Arithmetic.{sign_extended-low}
use Rattle.mem_model.specs.declared.value.Ptr.{Ptr}
use Rattle.mem_model.specs.declared.value.Value.{Value}
use Rattle.mem_model.specs.declared.value.Value.TheVariants.{Word, Address, Unset}
use Rattle.mem_model.specs.declared.value.Cell.{Cell}
use Rattle.mem_model.specs.declared.value.MemFault.{MemFault}
use Rattle.mem_model.specs.declared.value.MemFault.TheVariants.{NoObject, Outside, Misaligned, ReadOnly}
use Rattle.mem_model.specs.Cells.{bytes_of, parts_of, cells_of, number_of, pointer_of}
use Rattle.mem_model.specs.Memory.{Memory, is_gone, is_outside, is_misaligned, is_read_only, read_fault, write_fault, row_at, put_row, IsWidth}
use Rattle.mem_model.specs.Pointers.{pointer_plus}
use Rattle.mem_model.proofs.Changes.{length-bytes_of, length-row_at}
use Rattle.mem_model.proofs.Faults.{none_first, skips}
use Rattle.mem_model.proofs.RelatedRows.{PointerIs, IsNull, IsParts, pointer_is}
use Rattle.mem_model.proofs.RowValues.{length-parts_of}
use Rattle.temp_ir.specs.declared.operation.LoadOp.{LoadOp}
use Rattle.temp_ir.specs.declared.operation.LoadOp.TheVariants.{Ldbu, Ldwu, Ldl, Ldq}
use Rattle.temp_ir.specs.declared.operation.StoreOp.{StoreOp}
use Rattle.temp_ir.specs.declared.operation.StoreOp.TheVariants.{Stb, Stw, Stl, Stq}
use Rattle.alloc_model.specs.Contents.{Content, Plain, Bundle, word_content, pointer_at, pointer_in, load_width, store_width, number_or, pointer_or_bundle, content_of, extended_content, unless_fault, content_in, loaded_content, when_width, stored_cells, memory_with, stored_memory}
use Rattle.mem_model.specs.Bytes.{AreBytes}
use Rattle.frame_memory.specs.Bytes.{Bytes, bytes_from, put_bytes, low_bytes, number_from}
use Rattle.frame_memory.specs.Relation.{Extents, IsAddressOf, CellsAre, Owners, MemoryIs}
use Rattle.frame_memory.proofs.Numbers.{bytes_come_back, bytes_from-are, low_bytes-are}
use Rattle.frame_memory.proofs.Rows.{cells-length}
use Rattle.frame_memory.proofs.Values.{numbers_are_read, pointers_are_read, values_have_bytes}
use Rattle.frame_memory.proofs.Memories.{rows_are_there, rows_are_put}
use Rattle.frame_memory.proofs.Pointers.{pointers_move}
use Rattle.frame_memory.specs.flat_operations.Contents.{ContentIs}
use Rattle.frame_memory.specs.flat_operations.Laws.{loaded_word, IsLoadOf, IsStoreOf}

-- ---- options

and_then-some : {A B : Type 0} (f : A → Option B) (o : Option A) (b : B) → option_and_then f o ≡ Some b → (a : A) × (o ≡ Some a) × (f a ≡ Some b)
and_then-some f None b e = absurd (cc)
and_then-some f (Some a) b e = (a, refl, e)

unless-some : {A : Type 0} (f : Option MemFault) (x a : A) → unless_fault f x ≡ Some a → (f ≡ None) × (x ≡ a)
unless-some None x a e = (refl, cc)
unless-some (Some fault) x a e = absurd (cc)

pointer-in-some : (o : Option Value) (p : Ptr) → pointer_in o ≡ Some p → o ≡ Some (Address p)
pointer-in-some None p e = absurd (cc)
pointer-in-some (Some (Address q)) p e = let is : q ≡ p = cc in ap (λ r. Some (Address r)) is
pointer-in-some (Some (Word n)) p e = absurd (cc)
pointer-in-some (Some Unset) p e = absurd (cc)

-- ---- widths

pub load-width : (op : LoadOp) → IsWidth (load_width op)
load-width Ldbu = inl refl
load-width Ldwu = inr (inl refl)
load-width Ldl = inr (inr (inl refl))
load-width Ldq = inr (inr (inr refl))

pub store-width : (op : StoreOp) → IsWidth (store_width op)
store-width Stb = inl refl
store-width Stw = inr (inl refl)
store-width Stl = inr (inr (inl refl))
store-width Stq = inr (inr (inr refl))

-- ---- cells that were loaded

-- numbers with the same low bits have the same four low bytes
same-low : (n k : ℕ) → n % 2 ^ 32 ≡ k % 2 ^ 32 → low_bytes 4 n ≡ low_bytes 4 k
unfolding low_bytes
same-low n k e =
    let a : n % 256 ≡ k % 256 = omega arith in
    let b : n / 256 % 256 ≡ k / 256 % 256 = omega arith in
    let c : n / 256 / 256 % 256 ≡ k / 256 / 256 % 256 = omega arith in
    let d : n / 256 / 256 / 256 % 256 ≡ k / 256 / 256 / 256 % 256 = omega arith in
    cc

extension-low : (n : ℕ) → low_bytes 4 (sign_extension w32 n) ≡ low_bytes 4 n
extension-low n = same-low (sign_extension w32 n) n (sign_extended-low w32 n (omega arith))

-- a pointer has eight cells
eight-cells : (cs : List Cell) (v : Value) → PointerIs cs v → length cs ≡ 8
eight-cells cs v (IsNull is word) = ap length is ∙ length-bytes_of 8 0
eight-cells cs v (IsParts p is pointer) = ap length is ∙ length-parts_of p

module _ (xs : Extents) where
  -- a bundle, and its bytes
  bundle-is : (cs : List Cell) (bs : List ℕ) → CellsAre xs cs bs → AreBytes bs → CellsAre xs cs (low_bytes (length cs) (number_from bs))
  bundle-is cs bs h are =
      subst (λ k. CellsAre xs cs (low_bytes k (number_from bs))) (cells-length xs cs bs h) (subst (CellsAre xs cs) (sym (bytes_come_back bs are)) h)

  whole-or-bundle : (cs : List Cell) (bs : List ℕ) → CellsAre xs cs bs → AreBytes bs → (o : Option Value) → pointer_of cs ≡ o → ContentIs xs (pointer_or_bundle o cs) (number_from bs)
  whole-or-bundle cs bs h are None e = bundle-is cs bs h are
  whole-or-bundle cs bs h are (Some v) e = pointers_are_read xs cs bs v h e

  read-as : (cs : List Cell) (bs : List ℕ) → CellsAre xs cs bs → AreBytes bs → (o : Option ℕ) → number_of cs ≡ o → ContentIs xs (number_or o (pointer_or_bundle (pointer_of cs) cs)) (number_from bs)
  read-as cs bs h are None e = whole-or-bundle cs bs h are (pointer_of cs) refl
  read-as cs bs h are (Some n) e = numbers_are_read xs cs bs n h e

  content-read : (cs : List Cell) (bs : List ℕ) → CellsAre xs cs bs → AreBytes bs → ContentIs xs (content_of cs) (number_from bs)
  content-read cs bs h are = read-as cs bs h are (number_of cs) refl

  -- four cells, with the sign above them
  long-bundle : (cs : List Cell) (bs : List ℕ) → CellsAre xs cs bs → AreBytes bs → length cs ≡ 4 → (o : Option Value) → pointer_of cs ≡ o → ContentIs xs (extended_content Ldl (pointer_or_bundle o cs)) (sign_extension w32 (number_from bs))
  long-bundle cs bs h are four None e =
      let n = number_from bs in
      let same : low_bytes (length cs) n ≡ low_bytes (length cs) (sign_extension w32 n) = ap (λ k. low_bytes k n) four ∙ sym (extension-low n) ∙ ap (λ k. low_bytes k (sign_extension w32 n)) (sym four) in
      subst (CellsAre xs cs) same (bundle-is cs bs h are)
  long-bundle cs bs h are four (Some v) e = let eight = eight-cells cs v (pointer_is cs v e) in absurd (omega (arith, four, eight))

  long-as : (cs : List Cell) (bs : List ℕ) → CellsAre xs cs bs → AreBytes bs → length cs ≡ 4 → (o : Option ℕ) → number_of cs ≡ o → ContentIs xs (extended_content Ldl (number_or o (pointer_or_bundle (pointer_of cs) cs))) (sign_extension w32 (number_from bs))
  long-as cs bs h are four None e = long-bundle cs bs h are four (pointer_of cs) refl
  long-as cs bs h are four (Some n) e = ap (sign_extension w32) (numbers_are_read xs cs bs n h e)

  extended-read : (op : LoadOp) (cs : List Cell) (bs : List ℕ) → CellsAre xs cs bs → AreBytes bs → length cs ≡ load_width op → ContentIs xs (extended_content op (content_of cs)) (loaded_word op (number_from bs))
  extended-read Ldbu cs bs h are len = content-read cs bs h are
  extended-read Ldwu cs bs h are len = content-read cs bs h are
  extended-read Ldl cs bs h are len = long-as cs bs h are len (number_of cs) refl
  extended-read Ldq cs bs h are len = content-read cs bs h are

  -- ---- cells that are stored

  word-cells : (width n w : ℕ) → w ≡ n → CellsAre xs (bytes_of width n) (low_bytes width w)
  unfolding cells_of
  word-cells width n w h = values_have_bytes xs width (Word n) w h tt

  whole-cells : (p : Ptr) (width w : ℕ) → IsAddressOf xs p w → width ≡ 8 → CellsAre xs (parts_of p) (low_bytes width w)
  unfolding cells_of
  whole-cells p width w h eight = values_have_bytes xs width (Address p) w h eight

  stored-are : (width : ℕ) (c : Content) (cells : List Cell) (w : ℕ) → stored_cells width c ≡ Some cells → ContentIs xs c w → CellsAre xs cells (low_bytes width w) × (length cells ≡ width)
  stored-are width (Plain (Word n)) cells w e h =
      let is : bytes_of width n ≡ cells = cc in
      (subst (λ l. CellsAre xs l (low_bytes width w)) is (word-cells width n w h), ap length (sym is) ∙ length-bytes_of width n)
  stored-are width (Plain (Address p)) cells w e h = whole (width == 8) refl e
    where
      whole : (b : Bool) → (width == 8) ≡ b → when_width b (parts_of p) ≡ Some cells → CellsAre xs cells (low_bytes width w) × (length cells ≡ width)
      whole true t x =
          let is : parts_of p ≡ cells = cc in
          let eight : width ≡ 8 = eqb-true width 8 t in
          (subst (λ l. CellsAre xs l (low_bytes width w)) is (whole-cells p width w h eight), ap length (sym is) ∙ length-parts_of p ∙ sym eight)
      whole false t x = absurd (cc)
  stored-are width (Plain Unset) cells w e h = absurd (cc)
  stored-are width (Bundle ds) cells w e h = whole (length ds == width) refl e
    where
      whole : (b : Bool) → (length ds == width) ≡ b → when_width b ds ≡ Some cells → CellsAre xs cells (low_bytes width w) × (length cells ≡ width)
      whole true t x =
          let is : ds ≡ cells = cc in
          let len : length ds ≡ width = eqb-true (length ds) width t in
          (subst (λ l. CellsAre xs l (low_bytes width w)) is (subst (λ k. CellsAre xs ds (low_bytes k w)) len h), ap length (sym is) ∙ len)
      whole false t x = absurd (cc)

module _ (xs : Extents) (memory : Memory) (owner : Owners) (m : Bytes) (mem : MemoryIs xs memory owner m) where
  -- a pointer that is moved has the address that is moved
  address-at : (c : Content) (x : ℕ) (plus : ℤ) (p : Ptr) → ContentIs xs c x → pointer_at memory c plus ≡ Some p → IsAddressOf xs p (word_at (x + word_from plus))
  address-at (Plain v) x plus p h e = pointers_move xs memory owner m mem v (Address p) x plus h (pointer-in-some (pointer_plus memory v plus) p e)
  address-at (Bundle cells) x plus p h e = absurd (cc)

  row-length : (p : Ptr) (size : ℕ) → read_fault memory p size size ≡ None → length (row_at memory p size) ≡ size
  row-length p size e =
      let one = none_first (is_gone memory p) NoObject ((is_outside memory p size, Outside) ∷ (is_misaligned p size, Misaligned) ∷ []) e in
      let two = none_first (is_outside memory p size) Outside ((is_misaligned p size, Misaligned) ∷ []) one.1 in
      length-row_at memory p size two.0

  pub loads_correspond : (op : LoadOp) (pointer c : Content) (x : ℕ) (plus : ℤ) → ContentIs xs pointer x → loaded_content memory op pointer plus ≡ Some c → IsLoadOf xs owner m op (word_at (x + word_from plus)) c
  loads_correspond op pointer c x plus h e =
      let p = and_then-some (content_in memory op) (pointer_at memory pointer plus) c e in
      let a = address-at pointer x plus p.0 h p.1 in
      let r = unless-some (read_fault memory p.0 (load_width op) (load_width op)) (extended_content op (content_of (row_at memory p.0 (load_width op)))) c p.2 in
      let row = rows_are_there xs memory owner m mem p.0 (word_at (x + word_from plus)) (load_width op) (load_width op) a (load-width op) r.0 in
      record {
        pointer = p.0;
        range = row.range;
        content = subst (λ d. ContentIs xs d (loaded_word op (number_from (bytes_from m (word_at (x + word_from plus)) (load_width op))))) r.1
            (extended-read xs op (row_at memory p.0 (load_width op)) (bytes_from m (word_at (x + word_from plus)) (load_width op)) row.cells (bytes_from-are m mem.bytes (word_at (x + word_from plus)) (load_width op)) (row-length p.0 (load_width op) r.0));
      }

  -- what may be written may be read
  record MayWrite (p : Ptr) (width : ℕ) : Type 0 where
    live : is_gone memory p ≡ false
    within : is_outside memory p width ≡ false
    readable : read_fault memory p width width ≡ None

  may-write : (p : Ptr) (width : ℕ) → write_fault memory p width width ≡ None → MayWrite p width
  may-write p width e =
      let one = none_first (is_gone memory p) NoObject ((is_outside memory p width, Outside) ∷ (is_misaligned p width, Misaligned) ∷ (is_read_only memory p, ReadOnly) ∷ []) e in
      let two = none_first (is_outside memory p width) Outside ((is_misaligned p width, Misaligned) ∷ (is_read_only memory p, ReadOnly) ∷ []) one.1 in
      let three = none_first (is_misaligned p width) Misaligned ((is_read_only memory p, ReadOnly) ∷ []) two.1 in
      record {
        live = one.0;
        within = two.0;
        readable = skips (is_gone memory p) NoObject ((is_outside memory p width, Outside) ∷ (is_misaligned p width, Misaligned) ∷ []) one.0
            ∙ skips (is_outside memory p width) Outside ((is_misaligned p width, Misaligned) ∷ []) two.0 ∙ skips (is_misaligned p width) Misaligned [] three.0;
      }

  -- the pointer and the cells of a store
  record Parts (width : ℕ) (o : Option Ptr) (cells : Option (List Cell)) (new : Memory) : Type 0 where
    pointer : Ptr
    pointer_is : o ≡ Some pointer
    row : List Cell
    row_is : cells ≡ Some row
    free : write_fault memory pointer width width ≡ None
    new_is : put_row memory pointer row ≡ new

  parts-of : (width : ℕ) (o : Option Ptr) (cells : Option (List Cell)) (new : Memory) → memory_with memory width o cells ≡ Some new → Parts width o cells new
  parts-of width (Some p) (Some row) new e =
      let r = unless-some (write_fault memory p width width) (put_row memory p row) new e in
      record { pointer = p; pointer_is = refl; row = row; row_is = refl; free = r.0; new_is = r.1 }
  parts-of width (Some p) None new e = absurd (cc)
  parts-of width None cells new e = absurd (cc)

  pub stores_correspond : (new : Memory) (op : StoreOp) (value pointer : Content) (w x : ℕ) (plus : ℤ) → ContentIs xs value w → ContentIs xs pointer x → stored_memory memory op value pointer plus ≡ Some new → IsStoreOf xs new owner m op (word_at (x + word_from plus)) w
  stores_correspond new op value pointer w x plus v h e =
      let parts = parts-of (store_width op) (pointer_at memory pointer plus) (stored_cells (store_width op) value) new e in
      let a = address-at pointer x plus parts.pointer h parts.pointer_is in
      let may = may-write parts.pointer (store_width op) parts.free in
      let row = rows_are_there xs memory owner m mem parts.pointer (word_at (x + word_from plus)) (store_width op) (store_width op) a (store-width op) may.readable in
      let cells = stored-are xs (store_width op) value parts.row w parts.row_is v in
      record {
        pointer = parts.pointer;
        range = row.range;
        memory = subst (λ z. MemoryIs xs z owner (put_bytes m (word_at (x + word_from plus)) (low_bytes (store_width op) w))) parts.new_is
            (rows_are_put xs memory owner m mem parts.pointer (word_at (x + word_from plus)) parts.row (low_bytes (store_width op) w) a cells.0 (low_bytes-are (store_width op) w) (record { live = may.live; within = ap (is_outside memory parts.pointer) cells.1 ∙ may.within }));
      }
