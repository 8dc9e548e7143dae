-- The code of a store leaves the memory that the store leaves.
use Rattle.std.proofs.Common.{◌≡◌, ℕ, List, [], ◌++◌, Bool, true, false, ℤ, pos, Option, Some, None, Ok, refl, sym, ap, ◌∙◌}
use Rattle.std.specs.Prelude.{◌==◌, if◌then◌else◌}
use Rattle.std.specs.Int.{w16}
use Rattle.std.proofs.lemmas.Option.{none-some}
use Rattle.mem_model.specs.declared.value.Ptr.{Ptr}
use Rattle.mem_model.specs.declared.value.Value.{Value}
use Rattle.mem_model.specs.declared.value.Value.TheVariants.{Word, Address, Unset}
use Rattle.mem_model.specs.declared.value.MemFault.{MemFault}
use Rattle.mem_model.specs.declared.value.Cell.{Cell}
use Rattle.mem_model.specs.Cells.{bytes_of, parts_of, cells_of}
use Rattle.mem_model.specs.Memory.{Memory, fault_or, write_fault, put_row, store_at}
use Rattle.mem_model.specs.Pointers.{pointer_plus}
use Rattle.mem_model.specs.World.{Outer}
use Rattle.alpha_isa.specs.Arithmetic.{fits_signed}
use Rattle.suifvm_ir.specs.declared.types.MemoryType.{MemoryType}
use Rattle.suifvm_ir.specs.declared.types.MemoryType.TheVariants.{S8, U8, S16, U16, S32, U32, S64, U64, P64}
use Rattle.suifvm_meaning.specs.Operations.{memory_integer, access_bytes, is_storable, ok_of, store_through}
use Rattle.temp_ir.specs.declared.insn.FirstOperand.TheVariants as source
use Rattle.temp_ir.specs.declared.insn.TempInsn.{TempInsn}
use Rattle.temp_ir.specs.declared.insn.TempInsn.TheVariants.{Store}
use Rattle.alloc_model.specs.Contents.{Content, Plain, pointer_in, pointer_at, store_width, stored_cells, memory_with, unless_fault, when_width}
use Rattle.alloc_model.specs.Stores.{without}
use Rattle.alloc_model.specs.Effect.{Temp, changes, is_emptied}
use Rattle.alloc_model.specs.Temporaries.{Temps}
use Rattle.selection_forms.specs.alpha_forms.Straight.{After, goes_with, runs}
use Rattle.selection_forms.specs.alpha_forms.Registers.{PutsMemory, ComesToMemory}
use Rattle.selection_forms.specs.alpha_forms.Accesses.{far_items, temp_store, near_store, store_by, store_items}
use Rattle.selection_forms.specs.alpha_forms.Laws.{StoresAreDone}
use Rattle.selection_forms.proofs.AlphaForms.Runs.{on_after, runs-append, without_plain}
use Rattle.selection_forms.proofs.AlphaForms.Prepares.{PreparesContent, nothing_yet}
use Rattle.selection_forms.proofs.AlphaForms.Reading.{stays, far_moves}

-- a store of a value that may be stored puts its cells
puts_cells : (m : Memory) (q : Ptr) (width : ℕ) (w : Value) (cells : List Cell) → cells_of width w ≡ cells → (n : Memory) →
    ok_of (store_at m q width w) ≡ Some n → unless_fault (write_fault m q width width) (put_row m q cells) ≡ Some n
unfolding store_at
puts_cells m q width w cells is n = by_fault (write_fault m q width width)
  where
    by_fault : (f : Option MemFault) → ok_of (fault_or f (Ok (put_row m q (cells_of width w)))) ≡ Some n →
        unless_fault f (put_row m q cells) ≡ Some n
    by_fault (Some f) e = absurd (none-some n e)
    by_fault None e = ap (λ cs. Some (put_row m q cs)) (sym is) ∙ e

-- a type stores as many bytes as its operation
widths : (ty : MemoryType) → access_bytes (memory_integer ty) ≡ store_width (temp_store ty)
widths S8 = refl
widths U8 = refl
widths S16 = refl
widths U16 = refl
widths S32 = refl
widths U32 = refl
widths S64 = refl
widths U64 = refl
widths P64 = refl

pointer_width : (ty : MemoryType) (p : Ptr) → is_storable (memory_integer ty) (Address p) ≡ true → store_width (temp_store ty) ≡ 8
pointer_width S8 p e = absurd cc
pointer_width U8 p e = absurd cc
pointer_width S16 p e = absurd cc
pointer_width U16 p e = absurd cc
pointer_width S32 p e = absurd cc
pointer_width U32 p e = absurd cc
pointer_width S64 p e = refl
pointer_width U64 p e = refl
pointer_width P64 p e = refl

stored_with : (m : Memory) (ty : MemoryType) (q : Ptr) (w : Value) (n : Memory) → is_storable (memory_integer ty) w ≡ true →
    ok_of (store_at m q (store_width (temp_store ty)) w) ≡ Some n →
    memory_with m (store_width (temp_store ty)) (Some q) (stored_cells (store_width (temp_store ty)) (Plain w)) ≡ Some n
unfolding cells_of
stored_with m ty q (Word k) n storable e = puts_cells m q (store_width (temp_store ty)) (Word k) (bytes_of (store_width (temp_store ty)) k) refl n e
stored_with m ty q (Address p) n storable e =
    ap (λ b. memory_with m (store_width (temp_store ty)) (Some q) (when_width (b == 8) (parts_of p))) (pointer_width ty p storable)
    ∙ puts_cells m q (store_width (temp_store ty)) (Address p) (parts_of p) refl n e
stored_with m ty q Unset n storable e = absurd cc

module _ (widest own : ℕ) (s : Temps) (o : Outer) (ty : MemoryType) (a : ℕ) (w : Value) (xs : List TempInsn) (c : Content)
    (h : PreparesContent widest own s o xs c) (p : ℕ) (z : ℤ) (q : Ptr) (value : h.after (Temp a) ≡ Plain w)
    (at : pointer_at o.memory (h.after (Temp p)) z ≡ Some q) where
  store : TempInsn
  store = Store (temp_store ty) (source.Temp a) p z

  store_comes : (n : Memory) → is_storable (memory_integer ty) w ≡ true →
      ok_of (store_at o.memory q (store_width (temp_store ty)) w) ≡ Some n →
      PutsMemory s o n (runs widest (xs ++ near_store ty a p z) own s o)
  store_comes n storable e = record {
    after = without (is_emptied (Store (temp_store ty) (source.Temp a) p z)) h.after;
    goes_on =
        runs-append widest xs (near_store ty a p z) own s o
        ∙ ap (λ r. on_after r (λ t u. runs widest (near_store ty a p z) own t u)) h.ran
        ∙ ap (λ m. goes_with (Store (temp_store ty) (source.Temp a) p z) h.after (changes m o) (λ t u. After t u))
        (ap (λ k. memory_with o.memory (store_width (temp_store ty)) k (stored_cells (store_width (temp_store ty)) (h.after (Temp a)))) at
        ∙ ap (λ k. memory_with o.memory (store_width (temp_store ty)) (Some q) (stored_cells (store_width (temp_store ty)) k)) value
        ∙ stored_with o.memory ty q w n storable e);
    kept = λ t i. without_plain (Store (temp_store ty) (source.Temp a) p z) refl h.after (Temp t) ∙ h.kept t i;
  }

  near_stored : ComesToMemory s o (store_through o.memory (memory_integer ty) (Some (Address q)) w) (runs widest (xs ++ near_store ty a p z) own s o)
  near_stored = by_storable (is_storable (memory_integer ty) w) refl
    where
      by_memory : is_storable (memory_integer ty) w ≡ true → (r : Option Memory) → ok_of (store_at o.memory q (access_bytes (memory_integer ty)) w) ≡ r →
          ComesToMemory s o r (runs widest (xs ++ near_store ty a p z) own s o)
      by_memory storable None e = tt
      by_memory storable (Some n) e =
          store_comes n storable (ap (λ k. ok_of (store_at o.memory q k w)) (sym (widths ty)) ∙ e)

      by_storable : (b : Bool) → is_storable (memory_integer ty) w ≡ b →
          ComesToMemory s o (if b then ok_of (store_at o.memory q (access_bytes (memory_integer ty)) w) else None) (runs widest (xs ++ near_store ty a p z) own s o)
      by_storable false e = tt
      by_storable true e = by_memory e (ok_of (store_at o.memory q (access_bytes (memory_integer ty)) w)) refl

pub stores_done : StoresAreDone
stores_done widest own p a ty plus s o v w of value_of f held value = by_pointer (pointer_plus o.memory v plus) refl
  where
    by_fit : (q : Ptr) → pointer_plus o.memory v plus ≡ Some (Address q) → (b : Bool) →
        ComesToMemory s o (store_through o.memory (memory_integer ty) (Some (Address q)) w)
        (runs widest (store_by ty p plus a (if b then Some plus else None)) own s o)
    by_fit q e true =
        near_stored widest own s o ty a w [] (s (Temp 0)) (nothing_yet widest own s o) p plus q value
        (ap (λ c. pointer_at o.memory c plus) held ∙ ap pointer_in e)
    by_fit q e false =
        let h = far_moves widest own s o p v plus q of f held e in
        near_stored widest own s o ty a w (far_items p plus) (Plain (Address q)) h 0 (pos 0) q (h.kept a value_of ∙ value)
        (ap (λ c. pointer_at o.memory c (pos 0)) h.holds ∙ ap pointer_in (stays o.memory v plus q e))

    by_pointer : (r : Option Value) → pointer_plus o.memory v plus ≡ r →
        ComesToMemory s o (store_through o.memory (memory_integer ty) r w) (runs widest (store_items ty p plus a) own s o)
    by_pointer None e = tt
    by_pointer (Some (Word n)) e = tt
    by_pointer (Some Unset) e = tt
    by_pointer (Some (Address q)) e = by_fit q e (fits_signed w16 plus)
