-- The code of a load does what the load answers.
use Rattle.std.proofs.Common.{◌≡◌, ℕ, ◌%◌, ◌^◌, ◌<◌, List, [], ◌∷◌, ◌++◌, Bool, true, false, ℤ, pos, ◌+ℤ◌, Option, Some, None, Result, Ok, Err, refl, sym, ap, ◌∙◌, subst, arith}
use Rattle.std.specs.Prelude.{◌&&◌, if◌then◌else◌, option_map, option_and_then}
use Rattle.std.specs.Int.{w16, w64}
use Rattle.std.specs.Int.RustNames.{FitsSigned}
use Rattle.std.proofs.lemmas.Option.{none-some}
use Rattle.std.proofs.lemmas.List.{append_assoc}
use Rattle.std.proofs.Math.IntN.{+ℤ_idr}
use Rattle.mem_model.specs.declared.value.Ptr.{Ptr}
use Rattle.mem_model.specs.declared.value.Value.{Value}
use Rattle.mem_model.specs.declared.value.Value.TheVariants.{Word, Address, Unset}
use Rattle.mem_model.specs.declared.value.MemFault.{MemFault}
use Rattle.mem_model.specs.Memory.{Memory, load_at}
use Rattle.mem_model.specs.Pointers.{ptr_plus, is_live, is_offset, size_at, pointer_plus}
use Rattle.mem_model.specs.World.{Outer}
use Rattle.mem_model.proofs.Pointers.{when-some, when-true}
use Rattle.alpha_isa.specs.Arithmetic.{fits_signed, word_from}
use Rattle.alpha_isa.proofs.Arithmetic.{signed-word_from}
use Rattle.bk_arithmetic.specs.declared.integer_type.IntegerType.{IntegerType}
use Rattle.bk_arithmetic.specs.declared.integer_type.IntegerType.TheVariants.{Char, UnsignedChar, Short, UnsignedShort, Int, UnsignedInt, Long, UnsignedLong}
use Rattle.bk_arithmetic.specs.Words.{extension}
use Rattle.suifvm_ir.specs.declared.types.MemoryType.{MemoryType}
use Rattle.suifvm_ir.specs.declared.types.MemoryType.TheVariants.{S8, U8, S16, U16, S32, U32, S64, U64, P64}
use Rattle.suifvm_meaning.specs.declared.answer.Answer.TheVariants as v
use Rattle.suifvm_meaning.specs.Operations.{memory_integer, access_bytes, is_pointer_access, extended_value, load_answer, load_through}
use Rattle.temp_ir.specs.declared.operation.LoadOp.{LoadOp}
use Rattle.temp_ir.specs.declared.operation.LoadOp.TheVariants.{Ldbu, Ldwu, Ldl, Ldq}
use Rattle.temp_ir.specs.declared.operation.ExtendOp.{ExtendOp}
use Rattle.temp_ir.specs.declared.operation.ExtendOp.TheVariants.{Sextb, Sextw}
use Rattle.temp_ir.specs.declared.operation.Operation.TheVariants.{Addq}
use Rattle.temp_ir.specs.declared.insn.FirstOperand.TheVariants as source
use Rattle.temp_ir.specs.declared.insn.SecondOperand.TheVariants as operand
use Rattle.temp_ir.specs.declared.insn.TempInsn.{TempInsn}
use Rattle.temp_ir.specs.declared.insn.TempInsn.TheVariants.{Load, Operate, Extend}
use Rattle.alloc_model.specs.Contents.{Content, Plain, word_content, Gives, content_answer, operate_answer, extend_answer, pointer_in, pointer_at, load_width, extended_content, content_in, loaded_content}
use Rattle.alloc_model.specs.Effect.{Temp, writes}
use Rattle.alloc_model.specs.Temporaries.{Temps}
use Rattle.selection_forms.specs.alpha_forms.Straight.{runs}
use Rattle.selection_forms.specs.alpha_forms.Constants.{constant_items}
use Rattle.selection_forms.specs.alpha_forms.Registers.{IsOfRegister, MemoryHasBytes, CodeAnswers}
use Rattle.selection_forms.specs.alpha_forms.Accesses.{far_items, plain_load, extended_load, near_load, load_by, load_items}
use Rattle.selection_forms.specs.alpha_forms.Laws.{LoadsAreDone}
use Rattle.selection_forms.proofs.AlphaForms.Making.{constants_made}
use Rattle.selection_forms.proofs.AlphaForms.Prepares.{Matches, PreparesContent, nothing_yet, from_put, prepare, finish}
use Rattle.selection_forms.proofs.AlphaForms.Rows.{loaded_row, loaded_small, number_loaded}

-- ---- pointers

-- a pointer that was moved stays where it is
pub stays : (m : Memory) (v : Value) (plus : ℤ) (q : Ptr) → pointer_plus m v plus ≡ Some (Address q) → pointer_plus m (Address q) (pos 0) ≡ Some (Address q)
stays m (Word n) plus q e = absurd (none-some (Address q) e)
stays m Unset plus q e = absurd (none-some (Address q) e)
stays m (Address a) plus q e =
    let h = when-some (is_live m a && is_offset (a.offset +ℤ plus) (size_at m a)) (Address (ptr_plus a plus)) (Address q) e in
    subst (λ r. pointer_plus m r (pos 0) ≡ Some r) h.1
    (when-true (is_live m a && is_offset ((a.offset +ℤ plus) +ℤ pos 0) (size_at m a)) (Address (ptr_plus (ptr_plus a plus) (pos 0))) (Address (ptr_plus a plus))
    (ap (λ z. is_live m a && is_offset z (size_at m a)) (+ℤ_idr (a.offset +ℤ plus)) ∙ h.0)
    (ap (λ z. Address (record { object = a.object; offset = z })) (+ℤ_idr (a.offset +ℤ plus))))

word_from-below : (z : ℤ) → FitsSigned w64 z → word_from z < 2 ^ 64
word_from-below (ℤ.pos n) f = omega (arith, f.sfits)
word_from-below (ℤ.negsuc n) f = omega arith

module _ (widest own : ℕ) (s : Temps) (o : Outer) where
  -- the sum of a pointer and a number
  moved_answer : (v : Value) (plus : ℤ) (q : Ptr) → FitsSigned w64 plus → pointer_plus o.memory v plus ≡ Some (Address q) →
      operate_answer o.memory Addq (Plain v) (word_content (word_from plus)) ≡ Gives (Plain (Address q))
  moved_answer (Word n) plus q f e = absurd (none-some (Address q) e)
  moved_answer Unset plus q f e = absurd (none-some (Address q) e)
  moved_answer (Address a) plus q f e =
      ap (λ z. content_answer (option_map Plain (pointer_plus o.memory (Address a) z))) (signed-word_from w64 plus (omega arith) f)
      ∙ ap (λ w. content_answer (option_map Plain w)) e

  pub far_moves : (p : ℕ) (v : Value) (plus : ℤ) (q : Ptr) → IsOfRegister p → FitsSigned w64 plus → s (Temp p) ≡ Plain v →
      pointer_plus o.memory v plus ≡ Some (Address q) → PreparesContent widest own s o (far_items p plus) (Plain (Address q))
  far_moves p v plus q of f held e =
      let h = from_put widest own s o (constant_items 0 (word_from plus)) (word_content (word_from plus)) (constants_made widest own 0 (word_from plus) s o (word_from-below plus f)) in
      prepare widest own s o (constant_items 0 (word_from plus)) (word_content (word_from plus)) h (Operate Addq 0 (source.Temp p) (operand.Temp 0)) (Plain (Address q))
      (record { turn = refl; call = refl; written = refl })
      (ap (λ c. writes (operate_answer o.memory Addq c (h.after (Temp 0))) o) (h.kept p of ∙ held)
      ∙ ap (λ c. writes (operate_answer o.memory Addq (Plain v) c) o) h.holds
      ∙ ap (λ a. writes a o) (moved_answer v plus q f e))

  -- ---- loads with a displacement that fits

  module _ (xs : List TempInsn) (c : Content) (h : PreparesContent widest own s o xs c) (d p : ℕ) (z : ℤ) (q : Ptr)
      (at : pointer_at o.memory (h.after (Temp p)) z ≡ Some q) where
    content_loaded : (op : LoadOp) (pointer : Bool) (w : Value) → load_at o.memory q (load_width op) pointer ≡ Ok w →
        loaded_content o.memory op (h.after (Temp p)) z ≡ Some (extended_content op (Plain w))
    content_loaded op pointer w e = ap (option_and_then (content_in o.memory op)) at ∙ loaded_row o.memory q op pointer w e

    plain_comes : (op : LoadOp) (pointer : Bool) (t : Option IntegerType) →
        ((w : Value) → load_at o.memory q (load_width op) pointer ≡ Ok w → extended_content op (Plain w) ≡ Plain (extended_value t w)) →
        CodeAnswers s o d (load_answer t (load_at o.memory q (load_width op) pointer)) (runs widest (xs ++ plain_load op d p z) own s o)
    plain_comes op pointer t extends =
        finish widest own s o xs c h (Load op d p z) d (content_answer (loaded_content o.memory op (h.after (Temp p)) z))
        (load_answer t (load_at o.memory q (load_width op) pointer)) (record { turn = refl; call = refl; written = refl }) refl
        (by_result (load_at o.memory q (load_width op) pointer) refl)
      where
        by_result : (r : Result Value MemFault) → load_at o.memory q (load_width op) pointer ≡ r →
            Matches (load_answer t r) (content_answer (loaded_content o.memory op (h.after (Temp p)) z))
        by_result (Ok w) e = ap content_answer (content_loaded op pointer w e) ∙ ap Gives (extends w e)
        by_result (Err f) e = tt

    -- numbers
    number_comes : (op : LoadOp) (t : IntegerType) → MemoryHasBytes o.memory →
        ((n : ℕ) → n < 256 ^ load_width op → extended_content op (word_content n) ≡ word_content (extension t n)) →
        CodeAnswers s o d (load_answer (Some t) (load_at o.memory q (load_width op) false)) (runs widest (xs ++ plain_load op d p z) own s o)
    number_comes op t bytes extends = plain_comes op false (Some t) extended
      where
        extended : (w : Value) → load_at o.memory q (load_width op) false ≡ Ok w → extended_content op (Plain w) ≡ Plain (extended_value (Some t) w)
        extended w e =
            let k = number_loaded o.memory q (load_width op) w e in
            subst (λ y. extended_content op (Plain y) ≡ Plain (extended_value (Some t) y)) (sym k.1)
            (extends k.0 (loaded_small o.memory q (load_width op) k.0 bytes (e ∙ ap Ok k.1)))

    -- and those whose sign is extended by an instruction of its own
    extended_comes : (op : LoadOp) (extend : ExtendOp) (t : IntegerType) →
        ((n : ℕ) → extended_content op (word_content n) ≡ word_content n) → ((n : ℕ) → extend_answer extend (word_content n) ≡ Gives (word_content (extension t n))) →
        CodeAnswers s o d (load_answer (Some t) (load_at o.memory q (load_width op) false)) (runs widest (xs ++ extended_load op extend d p z) own s o)
    extended_comes op extend t keeps extends = by_result (load_at o.memory q (load_width op) false) refl
      where
        load : TempInsn
        load = Load op 0 p z

        last : TempInsn
        last = Extend extend d (operand.Temp 0)

        of_number : (n : ℕ) → load_at o.memory q (load_width op) false ≡ Ok (Word n) → CodeAnswers s o d (v.Gives (Word (extension t n))) (runs widest (xs ++ (load ∷ last ∷ [])) own s o)
        of_number n e =
            let k = prepare widest own s o xs c h load (word_content n) (record { turn = refl; call = refl; written = refl })
            (ap (λ y. writes (content_answer y) o) (content_loaded op false (Word n) e ∙ ap Some (keeps n))) in
            subst (λ ys. CodeAnswers s o d (v.Gives (Word (extension t n))) (runs widest ys own s o)) (append_assoc xs (load ∷ []) (last ∷ []))
            (finish widest own s o (xs ++ load ∷ []) (word_content n) k last d (extend_answer extend (k.after (Temp 0))) (v.Gives (Word (extension t n)))
            (record { turn = refl; call = refl; written = refl }) refl (ap (extend_answer extend) k.holds ∙ extends n))

        by_result : (r : Result Value MemFault) → load_at o.memory q (load_width op) false ≡ r →
            CodeAnswers s o d (load_answer (Some t) r) (runs widest (xs ++ (load ∷ last ∷ [])) own s o)
        by_result (Err f) e = tt
        by_result (Ok w) e =
            let k = number_loaded o.memory q (load_width op) w e in
            subst (λ y. CodeAnswers s o d (load_answer (Some t) (Ok y)) (runs widest (xs ++ (load ∷ last ∷ [])) own s o)) (sym k.1) (of_number k.0 (e ∙ ap Ok k.1))

    pub near_comes : (ty : MemoryType) → MemoryHasBytes o.memory →
        CodeAnswers s o d (load_answer (memory_integer ty) (load_at o.memory q (access_bytes (memory_integer ty)) (is_pointer_access (memory_integer ty))))
        (runs widest (xs ++ near_load ty d p z) own s o)
    near_comes S8 bytes = extended_comes Ldbu Sextb Char (λ n. refl) (λ n. refl)
    near_comes U8 bytes = number_comes Ldbu UnsignedChar bytes (λ n small. ap word_content (let e : n ≡ n % 2 ^ 8 = omega arith in e))
    near_comes S16 bytes = extended_comes Ldwu Sextw Short (λ n. refl) (λ n. refl)
    near_comes U16 bytes = number_comes Ldwu UnsignedShort bytes (λ n small. ap word_content (let e : n ≡ n % 2 ^ 16 = omega arith in e))
    near_comes S32 bytes = number_comes Ldl Int bytes (λ n small. refl)
    near_comes U32 bytes = number_comes Ldl UnsignedInt bytes (λ n small. refl)
    near_comes S64 bytes = number_comes Ldq Long bytes (λ n small. ap word_content (let e : n ≡ n % 2 ^ 64 = omega arith in e))
    near_comes U64 bytes = number_comes Ldq UnsignedLong bytes (λ n small. ap word_content (let e : n ≡ n % 2 ^ 64 = omega arith in e))
    near_comes P64 bytes = plain_comes Ldq true None (λ w e. refl)

-- ---- loads

pub loads_done : LoadsAreDone
loads_done widest own d p ty plus s o v of f bytes held = by_pointer (pointer_plus o.memory v plus) refl
  where
    by_fit : (q : Ptr) → pointer_plus o.memory v plus ≡ Some (Address q) → (b : Bool) →
        CodeAnswers s o d (load_answer (memory_integer ty) (load_at o.memory q (access_bytes (memory_integer ty)) (is_pointer_access (memory_integer ty))))
        (runs widest (load_by ty d p plus (if b then Some plus else None)) own s o)
    by_fit q e true =
        near_comes widest own s o [] (s (Temp 0)) (nothing_yet widest own s o) d p plus q
        (ap (λ c. pointer_at o.memory c plus) held ∙ ap pointer_in e) ty bytes
    by_fit q e false =
        let h = far_moves widest own s o p v plus q of f held e in
        near_comes widest own s o (far_items p plus) (Plain (Address q)) h d 0 (pos 0) q
        (ap (λ c. pointer_at o.memory c (pos 0)) h.holds ∙ ap pointer_in (stays o.memory v plus q e)) ty bytes

    by_pointer : (w : Option Value) → pointer_plus o.memory v plus ≡ w →
        CodeAnswers s o d (load_through o.memory (memory_integer ty) w) (runs widest (load_items ty d p plus) own s o)
    by_pointer None e = tt
    by_pointer (Some (Word n)) e = tt
    by_pointer (Some Unset) e = tt
    by_pointer (Some (Address q)) e = by_fit q e (fits_signed w16 plus)
