-- The steps of all instructions that write a register or the memory.
use Rattle.std.proofs.Common.{◌≡◌, ℕ, suc, ◌%◌, ◌<◌, ◌^◌, List, ◌∷◌, true, ℤ, refl, map}
use Rattle.std.specs.Prelude.{◌==◌, FitsSigned}
use Rattle.std.specs.Int.{w64}
use Rattle.std.proofs.lemmas.Bool.{eqb-true}
use Rattle.mem_model.specs.declared.value.Value.{Value}
use Rattle.mem_model.specs.declared.value.Value.TheVariants.{Word}
use Rattle.mem_model.specs.World.{World, Rooms}
use Rattle.mem_model.specs.Ending.{Ending, IsDefined}
use Rattle.machine_model.specs.Machine.{Frame, Over, exec}
use Rattle.suifvm_ir.specs.declared.types.VmType.{VmType}
use Rattle.suifvm_ir.specs.declared.types.MemoryType.{MemoryType}
use Rattle.suifvm_ir.specs.declared.types.Alignment.{Alignment}
use Rattle.suifvm_ir.specs.declared.insn.VmObject.{VmObject}
use Rattle.suifvm_ir.specs.declared.insn.VmObject.TheVariants.{Global, Local}
use Rattle.suifvm_ir.specs.declared.insn.VmUnaryOp.{VmUnaryOp}
use Rattle.suifvm_ir.specs.declared.insn.VmUnaryOp.TheVariants.{Move, Negate, Complement}
use Rattle.suifvm_ir.specs.declared.insn.VmBinaryOp.{VmBinaryOp}
use Rattle.suifvm_ir.specs.declared.insn.VmBinaryOp.TheVariants.{Add, Subtract, Multiply, Divide, Remainder, And, Or, ExclusiveOr}
use Rattle.suifvm_ir.specs.declared.insn.ShiftOp.{ShiftOp}
use Rattle.suifvm_ir.specs.declared.insn.ShiftOp.TheVariants.{ArithmeticRight, Left, LogicalRight}
use Rattle.suifvm_ir.specs.declared.insn.CompareOp.{CompareOp}
use Rattle.suifvm_ir.specs.declared.insn.CompareOp.TheVariants.{Equal, NotEqual, Less, LessOrEqual}
use Rattle.suifvm_ir.specs.declared.insn.VmInsn.{VmInsn}
use Rattle.suifvm_ir.specs.declared.insn.VmInsn.TheVariants as x
use Rattle.suifvm_ir.specs.Programs.{VmFunction, alignment_bytes}
use Rattle.suifvm_meaning.specs.declared.answer.Answer.TheVariants.{Gives}
use Rattle.suifvm_meaning.specs.Operations.{when_value, place_address, loaded_answer, stored_memory, copied_memory, unary_answer, convert_answer, binary_answer, shift_answer, compare_answer}
use Rattle.suifvm_meaning.specs.Behave.{Registers, code_of, vm_code}
use Rattle.alloc_model.specs.Effect.{widest_call}
use Rattle.alloc_model.specs.Temporaries.{Temps}
use Rattle.selection_forms.specs.alpha_forms.Registers.{IsHeldWord}
use Rattle.selection_forms.specs.alpha_forms.Laws.{UnaryIsDone, BinaryIsDone, ShiftIsDone, CompareIsDone}
use Rattle.selection_forms.proofs.AlphaForms.Reading.{loads_done}
use Rattle.selection_forms.proofs.AlphaForms.Storing.{stores_done}
use Rattle.selection_forms.proofs.AlphaForms.Done.{moves_done, negations_done, complements_done, sums_done, differences_done, products_done, conjunctions_done, disjunctions_done, exclusive_disjunctions_done, equalities_done, inequalities_done, less_done, at_most_done, conversions_done}
use Rattle.selection_forms.proofs.AlphaForms.Dividing.{quotients_done, remainders_done}
use Rattle.selection_forms.proofs.AlphaForms.Moving.{arithmetic_shifts_done, left_shifts_done, logical_shifts_done}
use Rattle.selection_forms.proofs.AlphaForms.Others.{constants_loaded, addresses_loaded}
use Rattle.selection_forms.proofs.AlphaCopies.Copying.{copies_done}
use Rattle.selection_code.specs.Instructions.{temp_of}
use Rattle.selection_code.specs.Functions.{selected_blocks}
use Rattle.selection_laws.proofs.Values.{value_held, unary_held, convert_held, binary_held, shift_held, compare_held, load_held}
use Rattle.selection_laws.proofs.Memories.{stored_bytes, copied_bytes}
use Rattle.selection_laws.proofs.Steps.{of_register, IsOrdinary, vm_conf, temp_conf, Here, Waits, Simulates, Reaches, value_step, memory_step}

-- ---- the forms, by their operation

unary_done : (op : VmUnaryOp) → UnaryIsDone op
unary_done Move = moves_done
unary_done Negate = negations_done
unary_done Complement = complements_done

binary_done : (op : VmBinaryOp) → BinaryIsDone op
binary_done Add = sums_done
binary_done Subtract = differences_done
binary_done Multiply = products_done
binary_done Divide = quotients_done
binary_done Remainder = remainders_done
binary_done And = conjunctions_done
binary_done Or = disjunctions_done
binary_done ExclusiveOr = exclusive_disjunctions_done

shift_done : (op : ShiftOp) → ShiftIsDone op
shift_done ArithmeticRight = arithmetic_shifts_done
shift_done Left = left_shifts_done
shift_done LogicalRight = logical_shifts_done

compare_done : (op : CompareOp) → CompareIsDone op
compare_done Equal = equalities_done
compare_done NotEqual = inequalities_done
compare_done Less = less_done
compare_done LessOrEqual = at_most_done

place_held : (own : ℕ) (place : VmObject) (plus : ℕ) → IsHeldWord (place_address own place plus)
place_held own (Global k) plus = tt
place_held own (Local k) plus = tt

module _ (rooms : Rooms) (fs : List VmFunction) (n : ℕ) (ih : Simulates rooms fs n) (g b at place own : ℕ) (r : Registers) (s : Temps) (f : VmFunction) (left : List VmInsn)
    (vs : List (Frame Registers)) (ts : List (Frame Temps)) (w : World) (e : Ending) (ordinary : IsOrdinary w.outer) (waits : Waits rooms fs vs ts) (defined : IsDefined e) where
  -- what is known of an instruction where it stands
  abbrev pub Steps : VmInsn → Type 0
  Steps y = Here rooms fs g b at place r s f (y ∷ left) → exec Value Registers rooms (vm_code (map code_of fs)) (suc n) (vm_conf rooms fs g b at own r vs w) ≡ Over e →
      Reaches rooms fs (temp_conf rooms fs g b place own s ts w) e

  abbrev widest : ℕ
  widest = widest_call (selected_blocks f.params f.blocks)

  pub constant_step : (ty : VmType) (d word : ℕ) → word < 2 ^ 64 → Steps (x.LoadConstant ty d word)
  constant_step ty d word small h is =
      value_step rooms fs n ih g b at place own r s f (x.LoadConstant ty d word) left vs ts w e h ordinary waits defined is d (when_value ty (Word word)) refl refl refl
      (constants_loaded widest own (temp_of d) word ty s w.outer small) (value_held ty (Word word) small)

  pub address_step : (d : ℕ) (object : VmObject) (plus : ℕ) → Steps (x.LoadAddress d object plus)
  address_step d object plus h is =
      value_step rooms fs n ih g b at place own r s f (x.LoadAddress d object plus) left vs ts w e h ordinary waits defined is d (Gives (place_address own object plus)) refl refl refl
      (addresses_loaded widest own (temp_of d) plus object s w.outer) (place_held own object plus)

  pub load_step : (ty : MemoryType) (d p : ℕ) (plus : ℤ) → FitsSigned w64 plus → Steps (x.Load ty d p plus)
  load_step ty d p plus fits h is =
      value_step rooms fs n ih g b at place own r s f (x.Load ty d p plus) left vs ts w e h ordinary waits defined is d (loaded_answer w.outer.memory ty (r p) plus) refl refl refl
      (loads_done widest own (temp_of d) (temp_of p) ty plus s w.outer (r p) (of_register p) fits ordinary.memory (h.holds p)) (load_held w.outer.memory ty (r p) plus)

  pub store_step : (ty : MemoryType) (p : ℕ) (plus : ℤ) (a : ℕ) → FitsSigned w64 plus → Steps (x.Store ty p plus a)
  store_step ty p plus a fits h is =
      memory_step rooms fs n ih g b at place own r s f (x.Store ty p plus a) left vs ts w e h ordinary waits defined is (stored_memory w.outer.memory ty (r p) plus (r a)) refl refl refl
      (stores_done widest own (temp_of p) (temp_of a) ty plus s w.outer (r p) (r a) (of_register p) (of_register a) fits (h.holds p) (h.holds a)) (stored_bytes w.outer.memory ty (r p) plus (r a) ordinary.memory)

  pub copy_step : (to from size : ℕ) (align : Alignment) → (size % alignment_bytes align == 0) ≡ true → Steps (x.Copy to from size align)
  copy_step to from size align whole h is =
      memory_step rooms fs n ih g b at place own r s f (x.Copy to from size align) left vs ts w e h ordinary waits defined is (copied_memory w.outer.memory (r to) (r from) size (alignment_bytes align)) refl refl refl
      (copies_done widest own (temp_of to) (temp_of from) size align s w.outer (r to) (r from) (of_register to) (of_register from) ordinary.memory (eqb-true (size % alignment_bytes align) 0 whole) (h.holds to) (h.holds from))
      (copied_bytes w.outer.memory (r to) (r from) size (alignment_bytes align) ordinary.memory)

  pub unary_step : (op : VmUnaryOp) (ty : VmType) (d a : ℕ) → Steps (x.Unary op ty d a)
  unary_step op ty d a h is =
      value_step rooms fs n ih g b at place own r s f (x.Unary op ty d a) left vs ts w e h ordinary waits defined is d (unary_answer op ty (r a)) refl refl refl
      (unary_done op ty widest own (temp_of d) (temp_of a) s w.outer (r a) (of_register a) (h.held a) (h.holds a)) (unary_held op ty (r a) (h.held a))

  pub binary_step : (op : VmBinaryOp) (ty : VmType) (d a c : ℕ) → Steps (x.Binary op ty d a c)
  binary_step op ty d a c h is =
      value_step rooms fs n ih g b at place own r s f (x.Binary op ty d a c) left vs ts w e h ordinary waits defined is d (binary_answer w.outer.memory op ty (r a) (r c)) refl refl refl
      (binary_done op ty widest own (temp_of d) (temp_of a) (temp_of c) s w.outer (r a) (r c) (of_register a) (of_register c) (h.holds a) (h.holds c)) (binary_held w.outer.memory op ty (r a) (r c))

  pub shift_step : (op : ShiftOp) (ty : VmType) (d a c : ℕ) → Steps (x.Shift op ty d a c)
  shift_step op ty d a c h is =
      value_step rooms fs n ih g b at place own r s f (x.Shift op ty d a c) left vs ts w e h ordinary waits defined is d (shift_answer op ty (r a) (r c)) refl refl refl
      (shift_done op ty widest own (temp_of d) (temp_of a) (temp_of c) s w.outer (r a) (r c) (of_register a) (of_register c) (h.holds a) (h.holds c)) (shift_held op ty (r a) (r c))

  pub convert_step : (from : MemoryType) (to : VmType) (d a : ℕ) → Steps (x.Convert from to d a)
  convert_step from to d a h is =
      value_step rooms fs n ih g b at place own r s f (x.Convert from to d a) left vs ts w e h ordinary waits defined is d (convert_answer from to (r a)) refl refl refl
      (conversions_done from to widest own (temp_of d) (temp_of a) s w.outer (r a) (of_register a) (h.held a) (h.holds a)) (convert_held from to (r a))

  pub compare_step : (op : CompareOp) (ty : VmType) (d a c : ℕ) → Steps (x.Compare op ty d a c)
  compare_step op ty d a c h is =
      value_step rooms fs n ih g b at place own r s f (x.Compare op ty d a c) left vs ts w e h ordinary waits defined is d (compare_answer w.outer.memory op ty (r a) (r c)) refl refl refl
      (compare_done op ty widest own (temp_of d) (temp_of a) (temp_of c) s w.outer (r a) (r c) (of_register a) (of_register c) (h.holds a) (h.holds c)) (compare_held w.outer.memory op ty (r a) (r c))
