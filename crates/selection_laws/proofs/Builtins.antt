-- The steps of marks, jumps, branches and calls of built-in functions.
use Rattle.std.proofs.Common.{◌≡◌, ℕ, zero, suc, ◌%◌, ◌^◌, ◌<◌, List, [], ◌∷◌, ◌++◌, map, drop, Bool, true, false, Option, Some, None, refl, sym, ap, ◌∙◌, subst, arith, All}
use Rattle.std.specs.Prelude.{slice_get, pos, if◌then◌else◌}
use Rattle.std.specs.List.{list_all}
use Rattle.mem_model.specs.declared.value.Value.{Value}
use Rattle.mem_model.specs.declared.value.Value.TheVariants.{Word, Address, Unset}
use Rattle.mem_model.specs.World.{Meter, World, Rooms, take_byte, put_byte, next_byte}
use Rattle.mem_model.specs.Ending.{Ending, Done, Trap, IsDefined}
use Rattle.machine_model.specs.Code.{Exits, Traps, HasNoMeaning, Act, Writes, Jumps, Stops}
use Rattle.machine_model.specs.Machine.{Frame, Over, whole_world, act_on, go_on, exec}
use Rattle.alpha_isa.specs.Step as isa
use Rattle.suifvm_ir.specs.declared.types.VmType.{VmType}
use Rattle.suifvm_ir.specs.declared.types.VmType.TheVariants.{S64}
use Rattle.suifvm_ir.specs.declared.types.MemoryType.TheVariants.{U8}
use Rattle.suifvm_ir.specs.declared.insn.VmBranchOp.{VmBranchOp}
use Rattle.suifvm_ir.specs.declared.insn.VmBuiltin.TheVariants.{PutChar, GetChar, Abort, Exit}
use Rattle.suifvm_ir.specs.declared.insn.VmCallee.TheVariants as callee
use Rattle.suifvm_ir.specs.declared.insn.VmInsn.{VmInsn}
use Rattle.suifvm_ir.specs.declared.insn.VmInsn.TheVariants as x
use Rattle.suifvm_ir.specs.Insns.{named_register}
use Rattle.suifvm_ir.specs.Programs.{VmFunction}
use Rattle.suifvm_meaning.specs.Operations.{is_set, value_holds}
use Rattle.suifvm_meaning.specs.Effect.{is_branch_taken, branches, input_word, puts_char, exits_with, fails}
use Rattle.suifvm_meaning.specs.Behave.{Registers, set_registers, code_of, insn_site, vm_code}
use Rattle.temp_ir.specs.declared.operation.Service.TheVariants as service
use Rattle.temp_ir.specs.declared.insn.FixedRegister.TheVariants as fixed
use Rattle.temp_ir.specs.declared.insn.TempInsn.{TempInsn}
use Rattle.temp_ir.specs.declared.insn.TempInsn.TheVariants as i
use Rattle.alloc_model.specs.Contents.{Content, Plain, word_content, branch_test}
use Rattle.alloc_model.specs.Stores.{put, without}
use Rattle.alloc_model.specs.Effect.{Temp, Fixed, holder_eq, holders_read, is_emptied, widest_call}
use Rattle.alloc_model.specs.Effect as temps
use Rattle.alloc_model.specs.Temporaries.{Temps, temp_site, temp_code}
use Rattle.selection_forms.specs.alpha_forms.Straight.{runs}
use Rattle.selection_forms.specs.alpha_forms.Registers.{IsHeldWord, PutsValue}
use Rattle.selection_forms.specs.alpha_forms.Operations.{temp_branch}
use Rattle.selection_forms.proofs.AlphaForms.Done.{conversions_done}
use Rattle.selection_forms.proofs.AlphaForms.Others.{branches_taken}
use Rattle.selection_code.specs.Instructions.{temp_of, result_items, byte_items}
use Rattle.selection_code.specs.Functions.{selected_insns, selected_blocks}
use Rattle.selection_laws.proofs.Plain.{plain_code}
use Rattle.selection_laws.proofs.Machines.{BlockPlace, next_place, FlowingPlace, next_standing}
use Rattle.selection_laws.proofs.Steps.{of_register, IsOrdinary, vm_conf, temp_conf, Here, Waits, Simulates, Reaches, NextReaches, never_undefined, same_ending, enter_block, put_tail, result_tail, vm_acts, turn_step, last_step}

-- ---- the input

same_input : (bytes : List ℕ) → isa.input_word bytes ≡ input_word (slice_get bytes 0)
same_input [] = refl
same_input (byte ∷ bytes) = refl

input_held : (bytes : List ℕ) → All (λ byte. byte < 256) bytes → IsHeldWord (Word (input_word (slice_get bytes 0)))
input_held [] h = omega arith
input_held (byte ∷ bytes) h = let small : byte < 256 = h 0 byte (omega arith) in omega (arith, small)

rest_ordinary : (bytes : List ℕ) → All (λ byte. byte < 256) bytes → All (λ byte. byte < 256) (drop 1 bytes)
rest_ordinary [] h = h
rest_ordinary (byte ∷ bytes) h = λ k d lt. h (suc k) d (omega (arith, lt))

-- the low byte, as a conversion has it
low_byte : (k : ℕ) → k % 2 ^ 8 % 2 ^ 64 % 2 ^ 64 ≡ k % 256
low_byte k = omega arith

module _ (rooms : Rooms) (fs : List VmFunction) (n : ℕ) (ih : Simulates rooms fs n) (g b at place own : ℕ) (r : Registers) (s : Temps) (f : VmFunction) (left : List VmInsn)
    (vs : List (Frame Registers)) (ts : List (Frame Temps)) (w : World) (e : Ending) (ordinary : IsOrdinary w.outer) (waits : Waits rooms fs vs ts) (defined : IsDefined e) where
  abbrev Steps : VmInsn → Type 0
  Steps y = Here rooms fs g b at place r s f (y ∷ left) → exec Value Registers rooms (vm_code (map code_of fs)) (suc n) (vm_conf rooms fs g b at own r vs w) ≡ Over e →
      Reaches rooms fs (temp_conf rooms fs g b place own s ts w) e

  abbrev widest : ℕ
  widest = widest_call (selected_blocks f.params f.blocks)

  -- what is left of a run over registers behind an act
  abbrev Rest : VmInsn → Meter → Act Value → Type 0
  Rest y m a = go_on (act_on Value Registers rooms (vm_code (map code_of fs)) (vm_conf rooms fs g b at own r vs w) m (insn_site y) a) (exec Value Registers rooms (vm_code (map code_of fs)) n) ≡ Over e

  -- ---- marks, and instructions that do nothing

  pub nop_step : Steps x.Nop
  nop_step h is =
      ih g b (suc at) place own r s f left vs ts w e
      (record { number = h.number; placed = next_place f.blocks b at x.Nop left h.placed; standing = h.standing; holds = h.holds; held = h.held }) ordinary waits defined
      (vm_acts rooms fs n ih g b at place own r s f x.Nop left vs ts w e h ordinary waits defined is (Writes [] w.outer) refl refl)

  pub mark_step : Steps x.Mark
  mark_step h is =
      turn_step rooms fs n ih g b at place own r s f x.Mark left vs ts w e h ordinary waits defined is [] i.Mark (selected_insns left) s refl refl refl refl
      (λ m there st q. ih g b (suc at) (suc there) own r (without (is_emptied i.Mark) s) f left vs ts (whole_world w.outer m) e
      (record {
        number = h.number;
        placed = next_place f.blocks b at x.Mark left h.placed;
        standing = next_standing (selected_blocks f.params f.blocks) b there i.Mark (selected_insns left) refl st;
        holds = h.holds;
        held = h.held;
      }) ordinary waits defined q)

  -- ---- jumps and branches

  pub jump_step : (block : ℕ) → 0 < block → Steps (x.Jump block)
  jump_step zero some h is = absurd (omega (arith, some))
  jump_step (suc block) some h is =
      last_step rooms fs n ih g b at place own r s f (x.Jump (suc block)) left vs ts w e h ordinary waits defined is [] (i.Jump (suc block)) (selected_insns left) s refl refl refl
      (λ there st. enter_block rooms fs n ih g block own r (without (is_emptied (i.Jump (suc block))) s) f vs ts w e h.number h.holds h.held ordinary waits defined
      (vm_acts rooms fs n ih g b at place own r s f (x.Jump (suc block)) left vs ts w e h ordinary waits defined is (Jumps 0 w.outer) refl refl))

  pub branch_step : (op : VmBranchOp) (ty : VmType) (a block : ℕ) → 0 < block → Steps (x.Branch op ty a block)
  branch_step op ty a zero some h is = absurd (omega (arith, some))
  branch_step op ty a (suc block) some h is =
      last_step rooms fs n ih g b at place own r s f y left vs ts w e h ordinary waits defined is [] z (selected_insns left) s refl refl refl
      (λ there st. by_test (value_holds w.outer.memory ty (r a)) refl there st)
    where
      y : VmInsn
      y = x.Branch op ty a (suc block)

      z : TempInsn
      z = i.Branch (temp_branch op) (temp_of a) (suc block)

      goes : (taken : Bool) (there : ℕ) → FlowingPlace (selected_blocks f.params f.blocks) b there (z ∷ selected_insns left) → Rest y w.meter (if taken then Jumps 0 w.outer else Writes [] w.outer) →
          NextReaches rooms fs (act_on Content Temps rooms (temp_code (map plain_code fs)) (temp_conf rooms fs g b there own s ts w) w.meter (temp_site (widest_call (selected_blocks f.params f.blocks)) z) (temps.branches (Some taken) w.outer)) e
      goes true there st q = enter_block rooms fs n ih g block own r (without (is_emptied z) s) f vs ts w e h.number h.holds h.held ordinary waits defined q
      goes false there st q =
          ih g b (suc at) (suc there) own r (without (is_emptied z) s) f left vs ts w e
          (record {
            number = h.number;
            placed = next_place f.blocks b at y left h.placed;
            standing = next_standing (selected_blocks f.params f.blocks) b there z (selected_insns left) refl st;
            holds = h.holds;
            held = h.held;
          }) ordinary waits defined q

      by_test : (o : Option Bool) → value_holds w.outer.memory ty (r a) ≡ o → (there : ℕ) → FlowingPlace (selected_blocks f.params f.blocks) b there (z ∷ selected_insns left) →
          NextReaches rooms fs (act_on Content Temps rooms (temp_code (map plain_code fs)) (temp_conf rooms fs g b there own s ts w) w.meter (temp_site (widest_call (selected_blocks f.params f.blocks)) z)
          (temps.does (widest_call (selected_blocks f.params f.blocks)) z own (map s (holders_read z)) w.outer)) e
      by_test None test there st =
          absurd (never_undefined w _ e (vm_acts rooms fs n ih g b at place own r s f y left vs ts w e h ordinary waits defined is (Stops HasNoMeaning w.outer) refl (ap (λ o. branches op o w.outer) test)) defined)
      by_test (Some c) test there st =
          let act : temps.does (widest_call (selected_blocks f.params f.blocks)) z own (map s (holders_read z)) w.outer ≡ temps.branches (Some (is_branch_taken op c)) w.outer =
          ap (λ v. temps.branches (branch_test (temp_branch op) w.outer.memory v) w.outer) (h.holds a) ∙ ap (λ o. temps.branches o w.outer) (branches_taken op ty w.outer.memory (r a) c test) in
          subst (λ v. NextReaches rooms fs (act_on Content Temps rooms (temp_code (map plain_code fs)) (temp_conf rooms fs g b there own s ts w) w.meter (temp_site (widest_call (selected_blocks f.params f.blocks)) z) v) e) (sym act)
          (goes (is_branch_taken op c) there st
          (vm_acts rooms fs n ih g b at place own r s f y left vs ts w e h ordinary waits defined is (if is_branch_taken op c then Jumps 0 w.outer else Writes [] w.outer) refl (ap (λ o. branches op o w.outer) test)))

  -- ---- calls of built-in functions: where an argument is unset, the call has no meaning

  abbrev Now : TempInsn → (t : Temps) → Meter → (there : ℕ) → Type 0
  Now z t m there = NextReaches rooms fs (act_on Content Temps rooms (temp_code (map plain_code fs)) (temp_conf rooms fs g b there own t ts w) m (temp_site (widest_call (selected_blocks f.params f.blocks)) z)
      (temps.does (widest_call (selected_blocks f.params f.blocks)) z own (map t (holders_read z)) w.outer)) e

  -- what stands for the values that were set
  argument_set : (q : Bool) (y : VmInsn) (m : Meter) (a : Act Value) (R : Type 0) → Rest y m (if q then a else fails w.outer) → (Rest y m a → R) → R
  argument_set true y m a R is go = go is
  argument_set false y m a R is go = absurd (never_undefined (whole_world w.outer m) _ e is defined)

  -- the byte that was put is the result
  byte_tail : (d : Option ℕ) (a k there : ℕ) (t : Temps) (u : World) → r a ≡ Word k → BlockPlace f.blocks b (suc at) left → FlowingPlace (selected_blocks f.params f.blocks) b there (byte_items d a ++ selected_insns left) → slice_get fs g ≡ Some f
      → ((j : ℕ) → t (Temp (temp_of j)) ≡ Plain (r j)) → ((j : ℕ) → IsHeldWord (r j)) → IsOrdinary u.outer
      → exec Value Registers rooms (vm_code (map code_of fs)) n (vm_conf rooms fs g b (suc at) own (set_registers (named_register d) (Word (k % 256) ∷ []) r) vs u) ≡ Over e →
      Reaches rooms fs (temp_conf rooms fs g b there own t ts u) e
  byte_tail None a k there t u is placed standing number holds held good q =
      ih g b (suc at) there own r t f left vs ts u e (record { number = number; placed = placed; standing = standing; holds = holds; held = held }) good waits defined q
  byte_tail (Some d) a k there t u is placed standing number holds held good q =
      let small : k < 2 ^ 64 = subst IsHeldWord is (held a) in
      let put : PutsValue t u.outer (temp_of d) (Word (k % 2 ^ 8 % 2 ^ 64 % 2 ^ 64)) (runs (widest_call (selected_blocks f.params f.blocks)) (byte_items (Some d) a) own t u.outer) =
      conversions_done U8 S64 (widest_call (selected_blocks f.params f.blocks)) own (temp_of d) (temp_of a) t u.outer (Word k) (of_register a) small (holds a ∙ ap Plain is) in
      put_tail rooms fs n ih g b (suc at) there own r t f left vs ts u e (byte_items (Some d) a) d (Word (k % 256)) number placed standing holds held good waits defined
      (subst (λ v. PutsValue t u.outer (temp_of d) (Word v) (runs (widest_call (selected_blocks f.params f.blocks)) (byte_items (Some d) a) own t u.outer)) (low_byte k) put)
      (let few : k % 256 < 2 ^ 64 = omega arith in few) q

  pub put_char_step : (d : Option ℕ) (a : ℕ) (arguments : List ℕ) → Steps (x.Call d (callee.Builtin PutChar) (a ∷ arguments))
  put_char_step d a arguments h is =
      turn_step rooms fs n ih g b at place own r s f y left vs ts w e h ordinary waits defined is
      (i.ToFixed fixed.Argument0 (temp_of a) ∷ i.SetFixed fixed.Value (pos 2) ∷ []) (i.Serve service.PutByte) (byte_items d a ++ selected_insns left) t refl refl refl refl
      (λ m there st q. argument_set (list_all is_set (map r (a ∷ arguments))) y m (puts_char (r a) w.outer) (Now (i.Serve service.PutByte) t m there) q (λ q. by_value (r a) refl m there st q))
    where
      y : VmInsn
      y = x.Call d (callee.Builtin PutChar) (a ∷ arguments)

      t1 : Temps
      t1 = put holder_eq (Fixed 16) (s (Temp (temp_of a))) (without (is_emptied (i.ToFixed fixed.Argument0 (temp_of a))) s)

      t : Temps
      t = put holder_eq (Fixed 0) (word_content 2) (without (is_emptied (i.SetFixed fixed.Value (pos 2))) t1)

      by_value : (v : Value) → r a ≡ v → (m : Meter) (there : ℕ) → FlowingPlace (selected_blocks f.params f.blocks) b there (i.Serve service.PutByte ∷ (byte_items d a ++ selected_insns left)) →
          Rest y m (puts_char v w.outer) → Now (i.Serve service.PutByte) t m there
      by_value (Address p) is m there st q = absurd (never_undefined (whole_world w.outer m) _ e q defined)
      by_value Unset is m there st q = absurd (never_undefined (whole_world w.outer m) _ e q defined)
      by_value (Word k) is m there st q =
          let act : temps.does (widest_call (selected_blocks f.params f.blocks)) (i.Serve service.PutByte) own (map t (holders_read (i.Serve service.PutByte))) w.outer ≡ Writes [] (put_byte w.outer (k % 256)) =
          ap (λ c. temps.put_act c w.outer) (h.holds a ∙ ap Plain is) in
          subst (λ v. NextReaches rooms fs (act_on Content Temps rooms (temp_code (map plain_code fs)) (temp_conf rooms fs g b there own t ts w) m (temp_site (widest_call (selected_blocks f.params f.blocks)) (i.Serve service.PutByte)) v) e) (sym act)
          (byte_tail d a k (suc there) (without (is_emptied (i.Serve service.PutByte)) t) (whole_world (put_byte w.outer (k % 256)) m) is (next_place f.blocks b at y left h.placed)
          (next_standing (selected_blocks f.params f.blocks) b there (i.Serve service.PutByte) (byte_items d a ++ selected_insns left) refl st) h.number h.holds h.held (record { memory = ordinary.memory; input = ordinary.input }) q)

  pub get_char_step : (d : Option ℕ) (arguments : List ℕ) → Steps (x.Call d (callee.Builtin GetChar) arguments)
  get_char_step d arguments h is =
      turn_step rooms fs n ih g b at place own r s f y left vs ts w e h ordinary waits defined is
      (i.SetFixed fixed.Value (pos 3) ∷ []) z (result_items d ++ selected_insns left) t refl refl refl refl
      (λ m there st q. argument_set (list_all is_set (map r arguments)) y m (Writes (Word (input_word (next_byte w.outer)) ∷ []) (take_byte w.outer)) (Now z t m there) q
      (λ q. result_tail rooms fs n ih g b (suc at) (suc there) own r u f left vs ts (whole_world (take_byte w.outer) m) e d (Word (input_word (next_byte w.outer)) ∷ []) h.number (next_place f.blocks b at y left h.placed)
      (next_standing (selected_blocks f.params f.blocks) b there z (result_items d ++ selected_insns left) refl st) h.holds h.held
      (record { memory = ordinary.memory; input = rest_ordinary w.outer.input ordinary.input }) waits defined (ap word_content (same_input w.outer.input)) (input_held w.outer.input ordinary.input) q))
    where
      y : VmInsn
      y = x.Call d (callee.Builtin GetChar) arguments

      z : TempInsn
      z = i.Serve service.GetByte

      t : Temps
      t = put holder_eq (Fixed 0) (word_content 3) (without (is_emptied (i.SetFixed fixed.Value (pos 3))) s)

      u : Temps
      u = put holder_eq (Fixed 0) (word_content (isa.input_word w.outer.input)) (without (is_emptied z) t)

  pub abort_step : (d : Option ℕ) (arguments : List ℕ) → Steps (x.Call d (callee.Builtin Abort) arguments)
  abort_step d arguments h is =
      turn_step rooms fs n ih g b at place own r s f y left vs ts w e h ordinary waits defined is
      (i.SetFixed fixed.Argument0 (pos 2) ∷ []) (i.Serve service.Trap) (selected_insns left) t refl refl refl refl
      (λ m there st q. argument_set (list_all is_set (map r arguments)) y m (Stops (Traps 2) w.outer) (Now (i.Serve service.Trap) t m there) q (λ q. same_ending rooms fs (Trap (whole_world w.outer m) 2) e q))
    where
      y : VmInsn
      y = x.Call d (callee.Builtin Abort) arguments

      t : Temps
      t = put holder_eq (Fixed 16) (word_content 2) (without (is_emptied (i.SetFixed fixed.Argument0 (pos 2))) s)

  pub exit_step : (d : Option ℕ) (a : ℕ) (arguments : List ℕ) → Steps (x.Call d (callee.Builtin Exit) (a ∷ arguments))
  exit_step d a arguments h is =
      turn_step rooms fs n ih g b at place own r s f y left vs ts w e h ordinary waits defined is
      (i.ToFixed fixed.Argument0 (temp_of a) ∷ i.SetFixed fixed.Value (pos 1) ∷ []) (i.Serve service.End) (selected_insns left) t refl refl refl refl
      (λ m there st q. argument_set (list_all is_set (map r (a ∷ arguments))) y m (exits_with (r a) w.outer) (Now (i.Serve service.End) t m there) q (λ q. by_value (r a) refl m there q))
    where
      y : VmInsn
      y = x.Call d (callee.Builtin Exit) (a ∷ arguments)

      t1 : Temps
      t1 = put holder_eq (Fixed 16) (s (Temp (temp_of a))) (without (is_emptied (i.ToFixed fixed.Argument0 (temp_of a))) s)

      t : Temps
      t = put holder_eq (Fixed 0) (word_content 1) (without (is_emptied (i.SetFixed fixed.Value (pos 1))) t1)

      by_value : (v : Value) → r a ≡ v → (m : Meter) (there : ℕ) → Rest y m (exits_with v w.outer) → Now (i.Serve service.End) t m there
      by_value (Address p) is m there q = absurd (never_undefined (whole_world w.outer m) _ e q defined)
      by_value Unset is m there q = absurd (never_undefined (whole_world w.outer m) _ e q defined)
      by_value (Word k) is m there q =
          let act : temps.does (widest_call (selected_blocks f.params f.blocks)) (i.Serve service.End) own (map t (holders_read (i.Serve service.End))) w.outer ≡ Stops (Exits (k % 256)) w.outer =
          ap (λ c. temps.end_act c w.outer) (h.holds a ∙ ap Plain is) in
          subst (λ v. NextReaches rooms fs (act_on Content Temps rooms (temp_code (map plain_code fs)) (temp_conf rooms fs g b there own t ts w) m (temp_site (widest_call (selected_blocks f.params f.blocks)) (i.Serve service.End)) v) e) (sym act)
          (same_ending rooms fs (Done (whole_world w.outer m) (k % 256)) e q)
