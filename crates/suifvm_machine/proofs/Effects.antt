-- What instructions come to that touch the outside, or do one thing of several.
use Rattle.std.proofs.Common.{◌≡◌, ℕ, suc, ◌+◌, ◌-◌, ◌<◌, List, [], ◌∷◌, drop, map, length, Bool, true, false, Option, Some, None, refl, sym, ap, ◌∙◌, subst, arith}
use Rattle.std.specs.Prelude.{slice_get, ◌%◌, if◌then◌else◌}
use Rattle.std.specs.List.{list_all}
use Rattle.std.proofs.Math.Numerals.{add-one}
use Rattle.mem_model.specs.declared.value.Value.{Value}
use Rattle.mem_model.specs.declared.value.Value.TheVariants.{Word, Address, Unset}
use Rattle.mem_model.specs.declared.value.Ptr.{Ptr}
use Rattle.mem_model.specs.World.{Outer, World, Meter, Rooms, turn_from, put_byte, take_byte, next_byte}
use Rattle.machine_model.specs.Code.{Act, Writes, Jumps, Calls, Returns, Stops, Site, Code}
use Rattle.machine_model.specs.Machine.{Config, Next, Goes, whole_world, turn_if, jump_to, act_on, step_at, step_with}
use Rattle.suifvm_ir.specs.declared.insn.VmInsn.{VmInsn}
use Rattle.suifvm_ir.specs.declared.insn.TypedRegister.{TypedRegister}
use Rattle.suifvm_ir.specs.declared.insn.VmBranchOp.{VmBranchOp}
use Rattle.suifvm_ir.specs.declared.insn.VmBuiltin.{VmBuiltin}
use Rattle.suifvm_ir.specs.declared.insn.VmBuiltin.TheVariants.{PutChar, GetChar, Abort, Exit}
use Rattle.suifvm_ir.specs.declared.insn.VmCallee.{VmCallee}
use Rattle.suifvm_ir.specs.declared.insn.VmCallee.TheVariants as c
use Rattle.suifvm_ir.specs.Insns.{reads_of, writes_of, targets_of, named_register, returned_register}
use Rattle.suifvm_meaning.specs.Effect.{input_word, does, takes_turn, fails, first_source, puts_char, exits_with, builtin_act, callee_act, call_act, return_act, is_branch_taken, branches}
use Rattle.suifvm_meaning.specs.Operations.{is_set, is_value_of}
use Rattle.suifvm_meaning.specs.Behave.{Registers, registers_of, set_registers, insn_site, site_or_next, vm_code}
use Rattle.suifvm_machine.specs.declared.machine.Machine.{Machine}
use Rattle.suifvm_machine.specs.declared.machine.Stop.TheVariants as stop
use Rattle.suifvm_machine.specs.declared.machine.StepResult.{StepResult}
use Rattle.suifvm_machine.specs.declared.machine.StepResult.TheVariants as turn
use Rattle.suifvm_machine.specs.Config.{HiddenState, IsSound, Comes, TurnIs, Wrote, config_of, point_of, program_of, world_in, step_there, wrote, with_byte}
use Rattle.suifvm_machine.specs.model.Acts.{act_there, at_block}
use Rattle.suifvm_machine.specs.Tables.{block_insns}
use Rattle.suifvm_machine.proofs.Sites.{site_there}
use Rattle.suifvm_machine.proofs.Turns.{unwaited_case, turn_as, stops_there, wrote_none, fails_turn, traps_turn, exits_turn}

pub puts_turn : (m new : Machine) (d : Option ℕ) (byte : ℕ) (i : VmInsn) → Wrote m new (named_register d) (Word byte) → writes_of i ≡ named_register d → TurnIs m new (turn.Puts byte) (λ rooms h. act_there rooms m h i (Writes (Word byte ∷ []) (put_byte (world_in m h).outer byte)))
puts_turn m new d byte i w is = record {
  sound = λ goes. w.sound;
  program = λ goes. w.program;
  place = λ waits. absurd (unwaited_case waits);
  comes = λ rooms h. record {
    hidden = h;
    goes = ap (λ rs. Goes (wrote rs (Word byte ∷ []) (config_of m (with_byte byte h)))) is ∙ sym (ap (λ k. Goes k) (w.config (with_byte byte h)));
    same = record { input = refl; takings = refl; output = refl };
  };
}

pub takes_turn_to : (m : Machine) (d : Option ℕ) (i : VmInsn) → IsSound m → m.here.at < length m.here.row.now.insns.items → writes_of i ≡ named_register d → TurnIs m m (turn.Takes d) (λ rooms h. act_there rooms m h i (Writes (Word (input_word (next_byte (world_in m h).outer)) ∷ []) (take_byte (world_in m h).outer)))
takes_turn_to m d i sound place is = record {
  sound = λ goes. sound;
  program = λ goes. refl;
  place = λ waits. place;
  comes = λ rooms h. record {
    hidden = h;
    goes = ap (written rooms h) is;
    same = record { input = refl; takings = refl; output = refl };
  };
}
  where
    written : Rooms → HiddenState → List ℕ → Next Registers
    written rooms h rs = Goes (wrote rs (Word (input_word (slice_get h.input 0)) ∷ []) (config_of m (record h { input = drop 1 h.input; takings = h.takings + 1 })))

-- ---- one step, by what stands there

module _ (rooms : Rooms) (code : Code Value Registers) where
  jump_same : (k : Config Registers) (w x : World) (s : Site Value Registers) (o : Option ℕ) → jump_to Value Registers rooms code (record k { world = w }) x s o ≡ jump_to Value Registers rooms code k x s o
  jump_same k w x s None = refl
  jump_same k w x s (Some block) = refl

  -- what an instruction does hangs on the meter that it is given, and not on the world before
  act_same : (k : Config Registers) (w : World) (meter : Meter) (s : Site Value Registers) (a : Act Value) → act_on Value Registers rooms code (record k { world = w }) meter s a ≡ act_on Value Registers rooms code k meter s a
  act_same k w meter s (Writes vs o) = refl
  act_same k w meter s (Jumps target o) = jump_same k w (whole_world o meter) s (slice_get s.targets target)
  act_same k w meter s (Calls function vs o) = refl
  act_same k w meter s (Returns vs o) = refl
  act_same k w meter s (Stops e o) = refl

abbrev pub done_there : Rooms → Machine → HiddenState → VmInsn → Next Registers
done_there rooms m h i = act_there rooms m h i (does i m.here.own (map (registers_of (drop m.here.base m.stack.items)) (reads_of i)) (world_in m h).outer)

module _ (m : Machine) (sound : IsSound m) where
  site_is : (o : Option VmInsn) → slice_get (block_insns m.here.row.now) m.here.at ≡ o → (vm_code (program_of m)).site (point_of m.here) ≡ Some (site_or_next m.here.block o)
  site_is o is =
      site_there m.program.now m.here.function m.here.table.now sound.here.table m.here.block m.here.at m.here.row.now sound.here.row
      ∙ ap (λ x. Some (site_or_next m.here.block x)) is

  -- behind the last instruction of a block the next one follows
  pub step_past : (new : Machine) (r : StepResult) (block : ℕ) → slice_get (block_insns m.here.row.now) m.here.at ≡ None → block ≡ m.here.block + 1 → TurnIs m new r (λ rooms h. Goes (at_block block (config_of m h))) → TurnIs m new r (λ rooms h. step_there rooms m h)
  step_past new r block is next t =
      turn_as m new r (λ rooms h. Goes (at_block block (config_of m h))) (λ rooms h. step_there rooms m h)
      (λ rooms h. ap (λ b. Goes (at_block b (config_of m h))) (next ∙ add-one m.here.block)
      ∙ sym (ap (step_at Value Registers rooms (vm_code (program_of m)) (config_of m h)) (site_is None is))) t

  pub step_plain : (new : Machine) (r : StepResult) (i : VmInsn) → slice_get (block_insns m.here.row.now) m.here.at ≡ Some i → takes_turn i ≡ false → TurnIs m new r (λ rooms h. done_there rooms m h i) → TurnIs m new r (λ rooms h. step_there rooms m h)
  step_plain new r i is plain t =
      turn_as m new r (λ rooms h. done_there rooms m h i) (λ rooms h. step_there rooms m h)
      (λ rooms h. sym (
      ap (step_at Value Registers rooms (vm_code (program_of m)) (config_of m h)) (site_is (Some i) is)
      ∙ ap (λ b. step_with Value Registers rooms (vm_code (program_of m)) (config_of m h) (insn_site i) (turn_if b (world_in m h).meter)) plain)) t

  pub step_over : (i : VmInsn) → slice_get (block_insns m.here.row.now) m.here.at ≡ Some i → takes_turn i ≡ true → m.turns ≡ 0 → TurnIs m m (turn.Over stop.Budget) (λ rooms h. step_there rooms m h)
  step_over i is takes none =
      stops_there m stop.Budget (λ rooms h. step_there rooms m h) (λ rooms h.
      ap (step_at Value Registers rooms (vm_code (program_of m)) (config_of m h)) (site_is (Some i) is)
      ∙ ap (λ b. step_with Value Registers rooms (vm_code (program_of m)) (config_of m h) (insn_site i) (turn_if b (world_in m h).meter)) takes
      ∙ ap (λ t. step_with Value Registers rooms (vm_code (program_of m)) (config_of m h) (insn_site i) (turn_from t (world_in m h).meter)) none)

  pub step_taken : (mid new : Machine) (r : StepResult) (i : VmInsn) → slice_get (block_insns m.here.row.now) m.here.at ≡ Some i → takes_turn i ≡ true → 0 < m.turns → mid ≡ record m { turns = m.turns - 1 } → TurnIs mid new r (λ rooms h. done_there rooms mid h i) → TurnIs m new r (λ rooms h. step_there rooms m h)
  step_taken mid new r i is takes some mid_is t =
      taken (subst (λ (x : Machine). TurnIs x new r (λ rooms h. done_there rooms x h i)) mid_is t)
    where
      less : Machine
      less = record m { turns = m.turns - 1 }

      more : m.turns ≡ suc (m.turns - 1)
      more = omega (arith, some)

      taken : TurnIs less new r (λ rooms h. done_there rooms less h i) → TurnIs m new r (λ rooms h. step_there rooms m h)
      taken u = record {
        sound = u.sound;
        program = u.program;
        place = u.place;
        comes = λ rooms h. subst (Comes rooms m.program.now r new h) (
            act_same rooms (vm_code (program_of m)) (config_of m h) (world_in less h) (world_in less h).meter (insn_site i) (does i m.here.own (map (registers_of (drop m.here.base m.stack.items)) (reads_of i)) (world_in m h).outer)
            ∙ sym (
            ap (step_at Value Registers rooms (vm_code (program_of m)) (config_of m h)) (site_is (Some i) is)
            ∙ ap (λ b. step_with Value Registers rooms (vm_code (program_of m)) (config_of m h) (insn_site i) (turn_if b (world_in m h).meter)) takes
            ∙ ap (λ n. step_with Value Registers rooms (vm_code (program_of m)) (config_of m h) (insn_site i) (turn_from n (world_in m h).meter)) more)) (u.comes rooms h);
      }

-- ---- what an instruction does, by its parts

abbrev pub acts : Machine → VmInsn → (Outer → Act Value) → Rooms → HiddenState → Next Registers
acts m i act rooms h = act_there rooms m h i (act (world_in m h).outer)

-- the same done another way
as_act : (m new : Machine) (r : StepResult) (i : VmInsn) (a b : Outer → Act Value) → ((o : Outer) → a o ≡ b o) → TurnIs m new r (acts m i a) → TurnIs m new r (acts m i b)
as_act m new r i a b same t = turn_as m new r (acts m i a) (acts m i b) (λ rooms h. ap (act_there rooms m h i) (same (world_in m h).outer)) t

pub put_word : (m new : Machine) (d : Option ℕ) (n byte : ℕ) (value : Value) (i : VmInsn) → value ≡ Word n → byte ≡ n % 256 → Wrote m new (named_register d) (Word (n % 256)) → writes_of i ≡ named_register d → TurnIs m new (turn.Puts byte) (λ rooms h. act_there rooms m h i (puts_char value (world_in m h).outer))
put_word m new d n byte value i is byte_is w written =
    subst (λ k. TurnIs m new (turn.Puts k) (acts m i (puts_char value))) (sym byte_is)
    (as_act m new (turn.Puts (n % 256)) i (puts_char (Word n)) (puts_char value) (λ o. ap (λ v. puts_char v o) (sym is)) (puts_turn m new d (n % 256) i w written))

pub put_address : (m : Machine) (r : StepResult) (p : Ptr) (value : Value) (i : VmInsn) → value ≡ Address p → IsSound m → r ≡ turn.Over (stop.Undefined (m.here.row.now.first + m.here.at)) → TurnIs m m r (λ rooms h. act_there rooms m h i (puts_char value (world_in m h).outer))
put_address m r p value i is sound failed = as_act m m r i (puts_char (Address p)) (puts_char value) (λ o. ap (λ v. puts_char v o) (sym is)) (fails_turn m r i sound failed)

pub put_unset : (m : Machine) (r : StepResult) (value : Value) (i : VmInsn) → value ≡ Unset → IsSound m → r ≡ turn.Over (stop.Undefined (m.here.row.now.first + m.here.at)) → TurnIs m m r (λ rooms h. act_there rooms m h i (puts_char value (world_in m h).outer))
put_unset m r value i is sound failed = as_act m m r i (puts_char Unset) (puts_char value) (λ o. ap (λ v. puts_char v o) (sym is)) (fails_turn m r i sound failed)

pub exit_word : (m : Machine) (n status : ℕ) (value : Value) (i : VmInsn) → value ≡ Word n → status ≡ n % 256 → TurnIs m m (turn.Over (stop.Exits status)) (λ rooms h. act_there rooms m h i (exits_with value (world_in m h).outer))
exit_word m n status value i is status_is =
    subst (λ k. TurnIs m m (turn.Over (stop.Exits k)) (acts m i (exits_with value))) (sym status_is)
    (as_act m m (turn.Over (stop.Exits (n % 256))) i (exits_with (Word n)) (exits_with value) (λ o. ap (λ v. exits_with v o) (sym is)) (exits_turn m (n % 256) i))

pub exit_address : (m : Machine) (r : StepResult) (p : Ptr) (value : Value) (i : VmInsn) → value ≡ Address p → IsSound m → r ≡ turn.Over (stop.Undefined (m.here.row.now.first + m.here.at)) → TurnIs m m r (λ rooms h. act_there rooms m h i (exits_with value (world_in m h).outer))
exit_address m r p value i is sound failed = as_act m m r i (exits_with (Address p)) (exits_with value) (λ o. ap (λ v. exits_with v o) (sym is)) (fails_turn m r i sound failed)

pub exit_unset : (m : Machine) (r : StepResult) (value : Value) (i : VmInsn) → value ≡ Unset → IsSound m → r ≡ turn.Over (stop.Undefined (m.here.row.now.first + m.here.at)) → TurnIs m m r (λ rooms h. act_there rooms m h i (exits_with value (world_in m h).outer))
exit_unset m r value i is sound failed = as_act m m r i (exits_with Unset) (exits_with value) (λ o. ap (λ v. exits_with v o) (sym is)) (fails_turn m r i sound failed)

-- ---- calls of built-in functions

pub builtin_put : (m new : Machine) (r : StepResult) (i : VmInsn) (builtin : VmBuiltin) (vs : List Value) (value : Value) → builtin ≡ PutChar → value ≡ first_source vs → TurnIs m new r (λ rooms h. act_there rooms m h i (puts_char value (world_in m h).outer)) → TurnIs m new r (λ rooms h. act_there rooms m h i (builtin_act builtin vs (world_in m h).outer))
builtin_put m new r i builtin vs value is value_is t = as_act m new r i (puts_char value) (builtin_act builtin vs) (λ o. ap (λ v. puts_char v o) value_is ∙ ap (λ b. builtin_act b vs o) (sym is)) t

pub builtin_exit : (m new : Machine) (r : StepResult) (i : VmInsn) (builtin : VmBuiltin) (vs : List Value) (value : Value) → builtin ≡ Exit → value ≡ first_source vs → TurnIs m new r (λ rooms h. act_there rooms m h i (exits_with value (world_in m h).outer)) → TurnIs m new r (λ rooms h. act_there rooms m h i (builtin_act builtin vs (world_in m h).outer))
builtin_exit m new r i builtin vs value is value_is t = as_act m new r i (exits_with value) (builtin_act builtin vs) (λ o. ap (λ v. exits_with v o) value_is ∙ ap (λ b. builtin_act b vs o) (sym is)) t

pub builtin_get : (m : Machine) (d : Option ℕ) (i : VmInsn) (builtin : VmBuiltin) (vs : List Value) → builtin ≡ GetChar → IsSound m → m.here.at < length m.here.row.now.insns.items → writes_of i ≡ named_register d → TurnIs m m (turn.Takes d) (λ rooms h. act_there rooms m h i (builtin_act builtin vs (world_in m h).outer))
builtin_get m d i builtin vs is sound place written = as_act m m (turn.Takes d) i (builtin_act GetChar vs) (builtin_act builtin vs) (λ o. ap (λ b. builtin_act b vs o) (sym is)) (takes_turn_to m d i sound place written)

pub builtin_abort : (m : Machine) (i : VmInsn) (builtin : VmBuiltin) (vs : List Value) → builtin ≡ Abort → TurnIs m m (turn.Over (stop.Traps 2)) (λ rooms h. act_there rooms m h i (builtin_act builtin vs (world_in m h).outer))
builtin_abort m i builtin vs is = as_act m m (turn.Over (stop.Traps 2)) i (builtin_act Abort vs) (builtin_act builtin vs) (λ o. ap (λ b. builtin_act b vs o) (sym is)) (traps_turn m 2 i)

-- ---- calls

abbrev call_if : VmCallee → List Value → Bool → Outer → Act Value
call_if callee vs b o = if b then callee_act callee vs o else fails o

pub call_unset : (m : Machine) (r : StepResult) (i : VmInsn) (callee : VmCallee) (vs : List Value) → list_all is_set vs ≡ false → IsSound m → r ≡ turn.Over (stop.Undefined (m.here.row.now.first + m.here.at)) → TurnIs m m r (λ rooms h. act_there rooms m h i (call_act callee vs (world_in m h).outer))
call_unset m r i callee vs unset sound failed = as_act m m r i fails (call_act callee vs) (λ o. ap (λ b. call_if callee vs b o) (sym unset)) (fails_turn m r i sound failed)

pub call_function : (m new : Machine) (r : StepResult) (i : VmInsn) (callee : VmCallee) (k : ℕ) (vs : List Value) → callee ≡ c.Function k → list_all is_set vs ≡ true → TurnIs m new r (λ rooms h. act_there rooms m h i (Calls k vs (world_in m h).outer)) → TurnIs m new r (λ rooms h. act_there rooms m h i (call_act callee vs (world_in m h).outer))
call_function m new r i callee k vs is set t = as_act m new r i (Calls k vs) (call_act callee vs) (λ o. ap (λ x. callee_act x vs o) (sym is) ∙ ap (λ b. call_if callee vs b o) (sym set)) t

pub call_builtin : (m new : Machine) (r : StepResult) (i : VmInsn) (callee : VmCallee) (builtin : VmBuiltin) (vs : List Value) → callee ≡ c.Builtin builtin → list_all is_set vs ≡ true → TurnIs m new r (λ rooms h. act_there rooms m h i (builtin_act builtin vs (world_in m h).outer)) → TurnIs m new r (λ rooms h. act_there rooms m h i (call_act callee vs (world_in m h).outer))
call_builtin m new r i callee builtin vs is set t = as_act m new r i (builtin_act builtin vs) (call_act callee vs) (λ o. ap (λ x. callee_act x vs o) (sym is) ∙ ap (λ b. call_if callee vs b o) (sym set)) t

-- ---- returns

pub return_none : (m new : Machine) (r : StepResult) (i : VmInsn) (value : Option TypedRegister) (rs : Registers) → value ≡ None → TurnIs m new r (λ rooms h. act_there rooms m h i (Returns [] (world_in m h).outer)) → TurnIs m new r (λ rooms h. act_there rooms m h i (return_act value (map rs (returned_register value)) (world_in m h).outer))
return_none m new r i value rs is t = as_act m new r i (Returns []) (λ o. return_act value (map rs (returned_register value)) o) (λ o. ap (λ x. return_act x (map rs (returned_register x)) o) (sym is)) t

pub return_some : (m new : Machine) (r : StepResult) (i : VmInsn) (value : Option TypedRegister) (typed : TypedRegister) (rs : Registers) → value ≡ Some typed → TurnIs m new r (λ rooms h. act_there rooms m h i (return_act (Some typed) (rs typed.register ∷ []) (world_in m h).outer)) → TurnIs m new r (λ rooms h. act_there rooms m h i (return_act value (map rs (returned_register value)) (world_in m h).outer))
return_some m new r i value typed rs is t = as_act m new r i (λ o. return_act (Some typed) (rs typed.register ∷ []) o) (λ o. return_act value (map rs (returned_register value)) o) (λ o. ap (λ x. return_act x (map rs (returned_register x)) o) (sym is)) t

abbrev return_if : Value → Bool → Outer → Act Value
return_if v b o = if b then Returns (v ∷ []) o else fails o

pub return_value : (m new : Machine) (r : StepResult) (i : VmInsn) (typed : TypedRegister) (v w : Value) → v ≡ w → is_value_of typed.ty v ≡ true → TurnIs m new r (λ rooms h. act_there rooms m h i (Returns (v ∷ []) (world_in m h).outer)) → TurnIs m new r (λ rooms h. act_there rooms m h i (return_act (Some typed) (w ∷ []) (world_in m h).outer))
return_value m new r i typed v w is ok t = as_act m new r i (Returns (v ∷ [])) (return_act (Some typed) (w ∷ [])) (λ o.
    ap (λ b. return_if v b o) (sym ok) ∙ ap (λ x. return_if x (is_value_of typed.ty x) o) is) t

pub return_failure : (m : Machine) (r : StepResult) (i : VmInsn) (typed : TypedRegister) (v w : Value) → v ≡ w → is_value_of typed.ty v ≡ false → IsSound m → r ≡ turn.Over (stop.Undefined (m.here.row.now.first + m.here.at)) → TurnIs m m r (λ rooms h. act_there rooms m h i (return_act (Some typed) (w ∷ []) (world_in m h).outer))
return_failure m r i typed v w is bad sound failed = as_act m m r i fails (return_act (Some typed) (w ∷ [])) (λ o.
    ap (λ b. return_if v b o) (sym bad) ∙ ap (λ x. return_if x (is_value_of typed.ty x) o) is) (fails_turn m r i sound failed)

-- ---- branches

pub advanced : (m new : Machine) (i : VmInsn) → IsSound m → m.here.at < length m.here.row.now.insns.items → new ≡ record m { here = record m.here { at = m.here.at + 1 } } → writes_of i ≡ [] → TurnIs m new turn.Goes (λ rooms h. act_there rooms m h i (Writes [] (world_in m h).outer))
advanced m new i sound place is none =
    let w : Wrote m new [] Unset = wrote_none m new Unset sound place is in record {
      sound = λ goes. w.sound;
      program = λ goes. w.program;
      place = λ waits. absurd (unwaited_case waits);
      comes = λ rooms h. record {
        hidden = h;
        goes = ap (λ rs. Goes (wrote rs [] (config_of m h))) none ∙ sym (ap (λ k. Goes k) (w.config h));
        same = record { input = refl; takings = refl; output = refl };
      };
    }

abbrev branch_if : Bool → Outer → Act Value
branch_if b o = if b then Jumps 0 o else Writes [] o

pub branch_failure : (m : Machine) (r : StepResult) (i : VmInsn) (op : VmBranchOp) (test : Option Bool) → test ≡ None → IsSound m → r ≡ turn.Over (stop.Undefined (m.here.row.now.first + m.here.at)) → TurnIs m m r (λ rooms h. act_there rooms m h i (branches op test (world_in m h).outer))
branch_failure m r i op test is sound failed = as_act m m r i fails (branches op test) (λ o. ap (λ x. branches op x o) (sym is)) (fails_turn m r i sound failed)

pub jumped_turn : (m new : Machine) (r : StepResult) (i : VmInsn) (block : ℕ) → targets_of i ≡ block ∷ [] → writes_of i ≡ [] → TurnIs m new r (λ rooms h. Goes (at_block block (config_of m h))) → TurnIs m new r (λ rooms h. act_there rooms m h i (Jumps 0 (world_in m h).outer))
jumped_turn m new r i block target none t = turn_as m new r (λ rooms h. Goes (at_block block (config_of m h))) (acts m i (Jumps 0)) (λ rooms h.
    ap (λ rs. moved rooms h (set_registers rs [] (registers_of (drop m.here.base m.stack.items)))) (sym none)
    ∙ ap (λ ts. jump_to Value Registers rooms (vm_code (program_of m)) (config_of m h) (world_in m h) (insn_site i) (slice_get ts 0)) (sym target)) t
  where
    moved : Rooms → HiddenState → Registers → Next Registers
    moved rooms h store = Goes (record {
      here = record { point = record { function = m.here.function; block = block; at = 0 }; own = m.here.own; store = store };
      callers = (config_of m h).callers;
      world = world_in m h;
    })

pub branch_taken : (m new : Machine) (r : StepResult) (i : VmInsn) (op : VmBranchOp) (test : Option Bool) (b : Bool) (block : ℕ) → test ≡ Some b → is_branch_taken op b ≡ true → targets_of i ≡ block ∷ [] → writes_of i ≡ [] → TurnIs m new r (λ rooms h. Goes (at_block block (config_of m h))) → TurnIs m new r (λ rooms h. act_there rooms m h i (branches op test (world_in m h).outer))
branch_taken m new r i op test b block is taken target none t = as_act m new r i (Jumps 0) (branches op test) (λ o. ap (λ x. branch_if x o) (sym taken) ∙ ap (λ x. branches op x o) (sym is)) (jumped_turn m new r i block target none t)

pub branch_passed : (m new : Machine) (i : VmInsn) (op : VmBranchOp) (test : Option Bool) (b : Bool) → test ≡ Some b → is_branch_taken op b ≡ false → IsSound m → m.here.at < length m.here.row.now.insns.items → new ≡ record m { here = record m.here { at = m.here.at + 1 } } → writes_of i ≡ [] → TurnIs m new turn.Goes (λ rooms h. act_there rooms m h i (branches op test (world_in m h).outer))
branch_passed m new i op test b is passed sound place new_is none = as_act m new turn.Goes i (Writes []) (branches op test) (λ o. ap (λ x. branch_if x o) (sym passed) ∙ ap (λ x. branches op x o) (sym is)) (advanced m new i sound place new_is none)

-- ---- an instruction

pub done_as : (m new : Machine) (r : StepResult) (insn i : VmInsn) (a : Outer → Act Value) → insn ≡ i → ((o : Outer) → o.memory ≡ m.memory → a o ≡ does i m.here.own (map (registers_of (drop m.here.base m.stack.items)) (reads_of i)) o) → TurnIs m new r (λ rooms h. act_there rooms m h i (a (world_in m h).outer)) → TurnIs m new r (λ rooms h. act_there rooms m h insn (does insn m.here.own (map (registers_of (drop m.here.base m.stack.items)) (reads_of insn)) (world_in m h).outer))
done_as m new r insn i a is same t =
    subst (λ x. TurnIs m new r (λ rooms h. done_there rooms m h x)) (sym is)
    (turn_as m new r (acts m i a) (λ rooms h. done_there rooms m h i) (λ rooms h. ap (act_there rooms m h i) (same (world_in m h).outer refl)) t)
