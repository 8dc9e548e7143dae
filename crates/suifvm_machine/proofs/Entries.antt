-- What a call of a function of the program comes to.
use Rattle.std.proofs.Common.{◌≡◌, ℕ, ◌+◌, ◌<◌, ◌≤◌, ◌^◌, max, List, [], ◌∷◌, ◌++◌, take, drop, map, length, reverse, Bool, true, false, Some, None, refl, sym, ap, ◌∙◌, subst, arith}
use Rattle.std.specs.Prelude.{slice_get}
use Rattle.std.proofs.Math.Seq.{take-append_seam, drop-append_seam}
use Rattle.std.proofs.lemmas.List.{reverse-append, length-map, length-append}
use Rattle.mem_model.specs.declared.value.Value.{Value}
use Rattle.mem_model.specs.Memory.{Memory, begin_objects}
use Rattle.mem_model.specs.World.{Rooms, room_of}
use Rattle.mem_model.specs.Ending.{Undefined}
use Rattle.mem_model.proofs.Objects.{begins_change}
use Rattle.machine_model.specs.Code.{Calls}
use Rattle.machine_model.specs.Machine.{Frame, Config, Next, Goes, Over, go_on, step_at}
use Rattle.pass_core.specs.declared.function.MemoryLocal.{MemoryLocal}
use Rattle.suifvm_ir.specs.declared.insn.VmInsn.{VmInsn}
use Rattle.suifvm_meaning.specs.Behave.{Registers, registers_of, vm_code}
use Rattle.suifvm_machine.specs.declared.machine.Call.{Call}
use Rattle.suifvm_machine.specs.declared.machine.Machine.{Machine}
use Rattle.suifvm_machine.specs.declared.machine.Stop.TheVariants as stop
use Rattle.suifvm_machine.specs.declared.machine.StepResult.TheVariants as turn
use Rattle.suifvm_machine.specs.Config.{HiddenState, Wait, IsSound, TurnIs, config_of, frame_of_call, frames_of, program_of, world_in}
use Rattle.suifvm_machine.specs.model.Acts.{act_there}
use Rattle.suifvm_operations.specs.Tidy.{MemoryIsTidy}
use Rattle.suifvm_machine.specs.declared.tables.FunctionTable.{FunctionTable}
use Rattle.suifvm_machine.proofs.Turns.{unwaited_case}
use Rattle.suifvm_machine.proofs.Sites.{sizes_are, site_past, site_missing, number_past, number_missing}

module _ (m new : Machine) (k : ℕ) (vs : List Value) (i : VmInsn) (sound : IsSound m) (place : m.here.at < length m.here.row.now.insns.items)
    (only : new ≡ record m { memory = new.memory; made = new.made; stack = new.stack; callers = new.callers; here = new.here })
    (here_is : new.here ≡ record { function = k; block = 0; at = 0; own = m.made; base = new.here.base; table = new.here.table; row = new.here.row })
    (base : new.here.base ≡ length m.stack.items)
    (table : slice_get m.program.now.functions.items k ≡ Some new.here.table.now)
    (row : slice_get new.here.table.now.blocks.items 0 ≡ Some new.here.row.now)
    (made : new.made ≡ m.made + length new.here.table.now.objects.now)
    (few : m.made + length new.here.table.now.objects.now ≤ 2 ^ 63)
    (tidy : MemoryIsTidy new.memory)
    (memory : new.memory ≡ begin_objects m.memory (map (λ o. o.size) new.here.table.now.objects.now))
    (stack : new.stack.items ≡ m.stack.items ++ vs)
    (callers : new.callers.items ≡ m.callers.items ++ m.here ∷ [])
  where
    abbrev c : Call
    c = record { function = k; block = 0; at = 0; own = m.made; base = length m.stack.items; table = new.here.table; row = new.here.row }

    abbrev target : Machine
    target = record m { memory = new.memory; made = new.made; stack = new.stack; callers = new.callers; here = c }

    is_target : new ≡ target
    is_target =
        only
        ∙ ap (λ x. record m { memory = new.memory; made = new.made; stack = new.stack; callers = new.callers; here = x }) here_is
        ∙ ap (λ b. record m { memory = new.memory; made = new.made; stack = new.stack; callers = new.callers; here = record { function = k; block = 0; at = 0; own = m.made; base = b; table = new.here.table; row = new.here.row } }) base

    waiting : reverse new.callers.items ≡ m.here ∷ reverse m.callers.items
    waiting = ap reverse callers ∙ reverse-append m.callers.items (m.here ∷ [])

    below : take (length m.stack.items) new.stack.items ≡ m.stack.items
    below = ap (take (length m.stack.items)) stack ∙ take-append_seam m.stack.items vs

    window : drop (length m.stack.items) new.stack.items ≡ vs
    window = ap (drop (length m.stack.items)) stack ∙ drop-append_seam m.stack.items vs

    count : new.made ≡ length new.memory
    count =
        let began = (begins_change m.memory (map (λ (o : MemoryLocal). o.size) new.here.table.now.objects.now)).count in
        let sizes : length (map (λ (o : MemoryLocal). o.size) new.here.table.now.objects.now) ≡ length new.here.table.now.objects.now = length-map new.here.table.now.objects.now (λ (o : MemoryLocal). o.size) in
        made ∙ ap (λ n. n + length new.here.table.now.objects.now) sound.made ∙ ap (λ n. length m.memory + n) (sym sizes)
        ∙ sym began ∙ sym (ap length memory)

    target_sound : IsSound target
    target_sound = record {
      numbers = sound.numbers;
      memory = tidy;
      made = count;
      few = subst (λ n. n ≤ 2 ^ 63) (sym made) few;
      within = longer;
      here = record { table = table; row = row; place = omega arith; own = few };
      callers = subst (λ cs. Wait m.program.now cs (take (length m.stack.items) new.stack.items)) (sym waiting)
          (subst (Wait m.program.now (m.here ∷ reverse m.callers.items)) (sym below) (sound.here, place, sound.within, sound.callers));
    }
      where
        longer : length m.stack.items ≤ length new.stack.items
        longer = let len = ap length stack ∙ length-append m.stack.items vs in omega (arith, len)

    abbrev after : Rooms → HiddenState → HiddenState
    after rooms h = record h { room = h.room + room_of rooms k; peak = max h.peak (h.room + room_of rooms k) }

    abbrev shape : Rooms → HiddenState → ℕ → Registers → List (Frame Registers) → Memory → Config Registers
    shape rooms h own store fs objects = record {
      here = record { point = record { function = k; block = 0; at = 0 }; own = own; store = store };
      callers = fs;
      world = record {
        outer = record { memory = objects; input = h.input; takings = h.takings; output = h.output };
        meter = record { turns = m.turns; room = h.room + room_of rooms k; peak = max h.peak (h.room + room_of rooms k) };
      };
    }

    abbrev waiting_frames : List (Frame Registers)
    waiting_frames = frame_of_call m.here (drop m.here.base m.stack.items) ∷ frames_of (reverse m.callers.items) (take m.here.base m.stack.items)

    goes : (rooms : Rooms) (h : HiddenState) → act_there rooms m h i (Calls k vs (world_in m h).outer) ≡ Goes (config_of target (after rooms h))
    goes rooms h =
        sym (ap (λ x. Goes x) (
        ap (λ own. shape rooms h own (registers_of (drop (length m.stack.items) new.stack.items)) (frames_of (reverse new.callers.items) (take (length m.stack.items) new.stack.items)) new.memory) sound.made
        ∙ ap (λ xs. shape rooms h (length m.memory) (registers_of xs) (frames_of (reverse new.callers.items) (take (length m.stack.items) new.stack.items)) new.memory) window
        ∙ ap (λ cs. shape rooms h (length m.memory) (registers_of vs) (frames_of cs (take (length m.stack.items) new.stack.items)) new.memory) waiting
        ∙ ap (λ xs. shape rooms h (length m.memory) (registers_of vs) (frames_of (m.here ∷ reverse m.callers.items) xs) new.memory) below
        ∙ ap (λ x. shape rooms h (length m.memory) (registers_of vs) waiting_frames x) memory
        ∙ ap (λ sizes. shape rooms h (length m.memory) (registers_of vs) waiting_frames (begin_objects m.memory sizes)) (sym (sizes_are m.program.now k new.here.table.now table))))

    pub entered_call : TurnIs m new turn.Goes (λ rooms h. act_there rooms m h i (Calls k vs (world_in m h).outer))
    entered_call = subst (λ x. TurnIs m x turn.Goes (λ rooms h. act_there rooms m h i (Calls k vs (world_in m h).outer))) (sym is_target) (record {
      sound = λ goes. target_sound;
      program = λ goes. refl;
      place = λ waits. absurd (unwaited_case waits);
      comes = λ rooms h. record { hidden = after rooms h; goes = goes rooms h; same = record { input = refl; takings = refl; output = refl } };
    })

-- where a run goes on
abbrev started : Config Registers → Next Registers → Config Registers
started k (Goes x) = x
started k (Over e) = k

-- a function or block that is not there has no instruction
module _ (m new : Machine) (k : ℕ) (vs : List Value) (i : VmInsn) (sound : IsSound m) where
  pub no_function : slice_get m.program.now.functions.items k ≡ None → TurnIs m new (turn.Over (stop.Undefined m.program.now.end)) (λ rooms h. act_there rooms m h i (Calls k vs (world_in m h).outer))
  no_function none = record {
    sound = λ goes. absurd (clash goes);
    program = λ goes. absurd (clash goes);
    place = λ waits. absurd (unwaited_case waits);
    comes = λ rooms h. record {
      steps = 1;
      last = (entry rooms h).world;
      over = ap (λ o. go_on (step_at Value Registers rooms (vm_code (program_of m)) (entry rooms h) o) (λ x. Goes x)) (site_missing m.program.now k 0 0 none)
          ∙ ap (λ n. Over (Undefined (entry rooms h).world n)) (number_missing m.program.now k none sound.numbers);
      shows = record { input = refl; takings = refl; output = refl };
    };
  }
    where
      clash : (let b : Bool = false in b ≡ true) → ⊥
      clash h = cc

      entry : Rooms → HiddenState → Config Registers
      entry rooms h = started (config_of m h) (act_there rooms m h i (Calls k vs (world_in m h).outer))

  pub no_block : (t : FunctionTable) → slice_get m.program.now.functions.items k ≡ Some t → slice_get t.blocks.items 0 ≡ None → TurnIs m new (turn.Over (stop.Undefined t.end)) (λ rooms h. act_there rooms m h i (Calls k vs (world_in m h).outer))
  no_block t there none = record {
    sound = λ goes. absurd (clash goes);
    program = λ goes. absurd (clash goes);
    place = λ waits. absurd (unwaited_case waits);
    comes = λ rooms h. record {
      steps = 1;
      last = (entry rooms h).world;
      over = ap (λ o. go_on (step_at Value Registers rooms (vm_code (program_of m)) (entry rooms h) o) (λ x. Goes x)) (site_past m.program.now k t there 0 0 none)
          ∙ ap (λ n. Over (Undefined (entry rooms h).world n)) (number_past m.program.now k t there sound.numbers 0 none);
      shows = record { input = refl; takings = refl; output = refl };
    };
  }
    where
      clash : (let b : Bool = false in b ≡ true) → ⊥
      clash h = cc

      entry : Rooms → HiddenState → Config Registers
      entry rooms h = started (config_of m h) (act_there rooms m h i (Calls k vs (world_in m h).outer))
