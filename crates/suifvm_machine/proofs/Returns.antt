-- What a return comes to.
use Rattle.std.proofs.Common.{◌≡◌, ℕ, suc, ◌+◌, ◌-◌, ◌<◌, List, [], ◌∷◌, ◌++◌, take, drop, map, length, get_or, reverse, Bool, true, false, Option, Some, None, refl, sym, ap, ◌∙◌, subst}
use Rattle.std.specs.Prelude.{slice_get, option_map}
use Rattle.std.proofs.lemmas.Option.{slice_get-map, slice_get_read}
use Rattle.std.proofs.lemmas.List.{reverse-append, length-map}
use Rattle.mem_model.specs.declared.value.Value.{Value}
use Rattle.mem_model.specs.Memory.{Memory, end_objects}
use Rattle.mem_model.specs.World.{World, Rooms, room_of}
use Rattle.mem_model.proofs.Objects.{ends_change}
use Rattle.machine_model.specs.Code.{Code, Returns}
use Rattle.machine_model.specs.Machine.{Frame, Next, Goes, Over, go_on, status_ending, resume, return_to}
use Rattle.pass_core.specs.declared.function.MemoryLocal.{MemoryLocal}
use Rattle.suifvm_ir.specs.declared.insn.VmInsn.{VmInsn}
use Rattle.suifvm_ir.specs.Insns.{writes_of, named_register}
use Rattle.suifvm_meaning.specs.Behave.{Registers, registers_of, set_registers, first_or_unset, value_status, sizes_in, insn_site, site_or_next, vm_code}
use Rattle.suifvm_machine.specs.declared.machine.Machine.{Machine}
use Rattle.suifvm_machine.specs.declared.machine.Stop.{Stop}
use Rattle.suifvm_machine.specs.declared.machine.StepResult.TheVariants as turn
use Rattle.suifvm_machine.specs.Config.{HiddenState, Wait, IsSound, TurnIs, Wrote, config_of, frame_of_call, frames_of, point_of, program_of, world_in, wrote, ending_by}
use Rattle.suifvm_machine.specs.model.Acts.{act_there, ends_with}
use Rattle.suifvm_machine.specs.Tables.{block_insns}
use Rattle.suifvm_operations.specs.Tidy.{MemoryIsTidy}
use Rattle.suifvm_machine.proofs.Sites.{sizes_are, site_there}
use Rattle.suifvm_machine.proofs.Turns.{number_here}

same_status : (rooms : Rooms) (c : Code Value Registers) (at : ℕ) (w : World) (o : Option ℕ) → status_ending Value Registers rooms c at w o ≡ ends_with at w o
same_status rooms c at w None = refl
same_status rooms c at w (Some status) = refl

-- a register that is written gets the first value alone
first_alone : (d : Option ℕ) (vs : List Value) (v : Value) (rs : Registers) → v ≡ first_or_unset vs → set_registers (named_register d) vs rs ≡ set_registers (named_register d) (v ∷ []) rs
first_alone None vs v rs is = refl
first_alone (Some r) vs v rs is = ap (λ x. set_registers (r ∷ []) (x ∷ []) rs) (sym is)

-- the instruction that stands at a place
pub there_is : {R : Type 0} (xs : List R) (now : R → VmInsn) (at : ℕ) (r : R) → at < length xs → r ≡ get_or xs at r → slice_get (map now xs) at ≡ Some (now r)
there_is xs now at r within read = slice_get-map now xs at ∙ ap (option_map now) (slice_get_read xs (length xs) at r refl within read)

-- how many objects a function has
local_count : (m : Machine) → IsSound m → length (sizes_in (slice_get (program_of m) m.here.function)) ≡ length m.here.table.now.objects.now
local_count m sound =
    ap length (sizes_are m.program.now m.here.function m.here.table.now sound.here.table) ∙ length-map m.here.table.now.objects.now (λ (o : MemoryLocal). o.size)

abbrev left : Rooms → Machine → HiddenState → HiddenState
left rooms m h = record h { room = h.room - room_of rooms m.here.function }

-- the world after a return whose objects have ended
abbrev world_left : Rooms → Machine → Memory → HiddenState → World
world_left rooms m objects h = record {
  outer = record { memory = objects; input = h.input; takings = h.takings; output = h.output };
  meter = record { turns = m.turns; room = h.room - room_of rooms m.here.function; peak = h.peak };
}

ended_by : (m : Machine) → IsSound m → (rooms : Rooms) (h : HiddenState) (i : VmInsn) (vs : List Value) → act_there rooms m h i (Returns vs (world_in m h).outer) ≡ return_to Value Registers rooms (vm_code (program_of m)) (m.here.row.now.first + m.here.at) vs (world_left rooms m (end_objects m.memory m.here.own (length m.here.table.now.objects.now)) h) (frames_of (reverse m.callers.items) (take m.here.base m.stack.items))
ended_by m sound rooms h i vs =
    ap (λ n. return_to Value Registers rooms (vm_code (program_of m)) n vs (world_left rooms m (end_objects m.memory m.here.own (length (sizes_in (slice_get (program_of m) m.here.function)))) h) (frames_of (reverse m.callers.items) (take m.here.base m.stack.items))) (number_here m sound)
    ∙ ap (λ k. return_to Value Registers rooms (vm_code (program_of m)) (m.here.row.now.first + m.here.at) vs (world_left rooms m (end_objects m.memory m.here.own k) h) (frames_of (reverse m.callers.items) (take m.here.base m.stack.items))) (local_count m sound)

-- the first function returns
pub finished_run : (m new : Machine) (i : VmInsn) (vs : List Value) (v : Value) (number : ℕ) (s : Stop) → IsSound m → m.callers.items ≡ [] → number ≡ m.here.row.now.first + m.here.at → ((w : World) → ending_by s w ≡ ends_with number w (value_status v)) → v ≡ first_or_unset vs → TurnIs m new (turn.Over s) (λ rooms h. act_there rooms m h i (Returns vs (world_in m h).outer))
finished_run m new i vs v number s sound none number_is status is = record {
  sound = λ goes. absurd (clash goes);
  program = λ goes. absurd (clash goes);
  place = λ takes. absurd (clash takes);
  comes = λ rooms h. record {
    steps = 0;
    last = w rooms h;
    over = ap (λ x. go_on x (λ k. Goes k)) (
        ended_by m sound rooms h i vs
        ∙ ap (λ cs. return_to Value Registers rooms (vm_code (program_of m)) (m.here.row.now.first + m.here.at) vs (w rooms h) (frames_of cs (take m.here.base m.stack.items))) (ap reverse none)
        ∙ ap (λ e. Over e) (
        same_status rooms (vm_code (program_of m)) (m.here.row.now.first + m.here.at) (w rooms h) (value_status (first_or_unset vs))
        ∙ ap (λ x. ends_with (m.here.row.now.first + m.here.at) (w rooms h) (value_status x)) (sym is)
        ∙ ap (λ n. ends_with n (w rooms h) (value_status v)) (sym number_is)
        ∙ sym (status (w rooms h))));
    shows = record { input = refl; takings = refl; output = refl };
  };
}
  where
    w : Rooms → HiddenState → World
    w rooms h = world_left rooms m (end_objects m.memory m.here.own (length m.here.table.now.objects.now)) h

    clash : (let b : Bool = false in b ≡ true) → ⊥
    clash h = cc

module _ (m mid : Machine) (sound : IsSound m)
    (callers : m.callers.items ≡ mid.callers.items ++ mid.here ∷ [])
    (stack : mid.stack.items ≡ take m.here.base m.stack.items)
    (memory : mid.memory ≡ end_objects m.memory m.here.own (length m.here.table.now.objects.now))
    (tidy : MemoryIsTidy mid.memory)
    (only : mid ≡ record m { memory = mid.memory; callers = mid.callers; stack = mid.stack; here = mid.here })
  where
    waiting : reverse m.callers.items ≡ mid.here ∷ reverse mid.callers.items
    waiting = ap reverse callers ∙ reverse-append mid.callers.items (mid.here ∷ [])

    wait : Wait m.program.now (mid.here ∷ reverse mid.callers.items) mid.stack.items
    wait = subst (Wait m.program.now (mid.here ∷ reverse mid.callers.items)) (sym stack) (subst (λ cs. Wait m.program.now cs (take m.here.base m.stack.items)) waiting sound.callers)

    pub back_sound : IsSound mid
    back_sound = subst IsSound (sym only) (record {
      numbers = sound.numbers;
      memory = tidy;
      made = sound.made ∙ sym (ap length memory ∙ (ends_change m.memory m.here.own (length m.here.table.now.objects.now)).count_is);
      few = sound.few;
      within = wait.2;
      here = wait.0;
      callers = wait.3;
    })

    pub back_place : mid.here.at < length mid.here.row.now.insns.items
    back_place = wait.1

    -- the call that waits goes on
    pub returned_call : (new : Machine) (i j : VmInsn) (vs : List Value) (v : Value) (d : Option ℕ) → slice_get (block_insns mid.here.row.now) mid.here.at ≡ Some j → writes_of j ≡ named_register d → v ≡ first_or_unset vs → Wrote mid new (named_register d) v → TurnIs m new turn.Goes (λ rooms h. act_there rooms m h i (Returns vs (world_in m h).outer))
    returned_call new i j vs v d there written is w = record {
      sound = λ goes. w.sound;
      program = λ goes. w.program ∙ ap (λ (x : Machine). x.program.now) only;
      place = λ takes. absurd (clash takes);
      comes = λ rooms h. record { hidden = left rooms m h; goes = goes rooms h; same = record { input = refl; takings = refl; output = refl } };
    }
      where
        clash : (let b : Bool = false in b ≡ true) → ⊥
        clash h = cc

        fs : List (Frame Registers)
        fs = frames_of (reverse mid.callers.items) (take mid.here.base mid.stack.items)

        store : Registers
        store = registers_of (drop mid.here.base mid.stack.items)

        shape : Rooms → HiddenState → Registers → Memory → Next Registers
        shape rooms h rs objects = Goes (record {
          here = record { point = record { function = mid.here.function; block = mid.here.block; at = suc mid.here.at }; own = mid.here.own; store = rs };
          callers = fs;
          world = world_left rooms m objects h;
        })

        site : (vm_code (program_of m)).site (point_of mid.here) ≡ Some (insn_site j)
        site =
            site_there m.program.now mid.here.function mid.here.table.now wait.0.table mid.here.block mid.here.at mid.here.row.now wait.0.row
            ∙ ap (λ o. Some (site_or_next mid.here.block o)) there

        goes : (rooms : Rooms) (h : HiddenState) → act_there rooms m h i (Returns vs (world_in m h).outer) ≡ Goes (config_of new (left rooms m h))
        goes rooms h =
            let objects : Memory = end_objects m.memory m.here.own (length m.here.table.now.objects.now) in
            ended_by m sound rooms h i vs
            ∙ ap (λ cs. return_to Value Registers rooms (vm_code (program_of m)) (m.here.row.now.first + m.here.at) vs (world_left rooms m objects h) (frames_of cs (take m.here.base m.stack.items))) waiting
            ∙ ap (λ xs. return_to Value Registers rooms (vm_code (program_of m)) (m.here.row.now.first + m.here.at) vs (world_left rooms m objects h) (frames_of (mid.here ∷ reverse mid.callers.items) xs)) (sym stack)
            ∙ ap (resume Value Registers rooms (vm_code (program_of m)) (frame_of_call mid.here (drop mid.here.base mid.stack.items)) fs (world_left rooms m objects h) vs) site
            ∙ ap (λ rs. shape rooms h (set_registers rs vs store) objects) written
            ∙ ap (λ rs. shape rooms h rs objects) (first_alone d vs v store is)
            ∙ ap (λ x. shape rooms h (set_registers (named_register d) (v ∷ []) store) x) (sym memory)
            ∙ ap (λ x. Goes (wrote (named_register d) (v ∷ []) (config_of x (left rooms m h)))) (sym only)
            ∙ sym (ap (λ k. Goes k) (w.config (left rooms m h)))
