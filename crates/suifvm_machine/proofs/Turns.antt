-- What a turn of the machine comes to.
use Rattle.std.proofs.Common.{◌≡◌, ℕ, suc, ◌+◌, ◌<◌, ◌≤◌, List, [], ◌∷◌, take, drop, length, reverse, Bool, true, false, Option, Some, None, refl, sym, ap, ◌∙◌, subst, arith}
use Rattle.std.specs.Prelude.{slice_get}
use Rattle.std.proofs.Math.Numerals.{add-one}
use Rattle.bk_memory.specs.Shortage.{MemoryIsShort}
use Rattle.mem_model.specs.declared.value.Value.{Value}
use Rattle.mem_model.specs.Memory.{Memory}
use Rattle.mem_model.specs.World.{Rooms}
use Rattle.machine_model.specs.Code.{Stops, Traps, Exits, HasNoMeaning, Writes}
use Rattle.mem_model.specs.Ending.{Undefined}
use Rattle.machine_model.specs.Machine.{Config, Next, Goes, Over, go_on, exec, step_at}
use Rattle.suifvm_ir.specs.declared.insn.VmInsn.{VmInsn}
use Rattle.suifvm_ir.specs.Insns.{writes_of}
use Rattle.suifvm_meaning.specs.Effect.{writes, changes}
use Rattle.suifvm_meaning.specs.declared.answer.Answer.{Answer}
use Rattle.suifvm_meaning.specs.declared.answer.Answer.TheVariants.{Gives, TrapsWith, Fails}
use Rattle.suifvm_meaning.specs.Behave.{Registers, registers_of, set_register, set_registers, point_number, vm_code}
use Rattle.suifvm_machine.specs.declared.machine.Machine.{Machine}
use Rattle.suifvm_machine.specs.declared.machine.Stop.TheVariants as stop
use Rattle.suifvm_machine.specs.declared.machine.StepResult.{StepResult}
use Rattle.suifvm_machine.specs.declared.machine.StepResult.TheVariants as turn
use Rattle.suifvm_machine.specs.Config.{HiddenState, Wait, IsSound, SameTraffic, ShowsAs, Comes, TurnIs, Wrote, config_of, world_in, frames_of, point_of, program_of, ending_by, wrote}
use Rattle.suifvm_machine.specs.model.Acts.{act_there, at_block}
use Rattle.suifvm_operations.specs.Tidy.{MemoryIsTidy}
use Rattle.suifvm_machine.proofs.Sites.{number_there, number_past, site_past}

pub unwaited_case : (let b : Bool = false in b ≡ true) → ⊥
unwaited_case h = cc

same_traffic : (h : HiddenState) → SameTraffic h h
same_traffic h = record { input = refl; takings = refl; output = refl }

shows : (m : Machine) (h : HiddenState) → ShowsAs (world_in m h) h
shows m h = record { input = refl; takings = refl; output = refl }

pub turn_as : (old new : Machine) (r : StepResult) (f g : Rooms → HiddenState → Next Registers) → ((rooms : Rooms) (h : HiddenState) → f rooms h ≡ g rooms h) → TurnIs old new r f → TurnIs old new r g
turn_as old new r f g same t = record {
  sound = t.sound;
  program = t.program;
  place = t.place;
  comes = λ rooms h. subst (Comes rooms old.program.now r new h) (same rooms h) (t.comes rooms h);
}

-- ---- a value is written

module _ (m mid new : Machine) (registers : List ℕ) (v : Value) (sound : IsSound m) (place : m.here.at < length m.here.row.now.insns.items) (mid_is : mid ≡ record m { stack = mid.stack }) (new_is : new ≡ record mid { here = record mid.here { at = mid.here.at + 1 } }) (within : m.here.base ≤ length mid.stack.items) (below : take m.here.base mid.stack.items ≡ take m.here.base m.stack.items) (window : registers_of (drop m.here.base mid.stack.items) ≡ set_registers registers (v ∷ []) (registers_of (drop m.here.base m.stack.items))) where
  abbrev next : Machine
  next = record m { stack = mid.stack; here = record m.here { at = m.here.at + 1 } }

  is_next : new ≡ next
  is_next = new_is ∙ ap (λ (k : Machine). record k { here = record k.here { at = k.here.at + 1 } }) mid_is

  next_sound : IsSound next
  next_sound = record {
    numbers = sound.numbers;
    memory = sound.memory;
    made = sound.made;
    few = sound.few;
    within = within;
    here = record { table = sound.here.table; row = sound.here.row; place = omega (arith, place); own = sound.here.own };
    callers = subst (Wait m.program.now (reverse m.callers.items)) (sym below) sound.callers;
  }

  abbrev build : HiddenState → ℕ → Registers → List Value → Config Registers
  build h at store stack = record {
    here = record { point = record { function = m.here.function; block = m.here.block; at = at }; own = m.here.own; store = store };
    callers = frames_of (reverse m.callers.items) stack;
    world = world_in m h;
  }

  next_config : (h : HiddenState) → config_of next h ≡ wrote registers (v ∷ []) (config_of m h)
  next_config h =
      ap (λ at. build h at (registers_of (drop m.here.base mid.stack.items)) (take m.here.base mid.stack.items)) (add-one m.here.at)
      ∙ ap (λ store. build h (suc m.here.at) store (take m.here.base mid.stack.items)) window
      ∙ ap (λ stack. build h (suc m.here.at) (set_registers registers (v ∷ []) (registers_of (drop m.here.base m.stack.items))) stack) below

  pub wrote_both : Wrote m new registers v
  wrote_both = subst (λ (k : Machine). Wrote m k registers v) (sym is_next) (record { sound = next_sound; program = refl; config = next_config })

pub wrote_none : (m new : Machine) (v : Value) → IsSound m → m.here.at < length m.here.row.now.insns.items → new ≡ record m { here = record m.here { at = m.here.at + 1 } } → Wrote m new [] v
wrote_none m new v sound place is = wrote_both m m new [] v sound place refl is sound.within refl refl

pub wrote_some : (m mid new : Machine) (register : ℕ) (v : Value) → IsSound m → m.here.at < length m.here.row.now.insns.items → mid ≡ record m { stack = mid.stack } → new ≡ record mid { here = record mid.here { at = mid.here.at + 1 } } → m.here.base ≤ length mid.stack.items → take m.here.base mid.stack.items ≡ take m.here.base m.stack.items → registers_of (drop m.here.base mid.stack.items) ≡ set_register register v (registers_of (drop m.here.base m.stack.items)) → Wrote m new (register ∷ []) v
wrote_some m mid new register v sound place mid_is new_is within below window = wrote_both m mid new (register ∷ []) v sound place mid_is new_is within below window

-- ---- what is done with an answer

-- a value that was written is what an instruction does that writes it
pub gives_turn : (m new : Machine) (registers : List ℕ) (v : Value) (i : VmInsn) → Wrote m new registers v → writes_of i ≡ registers → TurnIs m new turn.Goes (λ rooms h. act_there rooms m h i (Writes (v ∷ []) (world_in m h).outer))
gives_turn m new registers v i w is = record {
  sound = λ goes. w.sound;
  program = λ goes. w.program;
  place = λ waits. absurd (unwaited_case waits);
  comes = λ rooms h. record {
    hidden = h;
    goes = ap (λ rs. Goes (wrote rs (v ∷ []) (config_of m h))) is ∙ sym (ap (λ k. Goes k) (w.config h));
    same = same_traffic h;
  };
}

-- a run that is over there
pub stops_there : (m : Machine) (s : _) (f : Rooms → HiddenState → Next Registers) → ((rooms : Rooms) (h : HiddenState) → f rooms h ≡ Over (ending_by s (world_in m h))) → TurnIs m m (turn.Over s) f
stops_there m s f is = record {
  sound = λ goes. absurd (clash goes);
  program = λ goes. refl;
  place = λ waits. absurd (unwaited_case waits);
  comes = λ rooms h. record {
    steps = 0;
    last = world_in m h;
    over = ap (λ next. go_on next (exec Value Registers rooms (vm_code (program_of m)) 0)) (is rooms h);
    shows = shows m h;
  };
}
  where
    clash : (let b : Bool = false in b ≡ true) → ⊥
    clash h = cc

pub traps_turn : (m : Machine) (code : ℕ) (i : VmInsn) → TurnIs m m (turn.Over (stop.Traps code)) (λ rooms h. act_there rooms m h i (Stops (Traps code) (world_in m h).outer))
traps_turn m code i = stops_there m (stop.Traps code) _ (λ rooms h. refl)

pub exits_turn : (m : Machine) (status : ℕ) (i : VmInsn) → TurnIs m m (turn.Over (stop.Exits status)) (λ rooms h. act_there rooms m h i (Stops (Exits status) (world_in m h).outer))
exits_turn m status i = stops_there m (stop.Exits status) _ (λ rooms h. refl)

-- the number of the instruction where a machine stands
pub number_here : (m : Machine) → IsSound m → point_number (program_of m) (point_of m.here) ≡ m.here.row.now.first + m.here.at
number_here m sound = number_there m.program.now m.here.function m.here.table.now sound.here.table sound.numbers m.here.block m.here.at m.here.row.now sound.here.row

pub fails_turn : (m : Machine) (r : StepResult) (i : VmInsn) → IsSound m → r ≡ turn.Over (stop.Undefined (m.here.row.now.first + m.here.at)) → TurnIs m m r (λ rooms h. act_there rooms m h i (Stops HasNoMeaning (world_in m h).outer))
fails_turn m r i sound is =
    subst (λ x. TurnIs m m x (λ rooms h. act_there rooms m h i (Stops HasNoMeaning (world_in m h).outer))) (sym is)
    (stops_there m (stop.Undefined (m.here.row.now.first + m.here.at)) (λ rooms h. act_there rooms m h i (Stops HasNoMeaning (world_in m h).outer)) (λ rooms h. ap (λ k. Over (Undefined (world_in m h) k)) (number_here m sound)))

by_answer : (m new : Machine) (r : StepResult) (i : VmInsn) (a b : Answer) → b ≡ a → TurnIs m new r (λ rooms h. act_there rooms m h i (writes a (world_in m h).outer)) → TurnIs m new r (λ rooms h. act_there rooms m h i (writes b (world_in m h).outer))
by_answer m new r i a b is t = subst (λ x. TurnIs m new r (λ rooms h. act_there rooms m h i (writes x (world_in m h).outer))) (sym is) t

pub give_value : (m new : Machine) (destination : ℕ) (v : Value) (answer : Answer) (i : VmInsn) → answer ≡ Gives v → Wrote m new (destination ∷ []) v → writes_of i ≡ destination ∷ [] → TurnIs m new turn.Goes (λ rooms h. act_there rooms m h i (writes answer (world_in m h).outer))
give_value m new destination v answer i is w written = by_answer m new turn.Goes i (Gives v) answer is (gives_turn m new (destination ∷ []) v i w written)

pub give_trap : (m : Machine) (code : ℕ) (answer : Answer) (i : VmInsn) → answer ≡ TrapsWith code → TurnIs m m (turn.Over (stop.Traps code)) (λ rooms h. act_there rooms m h i (writes answer (world_in m h).outer))
give_trap m code answer i is = by_answer m m (turn.Over (stop.Traps code)) i (TrapsWith code) answer is (traps_turn m code i)

pub give_failure : (m : Machine) (r : StepResult) (answer : Answer) (i : VmInsn) → answer ≡ Fails → IsSound m → r ≡ turn.Over (stop.Undefined (m.here.row.now.first + m.here.at)) → TurnIs m m r (λ rooms h. act_there rooms m h i (writes answer (world_in m h).outer))
give_failure m r answer i is sound failed = by_answer m m r i Fails answer is (fails_turn m r i sound failed)

pub no_memory : (m new : Machine) (f : Rooms → HiddenState → Next Registers) → MemoryIsShort → TurnIs m new turn.NoMemory f
no_memory m new f short = record {
  sound = λ goes. absurd (clash goes);
  program = λ goes. absurd (clash goes);
  place = λ waits. absurd (unwaited_case waits);
  comes = λ rooms h. short;
}
  where
    clash : (let b : Bool = false in b ≡ true) → ⊥
    clash h = cc

-- ---- a block begins

module _ (m new : Machine) (block : ℕ) (sound : IsSound m) where
  pub to_block : slice_get m.here.table.now.blocks.items block ≡ Some new.here.row.now → new ≡ record m { here = record m.here { block = block; at = 0; row = new.here.row } } → TurnIs m new turn.Goes (λ rooms h. Goes (at_block block (config_of m h)))
  to_block row is = subst (λ (k : Machine). TurnIs m k turn.Goes (λ rooms h. Goes (at_block block (config_of m h)))) (sym is) (record {
    sound = λ goes. record {
      numbers = sound.numbers;
      memory = sound.memory;
      made = sound.made;
      few = sound.few;
      within = sound.within;
      here = record { table = sound.here.table; row = row; place = omega arith; own = sound.here.own };
      callers = sound.callers;
    };
    program = λ goes. refl;
    place = λ waits. absurd (unwaited_case waits);
    comes = λ rooms h. record { hidden = h; goes = refl; same = same_traffic h };
  })

  pub past_blocks : slice_get m.here.table.now.blocks.items block ≡ None → TurnIs m m (turn.Over (stop.Undefined m.here.table.now.end)) (λ rooms h. Goes (at_block block (config_of m h)))
  past_blocks past = record {
    sound = λ goes. absurd (clash goes);
    program = λ goes. refl;
    place = λ waits. absurd (unwaited_case waits);
    comes = λ rooms h. record {
      steps = 1;
      last = world_in m h;
      over = ap (λ o. go_on (step_at Value Registers rooms (vm_code (program_of m)) (at_block block (config_of m h)) o) (λ k. Goes k)) (site_past m.program.now m.here.function m.here.table.now sound.here.table block 0 past)
          ∙ ap (λ n. Over (Undefined (world_in m h) n)) (number_past m.program.now m.here.function m.here.table.now sound.here.table sound.numbers block past);
      shows = shows m h;
    };
  }
    where
      clash : (let b : Bool = false in b ≡ true) → ⊥
      clash h = cc

-- ---- the memory is another one

pub changed_turn : (m mid new : Machine) (i : VmInsn) (memory : Option Memory) → IsSound m → m.here.at < length m.here.row.now.insns.items → MemoryIsTidy mid.memory → length mid.memory ≡ length m.memory → mid ≡ record m { memory = mid.memory } → new ≡ record mid { here = record mid.here { at = mid.here.at + 1 } } → memory ≡ Some mid.memory → writes_of i ≡ [] → TurnIs m new turn.Goes (λ rooms h. act_there rooms m h i (changes memory (world_in m h).outer))
changed_turn m mid new i memory sound place tidy count mid_is new_is is none =
    subst (λ (k : Machine). TurnIs m k turn.Goes (λ rooms h. act_there rooms m h i (changes memory (world_in m h).outer))) (sym same) (record {
      sound = λ goes. record {
        numbers = sound.numbers;
        memory = tidy;
        made = sound.made ∙ sym count;
        few = sound.few;
        within = sound.within;
        here = record { table = sound.here.table; row = sound.here.row; place = omega (arith, place); own = sound.here.own };
        callers = sound.callers;
      };
      program = λ goes. refl;
      place = λ waits. absurd (unwaited_case waits);
      comes = λ rooms h. record {
        hidden = h;
        goes = ap (λ o. act_there rooms m h i (changes o (world_in m h).outer)) is
            ∙ ap (λ rs. Goes (build h (suc m.here.at) (set_registers rs [] (registers_of (drop m.here.base m.stack.items))))) none
            ∙ ap (λ at. Goes (build h at (registers_of (drop m.here.base m.stack.items)))) (sym (add-one m.here.at));
        same = same_traffic h;
      };
    })
  where
    next : Machine
    next = record m { memory = mid.memory; here = record m.here { at = m.here.at + 1 } }

    same : new ≡ next
    same = new_is ∙ ap (λ (k : Machine). record k { here = record k.here { at = k.here.at + 1 } }) mid_is

    build : HiddenState → ℕ → Registers → Config Registers
    build h at store = record {
      here = record { point = record { function = m.here.function; block = m.here.block; at = at }; own = m.here.own; store = store };
      callers = frames_of (reverse m.callers.items) (take m.here.base m.stack.items);
      world = world_in next h;
    }

pub unchanged_turn : (m mid : Machine) (r : StepResult) (i : VmInsn) (memory : Option Memory) → IsSound m → mid ≡ record m { memory = mid.memory } → mid.memory ≡ m.memory → memory ≡ None → r ≡ turn.Over (stop.Undefined (m.here.row.now.first + m.here.at)) → TurnIs m mid r (λ rooms h. act_there rooms m h i (changes memory (world_in m h).outer))
unchanged_turn m mid r i memory sound mid_is kept is number =
    subst (λ (k : Machine). TurnIs m k r (λ rooms h. act_there rooms m h i (changes memory (world_in m h).outer))) (sym (mid_is ∙ ap (λ x. record m { memory = x }) kept))
    (turn_as m m r (λ rooms h. act_there rooms m h i (Stops HasNoMeaning (world_in m h).outer)) (λ rooms h. act_there rooms m h i (changes memory (world_in m h).outer))
    (λ rooms h. ap (λ o. act_there rooms m h i (changes o (world_in m h).outer)) (sym is))
    (fails_turn m r i sound number))
