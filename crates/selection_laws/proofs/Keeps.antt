-- Selection keeps the meaning.
use Rattle.std.proofs.Common.{◌≡◌, ℕ, zero, suc, ◌+◌, ◌<◌, List, [], ◌∷◌, ◌++◌, length, map, Bool, true, false, Option, Some, None, refl, sym, ap, ◌∙◌, subst, arith, All, cond, not, lt-ltb}
use Rattle.std.specs.Prelude.{nat_lt, IsTrue, slice_get, option_map, position, unwrap_or, bytes_eq, codes}
use Rattle.std.specs.List.{position_or_len}
use Rattle.std.proofs.lemmas.Bool.{eqb-true}
use Rattle.std.proofs.lemmas.List.{length-map}
use Rattle.std.proofs.lemmas.List.Sums.{sum_by-cons}
use Rattle.std.proofs.lemmas.Option.{same_Some, slice_get-map}
use Rattle.mem_model.specs.declared.value.Value.{Value}
use Rattle.mem_model.specs.World.{World, Rooms, enter_call}
use Rattle.mem_model.specs.Ending.{Ending, IsDefined}
use Rattle.machine_model.specs.Machine.{Frame, Over, whole_world, begin_locals, exec, start_config}
use Rattle.machine_model.proofs.Runs.{one_ending}
use Rattle.suifvm_ir.specs.declared.insn.VmBuiltin.TheVariants.{PutChar, GetChar, Abort, Exit}
use Rattle.suifvm_ir.specs.declared.insn.VmCallee.{VmCallee}
use Rattle.suifvm_ir.specs.declared.insn.VmCallee.TheVariants as callee
use Rattle.suifvm_ir.specs.declared.insn.VmInsn.{VmInsn}
use Rattle.suifvm_ir.specs.declared.insn.VmInsn.TheVariants as x
use Rattle.suifvm_ir.specs.Insns.{targets_of}
use Rattle.pass_core.specs.Functions.{AllInsns, GoesToBlocks}
use Rattle.suifvm_ir.specs.Programs.{VmFunction, is_main, main_count, function_takes, callee_takes, names_what_is_there, IsLawfulFunction}
use Rattle.mem_objects.specs.declared.DataObject.{DataObject}
use Rattle.suifvm_meaning.specs.Behave.{Registers, registers_of, code_of, sizes_in, site_in_function, vm_code, vm_run, start_world, main_of}
use Rattle.temp_ir.specs.Programs as temps
use Rattle.alloc_model.specs.Effect.{holder_eq, entry_holders}
use Rattle.alloc_model.specs.Stores.{put_all, empty}
use Rattle.alloc_model.specs.Contents.{Content}
use Rattle.alloc_model.specs.Temporaries.{Temps, TempsEnd, temp_run}
use Rattle.alloc_model.specs.Temporaries as alloc
use Rattle.selection_code.specs.Fields.{HasFields}
use Rattle.suifvm_zero_branches.proofs.Lockstep.{tests_keep}
use Rattle.suifvm_zero_branches.proofs.Functions.{tested_function, all_mapped, insns_kept}
use Rattle.suifvm_zero_branches.proofs.Lawful.{all_lawful, codes_same, names_stay, mains_stay}
use Rattle.selection_laws.proofs.Plain.{plain_code, selected_plain, fields_kept, has_meaning}
use Rattle.selection_laws.specs.Laws.{SelectedPrograms}
use Rattle.selection_laws.proofs.Memories.{bytes_begins, start_has_bytes}
use Rattle.selection_laws.proofs.Machines.{all_get, read_behind, BlockPlace}
use Rattle.selection_laws.proofs.Steps.{IsOrdinary, vm_conf, temp_conf, Here, Waits, none, Simulates, Reaches, lost, behind_block}
use Rattle.selection_laws.proofs.Operations.{constant_step, address_step, load_step, store_step, copy_step, unary_step, binary_step, shift_step, convert_step, compare_step}
use Rattle.selection_laws.proofs.Builtins.{nop_step, mark_step, jump_step, branch_step, put_char_step, get_char_step, abort_step, exit_step}
use Rattle.selection_laws.proofs.Calls.{same_sizes, enter_function, function_step, return_step}

-- ---- an instruction where it stands

-- what holds of each instruction of the blocks holds of the one that stands at a place
insn_has : (P : VmInsn → Type 0) (blocks : List (List VmInsn)) (b at : ℕ) (y : VmInsn) (left : List VmInsn) → AllInsns P blocks → BlockPlace blocks b at (y ∷ left) → P y
insn_has P blocks b at y left h p = all_get P (p.before ++ y ∷ left) (length p.before) y (all_get (All P) blocks b (p.before ++ y ∷ left) h p.there) (read_behind p.before y left)

module _ (rooms : Rooms) (fs : List VmFunction) (globals : List DataObject) (lawful : All (IsLawfulFunction fs globals) fs) (fields : All (λ (f : VmFunction). AllInsns HasFields f.blocks) fs) where
  -- what a program says of an instruction
  pub record KnownInsn (f : VmFunction) (y : VmInsn) : Type 0 where
    pub names : IsTrue (names_what_is_there fs globals f.objects y)
    pub targets : GoesToBlocks targets_of (length f.blocks) y
    pub numbers : HasFields y

  known : (g b at : ℕ) (f : VmFunction) (y : VmInsn) (left : List VmInsn) → slice_get fs g ≡ Some f → BlockPlace f.blocks b at (y ∷ left) → KnownInsn f y
  known g b at f y left number p = record {
    names = insn_has (λ i. IsTrue (names_what_is_there fs globals f.objects i)) f.blocks b at y left (all_get (IsLawfulFunction fs globals) fs g f lawful number).names p;
    targets = insn_has (GoesToBlocks targets_of (length f.blocks)) f.blocks b at y left f.targets p;
    numbers = insn_has HasFields f.blocks b at y left (all_get (λ (f : VmFunction). AllInsns HasFields f.blocks) fs g f fields number) p;
  }

  -- a function that is called is there, and takes as many arguments
  pub record CalledFunction (k count : ℕ) : Type 0 where
    pub function : VmFunction
    pub there : slice_get fs k ≡ Some function
    pub takes : function.params ≡ count

  called : (k count : ℕ) → function_takes count (slice_get fs k) ≡ true → CalledFunction k count
  called k count = by_function (slice_get fs k) refl
    where
      by_function : (o : Option VmFunction) → slice_get fs k ≡ o → function_takes count o ≡ true → CalledFunction k count
      by_function None there e = absurd (cc)
      by_function (Some f) there e = record { function = f; there = there; takes = eqb-true f.params count e }

  one_target : (block count : ℕ) → All (λ target. (0 < target) × (target < count)) (block ∷ []) → 0 < block
  one_target block count h = (h 0 0 (omega arith)).0

  module _ (n : ℕ) (ih : Simulates rooms fs n) (g b at place own : ℕ) (r : Registers) (s : Temps) (f : VmFunction) (left : List VmInsn)
      (vs : List (Frame Registers)) (ts : List (Frame Temps)) (w : World) (e : Ending) (ordinary : IsOrdinary w.outer) (waits : Waits rooms fs vs ts) (defined : IsDefined e) where
    abbrev Steps : VmInsn → Type 0
    Steps y = Here rooms fs g b at place r s f (y ∷ left) → exec Value Registers rooms (vm_code (map code_of fs)) (suc n) (vm_conf rooms fs g b at own r vs w) ≡ Over e →
        Reaches rooms fs (temp_conf rooms fs g b place own s ts w) e

    call_step : (d : Option ℕ) (c : VmCallee) (arguments : List ℕ) → callee_takes fs (length arguments) c ≡ true → Steps (x.Call d c arguments)
    call_step d (callee.Function k) arguments takes =
        let h = called k (length arguments) takes in
        function_step rooms fs n ih g b at place own r s f left vs ts w e ordinary waits defined d k arguments h.function h.there h.takes
    call_step d (callee.Builtin PutChar) [] takes = absurd (cc)
    call_step d (callee.Builtin PutChar) (a ∷ arguments) takes = put_char_step rooms fs n ih g b at place own r s f left vs ts w e ordinary waits defined d a arguments
    call_step d (callee.Builtin GetChar) arguments takes = get_char_step rooms fs n ih g b at place own r s f left vs ts w e ordinary waits defined d arguments
    call_step d (callee.Builtin Abort) arguments takes = abort_step rooms fs n ih g b at place own r s f left vs ts w e ordinary waits defined d arguments
    call_step d (callee.Builtin Exit) [] takes = absurd (cc)
    call_step d (callee.Builtin Exit) (a ∷ arguments) takes = exit_step rooms fs n ih g b at place own r s f left vs ts w e ordinary waits defined d a arguments

    insn_step : (y : VmInsn) → KnownInsn f y → Steps y
    insn_step (x.LoadConstant ty d word) k = constant_step rooms fs n ih g b at place own r s f left vs ts w e ordinary waits defined ty d word k.numbers
    insn_step (x.LoadAddress d object plus) k = address_step rooms fs n ih g b at place own r s f left vs ts w e ordinary waits defined d object plus
    insn_step (x.Load ty d p plus) k = load_step rooms fs n ih g b at place own r s f left vs ts w e ordinary waits defined ty d p plus k.numbers
    insn_step (x.Store ty p plus a) k = store_step rooms fs n ih g b at place own r s f left vs ts w e ordinary waits defined ty p plus a k.numbers
    insn_step (x.Copy to from size align) k = copy_step rooms fs n ih g b at place own r s f left vs ts w e ordinary waits defined to from size align k.names
    insn_step (x.Unary op ty d a) k = unary_step rooms fs n ih g b at place own r s f left vs ts w e ordinary waits defined op ty d a
    insn_step (x.Binary op ty d a c) k = binary_step rooms fs n ih g b at place own r s f left vs ts w e ordinary waits defined op ty d a c
    insn_step (x.Shift op ty d a c) k = shift_step rooms fs n ih g b at place own r s f left vs ts w e ordinary waits defined op ty d a c
    insn_step (x.Convert from to d a) k = convert_step rooms fs n ih g b at place own r s f left vs ts w e ordinary waits defined from to d a
    insn_step (x.Compare op ty d a c) k = compare_step rooms fs n ih g b at place own r s f left vs ts w e ordinary waits defined op ty d a c
    insn_step (x.Branch op ty a block) k = branch_step rooms fs n ih g b at place own r s f left vs ts w e ordinary waits defined op ty a block (one_target block (length f.blocks) k.targets)
    insn_step (x.Jump block) k = jump_step rooms fs n ih g b at place own r s f left vs ts w e ordinary waits defined block (one_target block (length f.blocks) k.targets)
    insn_step (x.Call d c arguments) k = call_step d c arguments k.names
    insn_step (x.Return value) k = return_step rooms fs n ih g b at place own r s f left vs ts w e ordinary waits defined value
    insn_step x.Mark k = mark_step rooms fs n ih g b at place own r s f left vs ts w e ordinary waits defined
    insn_step x.Nop k = nop_step rooms fs n ih g b at place own r s f left vs ts w e ordinary waits defined

  pub simulates : (n : ℕ) → Simulates rooms fs n
  simulates zero g b at place own r s f left vs ts w e h ordinary waits defined is = absurd (cc)
  simulates (suc n) g b at place own r s f [] vs ts w e h ordinary waits defined is = behind_block rooms fs n (simulates n) g b at place own r s f vs ts w e h ordinary waits defined is
  simulates (suc n) g b at place own r s f (y ∷ left) vs ts w e h ordinary waits defined is =
      insn_step n (simulates n) g b at place own r s f left vs ts w e ordinary waits defined y (known g b at f y left h.number h.placed) h is

  -- from the start of a function without parameters
  pub run_ends : (main : ℕ) (w : World) (steps : ℕ) (e : Ending) → ((f : VmFunction) → slice_get fs main ≡ Some f → f.params ≡ 0) → IsOrdinary w.outer → IsDefined e → vm_run rooms (map code_of fs) main w steps ≡ Over e →
      (n : ℕ) × (temp_run rooms (map plain_code fs) main w n ≡ Over e)
  run_ends main w steps e none_ ordinary defined is = by_function (slice_get fs main) refl
    where
      u : World
      u = whole_world (begin_locals w.outer (sizes_in (slice_get (map code_of fs) main))) (enter_call rooms main w.meter)

      by_function : (o : Option VmFunction) → slice_get fs main ≡ o → (n : ℕ) × (temp_run rooms (map plain_code fs) main w n ≡ Over e)
      by_function None there =
          absurd (lost rooms fs steps (vm_conf rooms fs main 0 0 (length w.outer.memory) (registers_of []) [] u) e
          (ap (site_in_function 0 0) (slice_get-map code_of fs main ∙ ap (option_map code_of) there)) defined is)
      by_function (Some f) there =
          let good : IsOrdinary u.outer = record { memory = bytes_begins (sizes_in (slice_get (map code_of fs) main)) w.outer.memory ordinary.memory; input = ordinary.input } in
          let run = enter_function rooms fs steps (simulates steps) main (length w.outer.memory) [] f [] [] u e there (sym (none_ f there)) tt (λ k. tt) good none defined is in
          let same = same_sizes rooms fs main f there in
          (run.steps, ap (λ sizes. exec Content Temps rooms (alloc.temp_code (map plain_code fs)) run.steps (temp_conf rooms fs main 0 0 (length w.outer.memory) (put_all holder_eq (entry_holders 0) [] empty) [] (whole_world (begin_locals w.outer sizes) (enter_call rooms main w.meter)))) (sym same) ∙ run.run)

-- ---- where a program begins

-- some function is `main`: the first that is
main_found : (fs : List VmFunction) → 0 < main_count fs → (position_or_len is_main fs < length fs) × ((f : VmFunction) → slice_get fs (position_or_len is_main fs) ≡ Some f → is_main f ≡ true)
main_found [] some = absurd (omega (arith, some))
main_found (f ∷ fs) some = by_name (is_main f) refl (λ more. main_found fs more) (subst (λ n. 0 < n) (sum_by-cons (λ g. cond (is_main g) 1 0) f fs) some)
  where
    by_name : (b : Bool) → is_main f ≡ b →
        (0 < main_count fs → (position_or_len is_main fs < length fs) × ((h : VmFunction) → slice_get fs (position_or_len is_main fs) ≡ Some h → is_main h ≡ true)) →
        0 < cond b 1 0 + main_count fs →
        (cond (not b) (1 + position_or_len is_main fs) 0 < suc (length fs)) × ((h : VmFunction) → slice_get (f ∷ fs) (cond (not b) (1 + position_or_len is_main fs) 0) ≡ Some h → is_main h ≡ true)
    by_name true e rest h = (omega arith, λ g is. subst (λ k. is_main k ≡ true) (same_Some f g is) e)
    by_name false e rest h =
        let r = rest (omega (arith, h)) in
        let next : 1 + position_or_len is_main fs ≡ suc (position_or_len is_main fs) = omega arith in
        (omega (arith, r.0), λ g is. r.1 g (sym (ap (slice_get (f ∷ fs)) next) ∙ is))

main_is : (fs : List VmFunction) → main_count fs ≡ 1 → main_of fs ≡ position_or_len is_main fs
main_is fs one =
    let found = main_found fs (omega (arith, one)) in
    ap (λ b. unwrap_or (cond b (Some (position_or_len is_main fs)) None) 0) (lt-ltb (position_or_len is_main fs) (length fs) found.0)

-- which function that is, by the names of all
abbrev main_by : (names : List (List ℕ)) → ℕ
main_by names = unwrap_or (position (λ name. bytes_eq name (codes "main")) names) 0

vm_prefix : (fs : List VmFunction) → position_or_len is_main fs ≡ position_or_len (λ name. bytes_eq name (codes "main")) (map (λ (f : VmFunction). f.name) fs)
vm_prefix [] = refl
vm_prefix (f ∷ fs) = ap (λ n. cond (not (is_main f)) (1 + n) 0) (vm_prefix fs)

temp_prefix : (fs : List temps.TempFn) → position_or_len temps.is_main fs ≡ position_or_len (λ name. bytes_eq name (codes "main")) (map (λ (f : temps.TempFn). f.name) fs)
temp_prefix [] = refl
temp_prefix (f ∷ fs) = ap (λ n. cond (not (temps.is_main f)) (1 + n) 0) (temp_prefix fs)

vm_main : (fs : List VmFunction) → main_of fs ≡ main_by (map (λ (f : VmFunction). f.name) fs)
vm_main fs =
    ap (λ n. unwrap_or (cond (nat_lt n (length fs)) (Some n) None) 0) (vm_prefix fs)
    ∙ ap (λ n. unwrap_or (cond (nat_lt (position_or_len (λ name. bytes_eq name (codes "main")) (map (λ (f : VmFunction). f.name) fs)) n) (Some (position_or_len (λ name. bytes_eq name (codes "main")) (map (λ (f : VmFunction). f.name) fs))) None) 0) (sym (length-map fs (λ (f : VmFunction). f.name)))

temp_main : (fs : List temps.TempFn) → alloc.main_of fs ≡ main_by (map (λ (f : temps.TempFn). f.name) fs)
temp_main fs =
    ap (λ n. unwrap_or (cond (nat_lt n (length fs)) (Some n) None) 0) (temp_prefix fs)
    ∙ ap (λ n. unwrap_or (cond (nat_lt (position_or_len (λ name. bytes_eq name (codes "main")) (map (λ (f : temps.TempFn). f.name) fs)) n) (Some (position_or_len (λ name. bytes_eq name (codes "main")) (map (λ (f : temps.TempFn). f.name) fs))) None) 0) (sym (length-map fs (λ (f : temps.TempFn). f.name)))

-- ---- programs

pub selected_programs : SelectedPrograms
selected_programs program selected is rooms input turns e bytes run defined =
    let fs : List VmFunction = map tested_function program.functions in
    let main = main_of program.functions in
    let w : World = start_world program.globals input turns in
    let one : main_count fs ≡ 1 = mains_stay program.functions ∙ program.one_main in
    let main_there : main ≡ main_of fs = vm_main program.functions ∙ ap main_by (sym (names_stay program.functions)) ∙ sym (vm_main fs) in
    let lawful : All (IsLawfulFunction fs program.globals) fs = all_lawful program.functions program.globals program.functions_lawful in
    let fields : All (λ (f : VmFunction). AllInsns HasFields f.blocks) fs =
    all_mapped tested_function (λ (f : VmFunction). AllInsns HasFields f.blocks) (λ (f : VmFunction). AllInsns HasFields f.blocks)
    (λ f. insns_kept HasFields HasFields fields_kept f.blocks) program.functions is.fields in
    let without_parameters : (f : VmFunction) → slice_get fs main ≡ Some f → f.params ≡ 0 = λ f there.
    (all_get (IsLawfulFunction fs program.globals) fs main f lawful there).main ((main_found fs (omega (arith, one))).1 f (sym (ap (slice_get fs) (main_there ∙ main_is fs one)) ∙ there)) in
    let good : IsOrdinary w.outer = record { memory = start_has_bytes program.globals program.globals_lawful; input = bytes } in
    let over : vm_run rooms (map code_of fs) main w run.steps ≡ Over e =
    ap (λ code. vm_run rooms code main w run.steps) (codes_same program.functions) ∙ tests_keep rooms (map code_of program.functions) main w run.steps e (has_meaning e defined) run.over in
    let found = run_ends rooms fs program.globals lawful fields main w run.steps e without_parameters good defined over in
    let same_main : main ≡ alloc.main_of selected.functions = vm_main program.functions ∙ ap main_by (sym is.names) ∙ sym (temp_main selected.functions) in
    let ends : TempsEnd rooms selected input turns e = record {
      steps = found.0;
      over =
          ap (λ code. temp_run rooms code (alloc.main_of selected.functions) (alloc.start_world selected.globals input turns) found.0) (is.code ∙ sym (selected_plain program.functions))
          ∙ ap (λ k. temp_run rooms (map plain_code fs) k (alloc.start_world selected.globals input turns) found.0) (sym same_main)
          ∙ ap (λ globals. temp_run rooms (map plain_code fs) main (alloc.start_world globals input turns) found.0) is.globals
          ∙ found.1;
    } in
    record {
      ends = ends;
      only = λ f other.
          one_ending Content Temps rooms (alloc.temp_code (map alloc.code_of selected.functions)) other.steps found.0
          (start_config Content Temps rooms (alloc.temp_code (map alloc.code_of selected.functions)) (alloc.main_of selected.functions) (alloc.start_world selected.globals input turns)) f e other.over ends.over;
    }
