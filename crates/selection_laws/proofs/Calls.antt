-- The steps of calls of functions and of returns.
use Rattle.std.proofs.Common.{◌≡◌, ℕ, zero, suc, ◌+◌, ◌≤◌, max, List, [], ◌∷◌, ◌++◌, length, map, Bool, true, false, Option, Some, None, refl, sym, ap, ◌∙◌, subst, arith}
use Rattle.std.specs.Prelude.{◌&&◌, ◌%◌, slice_get, option_map, if◌then◌else◌}
use Rattle.std.specs.List.{list_all}
use Rattle.std.proofs.lemmas.Option.{none-some, same_Some}
use Rattle.std.proofs.lemmas.List.{append_assoc, length-map}
use Rattle.mem_model.specs.declared.value.Value.{Value}
use Rattle.mem_model.specs.declared.value.Value.TheVariants.{Word, Address, Unset}
use Rattle.mem_model.specs.World.{Meter, World, Rooms, enter_call, leave_call}
use Rattle.mem_model.specs.Ending.{Ending, Done, IsDefined}
use Rattle.machine_model.specs.Code.{Calls, Returns}
use Rattle.machine_model.specs.Machine.{Frame, Over, whole_world, begin_locals, end_locals, act_on, go_on, exec, resume, return_to, status_ending}
use Rattle.suifvm_ir.specs.declared.insn.VmCallee.TheVariants as callee
use Rattle.suifvm_ir.specs.declared.insn.TypedRegister.{TypedRegister}
use Rattle.suifvm_ir.specs.declared.insn.VmInsn.{VmInsn}
use Rattle.suifvm_ir.specs.declared.insn.VmInsn.TheVariants as x
use Rattle.suifvm_ir.specs.Programs.{VmFunction}
use Rattle.suifvm_meaning.specs.Operations.{is_set, is_value_of}
use Rattle.suifvm_meaning.specs.Effect.{return_act, fails}
use Rattle.suifvm_meaning.specs.Behave.{Registers, first_or_unset, registers_of, value_status, code_of, insn_site, sizes_in, site_in_function, site_in_block, vm_code}
use Rattle.temp_ir.specs.declared.insn.FixedRegister.TheVariants as fixed
use Rattle.temp_ir.specs.declared.insn.TempInsn.{TempInsn}
use Rattle.temp_ir.specs.declared.insn.TempInsn.TheVariants as i
use Rattle.alloc_model.specs.Contents.{Content, Plain}
use Rattle.alloc_model.specs.Stores as stores
use Rattle.alloc_model.specs.Stores.{put, put_all, without, empty}
use Rattle.alloc_model.specs.Effect.{Temp, Fixed, Outgoing, holder_eq, holders_read, is_emptied, entry_holders, width_of, widest_in, widest_call}
use Rattle.alloc_model.specs.Temporaries.{Temps, temp_site, temp_code}
use Rattle.alloc_model.specs.Temporaries as alloc
use Rattle.selection_forms.specs.alpha_forms.Straight.{After, runs}
use Rattle.selection_forms.specs.alpha_forms.Registers.{IsHeldWord}
use Rattle.selection_code.specs.Instructions.{temp_of, pass_items, take_items, result_items}
use Rattle.selection_code.specs.Functions.{selected_insns, parameter_items, selected_blocks}
use Rattle.selection_laws.proofs.Plain.{plain_code}
use Rattle.selection_laws.proofs.Memories.{bytes_begins, bytes_ends}
use Rattle.selection_laws.proofs.Machines.{next_place, FlowingPlace, next_standing, site_there, comes_then, Came, straight}
use Rattle.selection_laws.proofs.Arguments.{registers_and_places, out_order, never_out, fixed_out, out_temp, temp_out, PassesArguments, passed_arguments, AllSet, EntersWithArguments, enters}
use Rattle.selection_laws.proofs.Steps.{first_block, IsOrdinary, vm_conf, temp_conf, Here, Waits, none, more, Simulates, Reaches, NextReaches, is_over, never_undefined, same_ending, vm_number, temp_number, vm_site, lost, result_tail, vm_acts, turn_step, last_step}

-- ---- lists

append_nil : {A : Type 0} (xs : List A) → xs ++ [] ≡ xs
append_nil [] = refl
append_nil (x ∷ xs) = ap (λ l. x ∷ l) (append_nil xs)

all_set : (vs : List Value) → list_all is_set vs ≡ true → AllSet vs
all_set [] e = tt
all_set (v ∷ vs) e = (first (is_set v) (list_all is_set vs) e, all_set vs (second (is_set v) (list_all is_set vs) e))
  where
    first : (a b : Bool) → (a && b) ≡ true → a ≡ true
    first true b g = refl
    first false b g = absurd (cc)

    second : (a b : Bool) → (a && b) ≡ true → b ≡ true
    second true b g = g
    second false b g = absurd (cc)

-- a call is at most as wide as the widest one
wide_in : (xs : List TempInsn) (z : TempInsn) (ys : List TempInsn) → width_of z ≤ widest_in (xs ++ z ∷ ys)
wide_in [] z ys = omega arith
wide_in (x ∷ xs) z ys = omega (arith, wide_in xs z ys)

wide_among : (blocks : List (List TempInsn)) (b : ℕ) (insns : List TempInsn) → slice_get blocks b ≡ Some insns → widest_in insns ≤ widest_call blocks
wide_among [] b insns e = absurd (none-some insns e)
wide_among (block ∷ blocks) zero insns e = subst (λ l. widest_in l ≤ max (widest_in block) (widest_call blocks)) (same_Some block insns e) (omega arith)
wide_among (block ∷ blocks) (suc b) insns e = omega (arith, wide_among blocks b insns e)

arguments_are : (r : Registers) (s : Temps) (xs : List ℕ) → ((k : ℕ) → s (Temp (temp_of k)) ≡ Plain (r k)) → map (λ a. s (Temp (temp_of a))) xs ≡ map Plain (map r xs)
arguments_are r s [] h = refl
arguments_are r s (a ∷ xs) h = ap (λ c. c ∷ map (λ a. s (Temp (temp_of a))) xs) (h a) ∙ ap (λ cs. Plain (r a) ∷ cs) (arguments_are r s xs h)

registers_held : (r : Registers) (xs : List ℕ) → ((k : ℕ) → IsHeldWord (r k)) → (k : ℕ) → IsHeldWord (registers_of (map r xs) k)
registers_held r [] h k = tt
registers_held r (a ∷ xs) h zero = h a
registers_held r (a ∷ xs) h (suc k) = registers_held r xs h k

module _ (rooms : Rooms) (fs : List VmFunction) where
  pub same_sizes : (g : ℕ) (f : VmFunction) → slice_get fs g ≡ Some f → sizes_in (slice_get (map code_of fs) g) ≡ alloc.sizes_in (slice_get (map plain_code fs) g)
  same_sizes g f number = ap sizes_in (vm_number rooms fs g f number) ∙ sym (ap alloc.sizes_in (temp_number rooms fs g f number))

  -- ---- a function is entered

  -- with as many arguments as it takes
  pub enter_function : (n : ℕ) → Simulates rooms fs n → (g own : ℕ) (us : List Value) (f : VmFunction) (vs : List (Frame Registers)) (ts : List (Frame Temps)) (w : World) (e : Ending) → slice_get fs g ≡ Some f → length us ≡ f.params
      → AllSet us → ((k : ℕ) → IsHeldWord (registers_of us k)) → IsOrdinary w.outer → Waits rooms fs vs ts → IsDefined e
      → exec Value Registers rooms (vm_code (map code_of fs)) n (vm_conf rooms fs g 0 0 own (registers_of us) vs w) ≡ Over e →
      Reaches rooms fs (temp_conf rooms fs g 0 0 own (put_all holder_eq (entry_holders (length (map Plain us))) (map Plain us) empty) ts w) e
  enter_function n ih g own us f vs ts w e number count set held ordinary waits defined is = by_block (slice_get f.blocks 0) refl
    where
      start : Temps
      start = put_all holder_eq (entry_holders (length (map Plain us))) (map Plain us) empty

      by_block : (o : Option (List VmInsn)) → slice_get f.blocks 0 ≡ o → Reaches rooms fs (temp_conf rooms fs g 0 0 own start ts w) e
      by_block None there =
          absurd (lost rooms fs n (vm_conf rooms fs g 0 0 own (registers_of us) vs w) e (ap (site_in_function 0 0) (vm_number rooms fs g f number) ∙ ap (site_in_block 0 0) there) defined is)
      by_block (Some insns) there =
          let widest = widest_call (selected_blocks f.params f.blocks) in
          let entered : EntersWithArguments widest own w.outer us = enters widest own w.outer us set in
          let standing : FlowingPlace (selected_blocks f.params f.blocks) 0 0 (parameter_items f.params ++ selected_insns insns) =
          record { place = record { before = []; there = first_block f.params f.blocks ∙ ap (option_map (λ l. parameter_items f.params ++ selected_insns l)) there; here = refl }; flows = refl } in
          let ran : runs widest (parameter_items f.params) own start w.outer ≡ After entered.after w.outer =
          ap (λ k. runs widest (take_items 0 k) own start w.outer) (sym count)
          ∙ ap (λ xs. runs widest xs own start w.outer) (sym (append_nil (take_items 0 (length us)))) ∙ entered.ran [] in
          let c = subst (Came rooms (map plain_code fs) g 0 own ts w.meter (plain_code f) (temp_number rooms fs g f number) 0 start w.outer (selected_insns insns)) ran
          (straight rooms (map plain_code fs) g 0 own ts w.meter (plain_code f) (temp_number rooms fs g f number) (parameter_items f.params) (selected_insns insns) 0 start w.outer standing) in
          comes_then rooms (map plain_code fs) (temp_conf rooms fs g 0 0 own start ts w) (temp_conf rooms fs g 0 c.place own entered.after ts w) (Over e) c.comes
          (ih g 0 0 c.place own (registers_of us) entered.after f insns vs ts w e
          (record {
            number = number;
            placed = record { before = []; there = there; here = refl };
            standing = c.standing;
            holds = entered.holds;
            held = held;
          }) ordinary waits defined is)

  module _ (n : ℕ) (ih : Simulates rooms fs n) (g b at place own : ℕ) (r : Registers) (s : Temps) (f : VmFunction) (left : List VmInsn)
      (vs : List (Frame Registers)) (ts : List (Frame Temps)) (w : World) (e : Ending) (ordinary : IsOrdinary w.outer) (waits : Waits rooms fs vs ts) (defined : IsDefined e) where
    abbrev Steps : VmInsn → Type 0
    Steps y = Here rooms fs g b at place r s f (y ∷ left) → exec Value Registers rooms (vm_code (map code_of fs)) (suc n) (vm_conf rooms fs g b at own r vs w) ≡ Over e →
        Reaches rooms fs (temp_conf rooms fs g b place own s ts w) e

    -- ---- calls

    pub function_step : (d : Option ℕ) (k : ℕ) (arguments : List ℕ) (f2 : VmFunction) → slice_get fs k ≡ Some f2 → f2.params ≡ length arguments → Steps (x.Call d (callee.Function k) arguments)
    function_step d k arguments f2 number2 count h is =
        turn_step rooms fs n ih g b at place own r s f y left vs ts w e h ordinary waits defined is (pass_items 0 arguments) z (result_items d ++ selected_insns left) p.after parts refl refl
        (ap (λ xs. runs (widest_call (selected_blocks f.params f.blocks)) xs own s w.outer) (sym (append_nil (pass_items 0 arguments))) ∙ p.ran [])
        (λ m there st q. by_set (list_all is_set (map r arguments)) refl m there st q)
      where
        y : VmInsn
        y = x.Call d (callee.Function k) arguments

        z : TempInsn
        z = i.Call k (length arguments)

        parts : selected_insns (y ∷ left) ≡ pass_items 0 arguments ++ z ∷ (result_items d ++ selected_insns left)
        parts = append_assoc (pass_items 0 arguments) (z ∷ result_items d) (selected_insns left)

        whole : (h.standing.place.before ++ pass_items 0 arguments) ++ z ∷ (result_items d ++ selected_insns left) ≡ h.standing.place.before ++ selected_insns (y ∷ left)
        whole = append_assoc h.standing.place.before (pass_items 0 arguments) (z ∷ (result_items d ++ selected_insns left)) ∙ ap (λ l. h.standing.place.before ++ l) (sym parts)

        fits : 0 + length arguments ≤ widest_call (selected_blocks f.params f.blocks)
        fits =
            let one : length arguments ≤ widest_in (h.standing.place.before ++ selected_insns (y ∷ left)) =
            subst (λ l. length arguments ≤ widest_in l) whole (wide_in (h.standing.place.before ++ pass_items 0 arguments) z (result_items d ++ selected_insns left)) in
            let two = wide_among (selected_blocks f.params f.blocks) b (h.standing.place.before ++ selected_insns (y ∷ left)) h.standing.place.there in
            omega (arith, one, two)

        p : PassesArguments (widest_call (selected_blocks f.params f.blocks)) own w.outer s 0 arguments
        p = passed_arguments (widest_call (selected_blocks f.params f.blocks)) own w.outer arguments 0 s fits

        read : map p.after (holders_read z) ≡ map Plain (map r arguments)
        read =
            ap (map p.after) (registers_and_places Outgoing out_order never_out fixed_out out_temp temp_out (length arguments))
            ∙ p.holds ∙ arguments_are r s arguments h.holds

        entered_outer : (m : Meter) → IsOrdinary (begin_locals w.outer (sizes_in (slice_get (map code_of fs) k)))
        entered_outer m = record { memory = bytes_begins (sizes_in (slice_get (map code_of fs) k)) w.outer.memory ordinary.memory; input = ordinary.input }

        by_set : (c : Bool) → list_all is_set (map r arguments) ≡ c → (m : Meter) (there : ℕ) → FlowingPlace (selected_blocks f.params f.blocks) b there (z ∷ (result_items d ++ selected_insns left)) →
            go_on (act_on Value Registers rooms (vm_code (map code_of fs)) (vm_conf rooms fs g b at own r vs w) m (insn_site y) (if c then Calls k (map r arguments) w.outer else fails w.outer)) (exec Value Registers rooms (vm_code (map code_of fs)) n) ≡ Over e →
            NextReaches rooms fs (act_on Content Temps rooms (temp_code (map plain_code fs)) (temp_conf rooms fs g b there own p.after ts w) m (temp_site (widest_call (selected_blocks f.params f.blocks)) z) (Calls k (map p.after (holders_read z)) w.outer)) e
        by_set false c m there st q = absurd (never_undefined (whole_world w.outer m) _ e q defined)
        by_set true c m there st q =
            let frame : Frame Temps = record { point = record { function = g; block = b; at = there }; own = own; store = p.after } in
            let u : World = whole_world (begin_locals w.outer (sizes_in (slice_get (map code_of fs) k))) (enter_call rooms k m) in
            subst (λ cs. NextReaches rooms fs (act_on Content Temps rooms (temp_code (map plain_code fs)) (temp_conf rooms fs g b there own p.after ts w) m (temp_site (widest_call (selected_blocks f.params f.blocks)) z) (Calls k cs w.outer)) e) (sym read)
            (subst (λ sizes. Reaches rooms fs (temp_conf rooms fs k 0 0 (length w.outer.memory) (put_all holder_eq (entry_holders (length (map Plain (map r arguments)))) (map Plain (map r arguments)) empty) (frame ∷ ts) (whole_world (begin_locals w.outer sizes) (enter_call rooms k m))) e)
            (same_sizes k f2 number2)
            (enter_function n ih k (length w.outer.memory) (map r arguments) f2 (record { point = record { function = g; block = b; at = at }; own = own; store = r } ∷ vs) (frame ∷ ts) u e number2 (length-map arguments r ∙ sym count)
            (all_set (map r arguments) c) (registers_held r arguments h.held) (entered_outer m)
            (more g b at there own r p.after f d k arguments left vs ts h.number h.placed st (λ j. p.temps (temp_of j) ∙ h.holds j) h.held waits) defined q))

    -- ---- returns

    -- to the caller, or with the status of the run
    returned : (us : List Value) (there : ℕ) (number : ℕ) → IsHeldWord (first_or_unset us) → slice_get fs g ≡ Some f → (vs : List (Frame Registers)) (ts : List (Frame Temps)) → Waits rooms fs vs ts →
        go_on (return_to Value Registers rooms (vm_code (map code_of fs)) number us (whole_world (end_locals w.outer own (length (sizes_in (slice_get (map code_of fs) g)))) (leave_call rooms g w.meter)) vs) (exec Value Registers rooms (vm_code (map code_of fs)) n) ≡ Over e →
        (at2 : ℕ) → NextReaches rooms fs (return_to Content Temps rooms (temp_code (map plain_code fs)) at2 (map Plain us) (whole_world (end_locals w.outer own (length (alloc.sizes_in (slice_get (map plain_code fs) g)))) (leave_call rooms g w.meter)) ts) e
    returned us there number held is vs ts wait q at2 =
        subst (λ sizes. NextReaches rooms fs (return_to Content Temps rooms (temp_code (map plain_code fs)) at2 (map Plain us) (whole_world (end_locals w.outer own (length sizes)) (leave_call rooms g w.meter)) ts) e) (same_sizes g f is)
        (by_waits vs ts wait q)
      where
        u : World
        u = whole_world (end_locals w.outer own (length (sizes_in (slice_get (map code_of fs) g)))) (leave_call rooms g w.meter)

        good : IsOrdinary u.outer
        good = record { memory = bytes_ends (length (sizes_in (slice_get (map code_of fs) g))) w.outer.memory own ordinary.memory; input = ordinary.input }

        by_status : (v : Value) → is_over (status_ending Value Registers rooms (vm_code (map code_of fs)) number u (value_status v)) ≡ is_over e →
            status_ending Content Temps rooms (temp_code (map plain_code fs)) at2 u (alloc.content_status (Plain v)) ≡ e
        by_status (Word k) z = same_ending rooms fs (Done u (k % 256)) e z
        by_status (Address p) z = absurd (never_undefined u number e z defined)
        by_status Unset z = absurd (never_undefined u number e z defined)

        first_plain : (us : List Value) → stores.first_or_unset (map Plain us) ≡ Plain (first_or_unset us)
        first_plain [] = refl
        first_plain (v ∷ us) = refl

        by_waits : (vs : List (Frame Registers)) (ts : List (Frame Temps)) → Waits rooms fs vs ts →
            go_on (return_to Value Registers rooms (vm_code (map code_of fs)) number us u vs) (exec Value Registers rooms (vm_code (map code_of fs)) n) ≡ Over e →
            NextReaches rooms fs (return_to Content Temps rooms (temp_code (map plain_code fs)) at2 (map Plain us) u ts) e
        by_waits [] [] none z =
            ap (λ c. status_ending Content Temps rooms (temp_code (map plain_code fs)) at2 u (alloc.content_status c)) (first_plain us) ∙ by_status (first_or_unset us) z
        by_waits [] (c ∷ ts) wait z = elim wait [ ]
        by_waits (a ∷ vs) [] wait z = elim wait [ ]
        by_waits (a ∷ vs) (c ∷ ts) (more g2 b2 place2 there2 own2 r2 s2 f2 d k arguments left2 us2 cs2 number2 placed2 standing2 holds2 held2 waits2) z =
            let y : VmInsn = x.Call d (callee.Function k) arguments in
            let call : TempInsn = i.Call k (length arguments) in
            let back = ap (λ o. go_on (resume Value Registers rooms (vm_code (map code_of fs)) a vs u us o) (exec Value Registers rooms (vm_code (map code_of fs)) n)) (vm_site rooms fs g2 b2 place2 f2 y left2 number2 placed2) in
            subst (λ o. NextReaches rooms fs (resume Content Temps rooms (temp_code (map plain_code fs)) c ts u (map Plain us) o) e)
            (sym (site_there (map plain_code fs) g2 b2 (plain_code f2) (temp_number rooms fs g2 f2 number2) there2 call (result_items d ++ selected_insns left2) standing2))
            (result_tail rooms fs n ih g2 b2 (suc place2) (suc there2) own2 r2 (put holder_eq (Fixed 0) (stores.first_or_unset (map Plain us)) (without (is_emptied call) s2)) f2 left2 vs ts u e d us number2
            (next_place f2.blocks b2 place2 y left2 placed2) (next_standing (selected_blocks f2.params f2.blocks) b2 there2 call (result_items d ++ selected_insns left2) refl standing2) holds2 held2 good waits2 defined (first_plain us) held
            (sym back ∙ z))

    pub return_step : (value : Option TypedRegister) → Steps (x.Return value)
    return_step None h is =
        last_step rooms fs n ih g b at place own r s f (x.Return None) left vs ts w e h ordinary waits defined is [] (i.Return false) (selected_insns left) s refl refl refl
        (λ there st. returned [] there _ tt h.number vs ts waits
        (vm_acts rooms fs n ih g b at place own r s f (x.Return None) left vs ts w e h ordinary waits defined is (Returns [] w.outer) refl refl) _)
    return_step (Some value) h is =
        last_step rooms fs n ih g b at place own r s f (x.Return (Some value)) left vs ts w e h ordinary waits defined is (i.ToFixed fixed.Value (temp_of value.register) ∷ []) (i.Return true) (selected_insns left) t refl refl refl
        (λ there st. by_type (is_value_of value.ty (r value.register)) there
        (vm_acts rooms fs n ih g b at place own r s f (x.Return (Some value)) left vs ts w e h ordinary waits defined is (return_act (Some value) (r value.register ∷ []) w.outer) refl refl))
      where
        t : Temps
        t = put holder_eq (Fixed 0) (s (Temp (temp_of value.register))) (without (is_emptied (i.ToFixed fixed.Value (temp_of value.register))) s)

        by_type : (c : Bool) (there : ℕ) →
            go_on (act_on Value Registers rooms (vm_code (map code_of fs)) (vm_conf rooms fs g b at own r vs w) w.meter (insn_site (x.Return (Some value))) (if c then Returns (r value.register ∷ []) w.outer else fails w.outer)) (exec Value Registers rooms (vm_code (map code_of fs)) n) ≡ Over e →
            NextReaches rooms fs (act_on Content Temps rooms (temp_code (map plain_code fs)) (temp_conf rooms fs g b there own t ts w) w.meter (temp_site (widest_call (selected_blocks f.params f.blocks)) (i.Return true)) (Returns (map t (holders_read (i.Return true))) w.outer)) e
        by_type false there q = absurd (never_undefined w _ e q defined)
        by_type true there q =
            subst (λ c. NextReaches rooms fs (act_on Content Temps rooms (temp_code (map plain_code fs)) (temp_conf rooms fs g b there own t ts w) w.meter (temp_site (widest_call (selected_blocks f.params f.blocks)) (i.Return true)) (Returns (c ∷ []) w.outer)) e) (sym (h.holds value.register))
            (returned (r value.register ∷ []) there _ (h.held value.register) h.number vs ts waits q _)
