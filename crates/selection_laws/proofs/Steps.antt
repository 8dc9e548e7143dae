-- One step over virtual registers, and what the selected code makes of it: where both machines stand, and the steps that
-- write a register or the memory.
use Rattle.std.proofs.Common.{◌≡◌, ℕ, zero, suc, ◌<◌, List, [], ◌∷◌, ◌++◌, length, map, Bool, true, false, Option, Some, None, refl, sym, ap, ◌∙◌, subst, arith, All}
use Rattle.std.specs.Prelude.{◌==◌, slice_get, option_map, if◌then◌else◌}
use Rattle.std.proofs.lemmas.Bool.{eqb-true, eqb-false, ne_eqb}
use Rattle.std.proofs.lemmas.Option.{slice_get-map}
use Rattle.mem_model.specs.declared.value.Value.{Value}
use Rattle.mem_model.specs.Memory.{Memory}
use Rattle.mem_model.specs.World.{Outer, Meter, World, Rooms, outer_with_memory, take_turn}
use Rattle.mem_model.specs.Ending.{Ending, Trap, Undefined, More, IsDefined}
use Rattle.machine_model.specs.Code.{Traps, HasNoMeaning, Act, Writes, Stops}
use Rattle.machine_model.specs.Machine.{Frame, Config, Next, Goes, Over, turn_if, act_on, step_with, step_at, step, go_on, exec}
use Rattle.suifvm_ir.specs.declared.insn.VmCallee.TheVariants as callee
use Rattle.suifvm_ir.specs.declared.insn.VmInsn.{VmInsn}
use Rattle.suifvm_ir.specs.declared.insn.VmInsn.TheVariants as x
use Rattle.suifvm_ir.specs.Insns.{named_register, reads_of, writes_of}
use Rattle.suifvm_ir.specs.Programs.{VmFunction}
use Rattle.suifvm_meaning.specs.declared.answer.Answer.{Answer}
use Rattle.suifvm_meaning.specs.declared.answer.Answer.TheVariants.{Gives, TrapsWith, Fails}
use Rattle.suifvm_meaning.specs.Effect.{does, takes_turn, writes, changes}
use Rattle.suifvm_meaning.specs.Behave.{Registers, first_or_unset, set_register, set_registers, code_of, insn_site, next_site, site_or_next, site_in_block, site_in_function, vm_code}
use Rattle.temp_ir.specs.declared.insn.TempInsn.{TempInsn}
use Rattle.temp_ir.specs.declared.insn.TempInsn.TheVariants as i
use Rattle.alloc_model.specs.Contents.{Content, Plain}
use Rattle.temp_ir.specs.declared.insn.FixedRegister.TheVariants as FixedRegister
use Rattle.alloc_model.specs.Stores.{put, without}
use Rattle.alloc_model.specs.Effect.{Temp, Fixed, holder_eq, holders_read, is_emptied, widest_call}
use Rattle.alloc_model.specs.Effect as temps
use Rattle.alloc_model.specs.Temporaries.{Temps, temp_site, temp_code}
use Rattle.selection_forms.specs.alpha_forms.Straight.{Ran, After, Halted, runs}
use Rattle.selection_forms.proofs.AlphaForms.Runs.{put_here, put_beside}
use Rattle.selection_forms.specs.alpha_forms.Registers.{IsOfRegister, IsHeldWord, MemoryHasBytes, PutsValue, CodeAnswers, ComesToMemory}
use Rattle.selection_code.specs.Instructions.{temp_of, selected_insn, result_items}
use Rattle.selection_code.specs.Functions.{selected_insns, parameter_items, selected_blocks}
use Rattle.selection_laws.proofs.Plain.{plain_code}
use Rattle.selection_laws.proofs.Values.{AnswerIsHeld}
use Rattle.selection_laws.proofs.Memories.{AnyMemoryHasBytes}
use Rattle.selection_laws.proofs.Machines.{BlockPlace, next_place, insn_there, read_end, FlowingPlace, site_there, site_behind, Comes, comes_then, comes_by, CameBehind, Came, straight}

-- ---- numbers of temporaries

pub of_register : (k : ℕ) → IsOfRegister (temp_of k)
of_register k = omega arith

pub other_temp : (k d : ℕ) → (k == d) ≡ false → (temp_of k == temp_of d) ≡ false
other_temp k d e = ne_eqb (temp_of k) (temp_of d) (λ same. eqb-false k d e (omega (arith, same)))

-- ---- blocks of the selected code

pub block_behind : (params : ℕ) (blocks : List (List VmInsn)) (k : ℕ) → slice_get (selected_blocks params blocks) (suc k) ≡ option_map selected_insns (slice_get blocks (suc k))
block_behind params [] k = refl
block_behind params (block ∷ blocks) k = slice_get-map selected_insns blocks k

pub first_block : (params : ℕ) (blocks : List (List VmInsn)) → slice_get (selected_blocks params blocks) 0 ≡ option_map (λ insns. parameter_items params ++ selected_insns insns) (slice_get blocks 0)
first_block params [] = refl
first_block params (block ∷ blocks) = refl

-- ---- the outer part

pub record IsOrdinary (o : Outer) : Type 0 where
  pub memory : MemoryHasBytes o.memory
  pub input : All (λ byte. byte < 256) o.input

-- ---- endings

-- a run over registers that is over
abbrev pub is_over : Ending → Next Registers
is_over z = Over z

pub never_undefined : (w : World) (at : ℕ) (e : Ending) → is_over (Undefined w at) ≡ is_over e → IsDefined e → ⊥
never_undefined w at e is defined = let same : Undefined w at ≡ e = cc in subst IsDefined (sym same) defined

module _ (rooms : Rooms) (fs : List VmFunction) where
  abbrev pub vm_runs : ℕ → Config Registers → Next Registers
  vm_runs n k = exec Value Registers rooms (vm_code (map code_of fs)) n k

  abbrev pub vm_conf : (g b at own : ℕ) → Registers → List (Frame Registers) → World → Config Registers
  vm_conf g b at own r vs w = record { here = record { point = record { function = g; block = b; at = at }; own = own; store = r }; callers = vs; world = w }

  abbrev pub temp_conf : (g b at own : ℕ) → Temps → List (Frame Temps) → World → Config Temps
  temp_conf g b at own s ts w = record { here = record { point = record { function = g; block = b; at = at }; own = own; store = s }; callers = ts; world = w }

  abbrev pub Reaches : Config Temps → Ending → Type 0
  Reaches l e = Comes rooms (map plain_code fs) l (Over e)

  -- both stand in a function at the same instructions, and registers are held
  pub record Here (g b at place : ℕ) (r : Registers) (s : Temps) (f : VmFunction) (left : List VmInsn) : Type 0 where
    pub number : slice_get fs g ≡ Some f
    pub placed : BlockPlace f.blocks b at left
    pub standing : FlowingPlace (selected_blocks f.params f.blocks) b place (selected_insns left)
    pub holds : (k : ℕ) → s (Temp (temp_of k)) ≡ Plain (r k)
    pub held : (k : ℕ) → IsHeldWord (r k)

  -- those that wait stand at the same calls
  pub data Waits : List (Frame Registers) → List (Frame Temps) → Type 0 where
    none : Waits [] []
    more : (g b at place own : ℕ) (r : Registers) (s : Temps) (f : VmFunction) (d : Option ℕ) (h : ℕ) (arguments : List ℕ) (left : List VmInsn) (vs : List (Frame Registers)) (ts : List (Frame Temps)) →
        slice_get fs g ≡ Some f → BlockPlace f.blocks b at (x.Call d (callee.Function h) arguments ∷ left) →
        FlowingPlace (selected_blocks f.params f.blocks) b place (i.Call h (length arguments) ∷ (result_items d ++ selected_insns left)) →
        ((k : ℕ) → s (Temp (temp_of k)) ≡ Plain (r k)) → ((k : ℕ) → IsHeldWord (r k)) → Waits vs ts →
        Waits (record { point = record { function = g; block = b; at = at }; own = own; store = r } ∷ vs) (record { point = record { function = g; block = b; at = place }; own = own; store = s } ∷ ts)

  -- what a run of so many steps ends with, the selected code ends with
  abbrev pub Simulates : ℕ → Type 0
  Simulates n =
      (g b at place own : ℕ) (r : Registers) (s : Temps) (f : VmFunction) (left : List VmInsn) (vs : List (Frame Registers)) (ts : List (Frame Temps)) (w : World) (e : Ending) →
      Here g b at place r s f left → IsOrdinary w.outer → Waits vs ts → IsDefined e → exec Value Registers rooms (vm_code (map code_of fs)) n (vm_conf g b at own r vs w) ≡ Over e →
      Reaches (temp_conf g b place own s ts w) e

  -- ---- sites

  pub vm_number : (g : ℕ) (f : VmFunction) → slice_get fs g ≡ Some f → slice_get (map code_of fs) g ≡ Some (code_of f)
  vm_number g f e = slice_get-map code_of fs g ∙ ap (option_map code_of) e

  pub temp_number : (g : ℕ) (f : VmFunction) → slice_get fs g ≡ Some f → slice_get (map plain_code fs) g ≡ Some (plain_code f)
  temp_number g f e = slice_get-map plain_code fs g ∙ ap (option_map plain_code) e

  pub vm_site : (g b at : ℕ) (f : VmFunction) (y : VmInsn) (left : List VmInsn) → slice_get fs g ≡ Some f → BlockPlace f.blocks b at (y ∷ left) →
      (vm_code (map code_of fs)).site (record { function = g; block = b; at = at }) ≡ Some (insn_site y)
  vm_site g b at f y left number p =
      ap (site_in_function b at) (vm_number g f number) ∙ ap (site_in_block b at) p.there
      ∙ ap (λ o. Some (site_or_next b o)) (insn_there f.blocks b at y left (p.before ++ y ∷ left) p p.there)

  vm_behind : (g b at : ℕ) (f : VmFunction) → slice_get fs g ≡ Some f → BlockPlace f.blocks b at [] →
      (vm_code (map code_of fs)).site (record { function = g; block = b; at = at }) ≡ Some (next_site b)
  vm_behind g b at f number p =
      ap (site_in_function b at) (vm_number g f number) ∙ ap (site_in_block b at) p.there
      ∙ ap (λ o. Some (site_or_next b o)) (ap (slice_get (p.before ++ [])) (sym p.here) ∙ read_end p.before)

  -- no run goes on where nothing stands
  pub lost : (n : ℕ) (k : Config Registers) (e : Ending) → (vm_code (map code_of fs)).site k.here.point ≡ None → IsDefined e → exec Value Registers rooms (vm_code (map code_of fs)) n k ≡ Over e → ⊥
  lost zero k e missing defined is = cc
  lost (suc n) k e missing defined is =
      never_undefined k.world ((vm_code (map code_of fs)).number k.here.point) e
      (sym (ap (λ o. go_on (step_at Value Registers rooms (vm_code (map code_of fs)) k o) (exec Value Registers rooms (vm_code (map code_of fs)) n)) missing) ∙ is) defined

  -- one step, and the rest
  pub vm_steps : (n g b at own : ℕ) (r : Registers) (f : VmFunction) (y : VmInsn) (left : List VmInsn) (vs : List (Frame Registers)) (w : World) → slice_get fs g ≡ Some f → BlockPlace f.blocks b at (y ∷ left) →
      exec Value Registers rooms (vm_code (map code_of fs)) (suc n) (vm_conf g b at own r vs w)
      ≡ go_on (step_with Value Registers rooms (vm_code (map code_of fs)) (vm_conf g b at own r vs w) (insn_site y) (turn_if (takes_turn y) w.meter)) (exec Value Registers rooms (vm_code (map code_of fs)) n)
  vm_steps n g b at own r f y left vs w number p =
      ap (λ o. go_on (step_at Value Registers rooms (vm_code (map code_of fs)) (vm_conf g b at own r vs w) o) (exec Value Registers rooms (vm_code (map code_of fs)) n)) (vm_site g b at f y left number p)

  pub temp_steps : (g b place own : ℕ) (s : Temps) (f : VmFunction) (y : TempInsn) (left : List TempInsn) (ts : List (Frame Temps)) (w : World) → slice_get fs g ≡ Some f
      → FlowingPlace (selected_blocks f.params f.blocks) b place (y ∷ left) →
      step Content Temps rooms (temp_code (map plain_code fs)) (temp_conf g b place own s ts w)
      ≡ step_with Content Temps rooms (temp_code (map plain_code fs)) (temp_conf g b place own s ts w) (temp_site (widest_call (selected_blocks f.params f.blocks)) y) (turn_if (temps.takes_turn y) w.meter)
  temp_steps g b place own s f y left ts w number h =
      ap (step_at Content Temps rooms (temp_code (map plain_code fs)) (temp_conf g b place own s ts w))
      (site_there (map plain_code fs) g b (plain_code f) (temp_number g f number) place y left h)

  -- ---- a block is entered from its start

  pub enter_block : (n : ℕ) → Simulates n → (g b own : ℕ) (r : Registers) (s : Temps) (f : VmFunction) (vs : List (Frame Registers)) (ts : List (Frame Temps)) (w : World) (e : Ending) → slice_get fs g ≡ Some f
      → ((k : ℕ) → s (Temp (temp_of k)) ≡ Plain (r k)) → ((k : ℕ) → IsHeldWord (r k)) → IsOrdinary w.outer → Waits vs ts → IsDefined e
      → exec Value Registers rooms (vm_code (map code_of fs)) n (vm_conf g (suc b) 0 own r vs w) ≡ Over e →
      Reaches (temp_conf g (suc b) 0 own s ts w) e
  enter_block n ih g b own r s f vs ts w e number holds held ordinary waits defined is = by_block (slice_get f.blocks (suc b)) refl
    where
      by_block : (o : Option (List VmInsn)) → slice_get f.blocks (suc b) ≡ o → Reaches (temp_conf g (suc b) 0 own s ts w) e
      by_block None there =
          absurd (lost n (vm_conf g (suc b) 0 own r vs w) e (ap (site_in_function (suc b) 0) (vm_number g f number) ∙ ap (site_in_block (suc b) 0) there) defined is)
      by_block (Some insns) there =
          ih g (suc b) 0 0 own r s f insns vs ts w e
          (record {
            number = number;
            placed = record { before = []; there = there; here = refl };
            standing = record { place = record { before = []; there = block_behind f.params f.blocks b ∙ ap (option_map selected_insns) there; here = refl }; flows = refl };
            holds = holds;
            held = held;
          }) ordinary waits defined is

  -- ---- past the last instruction of a block

  pub behind_block : (n : ℕ) → Simulates n → (g b at place own : ℕ) (r : Registers) (s : Temps) (f : VmFunction) (vs : List (Frame Registers)) (ts : List (Frame Temps)) (w : World) (e : Ending) →
      Here g b at place r s f [] → IsOrdinary w.outer → Waits vs ts → IsDefined e → exec Value Registers rooms (vm_code (map code_of fs)) (suc n) (vm_conf g b at own r vs w) ≡ Over e →
      Reaches (temp_conf g b place own s ts w) e
  behind_block n ih g b at place own r s f vs ts w e h ordinary waits defined is =
      let v = ap (λ o. go_on (step_at Value Registers rooms (vm_code (map code_of fs)) (vm_conf g b at own r vs w) o) (exec Value Registers rooms (vm_code (map code_of fs)) n)) (vm_behind g b at f h.number h.placed) in
      comes_then rooms (map plain_code fs) (temp_conf g b place own s ts w) (temp_conf g (suc b) 0 own s ts w) (Over e)
      (comes_by rooms (map plain_code fs) (temp_conf g b place own s ts w) (Goes (temp_conf g (suc b) 0 own s ts w))
      (ap (step_at Content Temps rooms (temp_code (map plain_code fs)) (temp_conf g b place own s ts w)) (site_behind (map plain_code fs) g b (plain_code f) (temp_number g f h.number) place h.standing)))
      (enter_block n ih g b own r s f vs ts w e h.number h.holds h.held ordinary waits defined (sym v ∙ is))

  -- ---- instructions that put a value

  -- registers behind one that was set
  now_holds : (d : ℕ) (v : Value) (r : Registers) (s t : Temps) → ((k : ℕ) → s (Temp (temp_of k)) ≡ Plain (r k)) → t (Temp (temp_of d)) ≡ Plain v
      → ((k : ℕ) → IsOfRegister k → (k == temp_of d) ≡ false → t (Temp k) ≡ s (Temp k)) → (k : ℕ) → t (Temp (temp_of k)) ≡ Plain (set_register d v r k)
  now_holds d v r s t holds put kept k = by_test (k == d) refl
    where
      by_test : (b : Bool) → (k == d) ≡ b → t (Temp (temp_of k)) ≡ Plain (if b then v else r k)
      by_test true e = ap (λ j. t (Temp (temp_of j))) (eqb-true k d e) ∙ put
      by_test false e = kept (temp_of k) (of_register k) (other_temp k d e) ∙ holds k

  pub now_held : (d : ℕ) (v : Value) (r : Registers) → ((k : ℕ) → IsHeldWord (r k)) → IsHeldWord v → (k : ℕ) → IsHeldWord (set_register d v r k)
  now_held d v r held new k = by_test (k == d)
    where
      by_test : (b : Bool) → IsHeldWord (if b then v else r k)
      by_test true = new
      by_test false = held k

  -- the registers that are written, as a list of one
  one_register : (ds : List ℕ) (d : ℕ) (v : Value) (r : Registers) → ds ≡ d ∷ [] → set_registers ds (v ∷ []) r ≡ set_register d v r
  one_register ds d v r e = ap (λ l. set_registers l (v ∷ []) r) e

  -- code that puts a value into a register, past which both go on
  pub put_tail : (n : ℕ) → Simulates n → (g b at place own : ℕ) (r : Registers) (s : Temps) (f : VmFunction) (left : List VmInsn) (vs : List (Frame Registers)) (ts : List (Frame Temps)) (w : World) (e : Ending)
      (xs : List TempInsn) (d : ℕ) (v : Value) → slice_get fs g ≡ Some f → BlockPlace f.blocks b at left → FlowingPlace (selected_blocks f.params f.blocks) b place (xs ++ selected_insns left)
      → ((k : ℕ) → s (Temp (temp_of k)) ≡ Plain (r k)) → ((k : ℕ) → IsHeldWord (r k)) → IsOrdinary w.outer → Waits vs ts → IsDefined e
      → PutsValue s w.outer (temp_of d) v (runs (widest_call (selected_blocks f.params f.blocks)) xs own s w.outer) → IsHeldWord v
      → exec Value Registers rooms (vm_code (map code_of fs)) n (vm_conf g b at own (set_register d v r) vs w) ≡ Over e →
      Reaches (temp_conf g b place own s ts w) e
  put_tail n ih g b at place own r s f left vs ts w e xs d v number placed standing holds held ordinary waits defined comes new is =
      let c = subst (Came rooms (map plain_code fs) g b own ts w.meter (plain_code f) (temp_number g f number) place s w.outer (selected_insns left)) comes.goes_on
      (straight rooms (map plain_code fs) g b own ts w.meter (plain_code f) (temp_number g f number) xs (selected_insns left) place s w.outer standing) in
      comes_then rooms (map plain_code fs) (temp_conf g b place own s ts w) (temp_conf g b c.place own comes.after ts w) (Over e) c.comes
      (ih g b at c.place own (set_register d v r) comes.after f left vs ts w e
      (record {
        number = number;
        placed = placed;
        standing = c.standing;
        holds = now_holds d v r s comes.after holds comes.holds comes.kept;
        held = now_held d v r held new;
      }) ordinary waits defined is)

  -- what a call left in register 0 is put into its register, if one is named
  pub result_tail : (n : ℕ) → Simulates n → (g b at place own : ℕ) (r : Registers) (s : Temps) (f : VmFunction) (left : List VmInsn) (vs : List (Frame Registers)) (ts : List (Frame Temps)) (w : World) (e : Ending)
      (d : Option ℕ) (us : List Value) → slice_get fs g ≡ Some f → BlockPlace f.blocks b at left → FlowingPlace (selected_blocks f.params f.blocks) b place (result_items d ++ selected_insns left)
      → ((k : ℕ) → s (Temp (temp_of k)) ≡ Plain (r k)) → ((k : ℕ) → IsHeldWord (r k)) → IsOrdinary w.outer → Waits vs ts → IsDefined e
      → s (Fixed 0) ≡ Plain (first_or_unset us) → IsHeldWord (first_or_unset us)
      → exec Value Registers rooms (vm_code (map code_of fs)) n (vm_conf g b at own (set_registers (named_register d) us r) vs w) ≡ Over e →
      Reaches (temp_conf g b place own s ts w) e
  result_tail n ih g b at place own r s f left vs ts w e None us number placed standing holds held ordinary waits defined answer new is =
      ih g b at place own r s f left vs ts w e (record { number = number; placed = placed; standing = standing; holds = holds; held = held }) ordinary waits defined is
  result_tail n ih g b at place own r s f left vs ts w e (Some d) us number placed standing holds held ordinary waits defined answer new is =
      let y : TempInsn = i.FromFixed (temp_of d) FixedRegister.Value in
      put_tail n ih g b at place own r s f left vs ts w e (y ∷ []) d (first_or_unset us) number placed standing holds held ordinary waits defined
      (record {
        after = put holder_eq (Temp (temp_of d)) (s (Fixed 0)) (without (is_emptied y) s);
        goes_on = refl;
        holds = put_here (temp_of d) (s (Fixed 0)) (without (is_emptied y) s) ∙ answer;
        kept = λ t of other. put_beside (temp_of d) (s (Fixed 0)) (without (is_emptied y) s) (Temp t) other;
      }) new is

  -- ---- what a step over temporaries comes to

  abbrev pub NextReaches : Next Temps → Ending → Type 0
  NextReaches (Goes l) e = Reaches l e
  NextReaches (Over z) e = z ≡ e

  pub by_next : (l : Config Temps) (q : Next Temps) (e : Ending) → step Content Temps rooms (temp_code (map plain_code fs)) l ≡ q → NextReaches q e → Reaches l e
  by_next l (Goes k) e is h = comes_then rooms (map plain_code fs) l k (Over e) (comes_by rooms (map plain_code fs) l (Goes k) is) h
  by_next l (Over z) e is h = comes_by rooms (map plain_code fs) l (Over e) (is ∙ ap (λ q. Over q) h)

  pub same_ending : (z e : Ending) → is_over z ≡ is_over e → z ≡ e
  same_ending z e q = cc

  module _ (n : ℕ) (ih : Simulates n) (g b at place own : ℕ) (r : Registers) (s : Temps) (f : VmFunction) (y : VmInsn) (left : List VmInsn) (vs : List (Frame Registers)) (ts : List (Frame Temps)) (w : World) (e : Ending)
      (h : Here g b at place r s f (y ∷ left)) (ordinary : IsOrdinary w.outer) (waits : Waits vs ts) (defined : IsDefined e)
      (is : exec Value Registers rooms (vm_code (map code_of fs)) (suc n) (vm_conf g b at own r vs w) ≡ Over e) where
    -- the act of an instruction without a turn, and the rest
    pub vm_acts : (a : Act Value) → takes_turn y ≡ false → does y own (map r (reads_of y)) w.outer ≡ a →
        go_on (act_on Value Registers rooms (vm_code (map code_of fs)) (vm_conf g b at own r vs w) w.meter (insn_site y) a) (exec Value Registers rooms (vm_code (map code_of fs)) n) ≡ Over e
    vm_acts a turn act =
        sym (vm_steps n g b at own r f y left vs w h.number h.placed
        ∙ ap (λ t. go_on (step_with Value Registers rooms (vm_code (map code_of fs)) (vm_conf g b at own r vs w) (insn_site y) (turn_if t w.meter)) (exec Value Registers rooms (vm_code (map code_of fs)) n)) turn
        ∙ ap (λ c. go_on (act_on Value Registers rooms (vm_code (map code_of fs)) (vm_conf g b at own r vs w) w.meter (insn_site y) c) (exec Value Registers rooms (vm_code (map code_of fs)) n)) act)
        ∙ is

    came : (ran : Ran) → runs (widest_call (selected_blocks f.params f.blocks)) (selected_insn y) own s w.outer ≡ ran →
        Came rooms (map plain_code fs) g b own ts w.meter (plain_code f) (temp_number g f h.number) place s w.outer (selected_insns left) ran
    came ran e2 =
        subst (Came rooms (map plain_code fs) g b own ts w.meter (plain_code f) (temp_number g f h.number) place s w.outer (selected_insns left)) e2
        (straight rooms (map plain_code fs) g b own ts w.meter (plain_code f) (temp_number g f h.number) (selected_insn y) (selected_insns left) place s w.outer h.standing)

    pub value_step : (d : ℕ) (a : Answer) → takes_turn y ≡ false → writes_of y ≡ d ∷ [] → does y own (map r (reads_of y)) w.outer ≡ writes a w.outer →
        CodeAnswers s w.outer (temp_of d) a (runs (widest_call (selected_blocks f.params f.blocks)) (selected_insn y) own s w.outer) → AnswerIsHeld a → Reaches (temp_conf g b place own s ts w) e
    value_step d (Gives v) turn one act comes new =
        let registers : set_registers (writes_of y) (v ∷ []) r ≡ set_register d v r = one_register (writes_of y) d v r one in
        put_tail n ih g b (suc at) place own r s f left vs ts w e (selected_insn y) d v h.number (next_place f.blocks b at y left h.placed) h.standing h.holds h.held ordinary waits defined comes new
        (ap (λ rs. exec Value Registers rooms (vm_code (map code_of fs)) n (vm_conf g b (suc at) own rs vs w)) (sym registers) ∙ vm_acts (Writes (v ∷ []) w.outer) turn act)
    value_step d (TrapsWith code) turn one act comes new =
        let c = came (Halted (Traps code) w.outer) comes in
        let same : Trap w code ≡ e = same_ending (Trap w code) e (vm_acts (Stops (Traps code) w.outer) turn act) in
        subst (λ z. Reaches (temp_conf g b place own s ts w) z) same c.comes
    value_step d Fails turn one act comes new = absurd (never_undefined w _ e (vm_acts (Stops HasNoMeaning w.outer) turn act) defined)

    -- ---- and those that change the memory

    pub memory_step : (q : Option Memory) → takes_turn y ≡ false → writes_of y ≡ [] → does y own (map r (reads_of y)) w.outer ≡ changes q w.outer →
        ComesToMemory s w.outer q (runs (widest_call (selected_blocks f.params f.blocks)) (selected_insn y) own s w.outer) → AnyMemoryHasBytes q → Reaches (temp_conf g b place own s ts w) e
    memory_step (Some m) turn none_ act comes new =
        let u : World = record { outer = outer_with_memory w.outer m; meter = w.meter } in
        let c = came (After comes.after (outer_with_memory w.outer m)) comes.goes_on in
        let registers : set_registers (writes_of y) [] r ≡ r = ap (λ l. set_registers l [] r) none_ in
        comes_then rooms (map plain_code fs) (temp_conf g b place own s ts w) (temp_conf g b c.place own comes.after ts u) (Over e) c.comes
        (ih g b (suc at) c.place own r comes.after f left vs ts u e
        (record {
          number = h.number;
          placed = next_place f.blocks b at y left h.placed;
          standing = c.standing;
          holds = λ k. comes.kept (temp_of k) (of_register k) ∙ h.holds k;
          held = h.held;
        }) (record { memory = new; input = ordinary.input }) waits defined
        (ap (λ rs. exec Value Registers rooms (vm_code (map code_of fs)) n (vm_conf g b (suc at) own rs vs u)) (sym registers) ∙ vm_acts (Writes [] (outer_with_memory w.outer m)) turn act))
    memory_step None turn none_ act comes new = absurd (never_undefined w _ e (vm_acts (Stops HasNoMeaning w.outer) turn act) defined)

    -- ---- instructions whose code has one that takes a turn, or is no straight one, behind straight code

    before_last : (xs : List TempInsn) (z : TempInsn) (rest : List TempInsn) (t : Temps) → selected_insns (y ∷ left) ≡ xs ++ z ∷ rest → runs (widest_call (selected_blocks f.params f.blocks)) xs own s w.outer ≡ After t w.outer →
        CameBehind rooms (map plain_code fs) g b own ts w.meter (plain_code f) (temp_number g f h.number) place s w.outer (z ∷ rest) t w.outer
    before_last xs z rest t parts ran =
        subst (Came rooms (map plain_code fs) g b own ts w.meter (plain_code f) (temp_number g f h.number) place s w.outer (z ∷ rest)) ran
        (straight rooms (map plain_code fs) g b own ts w.meter (plain_code f) (temp_number g f h.number) xs (z ∷ rest) place s w.outer
        (subst (FlowingPlace (selected_blocks f.params f.blocks) b place) parts h.standing))

    pub turn_step : (xs : List TempInsn) (z : TempInsn) (rest : List TempInsn) (t : Temps) → selected_insns (y ∷ left) ≡ xs ++ z ∷ rest → takes_turn y ≡ true → temps.takes_turn z ≡ true
        → runs (widest_call (selected_blocks f.params f.blocks)) xs own s w.outer ≡ After t w.outer
        → ((m : Meter) (there : ℕ) → FlowingPlace (selected_blocks f.params f.blocks) b there (z ∷ rest) →
        go_on (act_on Value Registers rooms (vm_code (map code_of fs)) (vm_conf g b at own r vs w) m (insn_site y) (does y own (map r (reads_of y)) w.outer)) (exec Value Registers rooms (vm_code (map code_of fs)) n) ≡ Over e →
        NextReaches (act_on Content Temps rooms (temp_code (map plain_code fs)) (temp_conf g b there own t ts w) m (temp_site (widest_call (selected_blocks f.params f.blocks)) z)
        (temps.does (widest_call (selected_blocks f.params f.blocks)) z own (map t (holders_read z)) w.outer)) e) →
        Reaches (temp_conf g b place own s ts w) e
    turn_step xs z rest t parts turn turn2 ran go =
        let c = before_last xs z rest t parts ran in
        let l = temp_conf g b c.place own t ts w in
        let stepped = temp_steps g b c.place own t f z rest ts w h.number c.standing
        ∙ ap (λ u. step_with Content Temps rooms (temp_code (map plain_code fs)) l (temp_site (widest_call (selected_blocks f.params f.blocks)) z) (turn_if u w.meter)) turn2 in
        let gone = sym (vm_steps n g b at own r f y left vs w h.number h.placed
        ∙ ap (λ u. go_on (step_with Value Registers rooms (vm_code (map code_of fs)) (vm_conf g b at own r vs w) (insn_site y) (turn_if u w.meter)) (exec Value Registers rooms (vm_code (map code_of fs)) n)) turn) ∙ is in
        comes_then rooms (map plain_code fs) (temp_conf g b place own s ts w) l (Over e) c.comes
        (by_next l (step_with Content Temps rooms (temp_code (map plain_code fs)) l (temp_site (widest_call (selected_blocks f.params f.blocks)) z) (take_turn w.meter)) e stepped
        (by_turn (take_turn w.meter) c.place c.standing gone))
      where
        by_turn : (m : Option Meter) (there : ℕ) → FlowingPlace (selected_blocks f.params f.blocks) b there (z ∷ rest) →
            go_on (step_with Value Registers rooms (vm_code (map code_of fs)) (vm_conf g b at own r vs w) (insn_site y) m) (exec Value Registers rooms (vm_code (map code_of fs)) n) ≡ Over e →
            NextReaches (step_with Content Temps rooms (temp_code (map plain_code fs)) (temp_conf g b there own t ts w) (temp_site (widest_call (selected_blocks f.params f.blocks)) z) m) e
        by_turn None there st q = same_ending (More w) e q
        by_turn (Some m) there st q = go m there st q

    pub last_step : (xs : List TempInsn) (z : TempInsn) (rest : List TempInsn) (t : Temps) → selected_insns (y ∷ left) ≡ xs ++ z ∷ rest → temps.takes_turn z ≡ false
        → runs (widest_call (selected_blocks f.params f.blocks)) xs own s w.outer ≡ After t w.outer
        → ((there : ℕ) → FlowingPlace (selected_blocks f.params f.blocks) b there (z ∷ rest) →
        NextReaches (act_on Content Temps rooms (temp_code (map plain_code fs)) (temp_conf g b there own t ts w) w.meter (temp_site (widest_call (selected_blocks f.params f.blocks)) z)
        (temps.does (widest_call (selected_blocks f.params f.blocks)) z own (map t (holders_read z)) w.outer)) e) →
        Reaches (temp_conf g b place own s ts w) e
    last_step xs z rest t parts turn ran go =
        let c = before_last xs z rest t parts ran in
        let l = temp_conf g b c.place own t ts w in
        let stepped = temp_steps g b c.place own t f z rest ts w h.number c.standing
        ∙ ap (λ u. step_with Content Temps rooms (temp_code (map plain_code fs)) l (temp_site (widest_call (selected_blocks f.params f.blocks)) z) (turn_if u w.meter)) turn in
        comes_then rooms (map plain_code fs) (temp_conf g b place own s ts w) l (Over e) c.comes
        (by_next l _ e stepped (go c.place c.standing))
