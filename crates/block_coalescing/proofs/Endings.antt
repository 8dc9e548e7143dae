-- Programs with second versions of their functions have the same endings.
use Rattle.std.proofs.Common.{◌≡◌, ℕ, zero, suc, ◌+◌, Bool, List, [], ◌∷◌, Some, None, map, length, cond, not, refl, sym, ap, ◌∙◌}
use Rattle.std.specs.Prelude.{slice_get, unwrap_or, nat_lt, bytes_eq, codes}
use Rattle.std.specs.List.{AllZip, prefix_len}
use Rattle.mem_model.specs.World.{World, Rooms}
use Rattle.mem_model.specs.Ending.{Ending, IsDefined}
use Rattle.machine_model.specs.Code.{Code}
use Rattle.machine_model.specs.Machine.{Next, Goes, Over, step, go_on, exec, start_config}
use Rattle.temp_ir.specs.declared.program.TempProgram.{TempProgram}
use Rattle.temp_ir.specs.Programs.{TempFn, is_main}
use Rattle.alloc_model.specs.Contents.{Content}
use Rattle.alloc_model.specs.Temporaries.{TemporaryCode, code_of, Temps, temp_code, temp_run, TempsEnd, main_of, start_world}
use Rattle.alloc_model.specs.Laws.{OnlyTheseTrap}
use Rattle.block_coalescing.specs.Kept.{IsCoalesced, CoalescedProgramsKeepEndings}
use Rattle.machine_model.proofs.Lagging.{runs_arrive}
use Rattle.block_coalescing.proofs.Runs.{WalkedAt, Related, lags}

-- ---- functions

walked_at : (fs gs : List TempFn) → AllZip IsCoalesced fs gs → (k : ℕ) → WalkedAt (slice_get (map code_of fs) k) (slice_get (map code_of gs) k)
walked_at [] [] all k = tt
walked_at [] (g ∷ gs) all k = absurd all
walked_at (f ∷ fs) [] all k = absurd all
walked_at (f ∷ fs) (g ∷ gs) all zero = record {
  temps = f.temps;
  sizes = ap (map (λ o. o.size)) (sym all.0.objects);
  late = f.straight;
  coalesced = all.0.blocks;
}
walked_at (f ∷ fs) (g ∷ gs) all (suc k) = walked_at fs gs all.1 k

-- ---- the function where a program begins

length_same : (fs gs : List TempFn) → AllZip IsCoalesced fs gs → length fs ≡ length gs
length_same [] [] all = refl
length_same [] (g ∷ gs) all = absurd all
length_same (f ∷ fs) [] all = absurd all
length_same (f ∷ fs) (g ∷ gs) all = ap suc (length_same fs gs all.1)

abbrev is_other : TempFn → Bool
is_other f = not (is_main f)

others_same : (fs gs : List TempFn) → AllZip IsCoalesced fs gs → prefix_len is_other fs ≡ prefix_len is_other gs
others_same [] [] all = refl
others_same [] (g ∷ gs) all = absurd all
others_same (f ∷ fs) [] all = absurd all
others_same (f ∷ fs) (g ∷ gs) all =
    ap (λ name. cond (not (bytes_eq name (codes "main"))) (1 + prefix_len is_other fs) 0) (sym all.0.name)
    ∙ ap (λ n. cond (is_other g) (1 + n) 0) (others_same fs gs all.1)

abbrev main_at : (place count : ℕ) → ℕ
main_at place count = unwrap_or (cond (nat_lt place count) (Some place) None) 0

main_same : (fs gs : List TempFn) → AllZip IsCoalesced fs gs → main_of fs ≡ main_of gs
main_same fs gs all =
    ap (λ place. main_at place (length fs)) (others_same fs gs all)
    ∙ ap (main_at (prefix_len is_other gs)) (length_same fs gs all)

-- ---- an ending is the only one

module _ (rooms : Rooms) (c : Code Content Temps) where
  one_exec : (n m : ℕ) (x : Next Temps) (e f : Ending) → go_on x (exec Content Temps rooms c n) ≡ Over e → go_on x (exec Content Temps rooms c m) ≡ Over f → f ≡ e
  one_exec n m (Over x) e f p q = cc
  one_exec zero m (Goes k) e f p q = absurd (cc)
  one_exec (suc n) zero (Goes k) e f p q = absurd (cc)
  one_exec (suc n) (suc m) (Goes k) e f p q = one_exec n m (step Content Temps rooms c k) e f p q

one_ending : (rooms : Rooms) (program : TempProgram) (input : List ℕ) (turns : ℕ) (e f : Ending) → TempsEnd rooms program input turns e → TempsEnd rooms program input turns f → f ≡ e
one_ending rooms program input turns e f p q =
    one_exec rooms (temp_code (map code_of program.functions)) p.steps q.steps
    (Goes (start_config Content Temps rooms (temp_code (map code_of program.functions)) (main_of program.functions) (start_world program.globals input turns))) e f p.over q.over

-- ---- programs

module _ (traps : OnlyTheseTrap) (before after : TempProgram) (globals : after.globals ≡ before.globals) (all : AllZip IsCoalesced before.functions after.functions) where
  ends_too : (rooms : Rooms) (input : List ℕ) (turns : ℕ) (e : Ending) → IsDefined e → TempsEnd rooms before input turns e → TempsEnd rooms after input turns e
  ends_too rooms input turns e defined run =
      let fs : List TemporaryCode = map code_of before.functions in
      let gs : List TemporaryCode = map code_of after.functions in
      let main : ℕ = main_of before.functions in
      let w : World = start_world before.globals input turns in
      let comes = runs_arrive Content Temps Temps rooms (temp_code fs) (temp_code gs) (Related fs gs) (lags fs gs rooms traps (walked_at before.functions after.functions all)) run.steps main w e defined run.over in
      record {
        steps = comes.0;
        over =
            ap (λ m. temp_run rooms gs m (start_world after.globals input turns) comes.0) (sym (main_same before.functions after.functions all))
            ∙ ap (λ objects. temp_run rooms gs main (start_world objects input turns) comes.0) globals
            ∙ comes.1;
      }

pub programs_keep_endings : OnlyTheseTrap → CoalescedProgramsKeepEndings
programs_keep_endings traps before after globals all rooms input turns e defined old =
    let new = ends_too traps before after globals all rooms input turns e defined old.ends in
    record { ends = new; only = λ f other. one_ending rooms after input turns e f new other }
