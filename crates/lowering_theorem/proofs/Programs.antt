-- The functions of a program of a unit are the code that the theorem on units speaks of, and `main` has its number.
use Rattle.std.proofs.Common.{◌≡◌, ◌≢◌, ℕ, suc, ◌+◌, ◌<◌, Bool, true, false, not, cond, List, [], ◌∷◌, length, map, filter, Some, None, refl, sym, ap, ap₂, ◌∙◌, subst, if◌then◌else◌, arith}
use Rattle.std.specs.Prelude.{bytes_eq, codes, position, unwrap_or}
use Rattle.std.specs.List.{position_or_len}
use Rattle.std.proofs.lemmas.Bool.{lt-ltb}
use Rattle.mem_model.specs.Ending.{Ending, Done, Trap, Undefined, More, EndsAs, ending_peak, IsDefined}
use Rattle.suifvm_ir.specs.declared.insn.VmInsn.{VmInsn}
use Rattle.suifvm_ir.specs.Programs as program
use Rattle.suifvm_ir.specs.Programs.{VmFunction}
use Rattle.suifvm_meaning.specs.Behave as vm
use Rattle.suifvm_meaning.specs.Behave.{FunctionCode, code_of}
use Rattle.c_mean.specs.Behaviour as b
use Rattle.c_typed_tree.specs.declared.types.StructDef.{StructDef}
use Rattle.c_typed_tree.specs.declared.units.TypedFn.{TypedFn}
use Rattle.c_typed_tree.specs.declared.units.TypedUnit.{TypedUnit}
use Rattle.c_typed_tree.specs.Lawful as lawful
use Rattle.c_typed_tree.specs.Lawful.{IsTypedUnit}
use Rattle.c_semantics.specs.Behaves as c
use Rattle.c_semantics.specs.Behaves.{place_of_main, behaviour_of, rooms_of, run_main}
use Rattle.lowering.specs.Lowered.{IsLowered, AreLowered}
use Rattle.lowering_theorem.specs.lowering_unit_theorem.LoweringFunctionLaws.{code_for}
use Rattle.lowering_theorem.specs.lowering_unit_theorem.Laws.{RunsTo}
use Rattle.lowering_theorem.proofs.LoweringUnitTheorem.Units.{code_keeps_meaning}
use Rattle.lowering_theorem.specs.Laws.{VmRunsTo, ProgramsKeepMeaning, BehavioursAreKept}

-- ---- functions

abbrev code_with : List ℕ → List (List VmInsn) → FunctionCode
code_with sizes blocks = record { sizes = sizes; blocks = blocks }

module _ (ds : List StructDef) where
  code_same : (f : TypedFn) (g : VmFunction) → IsLowered ds f g → code_for ds f ≡ code_of g
  code_same f g l = ap₂ code_with (ap (λ os. map (λ o. o.size) os) (sym l.objects)) (sym l.blocks)

  codes_same : (fs : List TypedFn) (gs : List VmFunction) → AreLowered ds fs gs → map (code_for ds) fs ≡ map code_of gs
  codes_same [] [] l = refl
  codes_same [] (g ∷ gs) l = absurd l
  codes_same (f ∷ fs) [] l = absurd l
  codes_same (f ∷ fs) (g ∷ gs) l = ap₂ (λ x xs. x ∷ xs) (code_same f g l.0) (codes_same fs gs l.1)

  -- ---- `main`

  lengths_same : (fs : List TypedFn) (gs : List VmFunction) → AreLowered ds fs gs → length gs ≡ length fs
  lengths_same [] [] l = refl
  lengths_same [] (g ∷ gs) l = absurd l
  lengths_same (f ∷ fs) [] l = absurd l
  lengths_same (f ∷ fs) (g ∷ gs) l = omega (arith, lengths_same fs gs l.1)

  one_on : (t : Bool) (m n : ℕ) → m ≡ n → cond (not t) (1 + m) 0 ≡ (if t then 0 else suc n)
  one_on true m n e = refl
  one_on false m n e = omega (arith, e)

  places_same : (fs : List TypedFn) (gs : List VmFunction) → AreLowered ds fs gs → position_or_len program.is_main gs ≡ place_of_main fs
  places_same [] [] l = refl
  places_same [] (g ∷ gs) l = absurd l
  places_same (f ∷ fs) [] l = absurd l
  places_same (f ∷ fs) (g ∷ gs) l =
      let same : program.is_main g ≡ lawful.is_main f = ap (λ n. bytes_eq n (codes "main")) l.0.name in
      ap (λ t. cond (not t) (1 + position_or_len program.is_main gs) 0) same ∙ one_on (lawful.is_main f) (position_or_len program.is_main gs) (place_of_main fs) (places_same fs gs l.1)

-- where a function is `main`, its place is within
main_within : (fs : List TypedFn) → 0 < length (filter lawful.is_main fs) → place_of_main fs < length fs
main_within [] h = absurd (omega (arith, h))
main_within (f ∷ fs) h = by (lawful.is_main f) (λ g. main_within fs g) h
  where
    by : (t : Bool) → (0 < length (filter lawful.is_main fs) → place_of_main fs < length fs) → 0 < length (cond t (f ∷ filter lawful.is_main fs) (filter lawful.is_main fs)) → (if t then 0 else suc (place_of_main fs)) < length (f ∷ fs)
    by true more h = omega arith
    by false more h = omega (arith, more h)

found_at : (gs : List VmFunction) → position_or_len program.is_main gs < length gs → unwrap_or (position program.is_main gs) 0 ≡ position_or_len program.is_main gs
found_at gs h = ap (λ t. unwrap_or (cond t (Some (position_or_len program.is_main gs)) None) 0) (lt-ltb (position_or_len program.is_main gs) (length gs) h)

mains_same : (u : TypedUnit) (gs : List VmFunction) → IsTypedUnit u → AreLowered u.structs u.functions gs → c.main_of u ≡ vm.main_of gs
mains_same u gs typed l =
    let place = places_same u.structs u.functions gs l in
    let within = main_within u.functions (omega (arith, typed.main.one)) in
    sym (found_at gs (omega (arith, place, within, lengths_same u.structs u.functions gs l)) ∙ place)

-- ---- runs

pub programs_keep_meaning : ProgramsKeepMeaning
programs_keep_meaning u p typed code rooms input turns bytes defined =
    let o : Ending = run_main u rooms input turns in
    let first = code_keeps_meaning u typed rooms input turns bytes defined in
    let second = subst (λ fs. RunsTo rooms fs (c.main_of u) u.globals input turns o) (codes_same u.structs u.functions p.functions code.functions) first in
    let third = subst (λ k. RunsTo rooms (map code_of p.functions) k u.globals input turns o) (mains_same u p.functions typed code.functions) second in
    let last : RunsTo rooms (map code_of p.functions) (vm.main_of p.functions) p.globals input turns o = subst (λ gs. RunsTo rooms (map code_of p.functions) (vm.main_of p.functions) gs input turns o) (sym code.globals) third in
    record {
      ending = last.ending;
      ends = record { steps = last.ends.steps; over = last.ends.over };
      same = last.same;
      only = λ e h. last.only e (record { steps = h.steps; over = h.over });
    }

-- ---- behaviours

defined_is : (o : Ending) → behaviour_of o ≢ b.Undefined → IsDefined o
defined_is (Done w n) ne = tt
defined_is (Trap w n) ne = tt
defined_is (Undefined w n) ne = absurd (ne refl)
defined_is (More w) ne = tt

behaviours_same : (e o : Ending) → IsDefined o → EndsAs e o → (behaviour_of e ≡ behaviour_of o) × (ending_peak e ≡ ending_peak o)
behaviours_same e (Undefined w n) h s = absurd h
behaviours_same (Done v m) (Done w n) h s = (ap₂ b.Done s.1.output s.0, s.1.peak)
behaviours_same (Done v m) (Trap w n) h s = absurd s
behaviours_same (Done v m) (More w) h s = absurd s
behaviours_same (Trap v m) (Done w n) h s = absurd s
behaviours_same (Trap v m) (Trap w n) h s = (ap₂ b.Trap s.1.output s.0, s.1.peak)
behaviours_same (Trap v m) (More w) h s = absurd s
behaviours_same (More v) (Done w n) h s = absurd s
behaviours_same (More v) (Trap w n) h s = absurd s
behaviours_same (More v) (More w) h s = (ap b.More s.output, s.peak)
behaviours_same (Undefined v m) (Done w n) h s = absurd s
behaviours_same (Undefined v m) (Trap w n) h s = absurd s
behaviours_same (Undefined v m) (More w) h s = absurd s

pub behaviours_are_kept : BehavioursAreKept
behaviours_are_kept u p runs input turns bytes ne =
    let o : Ending = run_main u (rooms_of u) input turns in
    let defined = defined_is o ne in
    let it : VmRunsTo (rooms_of u) p input turns o = runs (rooms_of u) input turns bytes defined in
    let same = behaviours_same it.ending o defined it.same in
    record { ending = it.ending; ends = it.ends; behaviour = same.0; peak = same.1 }
