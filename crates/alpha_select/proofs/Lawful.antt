-- The selected functions are as a program asks.
use Rattle.std.proofs.Common.{◌≡◌, ◌+◌, ◌*◌, ◌≤◌, List, [], ◌∷◌, length, map, sum_by, All, refl, sym, ap, ◌∙◌, subst, arith}
use Rattle.std.proofs.lemmas.List.{length-map}
use Rattle.std.proofs.lemmas.List.Sums.{sum_by-cons}
use Rattle.mem_objects.specs.declared.DataObject.{DataObject}
use Rattle.suifvm_ir.specs.declared.program.VmProgram.{VmProgram}
use Rattle.pass_core.specs.Functions.{AllInsns, count_of}
use Rattle.suifvm_ir.specs.Programs.{VmFunction, function_size, program_size}
use Rattle.suifvm_ir.specs.Programs as vm
use Rattle.temp_ir.specs.declared.program.TempProgram.{TempProgram}
use Rattle.temp_ir.specs.Cost.{bulk_when_split}
use Rattle.temp_ir.specs.Programs.{TempFn, main_count, IsLawfulTempFn}
use Rattle.suifvm_zero_branches.proofs.Functions.{tested_function, cost_kept, size_kept}
use Rattle.suifvm_zero_branches.proofs.Lawful.{mains_stay, names_stay}
use Rattle.suifvm_zero_branches.proofs.Lawful as tests
use Rattle.selection_code.specs.Fields.{HasFields}
use Rattle.selection_laws.specs.Selected.{IsSelected}
use Rattle.selection_laws.proofs.Plain.{selected_plain}
use Rattle.alpha_select.specs.Selection.{AreSelected, CostLittle}
use Rattle.alpha_select.specs.model.Limits.{IsWithinLimits}
use Rattle.alpha_select.proofs.Plain.{ArePlain, same_code, same_names}
use Rattle.alpha_select.proofs.Plain as plain

-- they have the code of functions whose branches test values
are_plain : (fs : List VmFunction) (gs : List TempFn) → AreSelected fs gs → ArePlain (map tested_function fs) gs
are_plain [] [] h = tt
are_plain [] (g ∷ gs) h = absurd h
are_plain (f ∷ fs) [] h = absurd h
are_plain (f ∷ fs) (g ∷ gs) h =
    (record { name = h.0.name; params = h.0.params; temps = h.0.temps; objects = h.0.objects; blocks = h.0.blocks }, are_plain fs gs h.1)

pub within_limits : (f : VmFunction) → IsWithinLimits f → IsWithinLimits (tested_function f)
within_limits f h = record { params = h.params; temps = h.temps; size = omega (arith, size_kept f, h.size) }

sizes_stay : (fs : List VmFunction) → program_size (map tested_function fs) ≡ program_size fs
sizes_stay [] = refl
sizes_stay (f ∷ fs) =
    omega (arith, size_kept f, sizes_stay fs, sum_by-cons function_size (tested_function f) (map tested_function fs), sum_by-cons function_size f fs)

costs_stay : (fs : List VmFunction) (gs : List TempFn) → CostLittle (map tested_function fs) gs → CostLittle fs gs
costs_stay [] [] h = tt
costs_stay [] (g ∷ gs) h = absurd h
costs_stay (f ∷ fs) [] h = absurd h
costs_stay (f ∷ fs) (g ∷ gs) h = (subst (λ n. bulk_when_split g ≤ n) (cost_kept f) h.0, costs_stay fs gs h.1)

pub same_length : (fs : List VmFunction) (gs : List TempFn) → AreSelected fs gs → length gs ≡ length fs
same_length fs gs h = plain.same_length (map tested_function fs) gs (are_plain fs gs h) ∙ length-map fs tested_function

pub same_mains : (fs : List VmFunction) (gs : List TempFn) → AreSelected fs gs → main_count gs ≡ vm.main_count fs
same_mains fs gs h = plain.same_mains (map tested_function fs) gs (are_plain fs gs h) ∙ mains_stay fs

pub all_lawful : (fs : List VmFunction) (gs : List TempFn) (globals : List DataObject) → AreSelected fs gs → All (vm.IsLawfulFunction fs globals) fs → All (IsLawfulTempFn gs globals) gs
all_lawful fs gs globals h law = plain.all_lawful (map tested_function fs) gs globals (are_plain fs gs h) (tests.all_lawful fs globals law)

pub all_short : (fs : List VmFunction) (gs : List TempFn) → AreSelected fs gs → sum_by (λ (g : TempFn). 5 * length g.blocks + count_of g.blocks) gs ≤ 13 * program_size fs
all_short fs gs h = omega (arith, plain.all_short (map tested_function fs) gs (are_plain fs gs h), sizes_stay fs)

pub all_cost : (fs : List VmFunction) (gs : List TempFn) → AreSelected fs gs → CostLittle fs gs
all_cost fs gs h = costs_stay fs gs (plain.all_cost (map tested_function fs) gs (are_plain fs gs h))

-- ---- the program

pub selected_is : (program : VmProgram) (selected : TempProgram) → AreSelected program.functions selected.functions → selected.globals ≡ program.globals → All (λ (f : VmFunction). AllInsns HasFields f.blocks) program.functions → IsSelected program selected
selected_is program selected all same fields =
    let h = are_plain program.functions selected.functions all in
    record {
      code = same_code (map tested_function program.functions) selected.functions h ∙ selected_plain program.functions;
      names = same_names (map tested_function program.functions) selected.functions h ∙ names_stay program.functions;
      globals = same;
      fields = fields;
    }
