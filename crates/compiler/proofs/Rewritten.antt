-- The code of a rewritten unit does what the unit does, and takes no more than the unit's weight allows.
use Rattle.std.proofs.Common.{◌≡◌, ◌+◌, ◌≤◌, List, [], ◌∷◌, sum_by, ap, ◌∙◌, subst, arith}
use Rattle.std.specs.Prelude.{All}
use Rattle.std.specs.List.{AllZip}
use Rattle.std.proofs.lemmas.List.Elements.{All-weaker}
use Rattle.std.proofs.lemmas.List.Sums.{sum_by-cons}
use Rattle.c_typed_tree.specs.declared.types.StructDef.{StructDef}
use Rattle.c_typed_tree.specs.declared.units.TypedFn.{TypedFn}
use Rattle.c_typed_tree.specs.declared.units.TypedUnit.{TypedUnit}
use Rattle.c_typed_tree.specs.Weight.{function_weight, unit_weight}
use Rattle.c_typing_weight.specs.Limits.{most_weight}
use Rattle.c_semantics.specs.Refines.{WeighNoMore, none_weighs, one_weighs}
use Rattle.c_rewrite.specs.Rewritten.{IsRewrittenFn}
use Rattle.suifvm_ir.specs.declared.insn.VmInsn.{VmInsn}
use Rattle.suifvm_ir.specs.Programs.{VmFunction, arguments_of}
use Rattle.lowering_code.specs.Functions.{objects_of}
use Rattle.lowering.specs.Lowered.{IsWithinWeight, StandsFor, AllStandFor}
use Rattle.compiler_theorem.specs.RefinedCode.{RefinedUnitsHaveCode}
use Rattle.compiler.specs.model.Stages.{IsRewrittenUnit, RewrittenCodeDoesAsUnit}

-- ---- weights

sum_low : (u : TypedUnit) (fs gs : List TypedFn) → WeighNoMore u gs fs → sum_by (λ (f : TypedFn). 1 + function_weight u.structs f) gs ≤ sum_by (λ (f : TypedFn). 1 + function_weight u.structs f) fs
sum_low u [] [] none_weighs = omega arith
sum_low u [] (g ∷ gs) h = elim h [ ]
sum_low u (f ∷ fs) [] h = elim h [ ]
sum_low u (f ∷ fs) (g ∷ gs) (one_weighs low rest) =
    let less = sum_low u fs gs rest in
    let one = sum_by-cons (λ (x : TypedFn). 1 + function_weight u.structs x) f fs in
    let other = sum_by-cons (λ (x : TypedFn). 1 + function_weight u.structs x) g gs in
    omega (arith, less, low, one, other)

-- a rewritten unit weighs no more than the unit
weighs_no_more : (u rewritten : TypedUnit) → IsRewrittenUnit u rewritten → unit_weight rewritten ≤ unit_weight u
weighs_no_more u rewritten h =
    let low = sum_low u u.functions rewritten.functions h.refines.weight in
    let same : sum_by (λ (f : TypedFn). 1 + function_weight rewritten.structs f) rewritten.functions ≡ sum_by (λ (f : TypedFn). 1 + function_weight u.structs f) rewritten.functions =
    ap (λ ds. sum_by (λ (f : TypedFn). 1 + function_weight ds f) rewritten.functions) h.is.structs in
    omega (arith, low, same)

pub light_too : (u rewritten : TypedUnit) → IsRewrittenUnit u rewritten → unit_weight u ≤ most_weight → unit_weight rewritten ≤ most_weight
light_too u rewritten h light = let low = weighs_no_more u rewritten h in omega (arith, low, light)

-- ---- functions

within_more : (ds : List StructDef) (f g : TypedFn) (v : VmFunction) → function_weight ds g ≤ function_weight ds f → IsWithinWeight ds g v → IsWithinWeight ds f v
within_more ds f g v low h =
    let registers = h.registers in
    let cost = h.cost in
    let fewer : (i : VmInsn) → arguments_of i ≤ function_weight ds g → arguments_of i ≤ function_weight ds f = λ i few. omega (arith, low, few) in
    record {
      registers = omega (arith, low, registers);
      arguments = All-weaker (All (λ i. arguments_of i ≤ function_weight ds g)) (All (λ i. arguments_of i ≤ function_weight ds f))
          (λ block few. All-weaker (λ i. arguments_of i ≤ function_weight ds g) (λ i. arguments_of i ≤ function_weight ds f) fewer block few) v.blocks h.arguments;
      cost = omega (arith, low, cost);
    }

-- what stands for a rewritten function stands for the function
one_stands : (ds : List StructDef) (f g : TypedFn) (v : VmFunction) → IsRewrittenFn f g → function_weight ds g ≤ function_weight ds f → StandsFor ds g v → StandsFor ds f v
one_stands ds f g v is low stands = record {
  name = stands.name ∙ is.name;
  params = stands.params ∙ is.params;
  objects = stands.objects ∙ ap (objects_of ds) is.locals;
  registers = stands.registers;
  within = within_more ds f g v low stands.within;
}

all_stand : (u : TypedUnit) (fs gs : List TypedFn) (vs : List VmFunction) → AllZip IsRewrittenFn fs gs → WeighNoMore u gs fs → AllStandFor u.structs gs vs → AllStandFor u.structs fs vs
all_stand u [] [] [] are none_weighs stand = tt
all_stand u [] [] (v ∷ vs) are none_weighs stand = absurd stand
all_stand u [] (g ∷ gs) vs are low stand = absurd are
all_stand u (f ∷ fs) [] vs are low stand = absurd are
all_stand u (f ∷ fs) (g ∷ gs) [] are (one_weighs low rest) stand = absurd stand
all_stand u (f ∷ fs) (g ∷ gs) (v ∷ vs) are (one_weighs low rest) stand =
    (one_stands u.structs f g v are.0 low stand.0, all_stand u fs gs vs are.1 rest stand.1)

-- ---- programs

pub rewritten_code_does_as_unit : RefinedUnitsHaveCode → RewrittenCodeDoesAsUnit
rewritten_code_does_as_unit have_code u rewritten vm h lowered = record {
  functions = all_stand u u.functions rewritten.functions vm.functions h.is.functions h.refines.weight
      (subst (λ ds. AllStandFor ds rewritten.functions vm.functions) h.is.structs lowered.functions);
  globals = lowered.code.globals ∙ h.is.globals;
  runs = have_code u rewritten vm h.refines lowered.runs;
  size = lowered.size;
  registers = lowered.registers;
}
