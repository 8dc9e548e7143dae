-- What passes make of code that does as a unit does so too, and takes no more than the unit's weight allows.
use Rattle.std.proofs.Common.{◌^◌, ◌≤◌, List, [], ◌∷◌, Option, ◌∙◌, arith}
use Rattle.std.specs.Prelude.{All}
use Rattle.std.specs.List.{AllZip}
use Rattle.std.proofs.lemmas.List.Elements.{All-nil, All-cons, All-head, All-tail}
use Rattle.std.proofs.lemmas.List.Sums.{sum_by-cons}
use Rattle.mem_model.specs.Ending.{Ending, Done, Trap, Undefined, More, IsDefined}
use Rattle.c_typed_tree.specs.declared.types.StructDef.{StructDef}
use Rattle.c_typed_tree.specs.declared.units.TypedFn.{TypedFn}
use Rattle.c_typed_tree.specs.declared.units.TypedUnit.{TypedUnit}
use Rattle.c_typed_tree.specs.Weight.{function_weight}
use Rattle.c_semantics.specs.Behaves.{run_main}
use Rattle.suifvm_ir.specs.declared.program.VmProgram.{VmProgram}
use Rattle.suifvm_ir.specs.Programs.{VmFunction, function_size, program_size}
use Rattle.suifvm_meaning.specs.Laws.{OneVmEnding}
use Rattle.lowering.specs.Lowered.{StandsFor, AllStandFor}
use Rattle.flow_clean.specs.Programs.{FunctionKeeps, CodeKeeps, DoesAllOf}
use Rattle.compiler_theorem.specs.RefinedCode.{EndsBelow, VmRunsBelow, CodeRefines}
use Rattle.compiler.specs.declared.built.WantedParts.{WantedParts}
use Rattle.compiler.specs.model.Parts.{IsCleanCode}
use Rattle.compiler.specs.model.Stages.{IsRewrittenUnit, IsLoweredUnit, DoesAsUnit, RewrittenCodeDoesAsUnit, KeptCodeDoesAsUnit}

-- ---- runs

-- what ends below a defined ending is defined
still_defined : (e o : Ending) → IsDefined o → EndsBelow e o → IsDefined e
still_defined e (Undefined w n) defined h = absurd defined
still_defined (Done v m) (Done w n) defined h = tt
still_defined (Done v m) (Trap w n) defined h = tt
still_defined (Done v m) (More w) defined h = tt
still_defined (Trap v m) (Done w n) defined h = tt
still_defined (Trap v m) (Trap w n) defined h = tt
still_defined (Trap v m) (More w) defined h = tt
still_defined (More v) (Done w n) defined h = tt
still_defined (More v) (Trap w n) defined h = tt
still_defined (More v) (More w) defined h = tt
still_defined (Undefined v m) (Done w n) defined h = absurd h
still_defined (Undefined v m) (Trap w n) defined h = absurd h
still_defined (Undefined v m) (More w) defined h = absurd h

-- what does all of a program that refines a unit refines it
more_refines : OneVmEnding → (u : TypedUnit) (before after : VmProgram) → DoesAllOf after before → CodeRefines u before → CodeRefines u after
more_refines one u before after does runs rooms input turns bytes defined =
    let o : Ending = run_main u rooms input turns in
    let it : VmRunsBelow rooms before input turns o = runs rooms input turns bytes defined in
    let ends = does rooms input turns it.ending (still_defined it.ending o defined it.below) it.ends in
    record { ending = it.ending; ends = ends; below = it.below; only = λ e other. one rooms after input turns e it.ending other ends }

-- ---- functions

-- a function that is made of one that stands for a function of the unit, and keeps what it has to, stands for it too
one_stands : (ds : List StructDef) (f : TypedFn) (v g : VmFunction) → FunctionKeeps v g → StandsFor ds f v → StandsFor ds f g
one_stands ds f v g kept stands =
    let kept_params = kept.params in
    let kept_temps = kept.temps in
    let kept_cost = kept.cost in
    let registers = stands.registers in
    let few = stands.within.registers in
    let cost = stands.within.cost in
    record {
      name = kept.name ∙ stands.name;
      params = kept.params ∙ stands.params;
      objects = kept.objects ∙ stands.objects;
      registers = omega (arith, kept_params, kept_temps, registers);
      within = record {
        registers = omega (arith, kept_temps, few);
        arguments = kept.arguments (function_weight ds f) stands.within.arguments;
        cost = omega (arith, kept_cost, cost);
      };
    }

all_stand : (ds : List StructDef) (fs : List TypedFn) (vs gs : List VmFunction) → AllZip FunctionKeeps vs gs → AllStandFor ds fs vs → AllStandFor ds fs gs
all_stand ds [] [] [] kept stand = tt
all_stand ds [] [] (g ∷ gs) kept stand = absurd kept
all_stand ds [] (v ∷ vs) gs kept stand = absurd stand
all_stand ds (f ∷ fs) [] gs kept stand = absurd stand
all_stand ds (f ∷ fs) (v ∷ vs) [] kept stand = absurd kept
all_stand ds (f ∷ fs) (v ∷ vs) (g ∷ gs) kept stand = (one_stands ds f v g kept.0 stand.0, all_stand ds fs vs gs kept.1 stand.1)

-- ---- sizes and registers

smaller : (fs gs : List VmFunction) → AllZip FunctionKeeps fs gs → program_size gs ≤ program_size fs
smaller [] [] k = omega arith
smaller [] (g ∷ gs) k = absurd k
smaller (f ∷ fs) [] k = absurd k
smaller (f ∷ fs) (g ∷ gs) k =
    let one = k.0.size in
    let rest = smaller fs gs k.1 in
    omega (arith, one, rest, sum_by-cons function_size f fs, sum_by-cons function_size g gs)

pub kept_is_small : (before after : VmProgram) → CodeKeeps before after → program_size before.functions ≤ 2 ^ 24 → program_size after.functions ≤ 2 ^ 24
kept_is_small before after kept small = let less = smaller before.functions after.functions kept.functions in omega (arith, less, small)

abbrev HasFew : VmFunction → Type 0
HasFew f = f.temps ≤ 2 ^ 24

as_few : (f g : VmFunction) → FunctionKeeps f g → HasFew f → HasFew g
as_few f g kept few =
    let kept_temps = kept.temps in
    omega (arith, kept_temps, few)

all_few : (fs gs : List VmFunction) → AllZip FunctionKeeps fs gs → All HasFew fs → All HasFew gs
all_few [] [] kept few = All-nil HasFew
all_few [] (g ∷ gs) kept few = absurd kept
all_few (f ∷ fs) [] kept few = absurd kept
all_few (f ∷ fs) (g ∷ gs) kept few =
    All-cons HasFew g gs (as_few f g kept.0 (All-head HasFew f fs few)) (all_few fs gs kept.1 (All-tail HasFew f fs few))

-- ---- programs

pub kept_code_does_as_unit : OneVmEnding → KeptCodeDoesAsUnit
kept_code_does_as_unit one u before after does kept = record {
  functions = all_stand u.structs u.functions before.functions after.functions kept.functions does.functions;
  globals = kept.globals ∙ does.globals;
  runs = more_refines one u before after kept.does does.runs;
  size = kept_is_small before after kept does.size;
  registers = all_few before.functions after.functions kept.functions does.registers;
}

-- the code of a rewritten unit, when it is clean
pub clean_does : RewrittenCodeDoesAsUnit → KeptCodeDoesAsUnit → (u rewritten : TypedUnit) (lowered vm : VmProgram) (wanted : WantedParts) (given : Option VmProgram) → IsRewrittenUnit u rewritten → IsLoweredUnit rewritten lowered → IsCleanCode lowered wanted given vm → DoesAsUnit u vm
clean_does rewriting keeping u rewritten lowered vm wanted given is code clean = keeping u lowered vm (rewriting u rewritten lowered is code) clean.keeps
