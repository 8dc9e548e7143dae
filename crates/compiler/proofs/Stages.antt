-- What one stage of the compiler gives to the next, by the laws of the layers below.
use Rattle.std.proofs.Common.{◌≡◌, ℕ, ◌+◌, ◌*◌, ◌^◌, ◌<◌, ◌≤◌, List, [], ◌∷◌, length, sum_by, sym, ap, ◌∙◌, subst, arith}
use Rattle.std.specs.Prelude.{All, IsTrue, Result, Ok, Err, IfOk}
use Rattle.std.specs.List.{AllZip}
use Rattle.std.proofs.lemmas.List.Elements.{All-nil, All-cons, All-head, All-tail}
use Rattle.alpha_isa.specs.Program.{IsLawful}
use Rattle.alpha_items.specs.Assembly.{Assembly, IsWhole}
use Rattle.alpha_items.specs.Words.{Words}
use Rattle.alpha_items.specs.Items.{is_name}
use Rattle.alpha_items.specs.Layout.{text_words}
use Rattle.alpha_items.specs.declared.final_fn.FinalFn.{FinalFn}
use Rattle.alpha_asm.specs.declared.assemble.AsmFault.TheVariants.{CodeTooLong, NoMemory}
use Rattle.alpha_asm.specs.Fault.{HasFewWords, IsAsmFault}
use Rattle.mem_objects.specs.declared.DataObject.{DataObject}
use Rattle.mem_objects.specs.declared.TheConstants.{MOST_DATA}
use Rattle.mem_objects.specs.Globals.{AreLawful}
use Rattle.mem_objects.specs.Layout.{data_end}
use Rattle.c_typed_tree.specs.declared.units.TypedUnit.{TypedUnit}
use Rattle.c_typed_tree.specs.Weight.{unit_weight}
use Rattle.c_semantics.specs.Behaves.{rooms_of}
use Rattle.pass_core.specs.Functions.{AllInsns}
use Rattle.suifvm_ir.specs.declared.program.VmProgram.{VmProgram}
use Rattle.suifvm_ir.specs.Programs.{VmFunction}
use Rattle.flow_clean.specs.Programs.{IsProgramWithoutCopiesOf, IsCleanProgramOf}
use Rattle.alpha_select.specs.Selection.{AreSelected}
use Rattle.lowering_theorem.specs.Laws.{IsCodeOf}
use Rattle.temp_ir.specs.declared.program.TempProgram.{TempProgram}
use Rattle.temp_ir.specs.Programs.{TempFn}
use Rattle.alloc_model.specs.declared.allocation.Allocation.{Allocation}
use Rattle.image_assembly.specs.Ranges.{HasSmallNumbers}
use Rattle.block_passes.specs.Keeps.{KeepsFunction}
use Rattle.block_preparation_laws.specs.Fit.{TempFunctionsFit, TempFunctionsHaveNames, AreTempFunctionsOf}
use Rattle.block_preparation_laws.specs.Kept.{PassesKeepSelections}
use Rattle.alloc_rules.specs.Allocations.{AreAllocationsOf}
use Rattle.image_assembly_laws.specs.allocation_laws.Laws.{HasFrame, AllocationsFit, LabelsAreFew, AllocationsAreNear}
use Rattle.image_code_bounds.specs.program_rooms.Laws.{FunctionsHaveFrames, FramesFitTheirRooms}
use Rattle.image_code_bounds.specs.unit_words.Laws.{UnitTextsAreWithinWeight, UnitTextsFitImages}
use Rattle.image_code_bounds.specs.program_words.Words.{OnlyMemoryIsShort}
use Rattle.image_assembly.specs.Assemblies.{whole_assembly}
use Rattle.image_assembly.specs.Layouts.{FunctionsAreLaidOut}
use Rattle.image_assembly_laws.specs.Laws.{AssembliesAreWhole, AssembliesAreExact, ProgramsAreAllocated}
use Rattle.call_words.specs.declared.compile_options.Allocator.{Allocator}
use Rattle.compiler_front_end.specs.Units.{IsUnitWithin}
use Rattle.compiler.specs.declared.built.Built.{Built}
use Rattle.compiler.specs.Made.{Made, IsCalledAs, AllocatesBy}
use Rattle.compiler.specs.model.Stages.{IsRewrittenUnit, IsCodeWithin, CanBeLaidOut, CodeCanBeAssembled, IsAssemblyOf, IsAssemblyOfUnit, AssembliesAreMade}

-- the functions of a program are those of its unit
functions_of : TempFunctionsFit → (u : TypedUnit) (vm : VmProgram) (temps : TempProgram) → IsCodeWithin u vm temps → AreTempFunctionsOf u temps
functions_of fit u vm temps code =
    fit u vm code.selected temps code.does.functions code.does.size code.selection.functions code.selection.costs code.passed.keeps code.passed.split

-- they have the objects of the unit
globals_of : (u : TypedUnit) (vm : VmProgram) (temps : TempProgram) → IsCodeWithin u vm temps → temps.globals ≡ u.globals
globals_of u vm temps code = code.passed.keeps.globals ∙ code.selection.globals ∙ code.does.globals

-- ---- what is asked of an assembly

are_named : (fs : List TempFn) (allocations : List Allocation) → AreAllocationsOf fs allocations → All (λ (f : TempFn). IsTrue (is_name f.name)) fs → All (λ (a : Allocation). IsTrue (is_name a.func.name)) allocations
are_named [] [] h all = All-nil (λ (a : Allocation). IsTrue (is_name a.func.name))
are_named [] (a ∷ allocations) h all = absurd h
are_named (f ∷ fs) [] h all = absurd h
are_named (f ∷ fs) (a ∷ allocations) h all =
    All-cons (λ (x : Allocation). IsTrue (is_name x.func.name)) a allocations
    (subst (λ n. IsTrue (is_name n)) (sym h.0.name) (All-head (λ (x : TempFn). IsTrue (is_name x.name)) f fs all))
    (are_named fs allocations h.1 (All-tail (λ (x : TempFn). IsTrue (is_name x.name)) f fs all))

-- by these allocations
can_be_laid_out : AllocationsFit → LabelsAreFew → (temps : TempProgram) (allocations : List Allocation) → All HasFrame temps.functions → All (λ (f : TempFn). IsTrue (is_name f.name)) temps.functions
    → sum_by (λ (f : TempFn). length f.blocks + 2) temps.functions < 2 ^ 30 → AreLawful temps.globals → data_end temps.globals ≤ MOST_DATA → AreAllocationsOf temps.functions allocations → CanBeLaidOut temps allocations
can_be_laid_out fit few temps allocations frames names labels lawful data_size are =
    let fits = fit temps allocations are frames in
    let labels = few temps allocations are labels in
    record {
      some = fits.some;
      few = labels.functions;
      fit = fits.fit;
      names = are_named temps.functions allocations are names;
      labels = labels.labels;
      lawful = lawful;
      data_size = data_size;
    }

pub can_be_assembled : TempFunctionsFit → TempFunctionsHaveNames → FunctionsHaveFrames → AllocationsFit → LabelsAreFew → CodeCanBeAssembled
can_be_assembled functions_fit have_names have_frames fit few text tree u vm temps front code =
    let frames = have_frames u.unit temps (functions_of functions_fit u.unit vm temps code) front.light front.small in
    let names = (have_names 1 u.unit vm code.selected temps code.does.functions code.selection.functions code.passed.keeps).names u.lawful.typed.functions in
    let globals = globals_of u.unit vm temps code in
    let lawful = subst AreLawful (sym globals) u.lawful.typed.globals in
    let small = front.small in
    let data_size = subst (λ gs. data_end gs ≤ MOST_DATA) (sym globals) (omega (arith, small)) in
    record {
      frames = frames;
      names = names;
      labels = code.passed.labels;
      data_size = data_size;
      laid_out = λ allocations are. can_be_laid_out fit few temps allocations frames names code.passed.labels lawful data_size are;
    }

-- ---- that an assembly is whole

pub whole : AssembliesAreWhole → (temps : TempProgram) (allocations : List Allocation) (finals : List FinalFn) → CanBeLaidOut temps allocations → All (λ (a : Allocation). AllInsns HasSmallNumbers a.func.blocks) allocations
    → FunctionsAreLaidOut temps.globals allocations finals → IsWhole (whole_assembly finals temps.globals)
whole are_whole temps allocations finals can numbers laid_out =
    are_whole temps.globals allocations finals ∣ can.lawful ∣₁ can.data_size can.some
    (λ j y within. record { fit = can.fit j y within; name = can.names j y within; numbers = numbers j y within }) laid_out

-- what is asked of each value of an answer
if_ok : {A E : Type 0} (P Q : A → Type 0) → ((a : A) → P a → Q a) → (r : Result A E) → IfOk r P → IfOk r Q
if_ok P Q more (Ok a) h = more a h
if_ok P Q more (Err e) h = tt

-- the same where the lists are read as slices
module _ (are_whole : AssembliesAreWhole) (temps : TempProgram) (allocations : List Allocation) (can : CanBeLaidOut temps allocations) (numbers : All (λ (a : Allocation). AllInsns HasSmallNumbers a.func.blocks) allocations) (finals : List FinalFn)
    (laid_out : FunctionsAreLaidOut temps.globals allocations finals) (read : List FinalFn) (is_read : read ≡ finals) (globals : List DataObject) (are_globals : globals ≡ temps.globals) where
  same_assembly : whole_assembly finals temps.globals ≡ whole_assembly read globals
  same_assembly = ap (λ fs. whole_assembly fs temps.globals) (sym is_read) ∙ ap (λ gs. whole_assembly read gs) (sym are_globals)

  pub whole_of_slices : IsWhole (whole_assembly read globals)
  whole_of_slices = subst IsWhole same_assembly (whole are_whole temps allocations finals can numbers laid_out)

  pub assembly_of_slices : {E : Type 0} (r : Result Assembly E) → IfOk r (λ (asm : Assembly). asm ≡ whole_assembly read globals) → IfOk r (IsAssemblyOf temps allocations)
  assembly_of_slices r h = if_ok (λ (asm : Assembly). asm ≡ whole_assembly read globals) (IsAssemblyOf temps allocations)
      (λ asm is. record { finals = finals; laid_out = laid_out; is_gathered = is ∙ sym same_assembly; whole = subst IsWhole (sym is) whole_of_slices }) r h

-- ---- the assembly of a unit

-- selection and the passes keep names and parameters
are_called : (vs : List VmFunction) (fs gs : List TempFn) → AreSelected vs fs → AllZip (KeepsFunction 1) fs gs → AllZip IsCalledAs vs gs
are_called [] [] [] s p = tt
are_called [] [] (g ∷ gs) s p = absurd p
are_called [] (f ∷ fs) gs s p = absurd s
are_called (v ∷ vs) [] gs s p = absurd s
are_called (v ∷ vs) (f ∷ fs) [] s p = absurd p
are_called (v ∷ vs) (f ∷ fs) (g ∷ gs) s p = (record { name = p.0.name ∙ s.0.name; params = p.0.params ∙ s.0.params }, are_called vs fs gs s.1 p.1)

pub assemblies_are_made : PassesKeepSelections → TempFunctionsFit → FunctionsHaveFrames → FramesFitTheirRooms → AllocationsFit → AllocationsAreNear → AssembliesAreExact → ProgramsAreAllocated
    → UnitTextsAreWithinWeight → UnitTextsFitImages → AssembliesAreMade
assemblies_are_made selections functions_fit have_frames fit_rooms fit near are_exact are_allocated within fit_images text tree u vm temps allocations asm front code are made =
    let functions = functions_of functions_fit u.unit vm temps code in
    let fits = fit temps allocations are (have_frames u.unit temps functions front.light front.small) in
    record {
      selection = selections 1 vm code.selected temps code.selection.functions code.passed.keeps code.selection.keeps;
      called = are_called vm.functions code.selected.functions temps.functions code.selection.functions code.passed.keeps.functions;
      allocated = are_allocated temps allocations (rooms_of u.unit) fits.code fits.fit functions.split (fit_rooms u.unit temps allocations functions are);
      exact = made.is_gathered ∙ are_exact temps allocations made.finals fits.names (near temps allocations are functions.near) made.laid_out;
      few_words = subst HasFewWords (sym made.is_gathered) (fit_images u.unit temps allocations made.finals front.light functions are made.laid_out);
      short = λ far. subst (λ (x : Assembly). text_words x.items far ≤ 2048 * unit_weight u.unit) (sym made.is_gathered)
          (within u.unit temps allocations made.finals functions are made.laid_out far);
    }

-- ---- the image

-- what was made of a text
pub made_of : (text : List ℕ) (allocator : Allocator) (b : Built) (lowered : VmProgram) → IsUnitWithin text b.unit b.typed.unit → IsRewrittenUnit b.typed.unit b.rewritten.unit → IsCodeOf b.rewritten.unit lowered → IsProgramWithoutCopiesOf lowered b.copied → IsCleanProgramOf b.copied b.vm → IsCodeWithin b.typed.unit b.vm b.temps → AreAllocationsOf b.temps.functions b.allocations.items
    → AllocatesBy allocator b.temps.functions b.allocations.items → IsAssemblyOf b.temps b.allocations.items b.asm → IsAssemblyOfUnit b.typed.unit b.vm b.temps b.allocations.items b.asm → Words b.asm b.image → IsLawful b.image
    → Made text allocator b
made_of text allocator b lowered front rewritten is_code copied clean code are by assembly made words lawful = record {
  front = front;
  rewritten = rewritten.is;
  refines = rewritten.refines;
  lowered = lowered;
  code = is_code;
  copied = copied;
  clean = clean;
  code_runs = code.does.runs;
  selection = made.selection;
  called = made.called;
  reached = code.passed.reached;
  split = code.passed.split;
  allocations = are;
  by = by;
  allocated = made.allocated;
  whole = assembly.whole;
  exact = made.exact;
  words = words;
  lawful = lawful;
}

-- an assembly with few words is not refused for its length
pub never_too_long : OnlyMemoryIsShort → (asm : Assembly) (n : ℕ) → HasFewWords asm → IsAsmFault asm (CodeTooLong n) → ⊥
never_too_long only asm n few fault = let no_memory : CodeTooLong n ≡ NoMemory = (only asm (CodeTooLong n) few fault).0 in cc
