-- Whatever a program does where that has a meaning, the one without copies does, and so does the clean one.
use Rattle.std.proofs.Common.{◌≡◌, ℕ, List, [], ◌∷◌, map, refl, ap, ◌∙◌}
use Rattle.std.specs.List.{AllZip}
use Rattle.mem_model.specs.World.{World, Rooms}
use Rattle.mem_model.specs.Ending.{Ending, IsDefined}
use Rattle.machine_model.specs.Machine.{Over}
use Rattle.pass_core.specs.declared.function.MemoryLocal.{MemoryLocal}
use Rattle.suifvm_ir.specs.declared.program.VmProgram.{VmProgram}
use Rattle.suifvm_ir.specs.Programs.{VmFunction}
use Rattle.suifvm_meaning.specs.Behave.{FunctionCode, code_of, main_of, vm_run, start_world}
use Rattle.suifvm_meaning.specs.Laws.{OnlyTheseVmInstructionsTrap}
use Rattle.flow_clean.specs.ChainRuns.{FunctionsAreChained}
use Rattle.flow_clean.specs.ChainRuns.FunctionsAreChained.{NoFunction as NoChained, Function as OneChained}
use Rattle.flow_clean.specs.Clean.{IsCleanOf}
use Rattle.flow_clean.specs.Copies.{IsWithoutCopiesOf, FunctionsAreWithoutCopies}
use Rattle.flow_clean.specs.Copies.FunctionsAreWithoutCopies.{NoFunction as NoCopied, Function as OneCopied}
use Rattle.flow_clean.specs.Dead.{FunctionsAreCleaned}
use Rattle.flow_clean.specs.Dead.FunctionsAreCleaned.{NoFunction as NoCleaned, Function as OneCleaned}
use Rattle.flow_clean.specs.Programs.{IsProgramWithoutCopiesOf, IsCleanProgramOf, DoesAllOf}
use Rattle.flow_clean.proofs.Alike.{AreAlike, copied_alike, clean_alike, main_same}
use Rattle.flow_clean.proofs.ChainRuns.{chains_keep}
use Rattle.flow_clean.proofs.CopyRuns.{origins_keep}
use Rattle.flow_clean.proofs.DeadRuns.{cleaning_keeps}

-- ---- the code of functions

sizes_same : (f g : VmFunction) → g.objects ≡ f.objects → (code_of g).sizes ≡ (code_of f).sizes
sizes_same f g same = ap (map (λ (o : MemoryLocal). o.size)) same

copied_code : (fs gs : List VmFunction) → AllZip IsWithoutCopiesOf fs gs → FunctionsAreWithoutCopies (map code_of fs) (map code_of gs)
copied_code [] [] all = NoCopied
copied_code [] (g ∷ gs) all = absurd all
copied_code (f ∷ fs) [] all = absurd all
copied_code (f ∷ fs) (g ∷ gs) all = OneCopied (code_of f) (code_of g) (sizes_same f g all.0.objects) all.0.blocks (copied_code fs gs all.1)

-- between the two steps of cleaning
abbrev middle_code : (f g : VmFunction) → IsCleanOf f g → FunctionCode
middle_code f g k = record { sizes = (code_of f).sizes; blocks = k.middle }

abbrev middles : (fs gs : List VmFunction) → AllZip IsCleanOf fs gs → List FunctionCode
middles [] [] all = []
middles [] (g ∷ gs) all = []
middles (f ∷ fs) [] all = []
middles (f ∷ fs) (g ∷ gs) all = middle_code f g all.0 ∷ middles fs gs all.1

live_code : (fs gs : List VmFunction) (all : AllZip IsCleanOf fs gs) → FunctionsAreCleaned (map code_of fs) (middles fs gs all)
live_code [] [] all = NoCleaned
live_code [] (g ∷ gs) all = absurd all
live_code (f ∷ fs) [] all = absurd all
live_code (f ∷ fs) (g ∷ gs) all = OneCleaned (code_of f) (middle_code f g all.0) refl f.straight all.0.live (live_code fs gs all.1)

chained_code : (fs gs : List VmFunction) (all : AllZip IsCleanOf fs gs) → FunctionsAreChained (middles fs gs all) (map code_of gs)
chained_code [] [] all = NoChained
chained_code [] (g ∷ gs) all = absurd all
chained_code (f ∷ fs) [] all = absurd all
chained_code (f ∷ fs) (g ∷ gs) all = OneChained (middle_code f g all.0) (code_of g) (sizes_same f g all.0.objects) all.0.chained (chained_code fs gs all.1)

-- ---- runs

abbrev EndsAlike : (fs gs : List VmFunction) → Type 0
EndsAlike fs gs =
    (rooms : Rooms) (main : ℕ) (w : World) (steps : ℕ) (e : Ending) → IsDefined e → vm_run rooms (map code_of fs) main w steps ≡ Over e →
    (fewer : ℕ) × (vm_run rooms (map code_of gs) main w fewer ≡ Over e)

copies_end : (fs gs : List VmFunction) → AllZip IsWithoutCopiesOf fs gs → EndsAlike fs gs
copies_end fs gs all rooms main w steps e defined is = origins_keep rooms (map code_of fs) (map code_of gs) (copied_code fs gs all) main w steps e defined is

clean_ends : OnlyTheseVmInstructionsTrap → (fs gs : List VmFunction) → AllZip IsCleanOf fs gs → EndsAlike fs gs
clean_ends only fs gs all rooms main w steps e defined is =
    let live = cleaning_keeps only rooms (map code_of fs) (middles fs gs all) (live_code fs gs all) main w steps e defined is in
    chains_keep rooms (middles fs gs all) (map code_of gs) (chained_code fs gs all) main w live.0 e defined live.1

-- ---- programs

does_all : (before after : VmProgram) → AreAlike before.functions after.functions → after.globals ≡ before.globals → EndsAlike before.functions after.functions → DoesAllOf after before
does_all before after alike globals ends rooms input turns e defined run =
    let main : ℕ = main_of before.functions in
    let done = ends rooms main (start_world before.globals input turns) run.steps e defined run.over in
    record {
      steps = done.0;
      over =
          ap (λ m. vm_run rooms (map code_of after.functions) m (start_world after.globals input turns) done.0) (main_same before.functions after.functions alike)
          ∙ ap (λ objects. vm_run rooms (map code_of after.functions) main (start_world objects input turns) done.0) globals
          ∙ done.1;
    }

pub copies_go : (before after : VmProgram) → IsProgramWithoutCopiesOf before after → DoesAllOf after before
copies_go before after k =
    does_all before after (copied_alike before.functions after.functions k.functions) k.globals (copies_end before.functions after.functions k.functions)

pub clean_does : OnlyTheseVmInstructionsTrap → (copied clean : VmProgram) → IsCleanProgramOf copied clean → DoesAllOf clean copied
clean_does only copied clean k =
    does_all copied clean (clean_alike copied.functions clean.functions k.functions) k.globals (clean_ends only copied.functions clean.functions k.functions)
