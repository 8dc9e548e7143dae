-- Functions without copies, and clean ones, are as a program asks.
use Rattle.std.proofs.Common.{◌≡◌, ℕ, ◌^◌, ◌<◌, List, length, All, refl, sym, ap, ◌∙◌, subst, arith}
use Rattle.std.specs.Prelude.{IsTrue}
use Rattle.std.specs.List.{AllZip}
use Rattle.std.proofs.lemmas.List.{length-map}
use Rattle.mem_objects.specs.declared.DataObject.{DataObject}
use Rattle.pass_core.specs.declared.function.MemoryLocal.{MemoryLocal}
use Rattle.pass_core.specs.Functions.{AllInsns}
use Rattle.suifvm_ir.specs.declared.insn.VmInsn.{VmInsn}
use Rattle.suifvm_ir.specs.declared.insn.VmInsn.TheVariants as x
use Rattle.suifvm_ir.specs.declared.program.VmProgram.{VmProgram}
use Rattle.suifvm_ir.specs.Programs.{VmFunction, main_count, callee_takes, names_what_is_there, IsLawfulFunction}
use Rattle.flow_clean.specs.Chains.{retargeted}
use Rattle.flow_clean.specs.Clean.{IsCleanOf}
use Rattle.flow_clean.specs.Copies.{with_reads, IsWithoutCopiesOf}
use Rattle.flow_clean.specs.Dead.{MeasuresFall}
use Rattle.flow_clean.specs.Programs.{IsProgramWithoutCopiesOf, IsCleanProgramOf}
use Rattle.flow_clean.specs.model.Passes.{ReadsOrigins, IsMadeClean}
use Rattle.flow_clean.proofs.Alike.{AreAlike, copied_alike, clean_alike, many_same, callee_same, same_main, mains_same}
use Rattle.flow_clean.proofs.EachInsn.{in_copied, in_clean}
use Rattle.flow_clean.proofs.Retargeted.{same}
use Rattle.flow_clean.proofs.Turns.{each_gives, all_give}

-- ---- what instructions name

abbrev Names : List VmFunction → List DataObject → List MemoryLocal → VmInsn → Type 0
Names functions globals objects i = IsTrue (names_what_is_there functions globals objects i)

module _ (fs gs : List VmFunction) (alike : AreAlike fs gs) (globals : List DataObject) (objects : List MemoryLocal) where
  still_names : (i : VmInsn) → Names fs globals objects i → Names gs globals objects i
  still_names (x.LoadConstant ty d word) h = h
  still_names (x.LoadAddress d place plus) h = h
  still_names (x.Load ty d p plus) h = h
  still_names (x.Store ty p plus b) h = h
  still_names (x.Copy to from size align) h = h
  still_names (x.Unary op ty d b) h = h
  still_names (x.Binary op ty d b c) h = h
  still_names (x.Shift op ty d b c) h = h
  still_names (x.Convert from to d b) h = h
  still_names (x.Compare op ty d b c) h = h
  still_names (x.Branch op ty source block) h = h
  still_names (x.Jump block) h = h
  still_names (x.Call d c arguments) h = callee_same fs gs alike (length arguments) c ∙ h
  still_names (x.Return value) h = h
  still_names x.Mark h = h
  still_names x.Nop h = h

module _ (functions : List VmFunction) (globals : List DataObject) (objects : List MemoryLocal) where
  reads_named : (names : ℕ → ℕ) (i : VmInsn) → names_what_is_there functions globals objects (with_reads names i) ≡ names_what_is_there functions globals objects i
  reads_named names (x.LoadConstant ty d word) = refl
  reads_named names (x.LoadAddress d place plus) = refl
  reads_named names (x.Load ty d p plus) = refl
  reads_named names (x.Store ty p plus b) = refl
  reads_named names (x.Copy to from size align) = refl
  reads_named names (x.Unary op ty d b) = refl
  reads_named names (x.Binary op ty d b c) = refl
  reads_named names (x.Shift op ty d b c) = refl
  reads_named names (x.Convert from to d b) = refl
  reads_named names (x.Compare op ty d b c) = refl
  reads_named names (x.Branch op ty source block) = refl
  reads_named names (x.Jump block) = refl
  reads_named names (x.Call d c arguments) = ap (λ n. callee_takes functions n c) (length-map arguments names)
  reads_named names (x.Return value) = refl
  reads_named names x.Mark = refl
  reads_named names x.Nop = refl

  targets_named : (ends : List ℕ) (i : VmInsn) → names_what_is_there functions globals objects (retargeted ends i) ≡ names_what_is_there functions globals objects i
  targets_named ends = same ends (names_what_is_there functions globals objects) (λ op ty source block other. refl) (λ block other. refl)

-- ---- one function

module _ (fs gs : List VmFunction) (alike : AreAlike fs gs) (globals : List DataObject) where
  copied_lawful : (f g : VmFunction) → IsWithoutCopiesOf f g → IsLawfulFunction fs globals f → IsLawfulFunction gs globals g
  copied_lawful f g k l =
      let params = k.params in
      let temps = k.temps in
      let few = l.parameters in
      record {
        parameters = omega (arith, params, temps, few);
        main = λ is. k.params ∙ l.main (sym (same_main f g k.name) ∙ is);
        names = subst (λ objects. AllInsns (Names gs globals objects) g.blocks) (sym k.objects)
            (in_copied (Names fs globals f.objects) (Names gs globals f.objects)
            (λ names i named. reads_named gs globals f.objects names i ∙ still_names fs gs alike globals f.objects i named) f g k l.names);
        marks = k.marks;
      }

  clean_lawful : (f g : VmFunction) → IsCleanOf f g → IsLawfulFunction fs globals f → IsLawfulFunction gs globals g
  clean_lawful f g k l =
      let params = k.params in
      let temps = k.temps in
      let few = l.parameters in
      record {
        parameters = omega (arith, params, temps, few);
        main = λ is. k.params ∙ l.main (sym (same_main f g k.name) ∙ is);
        names = subst (λ objects. AllInsns (Names gs globals objects) g.blocks) (sym k.objects)
            (in_clean (Names fs globals f.objects) (Names gs globals f.objects)
            (λ ends i named. targets_named gs globals f.objects ends i ∙ still_names fs gs alike globals f.objects i named) f g k l.names);
        marks = k.marks;
      }

-- ---- what a program keeps

pub record FitsProgram (globals : List DataObject) (functions : List VmFunction) : Type 0 where
  pub few_functions : length functions < 2 ^ 32
  pub one_main : main_count functions ≡ 1
  pub functions_lawful : All (IsLawfulFunction functions globals) functions

fits : (program : VmProgram) (functions : List VmFunction) → AreAlike program.functions functions → All (IsLawfulFunction functions program.globals) functions → FitsProgram program.globals functions
fits program functions alike lawful =
    let many = many_same program.functions functions alike in
    let few = program.few_functions in
    record {
      few_functions = omega (arith, many, few);
      one_main = mains_same program.functions functions alike ∙ program.one_main;
      functions_lawful = lawful;
    }

-- ---- programs without copies

all_copied : (fs gs : List VmFunction) → AllZip ReadsOrigins fs gs → AllZip IsWithoutCopiesOf fs gs
all_copied fs gs all = each_gives ReadsOrigins IsWithoutCopiesOf (λ f g k. k.made) fs gs all

pub copied_fits : (program : VmProgram) (functions : List VmFunction) → AllZip ReadsOrigins program.functions functions → FitsProgram program.globals functions
copied_fits program functions all =
    let copied = all_copied program.functions functions all in
    let alike = copied_alike program.functions functions copied in
    fits program functions alike
    (all_give IsWithoutCopiesOf (IsLawfulFunction program.functions program.globals) (IsLawfulFunction functions program.globals)
    (copied_lawful program.functions functions alike program.globals) program.functions functions copied program.functions_lawful)

pub copied_program : (before after : VmProgram) → AllZip ReadsOrigins before.functions after.functions → after.globals ≡ before.globals → IsProgramWithoutCopiesOf before after
copied_program before after all globals = record {
  functions = all_copied before.functions after.functions all;
  measures = each_gives ReadsOrigins MeasuresFall (λ f g k. k.measures) before.functions after.functions all;
  globals = globals;
}

-- ---- clean programs

all_clean : (fs gs : List VmFunction) → AllZip IsMadeClean fs gs → AllZip IsCleanOf fs gs
all_clean fs gs all = each_gives IsMadeClean IsCleanOf (λ f g k. k.made) fs gs all

pub clean_fits : (program : VmProgram) (functions : List VmFunction) → AllZip IsMadeClean program.functions functions → FitsProgram program.globals functions
clean_fits program functions all =
    let clean = all_clean program.functions functions all in
    let alike = clean_alike program.functions functions clean in
    fits program functions alike
    (all_give IsCleanOf (IsLawfulFunction program.functions program.globals) (IsLawfulFunction functions program.globals)
    (clean_lawful program.functions functions alike program.globals) program.functions functions clean program.functions_lawful)

pub clean_program : (copied clean : VmProgram) → AllZip IsMadeClean copied.functions clean.functions → clean.globals ≡ copied.globals → IsCleanProgramOf copied clean
clean_program copied clean all globals = record {
  functions = all_clean copied.functions clean.functions all;
  measures = each_gives IsMadeClean MeasuresFall (λ f g k. k.measures) copied.functions clean.functions all;
  globals = globals;
}
