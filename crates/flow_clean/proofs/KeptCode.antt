-- What both passes keep of code, and that what passes keep is kept along them.
use Rattle.std.proofs.Common.{◌≡◌, ℕ, ◌≤◌, List, [], ◌∷◌, refl, sym, ◌∙◌, subst, arith}
use Rattle.std.specs.List.{AllZip}
use Rattle.std.proofs.lemmas.List.{length-map}
use Rattle.pass_core.specs.Functions.{AllInsns}
use Rattle.suifvm_ir.specs.declared.insn.VmInsn.{VmInsn}
use Rattle.suifvm_ir.specs.declared.insn.VmInsn.TheVariants as x
use Rattle.suifvm_ir.specs.Programs.{VmFunction, arguments_of}
use Rattle.suifvm_meaning.specs.Laws.{OnlyTheseVmInstructionsTrap}
use Rattle.flow_clean.specs.Chains.{retargeted}
use Rattle.flow_clean.specs.Clean.{IsCleanOf}
use Rattle.flow_clean.specs.Copies.{with_reads, IsWithoutCopiesOf}
use Rattle.flow_clean.specs.Dead.{MeasuresFall}
use Rattle.flow_clean.specs.Programs.{FunctionKeeps, CodeIsKeptAlong, CopiesKeepCode, CleaningKeepsCode}
use Rattle.flow_clean.proofs.CleanRuns.{copies_go, clean_does}
use Rattle.flow_clean.proofs.EachInsn.{in_copied, in_clean}
use Rattle.flow_clean.proofs.Retargeted.{same}

-- ---- one pass after the other

one_along : (f g h : VmFunction) → FunctionKeeps f g → FunctionKeeps g h → FunctionKeeps f h
one_along f g h a b = record {
  name = b.name ∙ a.name;
  params = b.params ∙ a.params;
  temps = b.temps ∙ a.temps;
  objects = b.objects ∙ a.objects;
  cost = let x = a.cost in let y = b.cost in omega (arith, x, y);
  size = let x = a.size in let y = b.size in omega (arith, x, y);
  arguments = λ most few. b.arguments most (a.arguments most few);
}

all_along : (fs gs hs : List VmFunction) → AllZip FunctionKeeps fs gs → AllZip FunctionKeeps gs hs → AllZip FunctionKeeps fs hs
all_along [] [] [] a b = tt
all_along [] [] (h ∷ hs) a b = absurd b
all_along [] (g ∷ gs) hs a b = absurd a
all_along (f ∷ fs) [] hs a b = absurd a
all_along (f ∷ fs) (g ∷ gs) [] a b = absurd b
all_along (f ∷ fs) (g ∷ gs) (h ∷ hs) a b = (one_along f g h a.0 b.0, all_along fs gs hs a.1 b.1)

pub kept_along : CodeIsKeptAlong
kept_along first second third a b = record {
  functions = all_along first.functions second.functions third.functions a.functions b.functions;
  globals = b.globals ∙ a.globals;
  does = λ rooms input turns e defined run. b.does rooms input turns e defined (a.does rooms input turns e defined run);
}

-- ---- arguments

same_arguments : (names : ℕ → ℕ) (i : VmInsn) → arguments_of (with_reads names i) ≡ arguments_of i
same_arguments names (x.LoadConstant ty d word) = refl
same_arguments names (x.LoadAddress d place plus) = refl
same_arguments names (x.Load ty d p plus) = refl
same_arguments names (x.Store ty p plus b) = refl
same_arguments names (x.Copy to from size align) = refl
same_arguments names (x.Unary op ty d b) = refl
same_arguments names (x.Binary op ty d b c) = refl
same_arguments names (x.Shift op ty d b c) = refl
same_arguments names (x.Convert from to d b) = refl
same_arguments names (x.Compare op ty d b c) = refl
same_arguments names (x.Branch op ty source block) = refl
same_arguments names (x.Jump block) = refl
same_arguments names (x.Call d c arguments) = length-map arguments names
same_arguments names (x.Return value) = refl
same_arguments names x.Mark = refl
same_arguments names x.Nop = refl

still_as_many : (ends : List ℕ) (i : VmInsn) → arguments_of (retargeted ends i) ≡ arguments_of i
still_as_many ends = same ends arguments_of (λ op ty source block other. refl) (λ block other. refl)

few_copied : (f g : VmFunction) → IsWithoutCopiesOf f g → (most : ℕ) → AllInsns (λ i. arguments_of i ≤ most) f.blocks → AllInsns (λ i. arguments_of i ≤ most) g.blocks
few_copied f g k most few =
    in_copied (λ i. arguments_of i ≤ most) (λ i. arguments_of i ≤ most) (λ names i low. subst (λ n. n ≤ most) (sym (same_arguments names i)) low) f g k few

few_clean : (f g : VmFunction) → IsCleanOf f g → (most : ℕ) → AllInsns (λ i. arguments_of i ≤ most) f.blocks → AllInsns (λ i. arguments_of i ≤ most) g.blocks
few_clean f g k most few =
    in_clean (λ i. arguments_of i ≤ most) (λ i. arguments_of i ≤ most) (λ ends i low. subst (λ n. n ≤ most) (sym (still_as_many ends i)) low) f g k few

-- ---- functions

one_copied : (f g : VmFunction) → IsWithoutCopiesOf f g → MeasuresFall f g → FunctionKeeps f g
one_copied f g k m = record {
  name = k.name;
  params = k.params;
  temps = k.temps;
  objects = k.objects;
  cost = m.cost;
  size = m.size;
  arguments = few_copied f g k;
}

one_clean : (f g : VmFunction) → IsCleanOf f g → MeasuresFall f g → FunctionKeeps f g
one_clean f g k m = record {
  name = k.name;
  params = k.params;
  temps = k.temps;
  objects = k.objects;
  cost = m.cost;
  size = m.size;
  arguments = few_clean f g k;
}

all_copied : (fs gs : List VmFunction) → AllZip IsWithoutCopiesOf fs gs → AllZip MeasuresFall fs gs → AllZip FunctionKeeps fs gs
all_copied [] [] k m = tt
all_copied [] (g ∷ gs) k m = absurd k
all_copied (f ∷ fs) [] k m = absurd k
all_copied (f ∷ fs) (g ∷ gs) k m = (one_copied f g k.0 m.0, all_copied fs gs k.1 m.1)

all_clean : (fs gs : List VmFunction) → AllZip IsCleanOf fs gs → AllZip MeasuresFall fs gs → AllZip FunctionKeeps fs gs
all_clean [] [] k m = tt
all_clean [] (g ∷ gs) k m = absurd k
all_clean (f ∷ fs) [] k m = absurd k
all_clean (f ∷ fs) (g ∷ gs) k m = (one_clean f g k.0 m.0, all_clean fs gs k.1 m.1)

-- ---- programs

pub copied_code_keeps : CopiesKeepCode
copied_code_keeps before after k = record {
  functions = all_copied before.functions after.functions k.functions k.measures;
  globals = k.globals;
  does = copies_go before after k;
}

pub clean_code_keeps : OnlyTheseVmInstructionsTrap → CleaningKeepsCode
clean_code_keeps only copied clean k = record {
  functions = all_clean copied.functions clean.functions k.functions k.measures;
  globals = k.globals;
  does = clean_does only copied clean k;
}
