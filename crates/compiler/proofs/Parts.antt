-- What was made of a text, as far as it was kept.
use Rattle.std.proofs.Common.{◌≡◌, ℕ, ◌*◌, ◌<◌, ◌≤◌, ◌^◌, List, Option, Some, length, refl, sym, ap, ◌∙◌, subst, arith}
use Rattle.std.specs.Prelude.{Result, IfOk, unwrap_or}
use Rattle.std.specs.Global.{Global, Vec}
use denote.RawPtr.{null_ptr}
use Rattle.alpha_isa.specs.Program.{Program, IsLawful}
use Rattle.alpha_items.specs.Words.{Words}
use Rattle.alpha_items.proofs.Unique.{length-words}
use Rattle.alpha_asm.specs.Fault.{HasFewWords}
use Rattle.c_tree.specs.declared.declarations.TranslationUnit.{TranslationUnit}
use Rattle.c_typed_tree.specs.declared.units.TypedUnit.{TypedUnit}
use Rattle.c_typed_tree.specs.declared.c_lawful_unit.LawfulUnit.{LawfulUnit}
use Rattle.c_typed_tree.specs.Weight.{unit_weight}
use Rattle.c_typing_weight.specs.Limits.{most_weight}
use Rattle.lowering.specs.Lowered.{AreLowered, AreWithinWeight, AllStandFor}
use Rattle.lowering_theorem.specs.Laws.{ProgramsKeepMeaning}
use Rattle.suifvm_ir.specs.declared.program.VmProgram.{VmProgram}
use Rattle.suifvm_ir.specs.Programs.{program_size}
use Rattle.temp_ir.specs.declared.program.TempProgram.{TempProgram}
use Rattle.temp_ir.specs.Programs.{TempFn}
use Rattle.alloc_model.specs.declared.allocation.Allocation.{Allocation}
use Rattle.alloc_rules.specs.Allocations.{IsAllocationOf}
use Rattle.alloc_rules.proofs.Allocations.{are_allocations}
use Rattle.alloc_plain.specs.Plain.{IsPlainAllocationOf}
use Rattle.alloc_layouts.specs.Layouts.{IsAssemblyBy}
use Rattle.call_words.specs.declared.compile_options.Allocator.{Allocator}
use Rattle.compiler_front_end.specs.Units.{IsUnitWithin}
use Rattle.compiler_theorem.specs.Correct.{IsCorrectImage}
use Rattle.compiler.specs.declared.built.AssemblyParts.{AssemblyParts}
use Rattle.compiler.specs.declared.built.Built.{Built}
use Rattle.compiler.specs.declared.built.CodeParts.{CodeParts}
use Rattle.compiler.specs.declared.built.Parts.{Parts}
use Rattle.compiler.specs.declared.built.WantedParts.{WantedParts}
use Rattle.compiler.specs.declared.built.WantedParts.TheVariants.{Everything, Image}
use Rattle.compiler.specs.Made.{Made, gives}
use Rattle.compiler.specs.Images.{IsImageOfText}
use Rattle.compiler.specs.model.Parts.{UnitHasText, IsKept, AreCodePartsOf, AreAssemblyPartsOf, parts_of_built, PartsAreWhole, ArePartsOf}
use Rattle.compiler.specs.model.Stages.{DoesAsUnit, IsLoweredUnit, IsSelectedProgram, ArePassed, IsCodeWithin, ProgramCanBeAssembled, IsAssemblyOfUnit, AssembliesAreMade, ImagesAreCorrect}
use Rattle.compiler.proofs.Registers.{lowered_stand, unit_registers}
use Rattle.compiler.proofs.Stages.{made_of}

-- ---- what one pass leaves

-- what was let go was not wanted
pub not_wanted : {A : Type 0} (value : A) (kept : Option A) → IsKept Image value kept
not_wanted value kept = λ e. let clash : ⊥ = cc in absurd clash

pub lowered_unit : ProgramsKeepMeaning → (u : LawfulUnit) (vm : VmProgram) → unit_weight u.unit ≤ most_weight → AreLowered u.unit.structs u.unit.functions vm.functions → vm.globals ≡ u.unit.globals → AreWithinWeight u.unit.structs u.unit.functions vm.functions → program_size vm.functions ≤ 2 ^ 24
    → IsLoweredUnit u.unit vm
lowered_unit keep u vm light functions globals weights size =
    let stand : AllStandFor u.unit.structs u.unit.functions vm.functions = lowered_stand u.unit.structs u.unit.functions vm.functions functions weights in
    record {
      code = record { functions = functions; globals = globals };
      functions = stand;
      runs = keep u.unit vm u.lawful.typed (record { functions = functions; globals = globals });
      size = size;
      registers = unit_registers u.unit vm.functions stand light;
    }

-- ---- the assembly

-- a vector of allocations
abbrev vec_of : Global → (allocations : List Allocation) → length allocations < 2 ^ 31 → Vec Allocation
vec_of heap allocations few = record { ptr = null_ptr; len = length allocations; cap = length allocations; alloc = heap; items = allocations; ok = (refl, omega arith); small = omega (arith, few) }

-- what was let go was there
pub alone : Global → (allocates : TempFn → Allocation → Type 0) → ((f : TempFn) (a : Allocation) → allocates f a → IsAllocationOf f a) → (temps : TempProgram) (p : AssemblyParts) → ProgramCanBeAssembled temps → IsAssemblyBy allocates temps p.asm
    → AreAssemblyPartsOf allocates temps Image p
alone heap allocates lawful temps p can h =
    let are = are_allocations allocates lawful temps.functions h.allocations h.are in
    record {
      allocations = vec_of heap h.allocations (can.laid_out h.allocations are).few;
      are = are;
      by = h.are;
      assembly = record { finals = h.finals; laid_out = h.laid_out; is_gathered = h.is_gathered; whole = h.whole };
      program = not_wanted temps p.temps;
      kept = λ e. let clash : ⊥ = cc in absurd clash;
    }

-- ---- all parts

-- parts are of one making
same_built : (b c : Built) → parts_of_built b ≡ parts_of_built c → b ≡ c
same_built b c e = ap (λ (p : Parts). record {
  unit = unwrap_or p.unit b.unit;
  typed = unwrap_or p.typed b.typed;
  rewritten = unwrap_or p.rewritten b.rewritten;
  copied = unwrap_or p.copied b.copied;
  vm = unwrap_or p.vm b.vm;
  temps = unwrap_or p.temps b.temps;
  allocations = unwrap_or p.allocations b.allocations;
  asm = unwrap_or p.asm b.asm;
  image = p.image;
}) e

pub whole : (text : List ℕ) (allocator : Allocator) (p : Parts) → ArePartsOf text allocator Everything p → PartsAreWhole p
whole text allocator p m = record { built = m.built; are = m.all refl }

pub whole_made : (text : List ℕ) (allocator : Allocator) (p : Parts) (b : Built) → ArePartsOf text allocator Everything p → p ≡ parts_of_built b → Made text allocator b
whole_made text allocator p b m is = subst (λ c. Made text allocator c) (same_built m.built b (sym (m.all refl) ∙ is)) m.made

pub image_made : (text : List ℕ) (allocator : Allocator) (wanted : WantedParts) (p : Parts) → ArePartsOf text allocator wanted p → IsImageOfText text allocator p.image
image_made text allocator wanted p m = record { built = m.built; made = m.made; is_its_image = m.image }

pub image_correct : ImagesAreCorrect → (text : List ℕ) (allocator : Allocator) (wanted : WantedParts) (p : Parts) → ArePartsOf text allocator wanted p → IsCorrectImage text p.image
image_correct correct text allocator wanted p m =
    subst (IsCorrectImage text) (sym m.image)
    (correct text allocator m.built m.made (subst (λ (i : Program). length i.words ≤ 2048 * unit_weight m.built.typed.unit) m.image m.short))

pub whole_correct : ImagesAreCorrect → (text : List ℕ) (allocator : Allocator) (p : Parts) (b : Built) → ArePartsOf text allocator Everything p → p ≡ parts_of_built b → IsCorrectImage text b.image
whole_correct correct text allocator p b m is = subst (IsCorrectImage text) (ap (λ (q : Parts). q.image) is) (image_correct correct text allocator Everything p m)

-- ---- what was made of a unit

-- all of them, where each was kept
pub all_kept : (b : Built) (p : Parts) → p.unit ≡ Some b.unit → p.typed ≡ Some b.typed → p.rewritten ≡ Some b.rewritten → p.copied ≡ Some b.copied → p.vm ≡ Some b.vm → p.temps ≡ Some b.temps → p.allocations ≡ Some b.allocations → p.asm ≡ Some b.asm → p.image ≡ b.image → p ≡ parts_of_built b
all_kept b p unit typed rewritten copied vm temps allocations asm image = λ i. record { unit = unit i; typed = typed i; rewritten = rewritten i; copied = copied i; vm = vm i; temps = temps i; allocations = allocations i; asm = asm i; image = image i }

pub code_within : (u : TypedUnit) (vm : VmProgram) (selected temps : TempProgram) → DoesAsUnit u vm → IsSelectedProgram vm selected → ArePassed selected temps → IsCodeWithin u vm temps
code_within u vm selected temps does selection passed = record { does = does; selected = selected; selection = selection; passed = passed }

module _ (made : AssembliesAreMade) (allocator : Allocator) (wanted : WantedParts) (unit : TranslationUnit) (typed : LawfulUnit) (c : CodeParts) (code : AreCodePartsOf typed wanted c) (q : AssemblyParts)
    (of : AreAssemblyPartsOf (gives allocator) c.temps wanted q) where
  assembly_of_unit : (text : List ℕ) → IsUnitWithin text unit typed.unit → IsAssemblyOfUnit typed.unit code.vm c.temps of.allocations.items q.asm
  assembly_of_unit text front = made text unit typed code.vm c.temps of.allocations.items q.asm front code.within of.are of.assembly

  pub few_words : UnitHasText unit typed.unit → HasFewWords q.asm
  few_words h = (assembly_of_unit h.text h.front).few_words

  abbrev pub built_of : Program → Built
  built_of image = record { unit = unit; typed = typed; rewritten = code.rewritten; copied = code.copied; vm = code.vm; temps = c.temps; allocations = of.allocations; asm = q.asm; image = image }

  pub unit_parts : (p : Parts) → Words q.asm p.image → IsLawful p.image → (wanted ≡ Everything → p ≡ parts_of_built (built_of p.image)) → (text : List ℕ) → IsUnitWithin text unit typed.unit → ArePartsOf text allocator wanted p
  unit_parts p words lawful kept text front = record {
    built = built_of p.image;
    made = made_of text allocator (built_of p.image) code.lowered front code.is_rewritten code.is_code code.without_copies code.clean code.within of.are of.by of.assembly (assembly_of_unit text front) words lawful;
    image = refl;
    short = subst (λ n. n ≤ 2048 * unit_weight typed.unit) (sym (length-words q.asm p.image words)) ((assembly_of_unit text front).short words.far);
    all = kept;
  }
