-- A machine of a lawful program stops.
use Rattle.std.proofs.Common.{◌≡◌, ℕ, zero, suc, ◌<◌, List, [], ◌∷◌, map, Option, Some, None, refl, sym, ap, ◌∙◌, subst}
use Rattle.std.specs.Prelude.{slice_get, slice_index_or, All, IsTrue}
use Rattle.std.proofs.lemmas.Option.{slice_get_within}
use Rattle.mem_model.specs.declared.value.Value.{Value}
use Rattle.mem_model.specs.declared.value.Value.TheVariants.{Word}
use Rattle.machine_model.specs.Machine.{Config, Goes, start_config}
use Rattle.suifvm_ir.specs.declared.insn.VmInsn.{VmInsn}
use Rattle.suifvm_ir.specs.declared.program.VmProgram.{VmProgram}
use Rattle.suifvm_ir.specs.Insns.{named_register}
use Rattle.suifvm_ir.specs.Programs.{VmFunction, IsLawfulFunction, goes_back_to_marks}
use Rattle.suifvm_meaning.specs.Behave.{FunctionCode, Registers, code_of, main_of, start_world, vm_code}
use Rattle.suifvm_meaning.specs.Effect.{input_word}
use Rattle.suifvm_machine.specs.declared.machine.Machine.{Machine}
use Rattle.suifvm_machine.specs.declared.machine.StepResult.TheVariants as turn
use Rattle.suifvm_run.specs.Laws.{ProgramsEnd}
use Rattle.suifvm_machine.specs.Config.{TurnIs, Wrote, GoesTo, config_of, program_of, step_there, with_byte, with_byte_taken, wrote}
use Rattle.suifvm_run.specs.model.Falls.{AreMarked, steps_left, machine_left, nothing_hidden}
use Rattle.suifvm_machine.specs.Tables.{program_code}
use Rattle.suifvm_run.proofs.Falls.{falls, run_ends}

-- ---- the functions of a program

some_is : {A : Type 0} (a b : A) → (let x : Option A = Some a in x ≡ Some b) → a ≡ b
some_is a b h = cc

none_some : {A : Type 0} (b : A) → (let x : Option A = None in x ≡ Some b) → ⊥
none_some b h = cc

-- the element behind the image of a map
image : {X Y : Type 0} (h : X → Y) (xs : List X) (n : ℕ) (y : Y) → slice_get (map h xs) n ≡ Some y → (x : X) × (slice_get xs n ≡ Some x) × (h x ≡ y)
image h [] n y is = absurd (none_some y is)
image h (x ∷ xs) zero y is = (x, refl, some_is (h x) y is)
image h (x ∷ xs) (suc n) y is = image h xs n y is

row_there : {X : Type 0} (xs : List X) (n : ℕ) (d x : X) → slice_get xs n ≡ Some x → slice_index_or xs n d ≡ x
row_there [] n d x is = absurd (none_some x is)
row_there (y ∷ ys) zero d x is = some_is y x is
row_there (y ∷ ys) (suc n) d x is = row_there ys n d x is

all_there : {X : Type 0} (P : X → Type 0) (xs : List X) (n : ℕ) (x : X) → All P xs → slice_get xs n ≡ Some x → P x
all_there P xs n x h is = subst P (row_there xs n x x is) (h n x (slice_get_within xs n x is))

pub lawful_marked : (program : VmProgram) → AreMarked (map code_of program.functions)
lawful_marked program = record {
  marks = λ function block at f row i there block_there at_there.
      let there_too = image code_of program.functions function f there in
      of_function (there_too.0) f block at row i there_too.2 (all_there (IsLawfulFunction program.functions program.globals) program.functions function there_too.0 program.functions_lawful there_too.1) block_there at_there;
}
  where
    of_blocks : (blocks : List (List VmInsn)) (block at : ℕ) (row : List VmInsn) (i : VmInsn) → All (λ j. IsTrue (goes_back_to_marks blocks block j)) (slice_index_or blocks block []) → slice_get blocks block ≡ Some row → slice_get row at ≡ Some i → IsTrue (goes_back_to_marks blocks block i)
    of_blocks blocks block at row i h there at_there =
        all_there (λ j. IsTrue (goes_back_to_marks blocks block j)) row at i (subst (All (λ j. IsTrue (goes_back_to_marks blocks block j))) (row_there blocks block [] row there) h) at_there

    of_function : (v : VmFunction) (f : FunctionCode) (block at : ℕ) (row : List VmInsn) (i : VmInsn) → code_of v ≡ f → IsLawfulFunction program.functions program.globals v → slice_get f.blocks block ≡ Some row → slice_get row at ≡ Some i → IsTrue (goes_back_to_marks f.blocks block i)
    of_function v f block at row i is lawful block_there at_there =
        subst (λ bs. IsTrue (goes_back_to_marks bs block i)) same
        (of_blocks v.blocks block at row i (lawful.marks block (slice_get_within v.blocks block row there)) there at_there)
      where
        same : v.blocks ≡ f.blocks
        same = ap (λ (c : FunctionCode). c.blocks) is

        there : slice_get v.blocks block ≡ Some row
        there = ap (λ bs. slice_get bs block) same ∙ block_there

pub table_marked : (functions : List FunctionCode) (program : VmProgram) → functions ≡ map code_of program.functions → AreMarked functions
table_marked functions program is = subst AreMarked (sym is) (lawful_marked program)

-- every run of a program ends
pub programs_end : ProgramsEnd
programs_end rooms program input turns =
    let ended = run_ends rooms (map code_of program.functions) (lawful_marked program) (start_config Value Registers rooms (vm_code (map code_of program.functions)) (main_of program.functions) (start_world program.globals input turns)) in
    (ended.1, record { steps = ended.0; over = ended.2 })

-- ---- turns of a machine

module _ (m new : Machine) (marked : AreMarked (program_of m)) where
  falls_there : (k : Config Registers) → step_there [] m nothing_hidden ≡ Goes k → steps_left (program_of m) k < machine_left m
  falls_there k is = falls [] (program_of m) marked (config_of m nothing_hidden) k is

  same_program : (k : Config Registers) (x : Machine) → x.program.now ≡ m.program.now → steps_left (program_of m) k < machine_left m → steps_left (program_of x) k < machine_left m
  same_program k x is h = subst (λ p. steps_left (program_code p) k < machine_left m) (sym is) h

  pub goes_falls : TurnIs m new turn.Goes (λ rs h. step_there rs m h) → machine_left new < machine_left m
  goes_falls t =
      let g : GoesTo (step_there [] m nothing_hidden) (config_of new) nothing_hidden = t.comes [] nothing_hidden in
      same_program (config_of new g.hidden) new (t.program refl) (falls_there (config_of new g.hidden) g.goes)

  pub puts_falls : (byte : ℕ) → TurnIs m new (turn.Puts byte) (λ rs h. step_there rs m h) → machine_left new < machine_left m
  puts_falls byte t =
      let g : GoesTo (step_there [] m nothing_hidden) (λ x. config_of new (with_byte byte x)) nothing_hidden = t.comes [] nothing_hidden in
      same_program (config_of new (with_byte byte g.hidden)) new (t.program refl) (falls_there (config_of new (with_byte byte g.hidden)) g.goes)

  pub takes_falls : (d : Option ℕ) (byte : Option ℕ) (last : Machine) → TurnIs m new (turn.Takes d) (λ rs h. step_there rs m h) → Wrote new last (named_register d) (Word (input_word byte)) → machine_left last < machine_left m
  takes_falls d byte last t w =
      let g : GoesTo (step_there [] m nothing_hidden) (λ x. wrote (named_register d) (Word (input_word (slice_get x.input 0)) ∷ []) (config_of new (with_byte_taken x))) nothing_hidden = t.comes [] nothing_hidden in
      let same : steps_left (program_of m) (config_of last (with_byte_taken g.hidden)) ≡ steps_left (program_of m) (wrote (named_register d) (Word (input_word byte) ∷ []) (config_of new (with_byte_taken g.hidden))) = ap (steps_left (program_of m)) (w.config (with_byte_taken g.hidden)) in
      same_program (config_of last (with_byte_taken g.hidden)) last (w.program ∙ t.program refl)
      (subst (λ n. n < machine_left m) (sym same) (falls_there (wrote (named_register d) (Word (input_word (slice_get g.hidden.input 0)) ∷ []) (config_of new (with_byte_taken g.hidden))) g.goes))
