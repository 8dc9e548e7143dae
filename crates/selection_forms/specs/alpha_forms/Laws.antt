-- The laws of the forms.
use Rattle.std.specs.Prelude.{◌≡◌, ℕ, ℤ, ◌^◌, ◌<◌, ◌≤◌, Bool, List, [], ◌∷◌, length, Some, FitsSigned}
use Rattle.std.specs.Int.{w64}
use Rattle.mem_model.specs.declared.value.Value.{Value}
use Rattle.mem_model.specs.declared.value.Value.TheVariants.{Word}
use Rattle.mem_model.specs.World.{Outer}
use Rattle.alloc_model.specs.Contents.{Plain, word_content, branch_test}
use Rattle.alloc_model.specs.Effect.{Temp}
use Rattle.alloc_model.specs.Temporaries.{Temps}
use Rattle.mem_model.specs.Memory.{Memory}
use Rattle.suifvm_ir.specs.declared.types.MemoryType.{MemoryType}
use Rattle.suifvm_ir.specs.declared.types.VmType.{VmType}
use Rattle.suifvm_ir.specs.declared.insn.VmUnaryOp.{VmUnaryOp}
use Rattle.suifvm_ir.specs.declared.insn.VmBinaryOp.{VmBinaryOp}
use Rattle.suifvm_ir.specs.declared.insn.ShiftOp.{ShiftOp}
use Rattle.suifvm_ir.specs.declared.insn.CompareOp.{CompareOp}
use Rattle.suifvm_ir.specs.declared.insn.VmBranchOp.{VmBranchOp}
use Rattle.suifvm_ir.specs.declared.insn.VmObject.{VmObject}
use Rattle.suifvm_meaning.specs.declared.answer.Answer.{Answer}
use Rattle.suifvm_meaning.specs.declared.answer.Answer.TheVariants.{Gives}
use Rattle.suifvm_meaning.specs.Effect.{is_branch_taken}
use Rattle.temp_ir.specs.declared.insn.TempInsn.{TempInsn}
use Rattle.temp_ir.specs.declared.insn.TempInsn.TheVariants.{ObjectAddress}
use Rattle.suifvm_meaning.specs.Operations as vm
use Rattle.alpha_constants.specs.declared.recipe.Recipe.{Recipe}
use Rattle.alpha_constants.specs.Recipes.{recipe_length}
use Rattle.selection_forms.specs.alpha_forms.Straight.{runs, PutsContent}
use Rattle.selection_forms.specs.alpha_forms.Constants.{recipe_items, constant_items}
use Rattle.selection_forms.specs.alpha_forms.Registers.{IsOfRegister, IsHeldWord, MemoryHasBytes, CodeAnswers, ComesToMemory}
use Rattle.selection_forms.specs.alpha_forms.Accesses.{load_items, store_items}
use Rattle.selection_forms.specs.alpha_forms.Operations.{unary_items, binary_items, shift_items, compare_items, temp_branch, convert_items}

-- the code of a constant puts the word into the temporary, whatever was held before
abbrev pub ConstantsAreMade : Type 0
ConstantsAreMade =
    (widest own d n : ℕ) (s : Temps) (o : Outer) → n < 2 ^ 64
    → PutsContent widest (constant_items d n) own s o d (word_content n)

-- a recipe has as many instructions as its length says, and a constant has five at most
abbrev pub RecipesHaveLengths : Type 0
RecipesHaveLengths = (d : ℕ) (r : Recipe) → length (recipe_items d r) ≡ recipe_length r

abbrev pub ConstantsAreShort : Type 0
ConstantsAreShort = (d n : ℕ) → length (constant_items d n) ≤ 5

-- of every type that a constant has
abbrev pub ConstantsAreLoaded : Type 0
ConstantsAreLoaded =
    (widest own d n : ℕ) (ty : VmType) (s : Temps) (o : Outer) → n < 2 ^ 64 →
    CodeAnswers s o d (vm.when_value ty (Word n)) (runs widest (constant_items d n) own s o)

-- the address of an object
abbrev pub AddressesAreLoaded : Type 0
AddressesAreLoaded =
    (widest own d plus : ℕ) (place : VmObject) (s : Temps) (o : Outer) →
    CodeAnswers s o d (Gives (vm.place_address own place plus)) (runs widest (ObjectAddress d place plus ∷ []) own s o)

-- a branch is taken where the value passes the test
abbrev pub BranchesAreTaken : Type 0
BranchesAreTaken =
    (op : VmBranchOp) (ty : VmType) (m : Memory) (v : Value) (b : Bool) → vm.value_holds m ty v ≡ Some b →
    branch_test (temp_branch op) m (Plain v) ≡ Some (is_branch_taken op b)

-- the code of a load puts what the load answers, and that of a store leaves the memory that the store leaves, wherever
-- they have a meaning; v is what the register of the pointer holds, and w that of the value
abbrev pub LoadsAreDone : Type 0
LoadsAreDone =
    (widest own d p : ℕ) (ty : MemoryType) (plus : ℤ) (s : Temps) (o : Outer) (v : Value) → IsOfRegister p
    → FitsSigned w64 plus → MemoryHasBytes o.memory → s (Temp p) ≡ Plain v →
    CodeAnswers s o d (vm.loaded_answer o.memory ty v plus) (runs widest (load_items ty d p plus) own s o)

abbrev pub StoresAreDone : Type 0
StoresAreDone =
    (widest own p a : ℕ) (ty : MemoryType) (plus : ℤ) (s : Temps) (o : Outer) (v w : Value) → IsOfRegister p
    → IsOfRegister a → FitsSigned w64 plus → s (Temp p) ≡ Plain v → s (Temp a) ≡ Plain w →
    ComesToMemory s o (vm.stored_memory o.memory ty v plus w) (runs widest (store_items ty p plus a) own s o)

-- code for an operation on the value of a register, and on the values of two, comes to what the operation answers
abbrev pub OneIsDone : (items : (d a : ℕ) → List TempInsn) (answer : Value → Answer) → Type 0
OneIsDone items answer =
    (widest own d a : ℕ) (s : Temps) (o : Outer) (v : Value) → IsOfRegister a → IsHeldWord v → s (Temp a) ≡ Plain v →
    CodeAnswers s o d (answer v) (runs widest (items d a) own s o)

abbrev pub TwoAreDone : (items : (d a b : ℕ) → List TempInsn) (answer : Memory → (v w : Value) → Answer) → Type 0
TwoAreDone items answer =
    (widest own d a b : ℕ) (s : Temps) (o : Outer) (v w : Value) → IsOfRegister a → IsOfRegister b
    → s (Temp a) ≡ Plain v → s (Temp b) ≡ Plain w →
    CodeAnswers s o d (answer o.memory v w) (runs widest (items d a b) own s o)

-- so it is with each operator, of every type
abbrev pub UnaryIsDone : VmUnaryOp → Type 0
UnaryIsDone op = (ty : VmType) → OneIsDone (unary_items op ty) (vm.unary_answer op ty)

abbrev pub BinaryIsDone : VmBinaryOp → Type 0
BinaryIsDone op = (ty : VmType) → TwoAreDone (binary_items op ty) (λ m v w. vm.binary_answer m op ty v w)

abbrev pub ShiftIsDone : ShiftOp → Type 0
ShiftIsDone op = (ty : VmType) → TwoAreDone (shift_items op ty) (λ m v w. vm.shift_answer op ty v w)

abbrev pub CompareIsDone : CompareOp → Type 0
CompareIsDone op = (ty : VmType) → TwoAreDone (compare_items op ty) (λ m v w. vm.compare_answer m op ty v w)

abbrev pub ConversionsAreDone : Type 0
ConversionsAreDone = (from : MemoryType) (to : VmType) → OneIsDone (convert_items from to) (vm.convert_answer from to)
