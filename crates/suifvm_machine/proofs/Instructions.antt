-- What each instruction comes to, by what was computed of the registers that it reads.
use Rattle.std.proofs.Common.{◌≡◌, ℕ, ℤ, List, drop, map, Bool, Option, refl, sym, ap, ◌∙◌}
use Rattle.mem_model.specs.declared.value.Value.{Value}
use Rattle.mem_model.specs.declared.value.Value.TheVariants.{Word}
use Rattle.mem_model.specs.World.{Outer}
use Rattle.machine_model.specs.Code.{Act}
use Rattle.suifvm_ir.specs.declared.types.VmType.{VmType}
use Rattle.suifvm_ir.specs.declared.types.MemoryType.{MemoryType}
use Rattle.suifvm_ir.specs.declared.types.Alignment.{Alignment}
use Rattle.suifvm_ir.specs.declared.insn.VmUnaryOp.{VmUnaryOp}
use Rattle.suifvm_ir.specs.declared.insn.VmBinaryOp.{VmBinaryOp}
use Rattle.suifvm_ir.specs.declared.insn.ShiftOp.{ShiftOp}
use Rattle.suifvm_ir.specs.declared.insn.CompareOp.{CompareOp}
use Rattle.suifvm_ir.specs.declared.insn.VmBranchOp.{VmBranchOp}
use Rattle.suifvm_ir.specs.declared.insn.VmObject.{VmObject}
use Rattle.suifvm_ir.specs.declared.insn.VmCallee.{VmCallee}
use Rattle.suifvm_ir.specs.declared.insn.TypedRegister.{TypedRegister}
use Rattle.suifvm_ir.specs.declared.insn.VmInsn.{VmInsn}
use Rattle.suifvm_ir.specs.declared.insn.VmInsn.TheVariants.{LoadConstant, LoadAddress, Load, Store, Copy, Unary, Binary, Shift, Convert, Compare, Branch, Call, Return}
use Rattle.suifvm_ir.specs.Insns.{returned_register}
use Rattle.suifvm_ir.specs.Programs.{alignment_bytes}
use Rattle.suifvm_meaning.specs.declared.answer.Answer.{Answer}
use Rattle.suifvm_meaning.specs.declared.answer.Answer.TheVariants.{Gives}
use Rattle.suifvm_meaning.specs.Operations.{when_value, place_address, loaded_answer, stored_memory, copied_memory, unary_answer, binary_answer, shift_answer, convert_answer, compare_answer, value_holds}
use Rattle.suifvm_meaning.specs.Effect.{writes, changes, branches, call_act, return_act}
use Rattle.suifvm_meaning.specs.Behave.{Registers, registers_of}
use Rattle.suifvm_machine.specs.declared.machine.Machine.{Machine}
use Rattle.suifvm_machine.specs.declared.machine.StepResult.{StepResult}
use Rattle.suifvm_machine.specs.Config.{TurnIs, world_in}
use Rattle.suifvm_machine.specs.model.Acts.{act_there}
use Rattle.suifvm_machine.proofs.Effects.{done_as, done_there}

module _ (m new : Machine) (r : StepResult) (insn : VmInsn) where
  abbrev rs : Registers
  rs = registers_of (drop m.here.base m.stack.items)

  abbrev TurnIsDone : Type 0
  TurnIsDone = TurnIs m new r (λ rooms h. done_there rooms m h insn)

  abbrev Does : VmInsn → (Outer → Act Value) → Type 0
  Does i act = TurnIs m new r (λ rooms h. act_there rooms m h i (act (world_in m h).outer))

  pub constant_done : (ty : VmType) (d word : ℕ) (answer : Answer) → insn ≡ LoadConstant ty d word → answer ≡ when_value ty (Word word) → Does (LoadConstant ty d word) (writes answer) → TurnIsDone
  constant_done ty d word answer is a t = done_as m new r insn (LoadConstant ty d word) (writes answer) is (λ o same. ap (λ x. writes x o) a) t

  pub address_done : (d : ℕ) (place : VmObject) (plus : ℕ) (v : Value) → insn ≡ LoadAddress d place plus → v ≡ place_address m.here.own place plus → Does (LoadAddress d place plus) (writes (Gives v)) → TurnIsDone
  address_done d place plus v is a t = done_as m new r insn (LoadAddress d place plus) (writes (Gives v)) is (λ o same. ap (λ x. writes (Gives x) o) a) t

  pub load_done : (ty : MemoryType) (d p : ℕ) (plus by : ℤ) (a : Value) (answer : Answer) → insn ≡ Load ty d p plus → a ≡ rs p → by ≡ plus → answer ≡ loaded_answer m.memory ty a by → Does (Load ty d p plus) (writes answer) → TurnIsDone
  load_done ty d p plus by a answer is read moved e t = done_as m new r insn (Load ty d p plus) (writes answer) is
      (λ o same. ap (λ x. writes x o) (e ∙ ap (loaded_answer m.memory ty a) moved ∙ ap (λ x. loaded_answer m.memory ty x plus) read ∙ ap (λ x. loaded_answer x ty (rs p) plus) (sym same))) t

  pub store_done : (ty : MemoryType) (p : ℕ) (plus by : ℤ) (v : ℕ) → insn ≡ Store ty p plus v → by ≡ plus → Does (Store ty p plus v) (changes (stored_memory m.memory ty (rs p) by (rs v))) → TurnIsDone
  store_done ty p plus by v is moved t = done_as m new r insn (Store ty p plus v) (changes (stored_memory m.memory ty (rs p) by (rs v))) is
      (λ o same. ap (λ x. changes (stored_memory m.memory ty (rs p) x (rs v)) o) moved ∙ ap (λ x. changes (stored_memory x ty (rs p) plus (rs v)) o) (sym same)) t

  pub copy_done : (to from size : ℕ) (align : Alignment) → insn ≡ Copy to from size align → Does (Copy to from size align) (changes (copied_memory m.memory (rs to) (rs from) size (alignment_bytes align))) → TurnIsDone
  copy_done to from size align is t = done_as m new r insn (Copy to from size align) (changes (copied_memory m.memory (rs to) (rs from) size (alignment_bytes align))) is
      (λ o same. ap (λ x. changes (copied_memory x (rs to) (rs from) size (alignment_bytes align)) o) (sym same)) t

  pub unary_done : (op : VmUnaryOp) (ty : VmType) (d s : ℕ) (a : Value) (answer : Answer) → insn ≡ Unary op ty d s → a ≡ rs s → answer ≡ unary_answer op ty a → Does (Unary op ty d s) (writes answer) → TurnIsDone
  unary_done op ty d s a answer is read e t = done_as m new r insn (Unary op ty d s) (writes answer) is
      (λ o same. ap (λ x. writes x o) (e ∙ ap (unary_answer op ty) read)) t

  pub binary_done : (op : VmBinaryOp) (ty : VmType) (d x y : ℕ) (a b : Value) (answer : Answer) → insn ≡ Binary op ty d x y → a ≡ rs x → b ≡ rs y → answer ≡ binary_answer m.memory op ty a b → Does (Binary op ty d x y) (writes answer) → TurnIsDone
  binary_done op ty d x y a b answer is first second e t = done_as m new r insn (Binary op ty d x y) (writes answer) is
      (λ o same. ap (λ z. writes z o) (e ∙ ap (λ z. binary_answer m.memory op ty z b) first ∙ ap (λ z. binary_answer m.memory op ty (rs x) z) second ∙ ap (λ z. binary_answer z op ty (rs x) (rs y)) (sym same))) t

  pub shift_done : (op : ShiftOp) (ty : VmType) (d x y : ℕ) (a b : Value) (answer : Answer) → insn ≡ Shift op ty d x y → a ≡ rs x → b ≡ rs y → answer ≡ shift_answer op ty a b → Does (Shift op ty d x y) (writes answer) → TurnIsDone
  shift_done op ty d x y a b answer is first second e t = done_as m new r insn (Shift op ty d x y) (writes answer) is
      (λ o same. ap (λ z. writes z o) (e ∙ ap (λ z. shift_answer op ty z b) first ∙ ap (λ z. shift_answer op ty (rs x) z) second)) t

  pub convert_done : (from : MemoryType) (to : VmType) (d s : ℕ) (a : Value) (answer : Answer) → insn ≡ Convert from to d s → a ≡ rs s → answer ≡ convert_answer from to a → Does (Convert from to d s) (writes answer) → TurnIsDone
  convert_done from to d s a answer is read e t = done_as m new r insn (Convert from to d s) (writes answer) is
      (λ o same. ap (λ x. writes x o) (e ∙ ap (convert_answer from to) read)) t

  pub compare_done : (op : CompareOp) (ty : VmType) (d x y : ℕ) (a b : Value) (answer : Answer) → insn ≡ Compare op ty d x y → a ≡ rs x → b ≡ rs y → answer ≡ compare_answer m.memory op ty a b → Does (Compare op ty d x y) (writes answer) → TurnIsDone
  compare_done op ty d x y a b answer is first second e t = done_as m new r insn (Compare op ty d x y) (writes answer) is
      (λ o same. ap (λ z. writes z o) (e ∙ ap (λ z. compare_answer m.memory op ty z b) first ∙ ap (λ z. compare_answer m.memory op ty (rs x) z) second ∙ ap (λ z. compare_answer z op ty (rs x) (rs y)) (sym same))) t

  pub branch_done : (op : VmBranchOp) (ty : VmType) (s block : ℕ) (a : Value) (test : Option Bool) → insn ≡ Branch op ty s block → a ≡ rs s → test ≡ value_holds m.memory ty a → Does (Branch op ty s block) (branches op test) → TurnIsDone
  branch_done op ty s block a test is read e t = done_as m new r insn (Branch op ty s block) (branches op test) is
      (λ o same. ap (λ x. branches op x o) (e ∙ ap (value_holds m.memory ty) read ∙ ap (λ x. value_holds x ty (rs s)) (sym same))) t

  pub call_done : (d : Option ℕ) (callee : VmCallee) (arguments slice : List ℕ) → insn ≡ Call d callee arguments → slice ≡ arguments → Does (Call d callee arguments) (call_act callee (map rs slice)) → TurnIsDone
  call_done d callee arguments slice is read t = done_as m new r insn (Call d callee arguments) (call_act callee (map rs slice)) is (λ o same. ap (λ x. call_act callee (map rs x) o) read) t

  pub return_done : (value : Option TypedRegister) → insn ≡ Return value → Does (Return value) (return_act value (map rs (returned_register value))) → TurnIsDone
  return_done value is t = done_as m new r insn (Return value) (return_act value (map rs (returned_register value))) is (λ o same. refl) t
