-- What may be left out writes one value, and the world stays; or it has no meaning.
use Rattle.std.proofs.Common.{◌≡◌, ℕ, not, Bool, true, false, List, [], ◌∷◌, Option, Some, None, if◌then◌else◌, refl, sym, ◌∙◌}
use Rattle.mem_model.specs.declared.value.Value.{Value}
use Rattle.mem_model.specs.World.{Outer}
use Rattle.machine_model.specs.Code.{Writes, Calls, Returns, Stops, HasNoMeaning}
use Rattle.suifvm_ir.specs.declared.insn.VmInsn.{VmInsn}
use Rattle.suifvm_ir.specs.declared.insn.VmInsn.TheVariants as x
use Rattle.suifvm_ir.specs.Insns.{targets_of, flows_on_of, may_trap_of, unary_may_trap, binary_may_trap}
use Rattle.suifvm_meaning.specs.declared.answer.Answer.{Answer}
use Rattle.suifvm_meaning.specs.declared.answer.Answer.TheVariants.{Gives, TrapsWith, Fails}
use Rattle.suifvm_meaning.specs.Operations.{is_value_of}
use Rattle.suifvm_ir.specs.declared.insn.TypedRegister.{TypedRegister}
use Rattle.suifvm_meaning.specs.Effect.{does, takes_turn, writes, return_act, first_source, fails}
use Rattle.suifvm_meaning.specs.Laws.{OnlyTheseVmInstructionsTrap}
use Rattle.flow_clean.specs.Dead.{may_drop}

pub data Drops (i : VmInsn) (own : ℕ) (vs : List Value) (o : Outer) : Type 0 where
  DropsValue : (v : Value) → does i own vs o ≡ Writes (v ∷ []) o → Drops i own vs o
  DropsNothing : does i own vs o ≡ Stops HasNoMeaning o → Drops i own vs o

not_true : (b : Bool) → not b ≡ true → b ≡ false
not_true true e = sym e
not_true false e = refl

by_answer : OnlyTheseVmInstructionsTrap → (i : VmInsn) (own : ℕ) (vs : List Value) (o : Outer) → may_trap_of i ≡ false → (a : Answer) → does i own vs o ≡ writes a o → Drops i own vs o
by_answer only i own vs o calm (Gives v) e = DropsValue v e
by_answer only i own vs o calm Fails e = DropsNothing e
by_answer only i own vs o calm (TrapsWith code) e =
    absurd (let clash : true ≡ false = sym (only i own vs o o code e) ∙ calm in cc)

pub drops : OnlyTheseVmInstructionsTrap → (i : VmInsn) (own : ℕ) (vs : List Value) (o : Outer) → may_drop i ≡ true → Drops i own vs o
drops only (x.LoadConstant ty d word) own vs o h = by_answer only (x.LoadConstant ty d word) own vs o refl _ refl
drops only (x.LoadAddress d place plus) own vs o h = DropsValue _ refl
drops only (x.Load ty d p plus) own vs o h = by_answer only (x.Load ty d p plus) own vs o refl _ refl
drops only (x.Unary op ty d b) own vs o h = by_answer only (x.Unary op ty d b) own vs o (not_true (unary_may_trap op ty) h) _ refl
drops only (x.Binary op ty d b c) own vs o h = by_answer only (x.Binary op ty d b c) own vs o (not_true (binary_may_trap op ty) h) _ refl
drops only (x.Shift op ty d b c) own vs o h = by_answer only (x.Shift op ty d b c) own vs o refl _ refl
drops only (x.Convert from to d b) own vs o h = by_answer only (x.Convert from to d b) own vs o refl _ refl
drops only (x.Compare op ty d b c) own vs o h = by_answer only (x.Compare op ty d b c) own vs o refl _ refl
drops only (x.Store ty p plus b) own vs o h = let never : ⊥ = cc in absurd never
drops only (x.Copy to from size align) own vs o h = let never : ⊥ = cc in absurd never
drops only (x.Branch op ty source block) own vs o h = let never : ⊥ = cc in absurd never
drops only (x.Jump block) own vs o h = let never : ⊥ = cc in absurd never
drops only (x.Call d c arguments) own vs o h = let never : ⊥ = cc in absurd never
drops only (x.Return value) own vs o h = let never : ⊥ = cc in absurd never
drops only x.Mark own vs o h = let never : ⊥ = cc in absurd never
drops only x.Nop own vs o h = let never : ⊥ = cc in absurd never

pub dropped_turn : (i : VmInsn) → may_drop i ≡ true → takes_turn i ≡ false
dropped_turn (x.Call d c arguments) h = let never : ⊥ = cc in absurd never
dropped_turn x.Mark h = let never : ⊥ = cc in absurd never
dropped_turn (x.LoadConstant ty d word) h = refl
dropped_turn (x.LoadAddress d place plus) h = refl
dropped_turn (x.Load ty d p plus) h = refl
dropped_turn (x.Store ty p plus b) h = refl
dropped_turn (x.Copy to from size align) h = refl
dropped_turn (x.Unary op ty d b) h = refl
dropped_turn (x.Binary op ty d b c) h = refl
dropped_turn (x.Shift op ty d b c) h = refl
dropped_turn (x.Convert from to d b) h = refl
dropped_turn (x.Compare op ty d b c) h = refl
dropped_turn (x.Branch op ty source block) h = refl
dropped_turn (x.Jump block) h = refl
dropped_turn (x.Return value) h = refl
dropped_turn x.Nop h = refl

-- what may be left out is followed by the next instruction alone
pub dropped_straight : (i : VmInsn) → may_drop i ≡ true → (targets_of i ≡ []) × (flows_on_of i ≡ true)
dropped_straight (x.LoadConstant ty d word) h = (refl, refl)
dropped_straight (x.LoadAddress d place plus) h = (refl, refl)
dropped_straight (x.Load ty d p plus) h = (refl, refl)
dropped_straight (x.Unary op ty d b) h = (refl, refl)
dropped_straight (x.Binary op ty d b c) h = (refl, refl)
dropped_straight (x.Shift op ty d b c) h = (refl, refl)
dropped_straight (x.Convert from to d b) h = (refl, refl)
dropped_straight (x.Compare op ty d b c) h = (refl, refl)
dropped_straight (x.Store ty p plus b) h = let never : ⊥ = cc in absurd never
dropped_straight (x.Copy to from size align) h = let never : ⊥ = cc in absurd never
dropped_straight (x.Branch op ty source block) h = let never : ⊥ = cc in absurd never
dropped_straight (x.Jump block) h = let never : ⊥ = cc in absurd never
dropped_straight (x.Call d c arguments) h = let never : ⊥ = cc in absurd never
dropped_straight (x.Return value) h = let never : ⊥ = cc in absurd never
dropped_straight x.Mark h = let never : ⊥ = cc in absurd never
dropped_straight x.Nop h = let never : ⊥ = cc in absurd never

-- a return neither writes nor calls
return_writes : (o : Option TypedRegister) (vs us : List Value) (w v : Outer) → return_act o vs w ≡ Writes us v → ⊥
return_writes None vs us w v e = cc
return_writes (Some value) vs us w v e = by_value (is_value_of value.ty (first_source vs)) refl e
  where
    by_value : (b : Bool) → is_value_of value.ty (first_source vs) ≡ b → (if b then Returns (first_source vs ∷ []) w else fails w) ≡ Writes us v → ⊥
    by_value true _ g = cc
    by_value false _ g = cc

return_calls : (o : Option TypedRegister) (vs us : List Value) (g : ℕ) (w v : Outer) → return_act o vs w ≡ Calls g us v → ⊥
return_calls None vs us g w v e = cc
return_calls (Some value) vs us g w v e = by_value (is_value_of value.ty (first_source vs)) refl e
  where
    by_value : (b : Bool) → is_value_of value.ty (first_source vs) ≡ b → (if b then Returns (first_source vs ∷ []) w else fails w) ≡ Calls g us v → ⊥
    by_value true _ h = cc
    by_value false _ h = cc

-- what writes or calls goes on
pub writing_flows : (i : VmInsn) (own : ℕ) (vs us : List Value) (w v : Outer) → does i own vs w ≡ Writes us v → flows_on_of i ≡ true
writing_flows (x.Jump block) own vs us w v e = let never : ⊥ = cc in absurd never
writing_flows (x.Return value) own vs us w v e = absurd (return_writes value vs us w v e)
writing_flows (x.LoadConstant ty d word) own vs us w v e = refl
writing_flows (x.LoadAddress d place plus) own vs us w v e = refl
writing_flows (x.Load ty d p plus) own vs us w v e = refl
writing_flows (x.Store ty p plus b) own vs us w v e = refl
writing_flows (x.Copy to from size align) own vs us w v e = refl
writing_flows (x.Unary op ty d b) own vs us w v e = refl
writing_flows (x.Binary op ty d b c) own vs us w v e = refl
writing_flows (x.Shift op ty d b c) own vs us w v e = refl
writing_flows (x.Convert from to d b) own vs us w v e = refl
writing_flows (x.Compare op ty d b c) own vs us w v e = refl
writing_flows (x.Branch op ty source block) own vs us w v e = refl
writing_flows (x.Call d c arguments) own vs us w v e = refl
writing_flows x.Mark own vs us w v e = refl
writing_flows x.Nop own vs us w v e = refl

pub calling_flows : (i : VmInsn) (own : ℕ) (vs us : List Value) (g : ℕ) (w v : Outer) → does i own vs w ≡ Calls g us v → flows_on_of i ≡ true
calling_flows (x.Jump block) own vs us g w v e = let never : ⊥ = cc in absurd never
calling_flows (x.Return value) own vs us g w v e = absurd (return_calls value vs us g w v e)
calling_flows (x.LoadConstant ty d word) own vs us g w v e = refl
calling_flows (x.LoadAddress d place plus) own vs us g w v e = refl
calling_flows (x.Load ty d p plus) own vs us g w v e = refl
calling_flows (x.Store ty p plus b) own vs us g w v e = refl
calling_flows (x.Copy to from size align) own vs us g w v e = refl
calling_flows (x.Unary op ty d b) own vs us g w v e = refl
calling_flows (x.Binary op ty d b c) own vs us g w v e = refl
calling_flows (x.Shift op ty d b c) own vs us g w v e = refl
calling_flows (x.Convert from to d b) own vs us g w v e = refl
calling_flows (x.Compare op ty d b c) own vs us g w v e = refl
calling_flows (x.Branch op ty source block) own vs us g w v e = refl
calling_flows (x.Call d c arguments) own vs us g w v e = refl
calling_flows x.Mark own vs us g w v e = refl
calling_flows x.Nop own vs us g w v e = refl
