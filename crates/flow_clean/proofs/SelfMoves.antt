-- A move of a register to itself changes nothing.
use Rattle.std.proofs.Common.{◌≡◌, ℕ, ◌==◌, Bool, true, false, List, [], ◌∷◌, map, refl, sym, ap, ◌∙◌, if◌then◌else◌}
use Rattle.std.proofs.lemmas.Bool.{eqb-true}
use Rattle.mem_model.specs.declared.value.Value.{Value}
use Rattle.mem_model.specs.World.{Outer}
use Rattle.machine_model.specs.Code.{Writes}
use Rattle.suifvm_ir.specs.declared.insn.VmUnaryOp.TheVariants as unary
use Rattle.suifvm_ir.specs.declared.insn.VmInsn.{VmInsn}
use Rattle.suifvm_ir.specs.declared.insn.VmInsn.TheVariants as x
use Rattle.suifvm_ir.specs.Insns.{reads_of, writes_of}
use Rattle.suifvm_meaning.specs.Operations.{unary_answer}
use Rattle.suifvm_meaning.specs.Effect.{does}
use Rattle.suifvm_meaning.specs.Behave.{Registers, set_registers, first_or_unset}
use Rattle.flow_clean.specs.Dead.{may_drop, is_self_move}
use Rattle.flow_clean.proofs.CopyRuns.{gives_value, move_answer}

pub self_drops : (i : VmInsn) → is_self_move i ≡ true → may_drop i ≡ true
self_drops (x.Unary unary.Move ty d b) h = refl
self_drops (x.Unary unary.Negate ty d b) h = let never : ⊥ = cc in absurd never
self_drops (x.Unary unary.Complement ty d b) h = let never : ⊥ = cc in absurd never
self_drops (x.LoadConstant ty d word) h = let never : ⊥ = cc in absurd never
self_drops (x.LoadAddress d place plus) h = let never : ⊥ = cc in absurd never
self_drops (x.Load ty d p plus) h = let never : ⊥ = cc in absurd never
self_drops (x.Store ty p plus b) h = let never : ⊥ = cc in absurd never
self_drops (x.Copy to from size align) h = let never : ⊥ = cc in absurd never
self_drops (x.Binary op ty d b c) h = let never : ⊥ = cc in absurd never
self_drops (x.Shift op ty d b c) h = let never : ⊥ = cc in absurd never
self_drops (x.Convert from to d b) h = let never : ⊥ = cc in absurd never
self_drops (x.Compare op ty d b c) h = let never : ⊥ = cc in absurd never
self_drops (x.Branch op ty source block) h = let never : ⊥ = cc in absurd never
self_drops (x.Jump block) h = let never : ⊥ = cc in absurd never
self_drops (x.Call d c arguments) h = let never : ⊥ = cc in absurd never
self_drops (x.Return value) h = let never : ⊥ = cc in absurd never
self_drops x.Mark h = let never : ⊥ = cc in absurd never
self_drops x.Nop h = let never : ⊥ = cc in absurd never

pub self_reads : (i : VmInsn) → is_self_move i ≡ true → reads_of i ≡ writes_of i
self_reads (x.Unary unary.Move ty d b) h = ap (λ register. register ∷ []) (sym (eqb-true d b h))
self_reads (x.Unary unary.Negate ty d b) h = let never : ⊥ = cc in absurd never
self_reads (x.Unary unary.Complement ty d b) h = let never : ⊥ = cc in absurd never
self_reads (x.LoadConstant ty d word) h = let never : ⊥ = cc in absurd never
self_reads (x.LoadAddress d place plus) h = let never : ⊥ = cc in absurd never
self_reads (x.Load ty d p plus) h = let never : ⊥ = cc in absurd never
self_reads (x.Store ty p plus b) h = let never : ⊥ = cc in absurd never
self_reads (x.Copy to from size align) h = let never : ⊥ = cc in absurd never
self_reads (x.Binary op ty d b c) h = let never : ⊥ = cc in absurd never
self_reads (x.Shift op ty d b c) h = let never : ⊥ = cc in absurd never
self_reads (x.Convert from to d b) h = let never : ⊥ = cc in absurd never
self_reads (x.Compare op ty d b c) h = let never : ⊥ = cc in absurd never
self_reads (x.Branch op ty source block) h = let never : ⊥ = cc in absurd never
self_reads (x.Jump block) h = let never : ⊥ = cc in absurd never
self_reads (x.Call d c arguments) h = let never : ⊥ = cc in absurd never
self_reads (x.Return value) h = let never : ⊥ = cc in absurd never
self_reads x.Mark h = let never : ⊥ = cc in absurd never
self_reads x.Nop h = let never : ⊥ = cc in absurd never

pub self_stays : (i : VmInsn) → is_self_move i ≡ true → (own : ℕ) (r : Registers) (o after : Outer) (vs : List Value) → does i own (map r (reads_of i)) o ≡ Writes vs after → (k : ℕ) → set_registers (writes_of i) vs r k ≡ r k
self_stays (x.Unary unary.Move ty d b) h own r o after vs e k = by_value (k == d) refl
  where
    by_value : (c : Bool) → (k == d) ≡ c → (if c then first_or_unset vs else r k) ≡ r k
    by_value true is =
        ap first_or_unset (gives_value (unary_answer unary.Move ty (r b)) o after vs (r b) (move_answer ty (r b)) e)
        ∙ ap r (sym (eqb-true d b h) ∙ sym (eqb-true k d is))
    by_value false is = refl
self_stays (x.Unary unary.Negate ty d b) h own r o after vs e k = let never : ⊥ = cc in absurd never
self_stays (x.Unary unary.Complement ty d b) h own r o after vs e k = let never : ⊥ = cc in absurd never
self_stays (x.LoadConstant ty d word) h own r o after vs e k = let never : ⊥ = cc in absurd never
self_stays (x.LoadAddress d place plus) h own r o after vs e k = let never : ⊥ = cc in absurd never
self_stays (x.Load ty d p plus) h own r o after vs e k = let never : ⊥ = cc in absurd never
self_stays (x.Store ty p plus b) h own r o after vs e k = let never : ⊥ = cc in absurd never
self_stays (x.Copy to from size align) h own r o after vs e k = let never : ⊥ = cc in absurd never
self_stays (x.Binary op ty d b c) h own r o after vs e k = let never : ⊥ = cc in absurd never
self_stays (x.Shift op ty d b c) h own r o after vs e k = let never : ⊥ = cc in absurd never
self_stays (x.Convert from to d b) h own r o after vs e k = let never : ⊥ = cc in absurd never
self_stays (x.Compare op ty d b c) h own r o after vs e k = let never : ⊥ = cc in absurd never
self_stays (x.Branch op ty source block) h own r o after vs e k = let never : ⊥ = cc in absurd never
self_stays (x.Jump block) h own r o after vs e k = let never : ⊥ = cc in absurd never
self_stays (x.Call d c arguments) h own r o after vs e k = let never : ⊥ = cc in absurd never
self_stays (x.Return value) h own r o after vs e k = let never : ⊥ = cc in absurd never
self_stays x.Mark h own r o after vs e k = let never : ⊥ = cc in absurd never
self_stays x.Nop h own r o after vs e k = let never : ⊥ = cc in absurd never
