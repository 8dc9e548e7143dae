-- What the machine does at the items of operations.
use Rattle.std.proofs.Common.{◌≡◌, ℕ, ◌^◌, ◌<◌, Bool, List, ◌∷◌, refl, sym, ap, ◌∙◌, subst, arith}
use Rattle.alpha_isa.specs.declared.insn.Fields.TheVariants as fields
use Rattle.alpha_isa.specs.declared.insn.Operand.{Operand}
use Rattle.alpha_isa.specs.declared.insn.Operand.TheVariants as isa
use Rattle.alpha_isa.specs.declared.insn.OperateOp.{OperateOp}
use Rattle.alpha_isa.specs.Arithmetic.{OperationEffect, Keeps, Overflows, operation_effect}
use Rattle.alpha_isa.specs.Arithmetic as effect
use Rattle.alpha_isa.specs.Program.{Program}
use Rattle.alpha_isa.specs.State.{State, register, operand_value}
use Rattle.alpha_isa.specs.Step.{Over, Trap, operate_step}
use Rattle.alpha_items.specs.declared.item.AsmItem.{AsmItem}
use Rattle.alpha_items.specs.declared.item.AsmItem.TheVariants.{Plain}
use Rattle.frame_steps.specs.item_steps.Standing.{Labels}
use Rattle.frame_steps.proofs.ItemSteps.Steps.{plain_ends}
use Rattle.mem_model.specs.Memory as memory
use Rattle.temp_ir.specs.declared.operation.Operation.{Operation}
use Rattle.temp_ir.specs.declared.operation.ExtendOp.{ExtendOp}
use Rattle.temp_ir.specs.Operations.{operate_op, extend_op}
use Rattle.alloc_model.specs.Contents.{Content, ContentAnswer, Gives, TrapsWith, Fails, operate_answer, extend_answer}
use Rattle.alloc_model.specs.Places.{Places}
use Rattle.frame_memory.specs.Machine.{memory_bytes}
use Rattle.frame_memory.specs.flat_operations.Contents.{ContentIs, EffectIs}
use Rattle.frame_memory.proofs.FlatOperations.Operations.{operations_correspond, extensions_correspond}
use Rattle.frame_steps.proofs.FrameAccesses.Runs.{stands}
use Rattle.frame_steps.specs.frame_transfers.Laws.{CallAt, StandsFor, KnowsValues, IsWritable}
use Rattle.frame_steps.specs.frame_instructions.Laws.{StandsIn}
use Rattle.frame_steps.specs.frame_instructions.OperationLaws.{IsSecond, DoesAnswer}
use Rattle.frame_steps.proofs.FrameInstructions.Runs.{stands-in, written-gives}
use Rattle.frame_steps.proofs.FrameInstructions.Words.{given-below}

module _ (p : Program) (there : Labels) (rest : List AsmItem) (end : ℕ) (c : CallAt) (m : memory.Memory) (known : ℕ → Bool) (store : Places) (s : State) (knows : KnowsValues known) where
  second-is : (items : List AsmItem) (right : Operand) (b : Content) → StandsFor p there items end c m known store s → IsSecond known store right b → ContentIs c.extents b (operand_value s right)
  second-is items (isa.Reg r) b h is = stands-in p there rest end c m known store s knows items r b h is
  second-is items (isa.Literal n) b h is = subst (λ z. ContentIs c.extents z n) (sym is.1) refl

  second-below : (items : List AsmItem) (right : Operand) (b : Content) → StandsFor p there items end c m known store s → IsSecond known store right b → operand_value s right < 2 ^ 64
  second-below items (isa.Reg r) b h is = h.is_at.words r
  second-below items (isa.Literal n) b h is = let lt = is.0 in omega (arith, lt)

  -- an operation whose effect stands for an answer
  answer-done : (op : OperateOp) (left r : ℕ) (right : Operand) (answer : ContentAnswer) (h : StandsFor p there (Plain (fields.Operate op left right r) ∷ rest) end c m known store s) → IsWritable c.shape r → operand_value s right < 2 ^ 64 → (e : OperationEffect) → operation_effect op (register s left) (operand_value s right) ≡ e → EffectIs c.extents answer e → DoesAnswer p there rest end c m known store s r answer
  answer-done op left r right (Gives content) h value small (effect.Gives n) e is =
      written-gives p there rest end c m known store s knows (fields.Operate op left right r) h r n content value (given-below op (register s left) (operand_value s right) n (h.is_at.words left) small e) (ap (λ z. operate_step z r s) e) is
  answer-done op left r right (Gives content) h value small Keeps e is = absurd is
  answer-done op left r right (Gives content) h value small Overflows e is = absurd is
  answer-done op left r right (TrapsWith code) h value small (effect.Gives n) e is = absurd is
  answer-done op left r right (TrapsWith code) h value small Keeps e is = absurd is
  answer-done op left r right (TrapsWith code) h value small Overflows e is =
      plain_ends p there h.word (fields.Operate op left right r) rest end s s (Trap 3) (stands p there h.word (Plain (fields.Operate op left right r)) rest end s h.is_at) (ap (λ z. operate_step z r s) e)
      ∙ ap (λ n. Over (Trap n) s) (sym is)
  answer-done op left r right Fails h value small e f is = tt

  pub operations_are_done : (op : Operation) (left r : ℕ) (right : Operand) (a b : Content) → StandsFor p there (Plain (fields.Operate (operate_op op) left right r) ∷ rest) end c m known store s → StandsIn known store left a → IsSecond known store right b → IsWritable c.shape r → DoesAnswer p there rest end c m known store s r (operate_answer m op a b)
  operations_are_done op left r right a b h first second value =
      let items = Plain (fields.Operate (operate_op op) left right r) ∷ rest in
      let small = second-below items right b h second in
      answer-done (operate_op op) left r right (operate_answer m op a b) h value small (operation_effect (operate_op op) (register s left) (operand_value s right)) refl
      (operations_correspond c.extents m c.owner (memory_bytes p s) h.frame.memory_is op a b (register s left) (operand_value s right) (h.is_at.words left) small (stands-in p there rest end c m known store s knows items left a h first) (second-is items right b h second))

  pub extensions_are_done : (op : ExtendOp) (r : ℕ) (right : Operand) (b : Content) → StandsFor p there (Plain (fields.Operate (extend_op op) 31 right r) ∷ rest) end c m known store s → IsSecond known store right b → IsWritable c.shape r → DoesAnswer p there rest end c m known store s r (extend_answer op b)
  extensions_are_done op r right b h second value =
      let items = Plain (fields.Operate (extend_op op) 31 right r) ∷ rest in
      answer-done (extend_op op) 31 r right (extend_answer op b) h value (second-below items right b h second) (operation_effect (extend_op op) 0 (operand_value s right)) refl
      (extensions_correspond c.extents op b (operand_value s right) (second-is items right b h second))
