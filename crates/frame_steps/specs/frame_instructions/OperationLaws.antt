-- What the machine does at the items of operations.
use Rattle.std.specs.Prelude.{◌≡◌, ℕ, ◌<◌, Bool, List, ◌∷◌}
use Rattle.alpha_isa.specs.declared.insn.Fields.TheVariants as fields
use Rattle.alpha_isa.specs.declared.insn.Operand.{Operand}
use Rattle.alpha_isa.specs.declared.insn.Operand.TheVariants as isa
use Rattle.alpha_isa.specs.Program.{Program}
use Rattle.alpha_isa.specs.State.{State}
use Rattle.alpha_isa.specs.Step.{Over, Trap, exec}
use Rattle.alpha_items.specs.declared.item.AsmItem.{AsmItem}
use Rattle.alpha_items.specs.declared.item.AsmItem.TheVariants.{Plain}
use Rattle.frame_steps.specs.item_steps.Standing.{Labels}
use Rattle.mem_model.specs.Memory as memory
use Rattle.temp_ir.specs.declared.operation.Operation.{Operation}
use Rattle.temp_ir.specs.declared.operation.ExtendOp.{ExtendOp}
use Rattle.temp_ir.specs.Operations.{operate_op, extend_op}
use Rattle.alloc_model.specs.Contents.{Content, word_content, ContentAnswer, Gives, TrapsWith, Fails, operate_answer, extend_answer}
use Rattle.alloc_model.specs.Places.{Places}
use Rattle.frame_steps.specs.frame_transfers.Laws.{CallAt, FitsTheStack, StandsFor, KnowsValues, IsWritable}
use Rattle.frame_steps.specs.frame_instructions.Laws.{StandsIn, GivesRegister}

-- a second operand is a number below 256, or a register
abbrev pub IsSecond : (known : ℕ → Bool) → Places → Operand → Content → Type 0
IsSecond known store (isa.Reg r) c = StandsIn known store r c
IsSecond known store (isa.Literal n) c = (n < 256) × (c ≡ word_content n)

-- an operation gives its answer, or traps as that does
abbrev pub DoesAnswer : Program → Labels → List AsmItem → ℕ → CallAt → memory.Memory → (ℕ → Bool) → Places → State →
    (register : ℕ) → ContentAnswer → Type 0
DoesAnswer p there rest end c m known store s r (Gives content) =
    GivesRegister p there rest end c m known store s r content
DoesAnswer p there rest end c m known store s r (TrapsWith code) = exec p 1 s ≡ Over (Trap code) s
DoesAnswer p there rest end c m known store s r Fails = Unit {0}

abbrev pub OperationsAreDone : Type 0
OperationsAreDone =
    (p : Program) (there : Labels) (rest : List AsmItem) (end : ℕ) (c : CallAt) (m : memory.Memory) (known : ℕ → Bool)
    (store : Places) (s : State) → FitsTheStack c → KnowsValues known →
    (op : Operation) (left r : ℕ) (right : Operand) (a b : Content) →
    StandsFor p there (Plain (fields.Operate (operate_op op) left right r) ∷ rest) end c m known store s →
    StandsIn known store left a → IsSecond known store right b → IsWritable c.shape r →
    DoesAnswer p there rest end c m known store s r (operate_answer m op a b)

abbrev pub ExtensionsAreDone : Type 0
ExtensionsAreDone =
    (p : Program) (there : Labels) (rest : List AsmItem) (end : ℕ) (c : CallAt) (m : memory.Memory) (known : ℕ → Bool)
    (store : Places) (s : State) → FitsTheStack c → KnowsValues known →
    (op : ExtendOp) (r : ℕ) (right : Operand) (b : Content) →
    StandsFor p there (Plain (fields.Operate (extend_op op) 31 right r) ∷ rest) end c m known store s →
    IsSecond known store right b → IsWritable c.shape r →
    DoesAnswer p there rest end c m known store s r (extend_answer op b)
