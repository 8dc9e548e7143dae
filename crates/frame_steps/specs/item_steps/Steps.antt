-- What the machine does where items stand.
use Rattle.std.specs.Prelude.{◌≡◌, ◌≢◌, ℕ, ◌+◌, ◌*◌, ◌^◌, ◌<◌, ◌≤◌, List, ◌∷◌, length, if◌then◌else◌}
use Rattle.alpha_isa.specs.declared.insn.Fields.{Fields}
use Rattle.alpha_isa.specs.declared.insn.BranchOp.{BranchOp}
use Rattle.alpha_isa.specs.Program.{Program, IsLawful, data_start, word_address}
use Rattle.alpha_isa.specs.State.{State, register, with_register}
use Rattle.alpha_isa.specs.Step.{Halt, Goes, Over, insn_step, exec, is_branch_taken, links}
use Rattle.alpha_items.specs.declared.item.AsmItem.{AsmItem}
use Rattle.alpha_items.specs.declared.item.AsmItem.TheVariants.{Plain, Branch, TextAddress, DataAddress}
use Rattle.alpha_items.specs.Words.{most_address}
use Rattle.frame_steps.specs.item_steps.Standing.{Labels, ItemsAt}

-- so many steps from a state are paid by the words from where it stands up to an address: each word pays for 600
abbrev pub ArePaid : (steps : ℕ) → State → (address : ℕ) → Type 0
ArePaid steps s address = 4 * steps + 600 * s.pc ≤ 600 * address

-- in a number of steps the machine comes from a state to another, along the words between them
pub record Comes (p : Program) (s t : State) : Type 0 where
  pub steps : ℕ
  pub run : exec p steps s ≡ Goes t
  pub paid : ArePaid steps s t.pc

-- It comes there by a jump, a call or a return. The words up to an address pay for that, and for 599 steps more: the
-- last of these words takes one step
pub record Leaves (p : Program) (address : ℕ) (s t : State) : Type 0 where
  pub steps : ℕ
  pub run : exec p steps s ≡ Goes t
  pub paid : ArePaid (599 + steps) s address

abbrev pub ImageStepsAddUp : Type 0
ImageStepsAddUp = (p : Program) (s t u : State) → Comes p s t → Comes p t u → Comes p s u

-- the machine stands at an item, behind which others stand
pub record StandsAt (p : Program) (there : Labels) (w : ℕ) (i : AsmItem) (items : List AsmItem) (end : ℕ) (s : State) :
    Type 0 where
  pub lawful : IsLawful p
  pub labels : (l : ℕ) → there l ≤ length p.words
  pub items_at : ItemsAt p there w (i ∷ items) end
  pub pc : s.pc ≡ word_address w
  pub registers : length s.registers ≡ 32

-- it has come to the word behind the item
pub record ComesBehind (p : Program) (there : Labels) (w : ℕ) (items : List AsmItem) (end : ℕ) (s t : State) : Type 0
  where
    pub comes : Comes p s t
    pub next : ℕ
    pub pc : t.pc ≡ word_address next
    pub items_at : ItemsAt p there next items end

-- an instruction that stands as it is and goes on,
abbrev pub PlainSteps : Type 0
PlainSteps =
    (p : Program) (there : Labels) (w : ℕ) (insn : Fields) (items : List AsmItem) (end : ℕ) (s t : State) →
    StandsAt p there w (Plain insn) items end s → insn_step p insn s ≡ Goes t → t.pc ≡ s.pc + 4 →
    ComesBehind p there w items end s t

-- or ends the run
abbrev pub PlainEnds : Type 0
PlainEnds =
    (p : Program) (there : Labels) (w : ℕ) (insn : Fields) (items : List AsmItem) (end : ℕ) (s t : State) (h : Halt) →
    StandsAt p there w (Plain insn) items end s → insn_step p insn s ≡ Over h t → exec p 1 s ≡ Over h t

-- all but the place and the registers is as it was
pub record SameElse (s t : State) : Type 0 where
  pub registers : length t.registers ≡ length s.registers
  pub data_bytes : t.data_bytes ≡ s.data_bytes
  pub stack_bytes : t.stack_bytes ≡ s.stack_bytes
  pub input : t.input ≡ s.input
  pub output : t.output ≡ s.output

-- an address comes into a register
pub record HasAddress (ra address : ℕ) (s t : State) : Type 0 where
  pub here : register t ra ≡ address
  pub others : (r : ℕ) → r ≢ ra → register t r ≡ register s r
  pub same : SameElse s t

pub record AddressDone (p : Program) (there : Labels) (w : ℕ) (items : List AsmItem) (end ra address : ℕ) (s : State) :
    Type 0 where
  pub to : State
  pub behind : ComesBehind p there w items end s to
  pub has : HasAddress ra address s to

pub record AddressesStep : Type 0 where
  pub text : (p : Program) (there : Labels) (w ra l : ℕ) (items : List AsmItem) (end : ℕ) (s : State) →
      StandsAt p there w (TextAddress ra l) items end s → ra < 31 →
      AddressDone p there w items end ra (word_address (there l)) s
  pub data_address : (p : Program) (there : Labels) (w ra offset : ℕ) (items : List AsmItem) (end : ℕ) (s : State) →
      StandsAt p there w (DataAddress ra offset) items end s → ra < 31 → data_start p + offset < most_address →
      AddressDone p there w items end ra (data_start p + offset) s

-- each register holds a word
abbrev pub HoldsWords : State → Type 0
HoldsWords s = (r : ℕ) → register s r < 2 ^ 64

-- a branch is taken or passed. A far one leaves its target in register 28
pub record BranchDone (p : Program) (there : Labels) (op : BranchOp) (ra l : ℕ) (items : List AsmItem) (end : ℕ)
    (s : State) : Type 0 where
  pub to : State
  pub next : ℕ
  pub within : next ≤ length p.words
  pub comes : Leaves p (word_address next) s to
  pub some : 1 ≤ comes.steps
  pub items_at : ItemsAt p there next items end
  pub pc : to.pc ≡ word_address (if is_branch_taken op (register s ra) then there l else next)
  pub registers : (r : ℕ) → r ≢ 28 →
      register to r ≡ register (if links op then with_register ra (word_address next) s else s) r
  pub words : HoldsWords s → HoldsWords to
  pub same : SameElse s to

abbrev pub BranchesStep : Type 0
BranchesStep =
    (p : Program) (there : Labels) (w : ℕ) (op : BranchOp) (ra l : ℕ) (items : List AsmItem) (end : ℕ) (s : State) →
    StandsAt p there w (Branch op ra l) items end s → ra < 32 → BranchDone p there op ra l items end s
