-- An instruction with other targets does, reads and writes the same.
use Rattle.std.proofs.Common.{◌≡◌, ℕ, List, map, refl}
use Rattle.std.specs.Prelude.{slice_index_or}
use Rattle.mem_model.specs.declared.value.Value.{Value}
use Rattle.mem_model.specs.World.{Outer}
use Rattle.suifvm_ir.specs.declared.insn.VmInsn.{VmInsn}
use Rattle.suifvm_ir.specs.declared.insn.VmInsn.TheVariants as x
use Rattle.suifvm_ir.specs.Insns.{reads_of, writes_of, targets_of, flows_on_of}
use Rattle.suifvm_ir.specs.Cost.{insn_cost}
use Rattle.suifvm_ir.specs.Programs.{weight_of}
use Rattle.suifvm_meaning.specs.Effect.{does, takes_turn}
use Rattle.flow_clean.specs.Chains.{retargeted}

module _ (ends : List ℕ) where
  -- all that does not look at the block of a branch or jump stays
  module _ {A : Type 0} (m : VmInsn → A) (branches : (op : _) (ty : _) (source block other : ℕ) → m (x.Branch op ty source other) ≡ m (x.Branch op ty source block)) (jumps : (block other : ℕ) → m (x.Jump other) ≡ m (x.Jump block)) where
    pub same : (i : VmInsn) → m (retargeted ends i) ≡ m i
    same (x.Branch op ty source block) = branches op ty source block (slice_index_or ends block 0)
    same (x.Jump block) = jumps block (slice_index_or ends block 0)
    same (x.LoadConstant ty d word) = refl
    same (x.LoadAddress d place plus) = refl
    same (x.Load ty d p plus) = refl
    same (x.Store ty p plus b) = refl
    same (x.Copy to from size align) = refl
    same (x.Unary op ty d b) = refl
    same (x.Binary op ty d b c) = refl
    same (x.Shift op ty d b c) = refl
    same (x.Convert from to d b) = refl
    same (x.Compare op ty d b c) = refl
    same (x.Call d c arguments) = refl
    same (x.Return value) = refl
    same x.Mark = refl
    same x.Nop = refl

  pub reads_same : (i : VmInsn) → reads_of (retargeted ends i) ≡ reads_of i
  reads_same = same reads_of (λ op ty source block other. refl) (λ block other. refl)

  pub writes_same : (i : VmInsn) → writes_of (retargeted ends i) ≡ writes_of i
  writes_same = same writes_of (λ op ty source block other. refl) (λ block other. refl)

  pub flows_same : (i : VmInsn) → flows_on_of (retargeted ends i) ≡ flows_on_of i
  flows_same = same flows_on_of (λ op ty source block other. refl) (λ block other. refl)

  pub turn_same : (i : VmInsn) → takes_turn (retargeted ends i) ≡ takes_turn i
  turn_same = same takes_turn (λ op ty source block other. refl) (λ block other. refl)

  pub cost_same : (i : VmInsn) → insn_cost (retargeted ends i) ≡ insn_cost i
  cost_same = same insn_cost (λ op ty source block other. refl) (λ block other. refl)

  pub weight_same : (i : VmInsn) → weight_of (retargeted ends i) ≡ weight_of i
  weight_same = same weight_of (λ op ty source block other. refl) (λ block other. refl)

  pub does_same : (own : ℕ) (vs : List Value) (o : Outer) (i : VmInsn) → does (retargeted ends i) own vs o ≡ does i own vs o
  does_same own vs o = same (λ i. does i own vs o) (λ op ty source block other. refl) (λ block other. refl)

  pub targets_are : (i : VmInsn) → targets_of (retargeted ends i) ≡ map (λ block. slice_index_or ends block 0) (targets_of i)
  targets_are (x.Branch op ty source block) = refl
  targets_are (x.Jump block) = refl
  targets_are (x.LoadConstant ty d word) = refl
  targets_are (x.LoadAddress d place plus) = refl
  targets_are (x.Load ty d p plus) = refl
  targets_are (x.Store ty p plus b) = refl
  targets_are (x.Copy to from size align) = refl
  targets_are (x.Unary op ty d b) = refl
  targets_are (x.Binary op ty d b c) = refl
  targets_are (x.Shift op ty d b c) = refl
  targets_are (x.Convert from to d b) = refl
  targets_are (x.Compare op ty d b c) = refl
  targets_are (x.Call d c arguments) = refl
  targets_are (x.Return value) = refl
  targets_are x.Mark = refl
  targets_are x.Nop = refl
