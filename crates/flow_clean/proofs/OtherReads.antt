-- An instruction that reads other registers does, writes and costs the same.
use Rattle.std.proofs.Common.{◌≡◌, ℕ, ◌+◌, ◌*◌, List, [], ◌∷◌, map, Some, None, All, refl, ap, ◌∙◌}
use Rattle.std.proofs.lemmas.List.{length-map}
use Rattle.std.proofs.lemmas.List.Elements.{All-head}
use Rattle.mem_model.specs.declared.value.Value.{Value}
use Rattle.mem_model.specs.World.{Outer}
use Rattle.suifvm_ir.specs.declared.insn.VmUnaryOp.TheVariants as unary
use Rattle.suifvm_ir.specs.declared.insn.VmInsn.{VmInsn}
use Rattle.suifvm_ir.specs.declared.insn.VmInsn.TheVariants as x
use Rattle.suifvm_ir.specs.Insns.{reads_of, writes_of, targets_of, flows_on_of}
use Rattle.suifvm_ir.specs.Cost.{insn_cost}
use Rattle.suifvm_ir.specs.Programs.{weight_of, first_is_mark}
use Rattle.suifvm_meaning.specs.Effect.{does, takes_turn}
use Rattle.flow_clean.specs.Copies.{with_reads, move_source}

module _ (names : ℕ → ℕ) where
  pub reads_are : (i : VmInsn) → reads_of (with_reads names i) ≡ map names (reads_of i)
  reads_are (x.LoadConstant ty d word) = refl
  reads_are (x.LoadAddress d place plus) = refl
  reads_are (x.Load ty d p plus) = refl
  reads_are (x.Store ty p plus b) = refl
  reads_are (x.Copy to from size align) = refl
  reads_are (x.Unary op ty d b) = refl
  reads_are (x.Binary op ty d b c) = refl
  reads_are (x.Shift op ty d b c) = refl
  reads_are (x.Convert from to d b) = refl
  reads_are (x.Compare op ty d b c) = refl
  reads_are (x.Branch op ty source block) = refl
  reads_are (x.Jump block) = refl
  reads_are (x.Call d c arguments) = refl
  reads_are (x.Return None) = refl
  reads_are (x.Return (Some value)) = refl
  reads_are x.Mark = refl
  reads_are x.Nop = refl

  pub writes_same : (i : VmInsn) → writes_of (with_reads names i) ≡ writes_of i
  writes_same (x.LoadConstant ty d word) = refl
  writes_same (x.LoadAddress d place plus) = refl
  writes_same (x.Load ty d p plus) = refl
  writes_same (x.Store ty p plus b) = refl
  writes_same (x.Copy to from size align) = refl
  writes_same (x.Unary op ty d b) = refl
  writes_same (x.Binary op ty d b c) = refl
  writes_same (x.Shift op ty d b c) = refl
  writes_same (x.Convert from to d b) = refl
  writes_same (x.Compare op ty d b c) = refl
  writes_same (x.Branch op ty source block) = refl
  writes_same (x.Jump block) = refl
  writes_same (x.Call d c arguments) = refl
  writes_same (x.Return value) = refl
  writes_same x.Mark = refl
  writes_same x.Nop = refl

  pub targets_same : (i : VmInsn) → targets_of (with_reads names i) ≡ targets_of i
  targets_same (x.LoadConstant ty d word) = refl
  targets_same (x.LoadAddress d place plus) = refl
  targets_same (x.Load ty d p plus) = refl
  targets_same (x.Store ty p plus b) = refl
  targets_same (x.Copy to from size align) = refl
  targets_same (x.Unary op ty d b) = refl
  targets_same (x.Binary op ty d b c) = refl
  targets_same (x.Shift op ty d b c) = refl
  targets_same (x.Convert from to d b) = refl
  targets_same (x.Compare op ty d b c) = refl
  targets_same (x.Branch op ty source block) = refl
  targets_same (x.Jump block) = refl
  targets_same (x.Call d c arguments) = refl
  targets_same (x.Return value) = refl
  targets_same x.Mark = refl
  targets_same x.Nop = refl

  pub flows_same : (i : VmInsn) → flows_on_of (with_reads names i) ≡ flows_on_of i
  flows_same (x.LoadConstant ty d word) = refl
  flows_same (x.LoadAddress d place plus) = refl
  flows_same (x.Load ty d p plus) = refl
  flows_same (x.Store ty p plus b) = refl
  flows_same (x.Copy to from size align) = refl
  flows_same (x.Unary op ty d b) = refl
  flows_same (x.Binary op ty d b c) = refl
  flows_same (x.Shift op ty d b c) = refl
  flows_same (x.Convert from to d b) = refl
  flows_same (x.Compare op ty d b c) = refl
  flows_same (x.Branch op ty source block) = refl
  flows_same (x.Jump block) = refl
  flows_same (x.Call d c arguments) = refl
  flows_same (x.Return value) = refl
  flows_same x.Mark = refl
  flows_same x.Nop = refl

  pub turn_same : (i : VmInsn) → takes_turn (with_reads names i) ≡ takes_turn i
  turn_same (x.LoadConstant ty d word) = refl
  turn_same (x.LoadAddress d place plus) = refl
  turn_same (x.Load ty d p plus) = refl
  turn_same (x.Store ty p plus b) = refl
  turn_same (x.Copy to from size align) = refl
  turn_same (x.Unary op ty d b) = refl
  turn_same (x.Binary op ty d b c) = refl
  turn_same (x.Shift op ty d b c) = refl
  turn_same (x.Convert from to d b) = refl
  turn_same (x.Compare op ty d b c) = refl
  turn_same (x.Branch op ty source block) = refl
  turn_same (x.Jump block) = refl
  turn_same (x.Call d c arguments) = refl
  turn_same (x.Return value) = refl
  turn_same x.Mark = refl
  turn_same x.Nop = refl

  pub mark_same : (i : VmInsn) → first_is_mark (Some (with_reads names i)) ≡ first_is_mark (Some i)
  mark_same (x.LoadConstant ty d word) = refl
  mark_same (x.LoadAddress d place plus) = refl
  mark_same (x.Load ty d p plus) = refl
  mark_same (x.Store ty p plus b) = refl
  mark_same (x.Copy to from size align) = refl
  mark_same (x.Unary op ty d b) = refl
  mark_same (x.Binary op ty d b c) = refl
  mark_same (x.Shift op ty d b c) = refl
  mark_same (x.Convert from to d b) = refl
  mark_same (x.Compare op ty d b c) = refl
  mark_same (x.Branch op ty source block) = refl
  mark_same (x.Jump block) = refl
  mark_same (x.Call d c arguments) = refl
  mark_same (x.Return value) = refl
  mark_same x.Mark = refl
  mark_same x.Nop = refl

  pub cost_same : (i : VmInsn) → insn_cost (with_reads names i) ≡ insn_cost i
  cost_same (x.LoadConstant ty d word) = refl
  cost_same (x.LoadAddress d place plus) = refl
  cost_same (x.Load ty d p plus) = refl
  cost_same (x.Store ty p plus b) = refl
  cost_same (x.Copy to from size align) = refl
  cost_same (x.Unary op ty d b) = refl
  cost_same (x.Binary op ty d b c) = refl
  cost_same (x.Shift op ty d b c) = refl
  cost_same (x.Convert from to d b) = refl
  cost_same (x.Compare op ty d b c) = refl
  cost_same (x.Branch op ty source block) = refl
  cost_same (x.Jump block) = refl
  cost_same (x.Call d c arguments) = ap (λ n. 24 * (4 + n) + 160 * 1) (length-map arguments names)
  cost_same (x.Return value) = refl
  cost_same x.Mark = refl
  cost_same x.Nop = refl

  pub weight_same : (i : VmInsn) → weight_of (with_reads names i) ≡ weight_of i
  weight_same (x.LoadConstant ty d word) = refl
  weight_same (x.LoadAddress d place plus) = refl
  weight_same (x.Load ty d p plus) = refl
  weight_same (x.Store ty p plus b) = refl
  weight_same (x.Copy to from size align) = refl
  weight_same (x.Unary op ty d b) = refl
  weight_same (x.Binary op ty d b c) = refl
  weight_same (x.Shift op ty d b c) = refl
  weight_same (x.Convert from to d b) = refl
  weight_same (x.Compare op ty d b c) = refl
  weight_same (x.Branch op ty source block) = refl
  weight_same (x.Jump block) = refl
  weight_same (x.Call d c arguments) = length-map arguments names
  weight_same (x.Return value) = refl
  weight_same x.Mark = refl
  weight_same x.Nop = refl

  pub does_same : (own : ℕ) (vs : List Value) (o : Outer) (i : VmInsn) → does (with_reads names i) own vs o ≡ does i own vs o
  does_same own vs o (x.LoadConstant ty d word) = refl
  does_same own vs o (x.LoadAddress d place plus) = refl
  does_same own vs o (x.Load ty d p plus) = refl
  does_same own vs o (x.Store ty p plus b) = refl
  does_same own vs o (x.Copy to from size align) = refl
  does_same own vs o (x.Unary op ty d b) = refl
  does_same own vs o (x.Binary op ty d b c) = refl
  does_same own vs o (x.Shift op ty d b c) = refl
  does_same own vs o (x.Convert from to d b) = refl
  does_same own vs o (x.Compare op ty d b c) = refl
  does_same own vs o (x.Branch op ty source block) = refl
  does_same own vs o (x.Jump block) = refl
  does_same own vs o (x.Call d c arguments) = refl
  does_same own vs o (x.Return None) = refl
  does_same own vs o (x.Return (Some value)) = refl
  does_same own vs o x.Mark = refl
  does_same own vs o x.Nop = refl

-- registers that stay as they are
map_same : (names : ℕ → ℕ) → ((k : ℕ) → names k ≡ k) → (ks : List ℕ) → map names ks ≡ ks
map_same names same [] = refl
map_same names same (k ∷ ks) = ap (λ n. n ∷ map names ks) (same k) ∙ ap (λ l. k ∷ l) (map_same names same ks)

pub no_names : (names : ℕ → ℕ) → ((k : ℕ) → names k ≡ k) → (i : VmInsn) → with_reads names i ≡ i
no_names names same (x.LoadConstant ty d word) = refl
no_names names same (x.LoadAddress d place plus) = refl
no_names names same (x.Load ty d p plus) = ap (λ n. x.Load ty d n plus) (same p)
no_names names same (x.Store ty p plus b) = ap (λ n. x.Store ty n plus (names b)) (same p) ∙ ap (λ n. x.Store ty p plus n) (same b)
no_names names same (x.Copy to from size align) = ap (λ n. x.Copy n (names from) size align) (same to) ∙ ap (λ n. x.Copy to n size align) (same from)
no_names names same (x.Unary op ty d b) = ap (λ n. x.Unary op ty d n) (same b)
no_names names same (x.Binary op ty d b c) = ap (λ n. x.Binary op ty d n (names c)) (same b) ∙ ap (λ n. x.Binary op ty d b n) (same c)
no_names names same (x.Shift op ty d b c) = ap (λ n. x.Shift op ty d n (names c)) (same b) ∙ ap (λ n. x.Shift op ty d b n) (same c)
no_names names same (x.Convert from to d b) = ap (λ n. x.Convert from to d n) (same b)
no_names names same (x.Compare op ty d b c) = ap (λ n. x.Compare op ty d n (names c)) (same b) ∙ ap (λ n. x.Compare op ty d b n) (same c)
no_names names same (x.Branch op ty source block) = ap (λ n. x.Branch op ty n block) (same source)
no_names names same (x.Jump block) = refl
no_names names same (x.Call d c arguments) = ap (λ l. x.Call d c l) (map_same names same arguments)
no_names names same (x.Return None) = refl
no_names names same (x.Return (Some value)) = ap (λ n. x.Return (Some (record { ty = value.ty; register = n }))) (same value.register)
no_names names same x.Mark = refl
no_names names same x.Nop = refl

-- what a move copies is what it reads
pub source_kept : (P : ℕ → Type 0) (i : VmInsn) (w : ℕ) → All P (reads_of i) → P w → P (move_source i w)
source_kept P (x.LoadConstant ty d word) w all h = h
source_kept P (x.LoadAddress d place plus) w all h = h
source_kept P (x.Load ty d p plus) w all h = h
source_kept P (x.Store ty p plus b) w all h = h
source_kept P (x.Copy to from size align) w all h = h
source_kept P (x.Unary unary.Move ty d b) w all h = All-head P b [] all
source_kept P (x.Unary unary.Negate ty d b) w all h = h
source_kept P (x.Unary unary.Complement ty d b) w all h = h
source_kept P (x.Binary op ty d b c) w all h = h
source_kept P (x.Shift op ty d b c) w all h = h
source_kept P (x.Convert from to d b) w all h = h
source_kept P (x.Compare op ty d b c) w all h = h
source_kept P (x.Branch op ty source block) w all h = h
source_kept P (x.Jump block) w all h = h
source_kept P (x.Call d c arguments) w all h = h
source_kept P (x.Return value) w all h = h
source_kept P x.Mark w all h = h
source_kept P x.Nop w all h = h
