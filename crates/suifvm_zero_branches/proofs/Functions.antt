-- A function whose branches test the values is a function, and costs and names what the function does.
use Rattle.std.proofs.Common.{◌≡◌, ℕ, zero, suc, ◌-◌, ◌<◌, List, [], ◌∷◌, length, map, take, sum_by, Bool, true, false, Option, Some, None, All, refl, sym, ap, ◌∙◌, subst, arith}
use Rattle.std.specs.Prelude.{◌==◌, ◌&&◌, not, IsTrue, slice_get, option_map, if◌then◌else◌}
use Rattle.std.proofs.lemmas.List.{length-map}
use Rattle.std.proofs.lemmas.List.Sums.{sum_by-cons}
use Rattle.std.proofs.lemmas.Option.{slice_get-map}
use Rattle.std.proofs.lemmas.List.Elements.{All-nil, All-cons, All-head, All-tail}
use Rattle.suifvm_ir.specs.declared.types.VmType.{VmType}
use Rattle.suifvm_ir.specs.declared.types.VmType.TheVariants as v
use Rattle.suifvm_ir.specs.declared.insn.CompareOp.TheVariants.{Equal, NotEqual, Less, LessOrEqual}
use Rattle.suifvm_ir.specs.declared.insn.VmInsn.{VmInsn}
use Rattle.suifvm_ir.specs.declared.insn.VmInsn.TheVariants as x
use Rattle.suifvm_ir.specs.Insns.{reads_of, writes_of, targets_of, flows_on_of}
use Rattle.pass_core.specs.Functions.{AllInsns, GoesToBlocks, UsesRegisters, IsStraight, EndsLate, stops, block_stops, insn_stops, count_of, edge_count, last_of, front_of, successors_after, successors_of}
use Rattle.suifvm_ir.specs.Cost.{insn_cost, cost}
use Rattle.suifvm_ir.specs.Programs.{VmFunction, weight_of, function_size}
use Rattle.suifvm_zero_branches.specs.declared.known.RegisterFact.{RegisterFact}
use Rattle.suifvm_zero_branches.specs.declared.known.RegisterFact.TheVariants.{Nothing, Zero, Tests}
use Rattle.suifvm_zero_branches.specs.Tests.{facts_after, tested_type, tested_register, tested_insn, tested_from, tested_block}
use Rattle.suifvm_zero_branches.specs.model.Registers.{KnownIsBelow}
use Rattle.suifvm_zero_branches.proofs.Lockstep.{known_from, tested_get}

-- ---- lists

-- what holds of each element after a change that keeps it
pub all_mapped : {A B : Type 0} (f : A → B) (P : A → Type 0) (Q : B → Type 0) → ((x : A) → P x → Q (f x)) → (xs : List A) → All P xs → All Q (map f xs)
all_mapped f P Q kept [] h = All-nil Q
all_mapped f P Q kept (x ∷ xs) h = All-cons Q (f x) (map f xs) (kept x (All-head P x xs h)) (all_mapped f P Q kept xs (All-tail P x xs h))

-- ---- one instruction

flows_same : (k : RegisterFact) (i : VmInsn) → flows_on_of (tested_insn k i) ≡ flows_on_of i
flows_same k (x.Branch op ty a block) = refl
flows_same k (x.LoadConstant ty d word) = refl
flows_same k (x.LoadAddress d place plus) = refl
flows_same k (x.Load ty d p plus) = refl
flows_same k (x.Store ty p plus b) = refl
flows_same k (x.Copy to from size align) = refl
flows_same k (x.Unary op ty d b) = refl
flows_same k (x.Binary op ty d b c) = refl
flows_same k (x.Shift op ty d b c) = refl
flows_same k (x.Convert from to d b) = refl
flows_same k (x.Compare op ty d b c) = refl
flows_same k (x.Jump block) = refl
flows_same k (x.Call d c arguments) = refl
flows_same k (x.Return value) = refl
flows_same k x.Mark = refl
flows_same k x.Nop = refl

-- all that does not look at a branch beyond its block stays
module _ {A : Type 0} (m : VmInsn → A) (branches : (op : _) (ty : _) (a b block : ℕ) (to : VmType) → m (x.Branch op to b block) ≡ m (x.Branch op ty a block)) where
  pub same : (k : RegisterFact) (i : VmInsn) → m (tested_insn k i) ≡ m i
  same k (x.Branch op ty a block) = branches op ty a (tested_register k ty a) block (tested_type k ty a)
  same k (x.LoadConstant ty d word) = refl
  same k (x.LoadAddress d place plus) = refl
  same k (x.Load ty d p plus) = refl
  same k (x.Store ty p plus b) = refl
  same k (x.Copy to from size align) = refl
  same k (x.Unary op ty d b) = refl
  same k (x.Binary op ty d b c) = refl
  same k (x.Shift op ty d b c) = refl
  same k (x.Convert from to d b) = refl
  same k (x.Compare op ty d b c) = refl
  same k (x.Jump block) = refl
  same k (x.Call d c arguments) = refl
  same k (x.Return value) = refl
  same k x.Mark = refl
  same k x.Nop = refl

pub targets_same : (k : RegisterFact) (i : VmInsn) → targets_of (tested_insn k i) ≡ targets_of i
targets_same = same targets_of (λ op ty a b block to. refl)

pub writes_same : (k : RegisterFact) (i : VmInsn) → writes_of (tested_insn k i) ≡ writes_of i
writes_same = same writes_of (λ op ty a b block to. refl)

weight_same : (k : RegisterFact) (i : VmInsn) → weight_of (tested_insn k i) ≡ weight_of i
weight_same = same weight_of (λ op ty a b block to. refl)

cost_same : (k : RegisterFact) (i : VmInsn) → insn_cost (tested_insn k i) ≡ insn_cost i
cost_same = same insn_cost (λ op ty a b block to. refl)

-- ---- registers

pub register_below : (temps : ℕ) (k : RegisterFact) (ty : VmType) (register : ℕ) → KnownIsBelow temps k → register < temps → tested_register k ty register < temps
register_below temps Nothing ty register h lt = lt
register_below temps (Zero z) ty register h lt = lt
register_below temps (Tests t d a) v.S32 register h lt = by_truth (register == d)
  where
    by_truth : (b : Bool) → (if b then a else register) < temps
    by_truth true = h
    by_truth false = lt
register_below temps (Tests t d a) v.U32 register h lt = lt
register_below temps (Tests t d a) v.S64 register h lt = lt
register_below temps (Tests t d a) v.U64 register h lt = lt
register_below temps (Tests t d a) v.P64 register h lt = lt

-- what is known behind an instruction that uses these registers
pub after_below : (temps : ℕ) (k : RegisterFact) (i : VmInsn) → UsesRegisters reads_of writes_of temps i → KnownIsBelow temps (facts_after k i)
after_below temps k (x.LoadConstant ty d word) h = by_zero (word == 0)
  where
    by_zero : (b : Bool) → KnownIsBelow temps (if b then Zero d else Nothing)
    by_zero true = tt
    by_zero false = tt
after_below temps (Zero z) (x.Compare NotEqual ty d a b) h = by_test (b == z && not (d == a))
  where
    by_test : (c : Bool) → KnownIsBelow temps (if c then Tests ty d a else Nothing)
    by_test true = h.0 0 a (omega arith)
    by_test false = tt
after_below temps (Zero z) (x.Compare Equal ty d a b) h = tt
after_below temps (Zero z) (x.Compare Less ty d a b) h = tt
after_below temps (Zero z) (x.Compare LessOrEqual ty d a b) h = tt
after_below temps Nothing (x.Compare op ty d a b) h = tt
after_below temps (Tests t e c) (x.Compare op ty d a b) h = tt
after_below temps k (x.LoadAddress d place plus) h = tt
after_below temps k (x.Load ty d p plus) h = tt
after_below temps k (x.Store ty p plus b) h = tt
after_below temps k (x.Copy to from size align) h = tt
after_below temps k (x.Unary op ty d b) h = tt
after_below temps k (x.Binary op ty d b c) h = tt
after_below temps k (x.Shift op ty d b c) h = tt
after_below temps k (x.Convert from to d b) h = tt
after_below temps k (x.Branch op ty a block) h = tt
after_below temps k (x.Jump block) h = tt
after_below temps k (x.Call d c arguments) h = tt
after_below temps k (x.Return value) h = tt
after_below temps k x.Mark h = tt
after_below temps k x.Nop h = tt

-- an instruction as it is seen reads registers that are there
reads_below : (temps : ℕ) (k : RegisterFact) (i : VmInsn) → KnownIsBelow temps k → All (λ register. register < temps) (reads_of i) → All (λ register. register < temps) (reads_of (tested_insn k i))
reads_below temps k (x.Branch op ty a block) known h = All-cons (λ register. register < temps) (tested_register k ty a) [] (register_below temps k ty a known (h 0 a (omega arith))) (All-nil (λ register. register < temps))
reads_below temps k (x.LoadConstant ty d word) known h = h
reads_below temps k (x.LoadAddress d place plus) known h = h
reads_below temps k (x.Load ty d p plus) known h = h
reads_below temps k (x.Store ty p plus b) known h = h
reads_below temps k (x.Copy to from size align) known h = h
reads_below temps k (x.Unary op ty d b) known h = h
reads_below temps k (x.Binary op ty d b c) known h = h
reads_below temps k (x.Shift op ty d b c) known h = h
reads_below temps k (x.Convert from to d b) known h = h
reads_below temps k (x.Compare op ty d b c) known h = h
reads_below temps k (x.Jump block) known h = h
reads_below temps k (x.Call d c arguments) known h = h
reads_below temps k (x.Return value) known h = h
reads_below temps k x.Mark known h = h
reads_below temps k x.Nop known h = h

pub uses_below : (temps : ℕ) (k : RegisterFact) (insns : List VmInsn) → KnownIsBelow temps k → All (UsesRegisters reads_of writes_of temps) insns → All (UsesRegisters reads_of writes_of temps) (tested_from k insns)
uses_below temps k [] known h = All-nil (UsesRegisters reads_of writes_of temps)
uses_below temps k (i ∷ insns) known h =
    let here = All-head (UsesRegisters reads_of writes_of temps) i insns h in
    All-cons (UsesRegisters reads_of writes_of temps) (tested_insn k i) (tested_from (facts_after k i) insns)
    (reads_below temps k i known here.0, subst (All (λ register. register < temps)) (sym (writes_same k i)) here.1)
    (uses_below temps (facts_after k i) insns (after_below temps k i here) (All-tail (UsesRegisters reads_of writes_of temps) i insns h))

-- ---- the instructions of a block

pub length_same : (k : RegisterFact) (insns : List VmInsn) → length (tested_from k insns) ≡ length insns
length_same k [] = refl
length_same k (i ∷ insns) = ap suc (length_same (facts_after k i) insns)

-- what holds of each instruction as it is seen
pub all_seen : (P Q : VmInsn → Type 0) → ((k : RegisterFact) (i : VmInsn) → P i → Q (tested_insn k i)) → (k : RegisterFact) (insns : List VmInsn) → All P insns → All Q (tested_from k insns)
all_seen P Q kept k [] h = All-nil Q
all_seen P Q kept k (i ∷ insns) h =
    All-cons Q (tested_insn k i) (tested_from (facts_after k i) insns) (kept k i (All-head P i insns h)) (all_seen P Q kept (facts_after k i) insns (All-tail P i insns h))

pub sum_same : (m : VmInsn → ℕ) → ((k : RegisterFact) (i : VmInsn) → m (tested_insn k i) ≡ m i) → (k : RegisterFact) (insns : List VmInsn) → sum_by m (tested_from k insns) ≡ sum_by m insns
sum_same m kept k [] = refl
sum_same m kept k (i ∷ insns) =
    omega (arith, kept k i, sum_same m kept (facts_after k i) insns, sum_by-cons m (tested_insn k i) (tested_from (facts_after k i) insns), sum_by-cons m i insns)

take_same : (n : ℕ) (k : RegisterFact) (insns : List VmInsn) → take n (tested_from k insns) ≡ tested_from k (take n insns)
take_same zero k [] = refl
take_same zero k (i ∷ insns) = refl
take_same (suc n) k [] = refl
take_same (suc n) k (i ∷ insns) = ap (λ l. tested_insn k i ∷ l) (take_same n (facts_after k i) insns)

front_same : (insns : List VmInsn) → front_of (tested_block insns) ≡ tested_block (front_of insns)
front_same insns = ap (λ n. take (n - 1) (tested_block insns)) (length_same Nothing insns) ∙ take_same (length insns - 1) Nothing insns

last_same : (insns : List VmInsn) → last_of (tested_block insns) ≡ option_map (tested_insn (known_from Nothing insns (length insns - 1))) (last_of insns)
last_same insns = ap (λ n. slice_get (tested_block insns) (n - 1)) (length_same Nothing insns) ∙ tested_get Nothing insns (length insns - 1)

straight_kept : (k : RegisterFact) (i : VmInsn) → IsStraight targets_of flows_on_of i → IsStraight targets_of flows_on_of (tested_insn k i)
straight_kept k i h = (ap length (targets_same k i) ∙ h.0, flows_same k i ∙ h.1)

pub late_kept : (insns : List VmInsn) → EndsLate targets_of flows_on_of insns → EndsLate targets_of flows_on_of (tested_block insns)
late_kept insns h = subst (All (IsStraight targets_of flows_on_of)) (sym (front_same insns)) (all_seen (IsStraight targets_of flows_on_of) (IsStraight targets_of flows_on_of) straight_kept Nothing (front_of insns) h)

-- ---- the blocks of a function

blocks_same : (m : VmInsn → ℕ) → ((k : RegisterFact) (i : VmInsn) → m (tested_insn k i) ≡ m i) → (blocks : List (List VmInsn)) → sum_by (λ block. sum_by m block) (map tested_block blocks) ≡ sum_by (λ block. sum_by m block) blocks
blocks_same m kept [] = refl
blocks_same m kept (block ∷ blocks) =
    omega (arith, sum_same m kept Nothing block, blocks_same m kept blocks, sum_by-cons (λ b. sum_by m b) (tested_block block) (map tested_block blocks), sum_by-cons (λ b. sum_by m b) block blocks)

pub count_same : (blocks : List (List VmInsn)) → count_of (map tested_block blocks) ≡ count_of blocks
count_same [] = refl
count_same (block ∷ blocks) =
    omega (arith, length_same Nothing block, count_same blocks, sum_by-cons (λ (b : List VmInsn). length b) (tested_block block) (map tested_block blocks), sum_by-cons (λ (b : List VmInsn). length b) block blocks)

pub blocks_length : (blocks : List (List VmInsn)) → length (map tested_block blocks) ≡ length blocks
blocks_length blocks = length-map blocks tested_block

edges_after : (k : RegisterFact) (o : Option VmInsn) → length (successors_after targets_of flows_on_of 0 (option_map (tested_insn k) o)) ≡ length (successors_after targets_of flows_on_of 0 o)
edges_after k None = refl
edges_after k (Some i) = same (λ j. length (successors_after targets_of flows_on_of 0 (Some j))) (λ op ty a b block to. refl) k i

edges_same : (blocks : List (List VmInsn)) → edge_count targets_of flows_on_of (map tested_block blocks) ≡ edge_count targets_of flows_on_of blocks
edges_same [] = refl
edges_same (block ∷ blocks) =
    let here : length (successors_of targets_of flows_on_of 0 (tested_block block)) ≡ length (successors_of targets_of flows_on_of 0 block) =
    ap (λ o. length (successors_after targets_of flows_on_of 0 o)) (last_same block) ∙ edges_after (known_from Nothing block (length block - 1)) (last_of block) in
    omega (
      arith,
      here,
      edges_same blocks,
      sum_by-cons (λ (b : List VmInsn). length (successors_of targets_of flows_on_of 0 b)) (tested_block block) (map tested_block blocks),
      sum_by-cons (λ (b : List VmInsn). length (successors_of targets_of flows_on_of 0 b)) block blocks,
    )

insn_stops_same : (k : RegisterFact) (o : Option VmInsn) → insn_stops flows_on_of (option_map (tested_insn k) o) ≡ insn_stops flows_on_of o
insn_stops_same k None = refl
insn_stops_same k (Some i) = ap (λ b. if b then false else true) (flows_same k i)

block_stops_same : (o : Option (List VmInsn)) → block_stops flows_on_of (option_map tested_block o) ≡ block_stops flows_on_of o
block_stops_same None = refl
block_stops_same (Some insns) = ap (insn_stops flows_on_of) (last_same insns) ∙ insn_stops_same (known_from Nothing insns (length insns - 1)) (last_of insns)

pub stops_same : (blocks : List (List VmInsn)) → stops flows_on_of (map tested_block blocks) ≡ stops flows_on_of blocks
stops_same blocks =
    ap (λ n. block_stops flows_on_of (slice_get (map tested_block blocks) (n - 1))) (blocks_length blocks)
    ∙ ap (block_stops flows_on_of) (slice_get-map tested_block blocks (length blocks - 1)) ∙ block_stops_same (last_of blocks)

pub insns_kept : (P Q : VmInsn → Type 0) → ((k : RegisterFact) (i : VmInsn) → P i → Q (tested_insn k i)) → (blocks : List (List VmInsn)) → AllInsns P blocks → AllInsns Q (map tested_block blocks)
insns_kept P Q kept blocks h = all_mapped tested_block (All P) (All Q) (all_seen P Q kept Nothing) blocks h

pub goes_kept : (blocks : List (List VmInsn)) → AllInsns (GoesToBlocks targets_of (length blocks)) blocks → AllInsns (GoesToBlocks targets_of (length (map tested_block blocks))) (map tested_block blocks)
goes_kept blocks h =
    subst (λ n. AllInsns (GoesToBlocks targets_of n) (map tested_block blocks)) (sym (blocks_length blocks))
    (insns_kept (GoesToBlocks targets_of (length blocks)) (GoesToBlocks targets_of (length blocks)) (λ k i. subst (All (λ target. (0 < target) × (target < length blocks))) (sym (targets_same k i))) blocks h)

-- ---- functions

abbrev pub tested_function : VmFunction → VmFunction
tested_function f = record {
  name = f.name;
  params = f.params;
  temps = f.temps;
  objects = f.objects;
  blocks = map tested_block f.blocks;
  targets = goes_kept f.blocks f.targets;
  straight = all_mapped tested_block (EndsLate targets_of flows_on_of) (EndsLate targets_of flows_on_of) late_kept f.blocks f.straight;
  stops = subst IsTrue (sym (stops_same f.blocks)) f.stops;
  few_blocks = omega (arith, blocks_length f.blocks, f.few_blocks);
  few_insns = omega (arith, count_same f.blocks, f.few_insns);
  registers = all_mapped tested_block (All (UsesRegisters reads_of writes_of f.temps)) (All (UsesRegisters reads_of writes_of f.temps)) (λ insns. uses_below f.temps Nothing insns tt) f.blocks f.registers;
}

pub cost_kept : (f : VmFunction) → cost (tested_function f) ≡ cost f
cost_kept f = omega (arith, blocks_same insn_cost cost_same f.blocks, edges_same f.blocks)

pub size_kept : (f : VmFunction) → function_size (tested_function f) ≡ function_size f
size_kept f = omega (arith, blocks_length f.blocks, count_same f.blocks, blocks_same weight_of weight_same f.blocks)
