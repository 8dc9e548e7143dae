-- A program whose branches test the values keeps what every program keeps.
use Rattle.std.proofs.Common.{◌≡◌, ℕ, ◌+◌, List, [], ◌∷◌, length, map, Option, Some, None, All, refl, sym, ap, ◌∙◌, subst, arith}
use Rattle.std.specs.Prelude.{◌&&◌, ◌||◌, nat_lt, IsTrue, cond, slice_get, slice_index_or, option_map}
use Rattle.std.specs.List.{list_all}
use Rattle.std.proofs.lemmas.Option.{slice_get-map}
use Rattle.std.proofs.lemmas.List.Sums.{sum_by-cons}
use Rattle.std.proofs.Math.ListN.{get_or-map}
use Rattle.mem_objects.specs.declared.DataObject.{DataObject}
use Rattle.suifvm_ir.specs.declared.insn.VmCallee.{VmCallee}
use Rattle.suifvm_ir.specs.declared.insn.VmCallee.TheVariants as callee
use Rattle.suifvm_ir.specs.declared.insn.VmInsn.{VmInsn}
use Rattle.suifvm_ir.specs.declared.insn.VmInsn.TheVariants as x
use Rattle.pass_core.specs.declared.function.MemoryLocal.{MemoryLocal}
use Rattle.suifvm_ir.specs.Insns.{targets_of}
use Rattle.suifvm_ir.specs.Programs.{VmFunction, function_takes, callee_takes, names_what_is_there, first_is_mark, begins_with_mark, goes_back_to_marks, is_main, main_count, IsLawfulFunction}
use Rattle.suifvm_zero_branches.specs.declared.known.RegisterFact.{RegisterFact}
use Rattle.suifvm_zero_branches.specs.declared.known.RegisterFact.TheVariants.{Nothing}
use Rattle.suifvm_meaning.specs.Behave.{code_of}
use Rattle.suifvm_zero_branches.specs.Tests.{tested_insn, tested_block, tested_code}
use Rattle.suifvm_zero_branches.proofs.Functions.{targets_same, same, insns_kept, all_seen, all_mapped, tested_function, blocks_length}

-- ---- marks

first_mark_same : (i : VmInsn) → first_is_mark (Some (tested_insn Nothing i)) ≡ first_is_mark (Some i)
first_mark_same i = same (λ j. first_is_mark (Some j)) (λ op ty a b block to. refl) Nothing i

block_mark_same : (insns : List VmInsn) → first_is_mark (slice_get (tested_block insns) 0) ≡ first_is_mark (slice_get insns 0)
block_mark_same [] = refl
block_mark_same (i ∷ insns) = first_mark_same i

begins_same : (o : Option (List VmInsn)) → begins_with_mark (option_map tested_block o) ≡ begins_with_mark o
begins_same None = refl
begins_same (Some insns) = block_mark_same insns

module _ (blocks : List (List VmInsn)) (block : ℕ) where
  target_same : (target : ℕ) → (nat_lt block target || begins_with_mark (slice_get (map tested_block blocks) target)) ≡ (nat_lt block target || begins_with_mark (slice_get blocks target))
  target_same target = ap (λ b. nat_lt block target || b) (ap begins_with_mark (slice_get-map tested_block blocks target) ∙ begins_same (slice_get blocks target))

  targets_all : (ts : List ℕ) → list_all (λ target. nat_lt block target || begins_with_mark (slice_get (map tested_block blocks) target)) ts ≡ list_all (λ target. nat_lt block target || begins_with_mark (slice_get blocks target)) ts
  targets_all [] = refl
  targets_all (t ∷ ts) =
      ap (λ b. b && list_all (λ target. nat_lt block target || begins_with_mark (slice_get (map tested_block blocks) target)) ts) (target_same t)
      ∙ ap (λ b. (nat_lt block t || begins_with_mark (slice_get blocks t)) && b) (targets_all ts)

  marks_same : (k : RegisterFact) (i : VmInsn) → goes_back_to_marks (map tested_block blocks) block (tested_insn k i) ≡ goes_back_to_marks blocks block i
  marks_same k i =
      ap (list_all (λ target. nat_lt block target || begins_with_mark (slice_get (map tested_block blocks) target))) (targets_same k i) ∙ targets_all (targets_of i)

  marks_of : (insns : List VmInsn) → All (λ i. IsTrue (goes_back_to_marks blocks block i)) insns → All (λ i. IsTrue (goes_back_to_marks (map tested_block blocks) block i)) (tested_block insns)
  marks_of insns h =
      all_seen (λ i. IsTrue (goes_back_to_marks blocks block i)) (λ i. IsTrue (goes_back_to_marks (map tested_block blocks) block i)) (λ k i. subst IsTrue (sym (marks_same k i))) Nothing insns h

-- ---- names

module _ (fs : List VmFunction) where
  abbrev gs : List VmFunction
  gs = map tested_function fs

  takes_same : (count : ℕ) (o : Option VmFunction) → function_takes count (option_map tested_function o) ≡ function_takes count o
  takes_same count None = refl
  takes_same count (Some f) = refl

  callee_same : (count : ℕ) (c : VmCallee) → callee_takes gs count c ≡ callee_takes fs count c
  callee_same count (callee.Function k) = ap (function_takes count) (slice_get-map tested_function fs k) ∙ takes_same count (slice_get fs k)
  callee_same count (callee.Builtin b) = refl

  module _ (globals : List DataObject) where
    functions_same : (objects : List MemoryLocal) (i : VmInsn) → names_what_is_there gs globals objects i ≡ names_what_is_there fs globals objects i
    functions_same objects (x.Call d c arguments) = callee_same (length arguments) c
    functions_same objects (x.Branch op ty a block) = refl
    functions_same objects (x.LoadConstant ty d word) = refl
    functions_same objects (x.LoadAddress d place plus) = refl
    functions_same objects (x.Load ty d p plus) = refl
    functions_same objects (x.Store ty p plus b) = refl
    functions_same objects (x.Copy to from size align) = refl
    functions_same objects (x.Unary op ty d b) = refl
    functions_same objects (x.Binary op ty d b c) = refl
    functions_same objects (x.Shift op ty d b c) = refl
    functions_same objects (x.Convert from to d b) = refl
    functions_same objects (x.Compare op ty d b c) = refl
    functions_same objects (x.Jump block) = refl
    functions_same objects (x.Return value) = refl
    functions_same objects x.Mark = refl
    functions_same objects x.Nop = refl

    names_same : (objects : List MemoryLocal) (k : RegisterFact) (i : VmInsn) → names_what_is_there gs globals objects (tested_insn k i) ≡ names_what_is_there fs globals objects i
    names_same objects k i = same (names_what_is_there gs globals objects) (λ op ty a b block to. refl) k i ∙ functions_same objects i

    pub lawful : (f : VmFunction) → IsLawfulFunction fs globals f → IsLawfulFunction gs globals (tested_function f)
    lawful f law = record {
      parameters = law.parameters;
      main = law.main;
      names =
          insns_kept (λ i. IsTrue (names_what_is_there fs globals f.objects i)) (λ i. IsTrue (names_what_is_there gs globals f.objects i))
          (λ k i. subst IsTrue (sym (names_same f.objects k i))) f.blocks law.names;
      marks = λ b lt.
          subst (All (λ i. IsTrue (goes_back_to_marks (map tested_block f.blocks) b i))) (sym (get_or-map tested_block f.blocks b []))
          (marks_of f.blocks b (slice_index_or f.blocks b []) (law.marks b (omega (arith, lt, blocks_length f.blocks))));
    }

    pub all_lawful : All (IsLawfulFunction fs globals) fs → All (IsLawfulFunction gs globals) gs
    all_lawful h = all_mapped tested_function (IsLawfulFunction fs globals) (IsLawfulFunction gs globals) lawful fs h

-- ---- code and names of all functions

pub codes_same : (fs : List VmFunction) → map code_of (map tested_function fs) ≡ map tested_code (map code_of fs)
codes_same [] = refl
codes_same (f ∷ fs) = ap (λ l. tested_code (code_of f) ∷ l) (codes_same fs)

pub names_stay : (fs : List VmFunction) → map (λ (f : VmFunction). f.name) (map tested_function fs) ≡ map (λ (f : VmFunction). f.name) fs
names_stay [] = refl
names_stay (f ∷ fs) = ap (λ l. f.name ∷ l) (names_stay fs)

pub mains_stay : (fs : List VmFunction) → main_count (map tested_function fs) ≡ main_count fs
mains_stay [] = refl
mains_stay (f ∷ fs) =
    sum_by-cons (λ g. cond (is_main g) 1 0) (tested_function f) (map tested_function fs) ∙ ap (λ n. cond (is_main f) 1 0 + n) (mains_stay fs)
    ∙ sym (sum_by-cons (λ g. cond (is_main g) 1 0) f fs)
